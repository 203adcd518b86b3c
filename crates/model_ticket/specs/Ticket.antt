-- Where a ticket's clock stands, without its history: what a caller keeps of a ticket between two commands. Document 02, request 5. That the answers are those of the
-- history that remains is a law (crate laws_ticket).
use Rattle.std.specs.Prelude.{Bool, true, false, not, ◌&&◌, List, [], ◌∷◌, ℕ, ◌+◌, leb, ltb, eqb, ℤ, if◌then◌else◌}
use Rattle.std.proofs.Math.Option.{Option, none, some}
use Rattle.model.specs.Basic.{need, any, filter}
use Rattle.model.specs.Instant.{instant_of}
use Rattle.model.specs.Answer.{Answer, gives, refuses, ◌>>=◌, or_refuse}
use Rattle.model.specs.Working.{Schedule}
use Rattle.model.specs.Build.{build}
use Rattle.model.specs.Walk.{time_between}
use Rattle.model_ticket.specs.History.{names, Action, start, hold, resume, mark, back, up_to}

-- a mark: its name, whether the ticket was running there, and the elapsed time there
pub record Mark : Type 0 where
  pub name : ℕ
  pub running : Bool
  pub time : ℕ

-- whether it was started, whether it runs, the instant of the last accepted command, since when it has been running or held, the elapsed time up to then, the
-- marks, latest first
pub record Ticket : Type 0 where
  pub begun : Bool
  pub running : Bool
  pub last : ℕ
  pub since : ℕ
  pub done : ℕ
  pub marks : List Mark

abbrev pub new_ticket : Ticket
new_ticket = record { begun = false; running = false; last = 0; since = 0; done = 0; marks = [] }

abbrev pub is_named : ℕ → Mark → Bool
is_named n m = eqb m.name n

-- the elapsed time up to the instant t
abbrev pub time_at : Schedule → Ticket → ℕ → ℕ
time_at s k t = k.done + (if k.running then time_between s k.since t else 0)

-- "14, command not allowed in this state or mark not set"
abbrev pub may_follow : Action → Ticket → Bool
may_follow start k = not k.begun
may_follow hold k = k.running
may_follow resume k = k.begun && not k.running
may_follow (mark n) k = ltb n names && k.begun
may_follow (back n) k = any (is_named n) k.marks

-- set back to the first of these marks at the instant t
abbrev pub set_back : ℕ → List Mark → Ticket
set_back t [] = new_ticket
set_back t (m ∷ l) = record { begun = true; running = m.running; last = t; since = t; done = m.time; marks = m ∷ l }

-- the ticket after a command that is allowed, at the instant t, up to which the time e has elapsed
abbrev pub next_ticket : Action → ℕ → ℕ → Ticket → Ticket
next_ticket start t e k = record { begun = true; running = true; last = t; since = t; done = 0; marks = [] }
next_ticket hold t e k = record { begun = true; running = false; last = t; since = t; done = e; marks = k.marks }
next_ticket resume t e k = record { begun = true; running = true; last = t; since = t; done = k.done; marks = k.marks }
next_ticket (mark n) t e k = record {
  begun = true;
  running = k.running;
  last = t;
  since = k.since;
  done = k.done;
  marks = record { name = n; running = k.running; time = e } ∷ filter (λ (m : Mark). not (is_named n m)) k.marks;
}
next_ticket (back n) t e k = set_back t (up_to (is_named n) k.marks)

-- an accepted command: the elapsed time, and the ticket from then on
pub record Told : Type 0 where
  pub time : ℕ
  pub ticket : Option Ticket

abbrev pub told_by : Schedule → Ticket → ℕ → Told
told_by s k t = record { time = time_at s k t; ticket = some k }

-- a command to a ticket. "8, 13, 14"; what is no ticket (none) is refused with 14, and it has no last instant
unfoldable pub command_call : Schedule → Option Ticket → Action → ℤ → ℤ → Answer Told
command_call s none a t₁ t₂ = instant_of t₁ t₂ >>= λ t. refuses 14 0
command_call s (some k) a t₁ t₂ =
    instant_of t₁ t₂ >>= λ t.
    or_refuse 13 0 (need (leb k.last t)) >>= λ _.
    or_refuse 14 0 (need (may_follow a k)) >>= λ _.
    gives (told_by s (next_ticket a t (time_at s k t) k) t)

-- the same from the bytes of book and pack: what `build` refuses comes first
abbrev pub command : List ℕ → List ℕ → Option Ticket → Action → ℤ → ℤ → Answer Told
command book pack k a t₁ t₂ = build book pack >>= λ s. command_call s k a t₁ t₂

unfoldable pub tickets : Unit {0}
unfolding command_call
tickets = tt
