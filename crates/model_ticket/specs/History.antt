-- A ticket clock with named holds, from its commands alone. Document 02, request 5. "A service ticket starts, goes on hold while a customer has the part, resumes,
-- and can be set back to one of eight marks named 0 to 7." Lists of commands and of events have the latest first.
use Rattle.std.specs.Prelude.{Bool, true, false, not, ◌&&◌, List, [], ◌∷◌, map, ℕ, leb, ltb, eqb, ℤ, if◌then◌else◌}
use Rattle.model.specs.Basic.{need, any, filter, sum}
use Rattle.model.specs.Instant.{instant_of}
use Rattle.model.specs.Answer.{Answer, gives, refuses, ◌>>=◌, or_refuse}
use Rattle.model.specs.Blocks.{Block, block}
use Rattle.model.specs.Working.{Schedule}
use Rattle.model.specs.Build.{build}
use Rattle.model.specs.Walk.{time_between}

-- ---- commands

-- "one of eight marks named 0 to 7"
abbrev pub names : ℕ
names = 8

-- what a command asks for: marking and setting back have a mark's name
pub data Action : Type 0 where
  start hold resume : Action
  mark back : ℕ → Action

-- a command as it is given. "Each command carries an instant."
pub record Command : Type 0 where
  pub action : Action
  pub seconds : ℤ
  pub nanoseconds : ℤ

-- a command that was accepted, with its instant
pub record Accepted : Type 0 where
  pub action : Action
  pub time : ℕ

-- the instant of the last accepted command, 0 where there is none. "The last instant isn't set back."
abbrev pub last_of : List Accepted → ℕ
last_of [] = 0
last_of (c ∷ l) = c.time

-- ---- the history that remains

-- at an instant a running spell begins, or ends, or a mark of a name is set
pub data Event : Type 0 where
  begins ends : ℕ → Event
  marked : ℕ → ℕ → Event

-- no command was accepted yet
abbrev pub is_new : List Event → Bool
is_new [] = true
is_new (e ∷ h) = false

-- the latest spell has not ended
unfoldable pub is_running : List Event → Bool
is_running [] = false
is_running (begins t ∷ h) = true
is_running (ends t ∷ h) = false
is_running (marked n t ∷ h) = is_running h

-- the mark of that name
abbrev pub is_mark : ℕ → Event → Bool
is_mark n (begins t) = false
is_mark n (ends t) = false
is_mark n (marked m t) = eqb m n

-- from the latest that passes the test on, back to the first; none where none passes
unfoldable pub up_to : {A : Type 0} → (A → Bool) → List A → List A
up_to p [] = []
up_to p (a ∷ l) = let r = up_to p l in if p a then a ∷ l else r

-- "restores its running or held state, and counts on from the command's own instant": a spell that was running at the mark ends at the mark's instant, and a
-- new one begins at the command's instant t
abbrev pub restored : ℕ → List Event → List Event
restored t [] = []
restored t (begins b ∷ h) = begins b ∷ h
restored t (ends e ∷ h) = ends e ∷ h
restored t (marked n m ∷ h) = if is_running h then begins t ∷ ends m ∷ marked n m ∷ h else marked n m ∷ h

-- what remains after one more command. "setting back drops what came after the mark, later marks too"; "a mark set again moves, and its earlier place is gone
-- for good"
abbrev pub followed : Action → ℕ → List Event → List Event
followed start t h = begins t ∷ h
followed hold t h = ends t ∷ h
followed resume t h = begins t ∷ h
followed (mark n) t h = marked n t ∷ filter (λ (e : Event). not (is_mark n e)) h
followed (back n) t h = restored t (up_to (is_mark n) h)

-- "the history that remains"
unfoldable pub remains : List Accepted → List Event
remains [] = []
remains (c ∷ l) = followed c.action c.time (remains l)

-- ---- elapsed time

-- the running spells; one that has not ended is read up to the instant u. "unsplit by marking"
unfoldable pub spells : ℕ → List Event → List Block
spells u [] = []
spells u (begins t ∷ h) = block t u ∷ spells t h
spells u (ends t ∷ h) = spells t h
spells u (marked n t ∷ h) = spells u h

-- "the sum of working time over the running spells"
abbrev pub elapsed : Schedule → ℕ → List Event → ℕ
elapsed s u h = sum (map (λ (b : Block). time_between s b.start b.end) (spells u h))

-- ---- which commands are accepted

-- "Start comes first and once; hold needs a running ticket, resume a held one, marking and setting back either"; "A name outside the eight is a mark not set, in
-- marking too."
abbrev pub is_allowed : Action → List Event → Bool
is_allowed start h = is_new h
is_allowed hold h = is_running h
is_allowed resume h = not (is_new h) && not (is_running h)
is_allowed (mark n) h = ltb n names && not (is_new h)
is_allowed (back n) h = any (is_mark n) h

-- one more command behind those that were accepted. "13, instant earlier than the last command's, after 8; 14, command not allowed in this state or mark not set,
-- after 13"
unfoldable pub accept : List Accepted → Command → Answer (List Accepted)
accept l c =
    instant_of c.seconds c.nanoseconds >>= λ t.
    or_refuse 13 0 (need (leb (last_of l) t)) >>= λ _.
    or_refuse 14 0 (need (is_allowed c.action (remains l))) >>= λ _.
    gives (record { action = c.action; time = t } ∷ l)

-- "Elapsed time, read after a command and up to its instant"
abbrev pub elapsed_after : Schedule → List Accepted → ℕ
elapsed_after s l = elapsed s (last_of l) (remains l)

-- what a command is answered; "a refused command changes no ticket"
abbrev pub answered : Schedule → Answer (List Accepted) → Answer ℕ
answered s a = a >>= λ (l : List Accepted). gives (elapsed_after s l)

abbrev pub kept_by : List Accepted → Answer (List Accepted) → List Accepted
kept_by l (gives k) = k
kept_by l (refuses n p) = l

-- the answers to commands given one after the other, behind those of l
unfoldable pub answers_after : Schedule → List Accepted → List Command → List (Answer ℕ)
answers_after s l [] = []
answers_after s l (c ∷ cs) = let a = accept l c in answered s a ∷ answers_after s (kept_by l a) cs

-- the same from a new ticket, under one book and pack: what `build` refuses comes first
abbrev pub answers_to : List ℕ → List ℕ → List Command → List (Answer ℕ)
answers_to book pack cs = elim (build book pack) [
  | gives s ↦ answers_after s [] cs
  | refuses n p ↦ map (λ (c : Command). refuses n p) cs
]

unfoldable pub histories : Unit {0}
unfolding is_running up_to remains spells accept answers_after
histories = tt
