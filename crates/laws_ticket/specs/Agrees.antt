-- The small state that a caller keeps of a ticket answers each command as the history that remains does. Document 02, request 5: "For every sequence from a new
-- ticket under one book and pack, elapsed equals that sum worked out from the commands alone; a refused command changes no ticket."
use Rattle.std.specs.Prelude.{◌≡◌, true, not, ℕ, ◌+◌, leb}
use Rattle.std.proofs.Math.Path.{refl, sym}
use Rattle.std.proofs.Common.{◌∙◌, ap}
use Rattle.std.proofs.Math.Bool.{false}
use Rattle.std.proofs.Math.Option.{Option, some}
use mathlib.Core.List.{List, [], ◌∷◌, map}
use native.Mathlib.Omega.{arith}
use Rattle.model.specs.Basic.{any, filter, sum}
use Rattle.model.specs.Instant.{instant_of}
use Rattle.model.specs.Answer.{Answer, gives, refuses, ◌>>=◌}
use Rattle.model.specs.Working.{Schedule}
use Rattle.model.specs.Build.{build}
use Rattle.model_ticket.specs.History.{Action, start, hold, resume, mark, back, Command, Accepted, last_of}
use Rattle.model_ticket.specs.History.{Event, begins, ends, marked, is_new, is_running, is_mark, up_to, restored, followed, remains, spells, elapsed}
use Rattle.model_ticket.specs.History.{is_allowed, accept, elapsed_after, answered, kept_by, answers_after, answers_to}
use Rattle.model_ticket.specs.Ticket.{Mark, Ticket, new_ticket, is_named, time_at, may_follow, set_back, next_ticket, Told, command_call, command}
use Rattle.laws_base.specs.Test.{by-test, and_both, not-true, clash}
use Rattle.laws_ticket.specs.Kept.{without, running-without, elapsed-without, elapsed-held}
use Rattle.laws_ticket.specs.Kept.{Marked, at_mark, mark-found, marks_of, marks-any, marks-up_to, marks-without}

-- ---- a ticket and a history

-- the ticket k stands where the history h does, with v the instant of the last accepted command
pub record Stands (s : Schedule) (v : ℕ) (h : List Event) (k : Ticket) : Type 0 where
  pub last : k.last ≡ v
  pub begun : k.begun ≡ not (is_new h)
  pub running : k.running ≡ is_running h
  pub marks : k.marks ≡ marks_of s h
  pub time : (u : ℕ) → time_at s k u ≡ elapsed s u h

pub stands-new : (s : Schedule) → Stands s 0 [] new_ticket
unfolding is_running marks_of spells sum
stands-new s = record { last = refl; begun = refl; running = refl; marks = refl; time = λ u. refl }

-- both allow the same commands
pub stands-allows : (s : Schedule) (v : ℕ) (h : List Event) (k : Ticket) → Stands s v h k → (a : Action) → may_follow a k ≡ is_allowed a h
stands-allows s v [] k q start = ap not q.begun
stands-allows s v (e ∷ h) k q start = ap not q.begun
stands-allows s v h k q hold = q.running
stands-allows s v h k q resume = rw (q.begun, q.running)
stands-allows s v h k q (mark n) = rw q.begun
stands-allows s v h k q (back n) = rw q.marks (marks-any s n h)

-- ---- one more command, at the instant t: the ticket stands where the history that remains does

module _ (s : Schedule) (t : ℕ) where
  after-start : (h : List Event) (k : Ticket) → is_new h ≡ true → Stands s t (begins t ∷ h) (next_ticket start t (time_at s k t) k)
  unfolding is_running marks_of spells sum
  after-start [] k a = record { last = refl; begun = refl; running = refl; marks = refl; time = λ u. omega arith }
  after-start (e ∷ h) k a = clash false a refl

  -- set back to the mark with which b begins
  set_back_lem : (n : ℕ) (b : List Event) → Marked n b → Stands s t (restored t b) (set_back t (marks_of s b))
  unfolding is_running marks_of spells sum
  set_back_lem n b (at_mark {m = m} {t = v} {h = r} e) =
      by-test (is_running r)
      (λ g. rw g (record { last = refl; begun = refl; running = refl; marks = rw g; time = λ u. omega arith }))
      (λ g. rw g (record { last = refl; begun = refl; running = sym g; marks = rw g; time = λ u. (let p = elapsed-held s v u r g in omega arith) }))

  module _ (v : ℕ) (h : List Event) (k : Ticket) (q : Stands s v h k) where
    after-hold : Stands s t (ends t ∷ h) (next_ticket hold t (time_at s k t) k)
    unfolding is_running marks_of spells sum
    after-hold = record { last = refl; begun = refl; running = refl; marks = q.marks; time = λ u. (let e = q.time t in omega arith) }

    after-resume : is_running h ≡ false → Stands s t (begins t ∷ h) (next_ticket resume t (time_at s k t) k)
    unfolding is_running marks_of spells sum
    after-resume r = record { last = refl; begun = refl; running = refl; marks = q.marks; time = λ u. (let e = held in omega arith) }
      where
        held : k.done + 0 ≡ elapsed s t h
        held = let e : k.running ≡ false = q.running ∙ r in rw e at (q.time t)

    after-mark : (n : ℕ) → Stands s t (marked n t ∷ without n h) (next_ticket (mark n) t (time_at s k t) k)
    unfolding is_running marks_of spells
    after-mark n = record {
      last = refl;
      begun = refl;
      running = r;
      marks = λ i. record { name = n; running = r i; time = e i } ∷ l i;
      time = λ u. q.time u ∙ sym (elapsed-without s n u h);
    }
      where
        r : k.running ≡ is_running (without n h)
        r = q.running ∙ sym (running-without n h)

        e : time_at s k t ≡ elapsed s t (without n h)
        e = q.time t ∙ sym (elapsed-without s n t h)

        l : filter (λ (m : Mark). not (is_named n m)) k.marks ≡ marks_of s (without n h)
        l = rw q.marks (sym (marks-without s n h))

    after-back : (n : ℕ) → any (is_mark n) h ≡ true → Stands s t (restored t (up_to (is_mark n) h)) (next_ticket (back n) t (time_at s k t) k)
    after-back n a = rw (q.marks, ← marks-up_to s n h) (set_back_lem n (up_to (is_mark n) h) (mark-found n h a))

    pub stands-next : (a : Action) → is_allowed a h ≡ true → Stands s t (followed a t h) (next_ticket a t (time_at s k t) k)
    stands-next start a = after-start h k a
    stands-next hold a = after-hold
    stands-next resume a = after-resume (not-true _ (and_both (not (is_new h)) _ a).1)
    stands-next (mark n) a = after-mark n
    stands-next (back n) a = after-back n a

-- ---- a ticket and the commands that were accepted

-- the ticket k agrees with the accepted commands l
abbrev pub Agrees : Schedule → List Accepted → Ticket → Type 0
Agrees s l k = Stands s (last_of l) (remains l) k

pub agrees-new : (s : Schedule) → Agrees s [] new_ticket
unfolding remains
agrees-new s = stands-new s

-- one command given to both: both refuse it with the same number and place, or both accept it, tell the same elapsed time, and agree again
pub data Step (s : Schedule) : Answer (List Accepted) → Answer Told → Type 0 where
  both-refuse : (n p : ℕ) → Step s (refuses n p) (refuses n p)
  both-accept : (l : List Accepted) (k : Ticket) → Agrees s l k → Step s (gives l) (gives (record { time = elapsed_after s l; ticket = some k }))

module _ (s : Schedule) (l : List Accepted) (k : Ticket) (q : Agrees s l k) where
  next-agrees : (a : Action) (t : ℕ) → is_allowed a (remains l) ≡ true → Agrees s (record { action = a; time = t } ∷ l) (next_ticket a t (time_at s k t) k)
  unfolding remains
  next-agrees a t e = stands-next s t (last_of l) (remains l) k q a e

  pub agrees-step : (c : Command) → Step s (accept l c) (command_call s (some k) c.action c.seconds c.nanoseconds)
  unfolding accept command_call
  agrees-step c = from (instant_of c.seconds c.nanoseconds) refl
    where
      a : Action
      a = c.action

      later : (t : ℕ) → leb k.last t ≡ leb (last_of l) t
      later t = ap (λ (v : ℕ). leb v t) q.last

      allows : may_follow a k ≡ is_allowed a (remains l)
      allows = stands-allows s (last_of l) (remains l) k q a

      from : (r : Answer ℕ) → instant_of c.seconds c.nanoseconds ≡ r → Step s (accept l c) (command_call s (some k) a c.seconds c.nanoseconds)
      from (refuses n p) i = rw i (both-refuse n p)
      from (gives t) i =
          by-test (leb (last_of l) t)
          (λ e.
          by-test (is_allowed a (remains l))
          (λ f. let n = next-agrees a t f in rw (i, e, later t ∙ e, f, allows ∙ f, n.time t) (both-accept _ _ n))
          (λ f. rw (i, e, later t ∙ e, f, allows ∙ f) (both-refuse 14 0)))
          (λ e. rw (i, e, later t ∙ e) (both-refuse 13 0))

-- ---- a ticket handed from one command to the next

-- "a refused command changes no ticket"
abbrev pub ticket_after : Option Ticket → Answer Told → Option Ticket
ticket_after k (gives x) = x.ticket
ticket_after k (refuses n p) = k

-- the elapsed time of an answer
abbrev pub time_told : Answer Told → Answer ℕ
time_told a = a >>= λ (x : Told). gives x.time

-- the answers to commands given one after the other, each to the ticket that the command before it leaves
unfoldable pub ticket_answers : Schedule → Option Ticket → List Command → List (Answer ℕ)
ticket_answers s k [] = []
ticket_answers s k (c ∷ cs) =
    let a = command_call s k c.action c.seconds c.nanoseconds in time_told a ∷ ticket_answers s (ticket_after k a) cs

module _ (s : Schedule) where
  step-time : {x : Answer (List Accepted)} {y : Answer Told} → Step s x y → time_told y ≡ answered s x
  step-time (both-refuse n p) = refl
  step-time (both-accept l k q) = refl

  step_after_lem : (l : List Accepted) (k : Ticket) → Agrees s l k → {x : Answer (List Accepted)} {y : Answer Told} → Step s x y
      → (j : Ticket) × (ticket_after (some k) y ≡ some j) × Agrees s (kept_by l x) j
  step_after_lem l k q (both-refuse n p) = (k, refl, q)
  step_after_lem l k q (both-accept m j r) = (j, refl, r)

  -- a ticket that agrees with the accepted commands answers one more command as they do
  pub agrees-time : (l : List Accepted) (k : Ticket) → Agrees s l k → (c : Command)
      → time_told (command_call s (some k) c.action c.seconds c.nanoseconds) ≡ answered s (accept l c)
  agrees-time l k q c = step-time (agrees-step s l k q c)

  -- and the ticket that comes after it agrees with the commands that are accepted by then
  pub agrees_after : (l : List Accepted) (k : Ticket) → Agrees s l k → (c : Command)
      → (j : Ticket) × (ticket_after (some k) (command_call s (some k) c.action c.seconds c.nanoseconds) ≡ some j) × Agrees s (kept_by l (accept l c)) j
  agrees_after l k q c = step_after_lem l k q (agrees-step s l k q c)

  -- so it answers every sequence as they do
  pub answers_agree : (l : List Accepted) (k : Ticket) → Agrees s l k → (cs : List Command) → ticket_answers s (some k) cs ≡ answers_after s l cs
  unfolding ticket_answers answers_after
  answers_agree l k q [] = refl
  answers_agree l k q (c ∷ cs) =
      let n = agrees_after l k q c in
      rw (agrees-time l k q c, n.1) (ap (λ (r : List (Answer ℕ)). answered s (accept l c) ∷ r) (answers_agree (kept_by l (accept l c)) n.0 n.2 cs))

-- the theorem: the answers to a new ticket are those of the commands alone
pub ticket-answers : (s : Schedule) (cs : List Command) → ticket_answers s (some new_ticket) cs ≡ answers_after s [] cs
ticket-answers s cs = answers_agree s [] new_ticket (agrees-new s) cs

-- ---- the same from the bytes of book and pack

-- the answers to commands, each with the bytes
unfoldable pub command_answers : List ℕ → List ℕ → Option Ticket → List Command → List (Answer ℕ)
command_answers book pack k [] = []
command_answers book pack k (c ∷ cs) =
    let a = command book pack k c.action c.seconds c.nanoseconds in time_told a ∷ command_answers book pack (ticket_after k a) cs

module _ (book pack : List ℕ) where
  built-answers : (s : Schedule) → build book pack ≡ gives s → (k : Option Ticket) (cs : List Command) → command_answers book pack k cs ≡ ticket_answers s k cs
  unfolding command_answers ticket_answers
  built-answers s b k [] = refl
  built-answers s b k (c ∷ cs) =
      let a = command_call s k c.action c.seconds c.nanoseconds in
      rw b (ap (λ (r : List (Answer ℕ)). time_told a ∷ r) (built-answers s b (ticket_after k a) cs))

  refused-answers : (n p : ℕ) → build book pack ≡ refuses n p → (k : Option Ticket) (cs : List Command)
      → command_answers book pack k cs ≡ map (λ (c : Command). refuses n p) cs
  unfolding command_answers
  refused-answers n p b k [] = refl
  refused-answers n p b k (c ∷ cs) = rw b (ap (λ (r : List (Answer ℕ)). refuses n p ∷ r) (refused-answers n p b k cs))

  -- the theorem from the bytes; a book or pack that is refused included
  pub command-answers : (cs : List Command) → command_answers book pack (some new_ticket) cs ≡ answers_to book pack cs
  command-answers cs = from (build book pack) refl
    where
      from : (b : Answer Schedule) → build book pack ≡ b → command_answers book pack (some new_ticket) cs ≡ answers_to book pack cs
      from (gives s) b = rw (b, answers_to) (built-answers s b (some new_ticket) cs ∙ ticket-answers s cs)
      from (refuses n p) b = rw (b, answers_to) (refused-answers n p b (some new_ticket) cs)
