-- The elapsed time fits. The running spells of a ticket do not overlap and lie between the first instant and the last command's, so that their working time is
-- no more than the time between these two, and less than 2^63 seconds.
use Rattle.std.specs.Prelude.{◌≡◌, refl, Bool, true, not, ◌&&◌, List, [], ◌∷◌, map, ℕ, ◌+◌, ◌*◌, ◌^◌, ◌≤◌, ◌<◌, leb, ltb, eqb, ℤ, nat_abs}
use Rattle.std.proofs.Math.Option.{some}
use Rattle.std.proofs.Common.{arith, leb-true, ltb-true}
use Rattle.model.specs.Basic.{filter, sum, is_in}
use Rattle.model.specs.Instant.{second, first_second, last_second, first_instant, last_instant, is_below_0, second_from, instant_of}
use Rattle.model.specs.Answer.{Answer, gives, refuses}
use Rattle.model.specs.Blocks.{Block}
use Rattle.model.specs.Working.{Schedule}
use Rattle.model.specs.Walk.{time_between}
use Rattle.model_ticket.specs.History.{Action, start, hold, resume, mark, back, Command, Accepted, last_of}
use Rattle.model_ticket.specs.History.{Event, begins, ends, marked, is_running, is_mark, up_to, restored, followed, remains, spells}
use Rattle.model_ticket.specs.History.{is_allowed, accept, elapsed_after, answered, kept_by, answers_after}
use Rattle.model_ticket.specs.Ticket.{new_ticket}
use Rattle.laws_base.specs.Every.{Every}
use Rattle.laws_base.specs.Test.{by-test, and_both, in_bounds, never}
use Rattle.laws_skip.specs.Schedules.{time-most}
use Rattle.laws_ticket.specs.Kept.{without}
use Rattle.laws_ticket.specs.Agrees.{ticket_answers, ticket-answers}

-- ---- spells apart

-- the spells, latest first: each starts at the first instant or later, ends at its start or later, and ends no later than the one after it starts; the latest
-- ends no later than u
abbrev pub Apart : ℕ → List Block → Type 0
Apart u [] = Unit {0}
Apart u (b ∷ l) = (first_instant ≤ b.start) × (b.start ≤ b.end) × (b.end ≤ u) × Apart b.start l

pub apart-later : (u v : ℕ) (l : List Block) → u ≤ v → Apart u l → Apart v l
apart-later u v [] h a = tt
apart-later u v (b ∷ l) h a = let e = a.2 in (a.0, a.1, omega arith, a.3)

-- their working time is no more than the time from the first instant to u
pub apart-most : (s : Schedule) (u : ℕ) (l : List Block) → first_instant ≤ u → Apart u l
    → first_instant + sum (map (λ (b : Block). time_between s b.start b.end) l) ≤ u
unfolding sum
apart-most s u [] f a = omega arith
apart-most s u (b ∷ l) f a =
    let m = time-most s b.start b.end a.1 in
    let r = apart-most s b.start l a.0 a.3 in
    let p = a.1 in
    let q = a.2 in
    omega arith

-- ---- the instants of a history

abbrev pub time_of : Event → ℕ
time_of (begins t) = t
time_of (ends t) = t
time_of (marked n t) = t

-- the instants of the history, latest first, go back from u at the latest to the first instant at the earliest
abbrev pub GoesBack : ℕ → List Event → Type 0
GoesBack u [] = Unit {0}
GoesBack u (e ∷ h) = (first_instant ≤ time_of e) × (time_of e ≤ u) × GoesBack (time_of e) h

back-later : (u v : ℕ) (h : List Event) → u ≤ v → GoesBack u h → GoesBack v h
back-later u v [] k g = tt
back-later u v (e ∷ h) k g = let p = g.1 in (g.0, omega arith, g.2)

back-without : (n u : ℕ) (h : List Event) → GoesBack u h → GoesBack u (without n h)
unfolding filter
back-without n u [] g = tt
back-without n u (begins t ∷ h) g = (g.0, g.1, back-without n t h g.2)
back-without n u (ends t ∷ h) g = (g.0, g.1, back-without n t h g.2)
back-without n u (marked m t ∷ h) g =
    by-test (eqb m n)
    (λ e. rw e (back-later t u (without n h) g.1 (back-without n t h g.2)))
    (λ e. rw e (g.0, g.1, back-without n t h g.2))

back-up_to : (p : Event → Bool) (u : ℕ) (h : List Event) → GoesBack u h → GoesBack u (up_to p h)
unfolding up_to
back-up_to p u [] g = tt
back-up_to p u (e ∷ h) g = by-test (p e) (λ q. rw q g) (λ q. rw q (back-later (time_of e) u (up_to p h) g.1 (back-up_to p (time_of e) h g.2)))

back-restored : (t : ℕ) (h : List Event) → first_instant ≤ t → GoesBack t h → GoesBack t (restored t h)
back-restored t [] f g = tt
back-restored t (begins b ∷ h) f g = g
back-restored t (ends b ∷ h) f g = g
back-restored t (marked n m ∷ h) f g =
    by-test (is_running h) (λ r. rw r (f, omega arith, (g.0, g.1, (g.0, omega arith, g.2)))) (λ r. rw r g)

-- one more command, at the instant t
back-next : (a : Action) (t : ℕ) (h : List Event) → first_instant ≤ t → GoesBack t h → GoesBack t (followed a t h)
back-next start t h f g = (f, omega arith, g)
back-next hold t h f g = (f, omega arith, g)
back-next resume t h f g = (f, omega arith, g)
back-next (mark n) t h f g = (f, omega arith, back-without n t h g)
back-next (back n) t h f g = back-restored t (up_to (is_mark n) h) f (back-up_to (is_mark n) t h g)

-- so the spells are apart
pub spells-of : (u : ℕ) (h : List Event) → GoesBack u h → Apart u (spells u h)
unfolding spells
spells-of u [] g = tt
spells-of u (begins t ∷ h) g = (g.0, g.1, omega arith, spells-of t h g.2)
spells-of u (ends t ∷ h) g = apart-later t u (spells t h) g.1 (spells-of t h g.2)
spells-of u (marked n t ∷ h) g = spells-of u h (back-later t u h g.1 g.2)

-- ---- the commands that a sequence makes

-- l is what some sequence of commands to a new ticket makes: the commands that were accepted
pub data Made : List Accepted → Type 0 where
  none_made : Made []
  one_more : (l : List Accepted) (c : Command) (k : List Accepted) → Made l → accept l c ≡ gives k → Made k

-- an instant that is read lies between the first and the last
instant-in : (s n : ℤ) (t : ℕ) → instant_of s n ≡ gives t → (first_instant ≤ t) × (t ≤ last_instant)
unfolding instant_of
instant-in s n t e =
    let x = second_from s in
    let c = not (is_below_0 n) && ltb (nat_abs n) second in
    by-test (is_in first_second last_second x && c)
    (λ p.
    let q : gives (x * second + nat_abs n) ≡ gives t = rw p at e in
    let r : x * second + nat_abs n ≡ t = cc in
    let a = and_both (is_in first_second last_second x) c p in
    let b = in_bounds first_second last_second x a.0 in
    let d = ltb-true (nat_abs n) second (and_both (not (is_below_0 n)) (ltb (nat_abs n) second) a.1).1 in
    omega arith)
    (λ p. let q : refuses 8 0 ≡ gives t = rw p at e in never (cc))

-- the command c was accepted behind those of l, which makes k
pub record Taken (l : List Accepted) (c : Command) (k : List Accepted) : Type 0 where
  pub t : ℕ
  pub is-instant : instant_of c.seconds c.nanoseconds ≡ gives t
  pub not_earlier : last_of l ≤ t
  pub allowed : is_allowed c.action (remains l) ≡ true
  pub makes : k ≡ record { action = c.action; time = t } ∷ l

pub accept-taken : (l : List Accepted) (c : Command) (k : List Accepted) → accept l c ≡ gives k → Taken l c k
unfolding accept
accept-taken l c k e = from (instant_of c.seconds c.nanoseconds) refl
  where
    from : (a : Answer ℕ) → instant_of c.seconds c.nanoseconds ≡ a → Taken l c k
    from (refuses n p) i = let q : refuses n p ≡ gives k = rw i at e in never (cc)
    from (gives t) i =
        by-test (leb (last_of l) t)
        (λ g.
        by-test (is_allowed c.action (remains l))
        (λ f.
        let q : gives (record { action = c.action; time = t } ∷ l) ≡ gives k = rw (i, g, f) at e in
        record { t = t; is-instant = i; not_earlier = leb-true _ _ g; allowed = f; makes = cc })
        (λ f. let q : refuses 14 0 ≡ gives k = rw (i, g, f) at e in never (cc)))
        (λ g. let q : refuses 13 0 ≡ gives k = rw (i, g) at e in never (cc))

-- the instant of the last accepted command lies between the first and the last
abbrev pub InRange : List Accepted → Type 0
InRange [] = Unit {0}
InRange (c ∷ l) = (first_instant ≤ c.time) × (c.time ≤ last_instant)

pub made-in-range : (l : List Accepted) → Made l → InRange l
made-in-range l none_made = tt
made-in-range l (one_more j c k m e) = let q = accept-taken j c k e in rw q.makes (instant-in c.seconds c.nanoseconds q.t q.is-instant)

pub made-goes-back : (l : List Accepted) → Made l → GoesBack (last_of l) (remains l)
unfolding remains
made-goes-back l none_made = tt
made-goes-back l (one_more j c k m e) =
    let q = accept-taken j c k e in
    let f = (instant-in c.seconds c.nanoseconds q.t q.is-instant).0 in
    rw q.makes (back-next c.action q.t (remains j) f (back-later (last_of j) q.t (remains j) q.not_earlier (made-goes-back j m)))

-- ---- the theorems

-- the running spells, read up to the last command's instant, do not overlap
pub spells-apart : (l : List Accepted) → Made l → Apart (last_of l) (spells (last_of l) (remains l))
spells-apart l m = spells-of (last_of l) (remains l) (made-goes-back l m)

-- nothing has elapsed on a new ticket, and never more than from the first instant to the last command's
pub elapsed-none : (s : Schedule) → elapsed_after s [] ≡ 0
unfolding remains spells sum
elapsed-none s = refl

pub elapsed-most : (s : Schedule) (c : Accepted) (l : List Accepted) → Made (c ∷ l) → first_instant + elapsed_after s (c ∷ l) ≤ c.time
elapsed-most s c l m = apart-most s c.time (spells c.time (remains (c ∷ l))) (made-in-range (c ∷ l) m).0 (spells-apart (c ∷ l) m)

-- so it is less than 2^63 seconds
pub elapsed-fits : (s : Schedule) (l : List Accepted) → Made l → elapsed_after s l < 2 ^ 63 * second
elapsed-fits s [] m = let e = elapsed-none s in omega arith
elapsed-fits s (c ∷ l) m = let h = elapsed-most s c l m in let k = (made-in-range (c ∷ l) m).1 in omega arith

-- and each answer to a sequence is a refusal or less than 2^63 seconds
abbrev pub Fitting : Answer ℕ → Type 0
Fitting (gives n) = n < 2 ^ 63 * second
Fitting (refuses n p) = Unit {0}

pub answers-fit : (s : Schedule) (l : List Accepted) → Made l → (cs : List Command) → Every Fitting (answers_after s l cs)
unfolding answers_after
answers-fit s l m [] = tt
answers-fit s l m (c ∷ cs) = let r = made-next (accept l c) refl in (r.0, answers-fit s (kept_by l (accept l c)) r.1 cs)
  where
    made-next : (a : Answer (List Accepted)) → accept l c ≡ a → Fitting (answered s a) × Made (kept_by l a)
    made-next (gives k) e = let n = one_more l c k m e in (elapsed-fits s k n, n)
    made-next (refuses n p) e = (tt, m)

pub ticket-answers-fit : (s : Schedule) (cs : List Command) → Every Fitting (ticket_answers s (some new_ticket) cs)
ticket-answers-fit s cs = rw (ticket-answers s cs) (answers-fit s [] none_made cs)
