-- The answers to a command: what is refused, what is accepted, and that the elapsed time fits.
use mathlib.Core.Path.{◌≡◌, refl, sym, ap, ◌∙◌}
use mathlib.Core.Bool.{true, false}
use mathlib.Core.Option.{Option, none, some}
use Prim.Native.Nat.{ℕ, ◌+◌, ◌-◌, ◌≤◌, ◌<◌}
use native.Mathlib.Omega.{arith}
use lib.Dec.{leb, ltb}
use borrow.Author.Tests.{leb-true, ltb-true, le-leb, lt-leb, lt-ltb, ltb-false, eq-eqb, ne_eqb}
use lib.IntN.{ℤ}
use Rattle.model.specs.Basic.{any}
use Rattle.model.specs.Instant.{second, first_instant, last_instant, instant_of}
use Rattle.model.specs.Answer.{Answer, gives, refuses}
use Rattle.model.specs.Working.{Schedule}
use Rattle.model.specs.Walk.{time_from, time_between}
use Rattle.model_ticket.specs.History.{names}
use Rattle.model_ticket.specs.Ticket as model
use Rattle.model_ticket.specs.Ticket.{Told, time_at, may_follow, next_ticket, command_call}
use Rattle.laws_base.specs.Test.{by-test, clash, and_both, both-and}
use Rattle.laws_skip.specs.Schedules.{time-most}
use Rattle.refusal.specs.declared.Refusal.{Refusal}
use Rattle.refusal.specs.declared.Refused.{Refused}
use Rattle.refusal.specs.Refused.{number_of}
use Rattle.instant.specs.Instant.{nanos, Exact, InRange, most}
use Rattle.instant.specs.declared.Instant.{Instant}
use Rattle.walk_between.specs.Sums.{Interval}
use Rattle.ticket_marks.specs.Marks.{marks_in, has_name, is_within}
use Rattle.ticket_marks.specs.Laws.{within-later, named-any}
use Rattle.ticket.specs.declared.Ticket.{Ticket}
use Rattle.ticket.specs.declared.State.{State}
use Rattle.ticket.specs.declared.State.TheVariants.{New, Running, Held, Other}
use Rattle.ticket.specs.declared.Action.{Action}
use Rattle.ticket.specs.declared.Action.TheVariants as A
use Rattle.ticket.specs.Tickets.{action_is, is_sound, is_new, is_running, standing, ticket_is, Begun, Goes, Becomes}
use Rattle.ticket.specs.Sound.{sound-facts, facts, done-then, begun-is, no-ticket, new_is, begin-start}
use Rattle.schedule_ticket.specs.declared.TicketAnswer.{TicketAnswer}
use Rattle.schedule_ticket.specs.Told.{AsTold, Accepts, Elapsed, next_told, TellsFirst}

-- ---- answers

-- no time
abbrev pub no_time : Instant
no_time = record { sec = 0; ns = 0 }

pub no-time-within : is_within no_time last_instant ≡ true
unfolding is_within
no-time-within = refl

is-refused : (k : Ticket) (number place : ℕ) → 1 ≤ number → AsTold k (refuses number place) (record { number = number; place = place; time = no_time; ticket = k })
is-refused k number place h = record {
  told = rw (ne_eqb number 0 (λ e. omega arith));
  kept = λ _. refl;
  begun = λ e. absurd (omega arith);
  within = no-time-within;
}

some-number : (r : Refusal) → 1 ≤ number_of r
some-number Refusal.BookLayout = omega arith
some-number Refusal.BookLimit = omega arith
some-number Refusal.PackLayout = omega arith
some-number Refusal.UnknownZone = omega arith
some-number Refusal.ZoneUnusable = omega arith
some-number Refusal.NoWorkingTime = omega arith
some-number Refusal.OutOfRange = omega arith
some-number Refusal.InstantOutOfRange = omega arith
some-number Refusal.DurationMalformed = omega arith
some-number Refusal.TooFewNumbers = omega arith
some-number Refusal.LogMalformed = omega arith
some-number Refusal.WidthOutOfRange = omega arith
some-number Refusal.EarlierInstant = omega arith
some-number Refusal.NotAllowed = omega arith

pub refused-is : (k : Ticket) (r : Refused) {n : ℕ} → n ≡ number_of r.refusal → AsTold k (refuses (number_of r.refusal) r.place) (record { number = n; place = r.place; time = no_time; ticket = k })
refused-is k r e = rw e (is-refused k (number_of r.refusal) r.place (some-number r.refusal))

pub is-accepted :
    (k : Ticket) (time : Instant) → Begun k → is_within time last_instant ≡ true →
    Accepts (record { time = nanos time; ticket = some (standing k) }) (record { number = 0; place = 0; time = time; ticket = k })
is-accepted k time b w = record { number = refl; time = refl; ticket = begun-is k b; begun = b; within = w }

-- an accepted command is told so, of whatever ticket
pub accepted-told : (k : Ticket) (x : Told) (r : TicketAnswer) → Accepts x r → AsTold k (gives x) r
accepted-told k x r a = record {
  told = rw (eq-eqb r.number 0 a.number) (λ i. gives (record { time = a.time i; ticket = a.ticket i }));
  kept = λ n. absurd (n a.number);
  begun = λ _. a.begun;
  within = a.within;
}

pub accepts-as : (x y : Told) (r : TicketAnswer) → x ≡ y → Accepts x r → Accepts y r
accepts-as x y r e a = record { number = a.number; time = a.time ∙ ap (λ (z : Told). z.time) e; ticket = a.ticket ∙ ap (λ (z : Told). z.ticket) e; begun = a.begun; within = a.within }

pub told-as : (k : Ticket) (x y : Answer Told) (r : TicketAnswer) → y ≡ x → AsTold k x r → AsTold k y r
told-as k x y r e a = record { told = a.told ∙ sym e; kept = a.kept; begun = a.begun; within = a.within }

-- ---- elapsed time

-- no time passes between an instant and itself
pub time-none : (s : Schedule) (t : ℕ) → time_between s t t ≡ 0
unfolding time_from
time-none s t = let e : t - t ≡ 0 = omega arith in rw e

-- from the beginning of the spell to t
pub spell : (k : Ticket) (t : Instant) → Goes k t → Interval k.since t
spell k t g = let o = (facts k t g).ordered in let l = g.later in record { start = (facts k t g).since; end = g.in-range; order = omega arith }

module _ (s : Schedule) (k : Ticket) (t : Instant) (g : Goes k t) where
  -- the ticket is held
  pub elapsed-held : is_running k.state ≡ false → Elapsed s k t k.done
  elapsed-held n = record { time = rw n (omega arith); within = done-then k t g }

  done-parts : (k.done.ns < second) × (nanos k.done ≤ nanos k.since - first_instant)
  unfolding is_within
  done-parts =
      let p = and_both (ltb k.done.ns second) (leb (nanos k.done) (nanos k.since - first_instant)) (facts k t g).done in
      (ltb-true k.done.ns second p.0, leb-true (nanos k.done) (nanos k.since - first_instant) p.1)

  module _ (x : Instant) (e : nanos x ≡ time_between s (nanos k.since) (nanos t)) where
    -- "Spells do not overlap, so the sum fits"
    sum-within : nanos k.done + nanos x ≤ nanos t - first_instant
    sum-within =
        let d = done-parts.1 in
        let m = time-most s (nanos k.since) (nanos t) (spell k t g).order in
        let o = (spell k t g).order in
        let i = in-first (spell k t g).start in
        omega arith
      where
        in-first : InRange k.since → first_instant ≤ nanos k.since
        in-first r = let l = r.low in omega arith

    pub sum_fits : Exact x → Exact k.done × Exact x × (nanos k.done + nanos x < most)
    sum_fits q = let w = sum-within in let h = g.in-range.high in let n = g.in-range.ns in (done-parts.0, q, omega arith)

    pub elapsed-running : (r : Instant) → is_running k.state ≡ true → nanos r ≡ nanos k.done + nanos x → Exact r → Elapsed s k t r
    unfolding is_within
    elapsed-running r n f q = record {
      time = rw (n, ← e) f;
      within = (let w = sum-within in both-and _ _ (lt-ltb r.ns second q) (le-leb (nanos r) (nanos t - first_instant) (omega arith)));
    }

-- what is within at t is within at the last instant
pub within-range : (d t : Instant) → InRange t → is_within d (nanos t) ≡ true → is_within d last_instant ≡ true
within-range d t r w = let h = r.high in let n = r.ns in within-later d (nanos t) last_instant (omega arith) w

-- and so is the time done of a ticket that was started
pub done-range : (k : Ticket) → Begun k → is_within k.done last_instant ≡ true
done-range k b = let f = sound-facts k b.sound in within-range k.done k.since f.since f.done

-- ---- a new ticket

module _ (k : Ticket) (a : Action) (t : Instant) (r : TicketAnswer) where
  pub first-started : may_follow (action_is a) model.new_ticket ≡ true → Accepts (record { time = 0; ticket = some (next_ticket (action_is A.Start) (nanos t) 0 model.new_ticket) }) r → TellsFirst k a t r
  first-started e x s =
      told-as k _ _ r (rw e) (accepted-told k (next_told s a (nanos t) model.new_ticket) r
      (accepts-as _ (next_told s a (nanos t) model.new_ticket) r (rw (begin-start a e, time-none s (nanos t))) x))

  pub first-refused : may_follow (action_is a) model.new_ticket ≡ false → AsTold k (refuses 14 0) r → TellsFirst k a t r
  first-refused e x s = told-as k _ _ r (rw e) x

-- ---- a ticket that was started

module _ (k : Ticket) (a : Action) where
  -- it can't be started again
  pub not-again : {P : Type 0} → a ≡ A.Start → may_follow (action_is a) (standing k) ≡ true → P
  not-again e m = clash false (rw e at m) refl

  pub marks-name : (n : ℕ) → a ≡ A.Mark n → may_follow (action_is a) (standing k) ≡ true → n < names
  marks-name n e m = ltb-true n names (and_both (ltb n names) true (rw e at m)).0

  pub goes_back : (n : ℕ) → a ≡ A.Back n → may_follow (action_is a) (standing k) ≡ true → any (has_name n) (marks_in k.marks) ≡ true
  goes_back n e m = sym (named-any n (marks_in k.marks)) ∙ (rw e at m)

module _ (s : Schedule) (k : Ticket) (a : Action) (t : Instant) (r : TicketAnswer) where
  module _ (j : Ticket) (time : Instant) (x : Accepts (record { time = nanos time; ticket = some (standing j) }) r) where
    -- the ticket j with that time is what the command b tells
    follows_by :
        (b : Action) → a ≡ b → standing j ≡ next_ticket (action_is b) (nanos t) (time_at s (standing k) (nanos t)) (standing k) →
        nanos time ≡ time_at s (next_ticket (action_is b) (nanos t) (time_at s (standing k) (nanos t)) (standing k)) (nanos t) → Accepts (next_told s a (nanos t) (standing k)) r
    follows_by b e p q = accepts-as _ (next_told s a (nanos t) (standing k)) r (rw e (λ i. record { time = q i; ticket = some (p i) })) x

    pub follows-hold : a ≡ A.Hold → Elapsed s k t time → Becomes j (next_ticket (action_is A.Hold) (nanos t) (nanos time) (standing k)) → Accepts (next_told s a (nanos t) (standing k)) r
    follows-hold e l b =
        let z = l.time in
        follows_by A.Hold e (b.stands ∙ ap (λ (n : ℕ). next_ticket (action_is A.Hold) (nanos t) n (standing k)) z) (omega arith)

    pub follows-resume : a ≡ A.Resume → nanos time ≡ nanos k.done → Becomes j (next_ticket (action_is A.Resume) (nanos t) 0 (standing k)) → Accepts (next_told s a (nanos t) (standing k)) r
    follows-resume e z b = let n = time-none s (nanos t) in follows_by A.Resume e b.stands (omega arith)

    pub follows-mark :
        (n : ℕ) → a ≡ A.Mark n → Elapsed s k t time → Becomes j (next_ticket (action_is (A.Mark n)) (nanos t) (nanos time) (standing k)) → Accepts (next_told s a (nanos t) (standing k)) r
    follows-mark n e l b =
        follows_by (A.Mark n) e (b.stands ∙ ap (λ (m : ℕ). next_ticket (action_is (A.Mark n)) (nanos t) m (standing k)) l.time) l.time

    -- a state that began at t has no more time
    no_more : j.since ≡ t → nanos j.done ≡ time_at s (standing j) (nanos t)
    no_more e =
        let z = time-none s (nanos t) in
        rw e (by-test (standing j).running (λ r. rw r (omega arith)) (λ r. rw r (omega arith)))

    pub follows-back :
        (n : ℕ) → a ≡ A.Back n → nanos time ≡ nanos j.done → Becomes j (next_ticket (action_is (A.Back n)) (nanos t) 0 (standing k)) → j.since ≡ t →
        Accepts (next_told s a (nanos t) (standing k)) r
    follows-back n e z b q = follows_by (A.Back n) e b.stands (z ∙ no_more q ∙ ap (λ (m : model.Ticket). time_at s m (nanos t)) b.stands)

-- ---- a command, in the order of refusals

-- what the tests tell of the ticket
pub begun-by : (k : Ticket) → is_new k.state ≡ false → is_sound k ≡ true → Begun k
begun-by k n e = record { not_new = n; sound = e }

new-by : (state : State) → is_new state ≡ true → state ≡ New
new-by New e = refl
new-by Running e = clash false e refl
new-by Held e = clash false e refl
new-by (Other n) e = clash false e refl

pub goes_by : (k : Ticket) (t : Instant) → Begun k → InRange t → ltb (nanos t) (nanos k.last) ≡ false → Goes k t
goes_by k t b r l = record { begun = b; in-range = r; later = ltb-false (nanos t) (nanos k.last) l }

module _ (s : Schedule) (k : Ticket) (a : Action) (t₁ t₂ : ℤ) (r : TicketAnswer) where
  pub command-no-instant : instant_of t₁ t₂ ≡ refuses 8 0 → AsTold k (refuses 8 0) r → AsTold k (command_call s (ticket_is k) (action_is a) t₁ t₂) r
  unfolding command_call
  command-no-instant e x = told-as k _ _ r (at_once (ticket_is k)) x
    where
      at_once : (o : Option model.Ticket) → command_call s o (action_is a) t₁ t₂ ≡ refuses 8 0
      at_once none = rw e
      at_once (some j) = rw e

  module _ (t : Instant) (e : instant_of t₁ t₂ ≡ gives (nanos t)) where
    pub command-first : is_new k.state ≡ true → TellsFirst k a t r → AsTold k (command_call s (ticket_is k) (action_is a) t₁ t₂) r
    unfolding command_call
    command-first n x = told-as k _ _ r (rw (new_is k (new-by k.state n), e, le-leb 0 (nanos t) (omega arith))) (x s)

    pub command-none : is_new k.state ≡ false → is_sound k ≡ false → AsTold k (refuses 14 0) r → AsTold k (command_call s (ticket_is k) (action_is a) t₁ t₂) r
    unfolding command_call
    command-none n f x = told-as k _ _ r (rw (no-ticket k (λ q. clash (is_new k.state) (ap is_new q) n) f, e)) x

    module _ (b : Begun k) where
      pub command-earlier : ltb (nanos t) (nanos k.last) ≡ true → AsTold k (refuses 13 0) r → AsTold k (command_call s (ticket_is k) (action_is a) t₁ t₂) r
      unfolding command_call
      command-earlier l x = told-as k _ _ r (rw (begun-is k b, e, lt-leb (nanos k.last) (nanos t) (ltb-true (nanos t) (nanos k.last) l))) x

      module _ (l : ltb (nanos t) (nanos k.last) ≡ false) where
        pub command-not-allowed : may_follow (action_is a) (standing k) ≡ false → AsTold k (refuses 14 0) r → AsTold k (command_call s (ticket_is k) (action_is a) t₁ t₂) r
        unfolding command_call
        command-not-allowed m x = told-as k _ _ r (rw (begun-is k b, e, le-leb (nanos k.last) (nanos t) (ltb-false (nanos t) (nanos k.last) l), m)) x

        pub command-follows :
            may_follow (action_is a) (standing k) ≡ true → Accepts (next_told s a (nanos t) (standing k)) r → AsTold k (command_call s (ticket_is k) (action_is a) t₁ t₂) r
        unfolding command_call
        command-follows m x =
            told-as k _ _ r (rw (begun-is k b, e, le-leb (nanos k.last) (nanos t) (ltb-false (nanos t) (nanos k.last) l), m)) (accepted-told k (next_told s a (nanos t) (standing k)) r x)
