-- What the tests of a ticket tell, in the code's order and back; and that each command leaves a ticket.
use Rattle.std.specs.Prelude.{◌≡◌, refl, Bool, true, false, [], ◌∷◌, map, ℕ, ◌+◌, ◌-◌, ◌≤◌, ◌<◌, leb, ltb, length, get_or, if◌then◌else◌, Option, Some, None}
use Rattle.std.proofs.Common.{sym, ap, ◌∙◌, arith, rules, add-one}
use Rattle.std.proofs.Math.Option.{none, some}
use Rattle.std.specs.Option.{IsSome}
use borrow.Author.Tests.{leb-true, ltb-true, ltb-false, le-leb, lt-leb, lt-ltb}
use Rattle.model.specs.Basic.{is_in, any}
use Rattle.model.specs.Instant.{second, first_second, last_second, first_instant}
use Rattle.laws_base.specs.Test.{by-test, clash, and_both, both-and, in_bounds, within}
use Rattle.instant.specs.Instant.{nanos, InRange}
use Rattle.instant.specs.declared.Instant.{Instant}
use Rattle.model_ticket.specs.History.{names, start, hold, resume, mark, back, up_to}
use Rattle.model_ticket.specs.Ticket as model
use Rattle.ticket_marks.specs.Marks.{capacity, latest, count_to, marks_in, mark_is, nil, has_name, others, is_within, is_mark_at, are_marks}
use Rattle.ticket_marks.specs.Laws.{marks-later, marks-set, marks-upto, marks-head, marks-once, marks-below, within-later, others-few, found-any, named-any, named-others, named-upto}
use Rattle.ticket_marks.specs.declared.Mark.{Mark}
use Rattle.ticket_marks.specs.declared.Marks.{Marks}
use Rattle.ticket.specs.declared.Ticket.{Ticket}
use Rattle.ticket.specs.declared.State.{State}
use Rattle.ticket.specs.declared.State.TheVariants.{New, Running, Held, Other}
use Rattle.ticket.specs.declared.Action.{Action}
use Rattle.ticket.specs.declared.Action.TheVariants as A
use Rattle.ticket.specs.Tickets.{action_is, is_instant, is_sound, state_number, is_state, is_new, is_running, standing, ticket_is, Begun, Goes, Becomes}

-- ---- an instant

pub instant-in : (t : Instant) → is_instant t ≡ true → InRange t
unfolding is_instant
instant-in t e =
    let p = and_both (is_in first_second last_second t.sec) (ltb t.ns second) e in
    let q = in_bounds first_second last_second t.sec p.0 in
    record { low = q.0; high = q.1; ns = ltb-true t.ns second p.1 }

pub in-instant : (t : Instant) → InRange t → is_instant t ≡ true
unfolding is_instant
in-instant t r = both-and _ _ (within first_second last_second t.sec r.low r.high) (lt-ltb t.ns second r.ns)

module _ (t : Instant) where
  pub instant-low : t.sec < first_second → false ≡ is_instant t
  unfolding is_instant
  instant-low h = rw (lt-leb first_second t.sec h)

  pub instant-high : first_second ≤ t.sec → last_second < t.sec → false ≡ is_instant t
  unfolding is_instant
  instant-high h k = rw (le-leb first_second t.sec h, lt-leb t.sec last_second k)

  pub instant-ns : first_second ≤ t.sec → t.sec ≤ last_second → ltb t.ns second ≡ is_instant t
  unfolding is_instant
  instant-ns h k = rw (le-leb first_second t.sec h, le-leb t.sec last_second k)

-- ---- a ticket

-- each of the three states has a number of at most 2; a value that is no state may have any number
pub state-most : (state : State) → is_state state ≡ true → state_number state ≤ 2
state-most New e = omega arith
state-most Running e = omega arith
state-most Held e = omega arith
state-most (Other n) e = clash false e refl

pub state-above : (state : State) → 2 < state_number state → is_state state ≡ false
state-above state h = by-test (is_state state) (λ e. let m = state-most state e in absurd (omega arith)) (λ e. e)

pub record Sound (k : Ticket) : Type 0 where
  pub state : is_state k.state ≡ true
  pub last : InRange k.last
  pub since : InRange k.since
  pub ordered : nanos k.since ≤ nanos k.last
  pub done : is_within k.done (nanos k.since) ≡ true
  pub count : k.marks.len ≤ capacity
  pub marks : are_marks (nanos k.last) (marks_in k.marks) ≡ true

pub sound-facts : (k : Ticket) → is_sound k ≡ true → Sound k
unfolding is_sound
sound-facts k e =
    let a = and_both (is_state k.state) _ e in
    let b = and_both (is_instant k.last) _ a.1 in
    let c = and_both (is_instant k.since) _ b.1 in
    let d = and_both (leb (nanos k.since) (nanos k.last)) _ c.1 in
    let f = and_both (is_within k.done (nanos k.since)) _ d.1 in
    let g = and_both (leb k.marks.len capacity) (are_marks (nanos k.last) (marks_in k.marks)) f.1 in
    record {
      state = a.0;
      last = instant-in k.last b.0;
      since = instant-in k.since c.0;
      ordered = leb-true _ _ d.0;
      done = f.0;
      count = leb-true _ _ g.0;
      marks = g.1;
    }

pub sound-made : (k : Ticket) → Sound k → is_sound k ≡ true
unfolding is_sound
sound-made k s =
    rw (
      s.state,
      in-instant k.last s.last,
      in-instant k.since s.since,
      le-leb (nanos k.since) (nanos k.last) s.ordered,
      s.done,
      le-leb k.marks.len capacity s.count,
      s.marks,
    )

-- the tests in the code's order
module _ (k : Ticket) where
  pub sound-state : is_state k.state ≡ false → false ≡ is_sound k
  unfolding is_sound
  sound-state e = rw e

  -- so a value whose state has a number above 2 is no ticket, and neither is one with any Other
  pub sound-above : 2 < state_number k.state → false ≡ is_sound k
  sound-above h = sound-state (state-above k.state h)

  pub sound-other : (n : ℕ) → k.state ≡ Other n → false ≡ is_sound k
  sound-other n e = sound-state (rw e refl)

  -- what makes a value of one of the states no ticket makes any value none
  sound-no : (is_state k.state ≡ true → false ≡ is_sound k) → false ≡ is_sound k
  sound-no f = by-test (is_state k.state) f sound-state

  pub sound-last : is_instant k.last ≡ false → false ≡ is_sound k
  unfolding is_sound
  sound-last e = sound-no (λ a. rw (a, e))

  module _ (b : is_instant k.last ≡ true) where
    pub sound-since : is_instant k.since ≡ false → false ≡ is_sound k
    unfolding is_sound
    sound-since e = sound-no (λ a. rw (a, b, e))

    module _ (c : is_instant k.since ≡ true) where
      pub sound-order : ltb (nanos k.last) (nanos k.since) ≡ true → false ≡ is_sound k
      unfolding is_sound
      sound-order e = sound-no (λ a. rw (a, b, c, lt-leb (nanos k.since) (nanos k.last) (ltb-true _ _ e)))

      module _ (d : ltb (nanos k.last) (nanos k.since) ≡ false) where
        pub sound-done : is_within k.done (nanos k.since) ≡ false → false ≡ is_sound k
        unfolding is_sound
        sound-done e = sound-no (λ a. rw (a, b, c, le-leb (nanos k.since) (nanos k.last) (ltb-false _ _ d), e))

        module _ (f : is_within k.done (nanos k.since) ≡ true) where
          pub sound-count : capacity < k.marks.len → false ≡ is_sound k
          unfolding is_sound
          sound-count h = sound-no (λ a. rw (a, b, c, le-leb (nanos k.since) (nanos k.last) (ltb-false _ _ d), f, lt-leb k.marks.len capacity h))

          pub sound-marks : is_state k.state ≡ true → k.marks.len ≤ capacity → are_marks (nanos k.last) (marks_in k.marks) ≡ is_sound k
          unfolding is_sound
          sound-marks a h = rw (a, b, c, le-leb (nanos k.since) (nanos k.last) (ltb-false _ _ d), f, le-leb k.marks.len capacity h)

-- ---- what each command leaves

-- nothing is within from the first instant on
pub nothing-within : (t : Instant) → InRange t → is_within (record { sec = 0; ns = 0 }) (nanos t) ≡ true
unfolding is_within
nothing-within t r = le-leb 0 (nanos t - first_instant) (omega arith)

module _ (t : Instant) (r : InRange t) where
  pub started-becomes :
      (m : Marks) → marks_in m ≡ [] → m.len ≡ 0 →
      Becomes (record { state = Running; last = t; since = t; done = record { sec = 0; ns = 0 }; marks = m }) (model.next_ticket start (nanos t) 0 model.new_ticket)
  unfolding are_marks
  started-becomes m e c = record {
    begun = record {
      not_new = refl;
      sound = sound-made (record { state = Running; last = t; since = t; done = record { sec = 0; ns = 0 }; marks = m }) (record {
        state = refl;
        last = r;
        since = r;
        ordered = omega arith;
        done = nothing-within t r;
        count = omega arith;
        marks = rw e;
      });
    };
    stands = rw e;
  }

module _ (k : Ticket) (t : Instant) (g : Goes k t) where
  -- what the ticket keeps
  pub facts : Sound k
  facts = sound-facts k g.begun.sound

  -- up to the last command, so up to t
  pub marks_then : are_marks (nanos t) (marks_in k.marks) ≡ true
  marks_then = marks-later (nanos k.last) (nanos t) _ g.later facts.marks

  -- a state begins at t, when the time e has elapsed
  from-now :
      (state : State) (e : Instant) (m : Marks) → is_new state ≡ false → is_state state ≡ true → is_within e (nanos t) ≡ true → m.len ≤ capacity → are_marks (nanos t) (marks_in m) ≡ true →
      Begun (record { state = state; last = t; since = t; done = e; marks = m })
  from-now state e m a b w c l = record {
    not_new = a;
    sound = sound-made (record { state = state; last = t; since = t; done = e; marks = m }) (record {
      state = b;
      last = g.in-range;
      since = g.in-range;
      ordered = omega arith;
      done = w;
      count = c;
      marks = l;
    });
  }

  pub held-becomes :
      (e : Instant) → is_within e (nanos t) ≡ true →
      Becomes (record { state = Held; last = t; since = t; done = e; marks = k.marks }) (model.next_ticket hold (nanos t) (nanos e) (standing k))
  held-becomes e w = record { begun = from-now Held e k.marks refl refl w facts.count marks_then; stands = refl }

  -- the time done is within at t too
  pub done-then : is_within k.done (nanos t) ≡ true
  done-then = let o = facts.ordered in let l = g.later in within-later k.done (nanos k.since) (nanos t) (omega arith) facts.done

  pub resumed-becomes :
      Becomes (record { state = Running; last = t; since = t; done = k.done; marks = k.marks }) (model.next_ticket resume (nanos t) 0 (standing k))
  resumed-becomes = record { begun = from-now Running k.done k.marks refl refl done-then facts.count marks_then; stands = refl }

  -- there is room for a mark
  pub mark-room : (name : ℕ) → name < names → length (others name (marks_in k.marks)) < capacity
  mark-room name h = others-few name (marks_in k.marks) h (marks-once _ _ facts.marks) (marks-below _ _ facts.marks)

  pub marked-becomes :
      (x : Mark) (m : Marks) → is_within x.time (nanos t) ≡ true → x.name < names → x.running ≡ is_running k.state → marks_in m ≡ x ∷ others x.name (marks_in k.marks) → m.len ≤ capacity →
      Becomes (record { state = k.state; last = t; since = k.since; done = k.done; marks = m }) (model.next_ticket (mark x.name) (nanos t) (nanos x.time) (standing k))
  unfolding is_mark_at
  marked-becomes x m w h q e c = record {
    begun = record {
      not_new = g.begun.not_new;
      sound = sound-made (record { state = k.state; last = t; since = k.since; done = k.done; marks = m }) (record {
        state = facts.state;
        last = g.in-range;
        since = facts.since;
        ordered = (let o = facts.ordered in let l = g.later in omega arith);
        done = facts.done;
        count = c;
        marks = rw e (marks-set (nanos t) x (marks_in k.marks) (both-and _ _ (lt-ltb x.name names h) w) marks_then);
      });
    };
    stands = λ i. record {
      begun = true;
      running = is_running k.state;
      last = nanos t;
      since = nanos k.since;
      done = nanos k.done;
      marks = (ap (map mark_is) e ∙ (λ j. record { name = x.name; running = q j; time = nanos x.time } ∷ named-others x.name (marks_in k.marks) j)) i;
    };
  }

  -- set back to the last of the first i marks, that of the name
  module _
      (name i j : ℕ) (state : State) (m : Marks) (e : latest i k.marks.items ≡ up_to (has_name name) (marks_in k.marks)) (b : i ≡ j + 1)
      (c : state ≡ (if (get_or k.marks.items j nil).running then Running else Held)) (f : marks_in m ≡ latest i k.marks.items) where
    -- its mark
    abbrev x : Mark
    x = get_or k.marks.items j nil

    it-first : latest i k.marks.items ≡ x ∷ latest j k.marks.items
    unfolding latest
    it-first = rw (b, add-one)

    marks-left : are_marks (nanos t) (latest i k.marks.items) ≡ true
    marks-left = rw e (marks-upto (nanos t) name (marks_in k.marks) marks_then)

    state-told : (r : Bool) (n : State) → n ≡ (if r then Running else Held) → (is_new n ≡ false) × (is_state n ≡ true) × (is_running n ≡ r)
    state-told true n p = rw p (refl, refl, refl)
    state-told false n p = rw p (refl, refl, refl)

    it-within : is_within x.time (nanos t) ≡ true
    unfolding is_mark_at
    it-within =
        let h = marks-head (nanos t) x (latest j k.marks.items) (rw it-first at marks-left) in
        (and_both (ltb x.name names) (is_within x.time (nanos t)) h.0).1

    as-set-back : (r : Bool) → r ≡ x.running →
        record { begun = true; running = r; last = nanos t; since = nanos t; done = nanos x.time; marks = map mark_is (marks_in m) } ≡ model.set_back (nanos t) (map mark_is (latest i k.marks.items))
    as-set-back r q = rw (f, it-first, q)

    pub back-becomes :
        m.len ≤ capacity →
        Becomes (record { state = state; last = t; since = t; done = x.time; marks = m }) (model.next_ticket (back name) (nanos t) 0 (standing k))
    back-becomes d =
        let q = state-told x.running state c in
        record {
          begun = from-now state x.time m q.0 q.1 it-within d (rw f marks-left);
          stands = as-set-back (is_running state) q.2 ∙ ap (model.set_back (nanos t)) (ap (map mark_is) e ∙ named-upto name (marks_in k.marks));
        }

-- ---- which command may follow

pub set-by : (name r : ℕ) (m : Marks) → latest r m.items ≡ up_to (has_name name) (marks_in m) → ltb 0 r ≡ any (has_name name) (marks_in m)
set-by name r m e = sym (found-any name m.len r m.items e)

pub mark-named : (k : Ticket) (name : ℕ) → ltb name names ≡ model.may_follow (mark name) (standing k)
mark-named k name = by-test (ltb name names) (λ e. rw e) (λ e. rw e)

pub back-set : (k : Ticket) (name : ℕ) {b : Bool} → b ≡ any (has_name name) (marks_in k.marks) → b ≡ model.may_follow (back name) (standing k)
back-set k name e = e ∙ sym (named-any name (marks_in k.marks))

-- the mark's place is not the first of none
pub place_found : (name r : ℕ) (m : Marks) → latest r m.items ≡ up_to (has_name name) (marks_in m) → any (has_name name) (marks_in m) ≡ true → 1 ≤ r
place_found name r m e f = ltb-true 0 r (set-by name r m e ∙ f)

-- so there is one
pub place-there : (r : Option ℕ) → 1 ≤ count_to r → IsSome r
place-there None h = absurd (omega arith)
place-there (Some i) h = search rules

-- a command that is one of the five
pub follow-by : (j : model.Ticket) (a b : Action) {r : Bool} → a ≡ b → r ≡ model.may_follow (action_is b) j → r ≡ model.may_follow (action_is a) j
follow-by j a b e f = rw e f

-- nothing but a start may follow on a new ticket
pub mark-not : (name : ℕ) → false ≡ model.may_follow (mark name) model.new_ticket
mark-not name = by-test (ltb name names) (λ e. rw e) (λ e. rw e)

pub back-not : (name : ℕ) → false ≡ model.may_follow (back name) model.new_ticket
unfolding any
back-not name = refl

pub begin-start : (a : Action) → model.may_follow (action_is a) model.new_ticket ≡ true → a ≡ A.Start
begin-start A.Start e = refl
begin-start A.Hold e = clash false e refl
begin-start A.Resume e = clash false e refl
begin-start (A.Mark n) e = clash (model.may_follow (mark n) model.new_ticket) e (sym (mark-not n))
begin-start (A.Back n) e = clash (model.may_follow (back n) model.new_ticket) e (sym (back-not n))

-- ---- a ticket that was started

pub begun-is : (k : Ticket) → Begun k → ticket_is k ≡ some (standing k)
unfolding ticket_is
begun-is k b = rw (b.not_new, b.sound)

-- what is no ticket, and a new one
pub not-new : (state : State) → (state ≡ New → ⊥) → is_new state ≡ false
not-new New n = absurd (n refl)
not-new Running n = refl
not-new Held n = refl
not-new (Other m) n = refl

pub no-ticket : (k : Ticket) → (k.state ≡ New → ⊥) → is_sound k ≡ false → ticket_is k ≡ none
unfolding ticket_is
no-ticket k n e = rw (not-new k.state n, e)

pub no-state : (k : Ticket) → is_state k.state ≡ false → ticket_is k ≡ none
no-state k e = no-ticket k (λ q. clash (is_state k.state) (ap is_state q) e) (sym (sound-state k e))

pub new_is : (k : Ticket) → k.state ≡ New → ticket_is k ≡ some model.new_ticket
unfolding ticket_is
new_is k e = rw e
