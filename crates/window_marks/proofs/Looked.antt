-- The mark of a start or an end, from what work and what breaks with holidays show around it. Assumes nothing.
use Rattle.std.specs.Prelude.{if◌then◌else◌}
use mathlib.Core.Path.{◌≡◌, refl, sym, ◌∙◌, ap, ap₂}
use mathlib.Core.List.{List, [], ◌∷◌, ◌++◌, append_assoc}
use Prim.Native.Nat.{ℕ, ◌≤◌, ◌<◌}
use native.Mathlib.Omega.{arith}
use lib.Dec.{ltb}
use borrow.Author.Tests.{ltb-true, ltb-false, le-ltb, ne_eqb}
use Rattle.model.specs.Basic.{joined}
use Rattle.model.specs.Instant.{first_instant, last_instant}
use Rattle.model.specs.Marks.{Edge, MarkedBlock, plain, put_marked, not_before, not_behind, windowed, whole_of, whole_of_all, marked_working, start_mark_at, end_mark_at}
use Rattle.model.specs.Working.{Rule, Schedule}
use Rattle.laws_base.specs.Test.{by-test}
use Rattle.instant.specs.declared.Instant.{Instant}
use Rattle.instant.specs.Instant.{nanos}
use Rattle.block_marked.specs.Marked.{marked_list, SidesOf}
use Rattle.block_marked.specs.declared.MarkedBlocks.{MarkedBlocks}
use Rattle.block_marked.specs.declared.Sides.{Sides}
use Rattle.window_dates.specs.Windows.{Window}
use Rattle.window_marks.specs.Whole.{NearBlocks, SameWindow, BordersAsked, RuleSides, MarksWanted}
use Rattle.window_marks.specs.declared.Border.{Border}
use Rattle.laws_demand3.specs.Windows.{off_rules, OfRules}
use Rattle.laws_marks.specs.Around.{Around, around_of, start_by, end_by}
use Rattle.laws_marks.specs.AroundLaws.{both_around, around-lists}
use Rattle.laws_marks.specs.Ends.{start-mark, end_mark_lem}
use Rattle.laws_marks.specs.Plain.{SteadyAt, start_plain, end-plain}
use Rattle.laws_marks.specs.Forget.{not-before-at, not-behind-at}

-- a window of seven days is one of at most fourteen
longer : {lo hi : Instant} → Window 7 lo hi → Window 14 lo hi
longer w = let s = w.short in record { low = w.low; high = w.high; order = w.order; short = omega arith }

pub asked : {a b : Border} → MarksWanted a b → BordersAsked a b
asked m = record { start-window = longer m.start-window; end-window = longer m.end-window; start-in = m.start-in; end-in = m.end-in; order = m.order }

-- ---- two ends

-- equal numbers
pub same_ends : (a b : Border) → a.lo.sec ≡ b.lo.sec → a.lo.ns ≡ b.lo.ns → a.hi.sec ≡ b.hi.sec → a.hi.ns ≡ b.hi.ns → SameWindow a b
same_ends a b p q r s = (omega arith, omega arith)

-- one list for both
pub one_list : (r : Rule) (a b : Border) (l : MarkedBlocks) (x : Sides) → nanos a.at ≤ nanos b.at → SameWindow a b → NearBlocks r a.lo a.hi a.at b.at l
    → SidesOf (nanos a.at) (nanos b.at) (marked_list l) x → RuleSides r a b x
one_list r a b l x o w n s = (
  s.0 ∙ n.same (nanos a.at) (omega arith) o,
  s.1 ∙ n.same (nanos b.at) o (omega arith) ∙ ap₂ (λ (lo hi : ℕ). around_of (nanos b.at) (whole_of lo hi r)) w.0 w.1,
)

-- a list for each
pub own-list : (r : Rule) (a : Border) (l : MarkedBlocks) {x : Around} → NearBlocks r a.lo a.hi a.at a.at l → x ≡ around_of (nanos a.at) (marked_list l)
    → x ≡ around_of (nanos a.at) (whole_of (nanos a.lo) (nanos a.hi) r)
own-list r a l n e = e ∙ n.same (nanos a.at) (omega arith) (omega arith)

-- ---- outside the window

put-start : (s e : Edge) (l : List MarkedBlock) (u : ℕ) → (s.at < e.at → s.at < u) → start_mark_at u l ≡ plain → start_mark_at u (put_marked s e l) ≡ plain
unfolding start_mark_at
put-start s e l u h k = by-test (ltb s.at e.at) (λ t. rw (t, ne_eqb s.at u (λ q. omega (arith, q, h (ltb-true s.at e.at t)))) k) (λ t. rw t k)

put-end : (s e : Edge) (l : List MarkedBlock) (u : ℕ) → (s.at < e.at → u < e.at) → end_mark_at u l ≡ plain → end_mark_at u (put_marked s e l) ≡ plain
unfolding end_mark_at
put-end s e l u h k = by-test (ltb s.at e.at) (λ t. rw (t, ne_eqb e.at u (λ q. omega (arith, q, h (ltb-true s.at e.at t)))) k) (λ t. rw t k)

-- no block of a window starts at the window's end or behind it
starts-before : (lo hi u : ℕ) → hi ≤ u → (l : List MarkedBlock) → start_mark_at u (windowed lo hi l) ≡ plain
unfolding windowed start_mark_at
starts-before lo hi u h [] = refl
starts-before lo hi u h (b ∷ l) =
    put-start (not_before lo b.start) (not_behind hi b.end) (windowed lo hi l) u (λ k. omega (arith, not-behind-at hi b.end)) (starts-before lo hi u h l)

-- nor does one end at its start or before it
ends-behind : (lo hi u : ℕ) → u ≤ lo → (l : List MarkedBlock) → end_mark_at u (windowed lo hi l) ≡ plain
unfolding windowed end_mark_at
ends-behind lo hi u h [] = refl
ends-behind lo hi u h (b ∷ l) =
    put-end (not_before lo b.start) (not_behind hi b.end) (windowed lo hi l) u (λ k. omega (arith, not-before-at lo b.start)) (ends-behind lo hi u h l)

module _ (s : Schedule) (lo hi u : ℕ) where
  pub start_outside : hi ≤ u → plain ≡ start_mark_at u (marked_working s lo hi)
  unfolding marked_working
  start_outside h = sym (starts-before lo hi u h _)

  pub end-outside : u ≤ lo → plain ≡ end_mark_at u (marked_working s lo hi)
  unfolding marked_working
  end-outside h = sym (ends-behind lo hi u h _)

  -- ---- inside

  module _ {r : ℕ} {w o : Around} (p : w ≡ around_of u (whole_of_all lo hi s.work)) (q : o ≡ around_of u (whole_of_all lo hi (off_rules s))) where
    pub start-told : lo ≤ u → r ≡ (if ltb u lo then plain else if ltb u hi then start_by w o else plain) → r ≡ start_mark_at u (marked_working s lo hi)
    start-told a e =
        by-test (ltb u hi)
        (λ t. let f : r ≡ start_by w o = rw (le-ltb u lo a, t) at e in f ∙ ap₂ start_by p q ∙ sym (start-mark s lo hi u a (ltb-true u hi t)))
        (λ t. let f : r ≡ plain = rw (le-ltb u lo a, t) at e in f ∙ start_outside (ltb-false u hi t))

    pub end-told : u ≤ hi → r ≡ (if ltb hi u then plain else if ltb lo u then end_by w o else plain) → r ≡ end_mark_at u (marked_working s lo hi)
    end-told b e =
        by-test (ltb lo u)
        (λ t. let f : r ≡ end_by w o = rw (le-ltb hi u b, t) at e in f ∙ ap₂ end_by p q ∙ sym (end_mark_lem s lo hi u (ltb-true lo u t) b))
        (λ t. let f : r ≡ plain = rw (le-ltb hi u b, t) at e in f ∙ end-outside (ltb-false lo u t))

  -- where all zones keep one offset
  module _ (from : first_instant ≤ lo) (to : hi ≤ last_instant) (k : OfRules (SteadyAt u) s) where
    pub start-steady : lo ≤ u → u < hi → plain ≡ start_mark_at u (marked_working s lo hi)
    start-steady a b = sym (start-mark s lo hi u a b ∙ start_plain u lo hi from to s.work (off_rules s) k.0 k.1)

    pub end-steady : lo < u → u ≤ hi → plain ≡ end_mark_at u (marked_working s lo hi)
    end-steady a b = sym (end_mark_lem s lo hi u a b ∙ end-plain u lo hi from to s.work (off_rules s) k.0 k.1)

-- ---- breaks and holidays together

whole-both : (lo hi : ℕ) (a b : List Rule) → whole_of_all lo hi (a ++ b) ≡ whole_of_all lo hi a ++ whole_of_all lo hi b
unfolding whole_of_all joined
whole-both lo hi [] b = refl
whole-both lo hi (r ∷ a) b = ap (λ (l : List MarkedBlock). whole_of lo hi r ++ l) (whole-both lo hi a b) ∙ sym (append_assoc (whole_of lo hi r) (whole_of_all lo hi a) (whole_of_all lo hi b))

pub off-shown : (lo hi u : ℕ) (a b : List Rule) {r x y : Around} → r ≡ both_around x y → x ≡ around_of u (whole_of_all lo hi a) → y ≡ around_of u (whole_of_all lo hi b)
    → r ≡ around_of u (whole_of_all lo hi (a ++ b))
off-shown lo hi u a b e p q =
    e ∙ ap₂ both_around p q ∙ sym (around-lists u (whole_of_all lo hi a) (whole_of_all lo hi b)) ∙ ap (around_of u) (sym (whole-both lo hi a b))
