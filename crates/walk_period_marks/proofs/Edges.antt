-- The ends of a period in the windows of the walk. Assumes nothing.
use Rattle.std.specs.Prelude.{if◌then◌else◌}
use mathlib.Core.Path.{◌≡◌}
use mathlib.Core.Bool.{Bool, true, false}
use Prim.Native.Nat.{ℕ, ◌+◌, ◌-◌, ◌≤◌, min}
use native.Mathlib.Omega.{arith}
use borrow.Author.Tests.{ltb-true, ltb-false}
use lib.Dec.{ltb}
use Rattle.model.specs.Instant.{week, first_instant, last_instant}
use Rattle.laws_base.specs.Test.{by-test}
use Rattle.laws_base.specs.Every.{every_map}
use Rattle.laws_demand3.specs.Windows.{OfRules, off_rules}
use Rattle.laws_marks.specs.Plain.{SteadyIn, SteadyAt, steady-at}
use Rattle.window_marks.proofs.Looked.{start_outside, end-outside, start-steady, end-steady}
use Rattle.model.specs.Blocks.{block}
use Rattle.model.specs.Working.{Schedule}
use Rattle.model.specs.Walk.{Way, on, back, at, reach}
use Rattle.model.specs.Marks.{plain, start_mark_at, end_mark_at, marked_working, marked_ahead, window_of_start, window_of_end, start_of_period, end_of_period}
use Rattle.instant.specs.Instant.{nanos, InRange}
use Rattle.walk_distance.specs.declared.Ends.{Ends}
use Rattle.walk_period_marks.specs.PeriodMarked.{IsBorder, IsSpan, span-on, span-back}
use Rattle.mark.specs.Marks.{mark_number}
use Rattle.window_marks.specs.Whole.{MarksWanted, IsMarks}
use Rattle.window_marks.specs.declared.Border.{Border}
use Rattle.window_marks.specs.declared.Marks.{Marks}
use Rattle.walk_distance.specs.Distances.{way_of, WindowPlaced, placed_on, placed-back}

-- ---- a border and its window

-- what lies between two distances lies between the instants there
border-in : (w : Way) (t x y d u lo hi : ℕ) → WindowPlaced w t x y lo hi → u ≡ at w t d → x ≤ d → d ≤ y → (lo ≤ u) × (u ≤ hi)
border-in on t x y d u lo hi (placed_on p q) v h k = (omega arith, omega arith)
border-in back t x y d u lo hi (placed-back m p q) v h k = (omega arith, omega arith)

-- the blocks of a window that lies from lo to hi
window-is : (w : Way) (s : Schedule) (t x lo hi : ℕ) → WindowPlaced w t x (min (x + week) (reach w t)) lo hi → marked_working s lo hi ≡ marked_ahead w s t x
unfolding marked_ahead
window-is on s t x lo hi (placed_on p q) = rw (p, q)
window-is back s t x lo hi (placed-back m p q) = rw (p, q)

module _ (w : Way) {t x d : ℕ} {r : Border} (e : IsBorder w t x d r) where
  border-within : (nanos r.lo ≤ nanos r.at) × (nanos r.at ≤ nanos r.hi)
  border-within = border-in w t x (min (x + week) (reach w t)) d (nanos r.at) (nanos r.lo) (nanos r.hi) e.placed e.instant e.from e.upto

  start-there : (s : Schedule) {m : ℕ} → m ≡ start_mark_at (nanos r.at) (marked_working s (nanos r.lo) (nanos r.hi)) → m ≡ start_mark_at (at w t d) (marked_ahead w s t x)
  start-there s m = rw (window-is w s t x (nanos r.lo) (nanos r.hi) e.placed, e.instant) at m

  end-there : (s : Schedule) {m : ℕ} → m ≡ end_mark_at (nanos r.at) (marked_working s (nanos r.lo) (nanos r.hi)) → m ≡ end_mark_at (at w t d) (marked_ahead w s t x)
  end-there s m = rw (window-is w s t x (nanos r.lo) (nanos r.hi) e.placed, e.instant) at m

-- ---- the windows of a period's ends

pub start-from : (f : ℕ) → window_of_start f ≤ f
start-from f = omega arith

pub start-upto : (f : ℕ) → f ≤ window_of_start f + week
start-upto f = omega arith

pub end-from : (e : ℕ) → window_of_end e ≤ e
end-from e = omega arith

pub end-upto : (e : ℕ) → e ≤ window_of_end e + week
end-upto e = omega arith

-- ---- the marks of a period

-- going on the nearer border is the start, going back it is the end
module _ (b : Bool) {t x y f e : ℕ} {near far start end : Border} (n : IsBorder (way_of b) t x f near) (m : IsBorder (way_of b) t y e far)
    (p : start ≡ (if b then far else near)) (q : end ≡ (if b then near else far)) where
  pub borders-wanted : f ≤ e → e ≤ reach (way_of b) t → MarksWanted start end
  borders-wanted o k = rw (p, q) (go b n m o k)
    where
      go : (c : Bool) → IsBorder (way_of c) t x f near → IsBorder (way_of c) t y e far → f ≤ e → e ≤ reach (way_of c) t → MarksWanted (if c then far else near) (if c then near else far)
      go true n m o k =
          let i = n.instant in let j = m.instant in
          record { start-window = m.window; end-window = n.window; start-in = m.in-range; end-in = n.in-range; order = omega arith; from = (border-within back m).0; upto = (border-within back n).1 }
      go false n m o k =
          let i = n.instant in let j = m.instant in
          record { start-window = n.window; end-window = m.window; start-in = n.in-range; end-in = m.in-range; order = omega arith; from = (border-within on n).0; upto = (border-within on m).1 }

  pub borders-told : (s : Schedule) (r : Marks) → x ≡ window_of_start f → y ≡ window_of_end e → IsMarks s start end r
      → (mark_number r.start ≡ start_of_period (way_of b) s t (block f e)) × (mark_number r.end ≡ end_of_period (way_of b) s t (block f e))
  borders-told s r u v h = go b n m (rw (p, q) at h)
    where
      go : (c : Bool) → IsBorder (way_of c) t x f near → IsBorder (way_of c) t y e far → IsMarks s (if c then far else near) (if c then near else far) r
          → (mark_number r.start ≡ start_of_period (way_of c) s t (block f e)) × (mark_number r.end ≡ end_of_period (way_of c) s t (block f e))
      go true n m h = (rw v at (start-there back m s h.0), rw u at (end-there back n s h.1))
      go false n m h = (rw u at (start-there on n s h.0), rw v at (end-there on m s h.1))

-- ---- where all zones keep one offset around an end

module _ (s : Schedule) (t x d : ℕ) (low : first_instant ≤ t) (high : t ≤ last_instant) (from : x ≤ d) (upto : d ≤ x + week) where
  pub start-kept : (w : Way) → d ≤ reach w t → OfRules (SteadyAt (at w t d)) s → plain ≡ start_mark_at (at w t d) (marked_ahead w s t x)
  unfolding marked_ahead
  start-kept on n k =
      by-test (ltb (t + d) (t + min (x + week) (reach on t)))
      (λ e. let h = ltb-true (t + d) (t + min (x + week) (reach on t)) e in start-steady s (t + x) (t + min (x + week) (reach on t)) (t + d) (omega arith) (omega arith) k (omega arith) h)
      (λ e. start_outside s (t + x) (t + min (x + week) (reach on t)) (t + d) (ltb-false (t + d) (t + min (x + week) (reach on t)) e))
  start-kept back n k =
      by-test (ltb (t - d) (t - x))
      (λ e. let h = ltb-true (t - d) (t - x) e in start-steady s (t - min (x + week) (reach back t)) (t - x) (t - d) (omega arith) (omega arith) k (omega arith) h)
      (λ e. start_outside s (t - min (x + week) (reach back t)) (t - x) (t - d) (ltb-false (t - d) (t - x) e))

  pub end_kept : (w : Way) → d ≤ reach w t → OfRules (SteadyAt (at w t d)) s → plain ≡ end_mark_at (at w t d) (marked_ahead w s t x)
  unfolding marked_ahead
  end_kept on n k =
      by-test (ltb (t + x) (t + d))
      (λ e. let h = ltb-true (t + x) (t + d) e in end-steady s (t + x) (t + min (x + week) (reach on t)) (t + d) (omega arith) (omega arith) k h (omega arith))
      (λ e. end-outside s (t + x) (t + min (x + week) (reach on t)) (t + d) (ltb-false (t + x) (t + d) e))
  end_kept back n k =
      by-test (ltb (t - min (x + week) (reach back t)) (t - d))
      (λ e. let h = ltb-true (t - min (x + week) (reach back t)) (t - d) e in end-steady s (t - min (x + week) (reach back t)) (t - x) (t - d) (omega arith) (omega arith) k h (omega arith))
      (λ e. end-outside s (t - min (x + week) (reach back t)) (t - x) (t - d) (ltb-false (t - min (x + week) (reach back t)) (t - d) e))

-- the same around both ends of a span, and at an instant of it
steady-inside : (s : Schedule) (a b u : ℕ) → a ≤ u → u ≤ b → OfRules (SteadyIn a b) s → OfRules (SteadyAt u) s
steady-inside s a b u h k o = (every_map (SteadyIn a b) (SteadyAt u) (steady-at a b u h k) s.work o.0, every_map (SteadyIn a b) (SteadyAt u) (steady-at a b u h k) (off_rules s) o.1)

module _ (s : Schedule) (t f e : ℕ) (low : first_instant ≤ t) (high : t ≤ last_instant) (order : f ≤ e) where
  pub plain-on : e ≤ reach on t → OfRules (SteadyIn (t + f) (t + e)) s → (plain ≡ start_of_period on s t (block f e)) × (plain ≡ end_of_period on s t (block f e))
  plain-on n k = (
    start-kept s t (window_of_start f) f low high (start-from f) (start-upto f) on (omega arith) (steady-inside s (t + f) (t + e) (t + f) (omega arith) (omega arith) k),
    end_kept s t (window_of_end e) e low high (end-from e) (end-upto e) on n (steady-inside s (t + f) (t + e) (t + e) (omega arith) (omega arith) k),
  )

  pub plain_back : e ≤ reach back t → OfRules (SteadyIn (t - e) (t - f)) s → (plain ≡ start_of_period back s t (block f e)) × (plain ≡ end_of_period back s t (block f e))
  plain_back n k = (
    start-kept s t (window_of_end e) e low high (end-from e) (end-upto e) back n (steady-inside s (t - e) (t - f) (t - e) (omega arith) (omega arith) k),
    end_kept s t (window_of_start f) f low high (start-from f) (start-upto f) back (omega arith) (steady-inside s (t - e) (t - f) (t - f) (omega arith) (omega arith) k),
  )

-- going on or back
pub span-plain : (w : Way) (s : Schedule) (t f e : ℕ) → first_instant ≤ t → t ≤ last_instant → f ≤ e → e ≤ reach w t → {r : Ends} → IsSpan w t f e r → OfRules (SteadyIn (nanos r.lo) (nanos r.hi)) s
    → (plain ≡ start_of_period w s t (block f e)) × (plain ≡ end_of_period w s t (block f e))
span-plain on s t f e low high order n (span-on p q i j) k = plain-on s t f e low high order n (rw (p, q) at k)
span-plain back s t f e low high order n (span-back p q i j) k = plain_back s t f e low high order n (rw (p, q) at k)

pub span-range : {w : Way} {t f e : ℕ} {r : Ends} → IsSpan w t f e r → InRange r.lo × InRange r.hi
span-range (span-on p q i j) = (i, j)
span-range (span-back p q i j) = (i, j)
