-- What a search keeps of a window, and how many windows like it may be skipped. Assumes nothing.
use mathlib.Core.Path.{◌≡◌, refl, sym, ◌∙◌, ap}
use mathlib.Core.Bool.{Bool, true, false, ◌&&◌}
use Prim.Native.Nat.{ℕ, ◌+◌, ◌*◌, ◌-◌, ◌/◌, ◌≤◌, ◌<◌, min}
use native.Mathlib.Nat.{mul_assoc, mul-le-mul_right, mul-lt-mul_of_pos_left, div-mul-le_self}
use native.Mathlib.Omega.{arith}
use lib.Dec.{eqb, ltb}
use borrow.Author.Tests.{le-ltb}
use Rattle.model.specs.Instant.{second, week}
use Rattle.model.specs.Working.{Schedule}
use Rattle.model.specs.Walk.{at}
use Rattle.model.specs.Skip.{repeats}
use Rattle.laws_skip.specs.Skips.{keep, may_skip}
use Rattle.std.specs.Prelude.{if◌then◌else◌, Option, Some, None}
use Rattle.instant.specs.Instant.{nanos, Exact}
use Rattle.instant.specs.declared.Instant.{Instant}
use Rattle.walk_skip.specs.Repeating.{beyond, Repeating}
use Rattle.walk_distance.specs.Distances.{way_of}
use Rattle.walk_distance.proofs.WholeWeeks.{part_left, whole-left, some_of}
use Rattle.walk_search.specs.Searches.{Skipped, previous_is, keep_of, KeptExact}

-- ---- what is kept of a window

pub kept-rest : (o : Option Instant) (w : ℕ) (time : Instant) (n idle : ℕ) → o ≡ keep_of w time → nanos time ≡ n → previous_is o idle ≡ keep (eqb w week && ltb 0 n) n idle
kept-rest o w time n idle e f = rw (e, ← f) (go (eqb w week && ltb 0 (nanos time)))
  where
    go : (b : Bool) → previous_is (if b then Some time else None) idle ≡ keep b (nanos time) idle
    go true = refl
    go false = refl

pub kept-exact : (o : Option Instant) (w : ℕ) (time : Instant) → o ≡ keep_of w time → Exact time → KeptExact o
kept-exact o w time e h = rw e (go (eqb w week && ltb 0 (nanos time)))
  where
    go : (b : Bool) → KeptExact (if b then Some time else None)
    go true = h
    go false = tt

-- ---- many windows at once

-- as many windows as the seconds left hold, each taken to be a second longer than it is
pub fits_in : (n ts tn ls ln : ℕ) → n ≡ ls / (ts + 1) → 0 < n → tn < second → n * (ts * second + tn) < ls * second + ln
fits_in n ts tn ls ln e h k =
    let p = div-mul-le_self ls (ts + 1) in
    let q : n * (ts + 1) ≤ ls = rw e p in
    let r = mul-lt-mul_of_pos_left {m = ts * second + tn} {n = (ts + 1) * second} {k = n} (omega arith) h in
    let t = mul_assoc n (ts + 1) second in
    omega arith

-- the border at the distance y further
pub beyond-at : (w : Bool) (t x y : ℕ) → beyond w (at (way_of w) t x) y ≡ at (way_of w) t (x + y)
beyond-at true t x y = omega arith
beyond-at false t x y = omega arith

-- ---- windows that may not be skipped, and those that are

only : (a : Bool) → (a && false) ≡ false
only true = refl
only false = refl

may-not : (k : Option Instant) (idle left : ℕ) {test : Bool} → test ≡ false → may_skip (previous_is k idle) left test ≡ false
may-not None idle left e = refl
may-not (Some t) idle left e = rw e (only (ltb (nanos t) left))

module _ (k : Option Instant) (left : ℕ) (rep : ℕ → Bool) (x end : ℕ) where
  pub skipped-fresh : k ≡ None → (idle : ℕ) → may_skip (previous_is k idle) left (eqb (min (x + week) end - x) week && rep x) ≡ false
  skipped-fresh e idle = rw e

  pub skipped-full : (t : Instant) → k ≡ Some t → left ≤ nanos t → (idle : ℕ) → may_skip (previous_is k idle) left (eqb (min (x + week) end - x) week && rep x) ≡ false
  skipped-full t e h idle = rw (e, le-ltb (nanos t) left h)

  module _ {n : ℕ} (e : n ≡ (end - x) / week) where
    pub skipped-part : n ≡ 0 → (idle : ℕ) → may_skip (previous_is k idle) left (eqb (min (x + week) end - x) week && rep x) ≡ false
    skipped-part z idle = may-not k idle left (rw (part_left x end n e z))

    module _ (z : n ≡ 0 → ⊥) {f : ℕ} (y : f ≡ 0 → ⊥) {m p r : ℕ} (ep : p ≡ min f n) (er : r ≡ min p m) where
      pub skipped-none : (m ≡ 0 → rep x ≡ false) → r ≡ 0 → (idle : ℕ) → may_skip (previous_is k idle) left (eqb (min (x + week) end - x) week && rep x) ≡ false
      skipped-none fails q idle = may-not k idle left (none (fails (zero_left (some_of f y) (some_of n z) q)))
        where
          none : rep x ≡ false → (eqb (min (x + week) end - x) week && rep x) ≡ false
          none q = rw q (only (eqb (min (x + week) end - x) week))

          zero_left : 0 < f → 0 < n → r ≡ 0 → m ≡ 0
          zero_left i j q = omega arith

      pub skipped-run : x ≤ end → (t : Instant) → (0 < f → f * nanos t < left) → ((i : ℕ) → i < m → rep (x + i * week) ≡ true) → (r ≡ 0 → ⊥) → Skipped left rep x end (record { count = r; time = t })
      skipped-run h t less each w = record {
        some = some_of r w;
        less = fewer f r (nanos t) (omega arith) (less (some_of f y));
        each = λ i q. each i (omega arith);
        inside = whole-left x end n r h e (omega arith);
      }
        where
          fewer : (f r t : ℕ) → r ≤ f → f * t < left → r * t < left
          fewer f r t a b = let q = mul-le-mul_right t a in omega arith

-- the borders from an instant on, as distances
pub skipped-from : (s : Schedule) (w : Bool) (t x p : ℕ) {m : ℕ} → p ≡ at (way_of w) t x → Repeating w s p m
    → (m ≡ 0 → repeats s (at (way_of w) t x) ≡ false) × ((i : ℕ) → i < m → repeats s (at (way_of w) t (x + i * week)) ≡ true)
skipped-from s w t x p e c =
    (λ z. sym (ap (repeats s) e) ∙ c.none z, λ i q. sym (ap (repeats s) (ap (λ v. beyond w v (i * week)) e ∙ beyond-at w t x (i * week))) ∙ c.each i q)
