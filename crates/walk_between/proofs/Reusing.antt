-- The windows that have the time of the one before them. Assumes nothing.
use mathlib.Core.Path.{◌≡◌, refl}
use mathlib.Core.Bool.{Bool, true, false, ◌&&◌}
use Prim.Native.Nat.{ℕ, ◌+◌, ◌*◌, ◌-◌, ◌/◌, ◌≤◌, ◌<◌, min}
use native.Mathlib.Omega.{arith}
use lib.Dec.{eqb}
use mathlib.Core.Option.{Option, none, some}
use Rattle.laws_skip.specs.Skips.{may_reuse}
use Rattle.model.specs.Instant.{week}
use Rattle.walk_distance.proofs.WholeWeeks.{part_left, whole-left}
use Rattle.walk_between.specs.Sums.{Reused}

and_no : (b : Bool) → (b && false) ≡ false
and_no true = refl
and_no false = refl

reuse-no : (k : Option ℕ) {test : Bool} → test ≡ false → may_reuse k test ≡ false
reuse-no none e = refl
reuse-no (some t) e = e

module _ (k : Option ℕ) (rep : ℕ → Bool) (x end : ℕ) {n : ℕ} (e : n ≡ (end - x) / week) where
  -- what is left is no whole window
  pub reused-part : n ≡ 0 → may_reuse k (eqb (min (x + week) end - x) week && rep x) ≡ false
  reused-part z = reuse-no k (rw (part_left x end n e z))

  module _ (z : n ≡ 0 → ⊥) {m r : ℕ} (f : r ≡ min n m) where
    -- the first does not repeat the one before it
    pub reused-none : (m ≡ 0 → rep x ≡ false) → r ≡ 0 → may_reuse k (eqb (min (x + week) end - x) week && rep x) ≡ false
    reused-none fails q = reuse-no k (rw (fails (omega (arith, z))) (and_no (eqb (min (x + week) end - x) week)))

    pub reused-run : x ≤ end → ((i : ℕ) → i < m → rep (x + i * week) ≡ true) → (r ≡ 0 → ⊥) → Reused rep x end r
    reused-run h each y = record {
      some = omega (arith, y);
      each = λ i q. each i (omega arith);
      inside = whole-left x end n r h e (omega arith);
    }
