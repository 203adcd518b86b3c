-- Two tests agree where their orders do; and the earlier and the later of two numbers, by a test.
use Prim.Native.Nat.{ℕ, ◌<◌, ◌≤◌, min, max}
use mathlib.Core.Path.{◌≡◌, refl, sym, ◌∙◌}
use mathlib.Core.Bool.{Bool, true, false}
use native.Mathlib.Omega.{arith}
use lib.Dec.{ltb}
use borrow.Author.Tests.{ltb-true, ltb-false, lt-ltb, le-ltb}

pub same-ltb : (a b x y : ℕ) → (a < b → x < y) → (b ≤ a → y ≤ x) → ltb a b ≡ ltb x y
same-ltb a b x y f g = go (ltb a b) refl
  where
    go : (t : Bool) → ltb a b ≡ t → ltb a b ≡ ltb x y
    go true e = e ∙ sym (lt-ltb x y (f (ltb-true a b e)))
    go false e = e ∙ sym (le-ltb x y (g (ltb-false a b e)))

module _ (a b : ℕ) where
  pub second-earlier : ltb b a ≡ true → b ≡ min a b
  second-earlier t = omega (arith, ltb-true b a t)

  pub first-earlier : ltb b a ≡ false → a ≡ min a b
  first-earlier t = omega (arith, ltb-false b a t)

  pub second-later : ltb a b ≡ true → b ≡ max a b
  second-later t = omega (arith, ltb-true a b t)

  pub first-later : ltb a b ≡ false → a ≡ max a b
  first-later t = omega (arith, ltb-false a b t)
