-- The search through the blocks of a window: the nearest block, those behind it, and the same from the search's instant. Assumes nothing.
use Rattle.std.specs.Prelude.{Option, Some, None}
use mathlib.Core.Path.{◌≡◌, refl, sym, ◌∙◌, ap}
use mathlib.Core.Bool.{Bool, true, false, not}
use mathlib.Core.List.{List, [], ◌∷◌}
use Prim.Native.Nat.{ℕ, ◌+◌, ◌*◌, ◌-◌, ◌≤◌, ◌<◌}
use native.Mathlib.Omega.{arith}
use lib.Dec.{ltb, eqb}
use borrow.Author.Tests.{not-true, not-false, eq-eqb, ne_eqb, eqb-true, eqb-false}
use Rattle.laws_base.specs.Test.{by-test}
use Rattle.laws_blocks.specs.Move.{moves}
use Rattle.model.specs.Blocks.{Block, block}
use Rattle.model.specs.Walk.{Way, PeriodSoFar, nothing, growing, ended, too_far, period_in}
use Rattle.block_pairs.specs.Pairs.{pairs}
use Rattle.instant.specs.Instant.{nanos}
use Rattle.walk_distance.specs.Distances.{seen, rest}
use Rattle.walk_distance.proofs.Blocks.{rest-none, rest_all}
use Rattle.walk_period_week.specs.SoFars.{so_far, is_stopped, start_with}
use Rattle.walk_period_week.specs.declared.Period.{Period}

-- ---- those behind the nearest

module _ (e : ℕ) (k : List Block) (whole : PeriodSoFar) (m : period_in 0 (growing 0 e) k ≡ whole) where
  module _ (from to : ℕ) (tail : List Block) (q : k ≡ block from to ∷ tail) where
    pub tail-closed : (from ≡ e → ⊥) → ended 0 e ≡ whole
    unfolding period_in
    tail-closed h = rw (q, ne_eqb from e h) at m

    pub tail-on : from ≡ e → period_in 0 (growing 0 to) tail ≡ whole
    unfolding period_in
    tail-on h = rw (q, eq-eqb from e h) at m

  pub tail-open : k ≡ [] → growing 0 e ≡ whole
  unfolding period_in
  tail-open q = rw q at m

-- ---- from the search's instant

eqb-moved : (c a b : ℕ) → eqb (a + c) (b + c) ≡ eqb a b
eqb-moved c a b =
    by-test (eqb a b)
    (λ p. let h = eqb-true a b p in eq-eqb (a + c) (b + c) (omega arith) ∙ sym p)
    (λ p. let h = eqb-false a b p in ne_eqb (a + c) (b + c) (λ f. h (omega arith)) ∙ sym p)

-- what is known by distances from the window's border, by those from the instant, and with the period's start
abbrev pub carried : ℕ → ℕ → PeriodSoFar → PeriodSoFar
carried c f nothing = nothing
carried c f (growing g e) = growing f (e + c)
carried c f (ended g e) = ended f (e + c)
carried c f too_far = too_far

period-in-moved : (c limit f e : ℕ) (l : List Block) → period_in limit (growing f (e + c)) (moves c l) ≡ carried c f (period_in 0 (growing 0 e) l)
unfolding period_in moves
period-in-moved c limit f e [] = refl
period-in-moved c limit f e (b ∷ l) =
    by-test (eqb b.start e)
    (λ p. rw (p, eqb-moved c b.start e ∙ p) (period-in-moved c limit f b.end l))
    (λ p. rw (p, eqb-moved c b.start e ∙ p))

module _ (v : Way) (w n : ℕ) (l : List ℕ) (limit c : ℕ) (known : Option Period) where
  -- a window without a block
  window-none : n ≡ 0 → so_far known ≡ period_in limit (so_far known) (moves c (seen v w (pairs n l)))
  unfolding period_in moves
  window-none h = let q : seen v w (pairs n l) ≡ [] = rest_all v w n l ∙ rest-none v w n 0 l (omega arith) in rw q (go known)
    where
      go : (k : Option Period) → so_far k ≡ period_in limit (so_far k) []
      go (Some p) = refl
      go None = refl

  pub window-grows : n ≡ 0 → (p : Period) → known ≡ Some p → growing (nanos p.near) (nanos p.far) ≡ period_in limit (so_far known) (moves c (seen v w (pairs n l)))
  window-grows h p x = rw x (rw x at (window-none h))

  pub window-nothing : n ≡ 0 → known ≡ None → nothing ≡ period_in limit (so_far known) (moves c (seen v w (pairs n l)))
  window-nothing h x = rw x (rw x at (window-none h))

  module _ (from to : ℕ) (q : rest v w n 0 l ≡ block from to ∷ rest v w n 1 l) (a : ℕ) (u : a ≡ from + c) {test : Bool} (t : test ≡ is_stopped limit known a) where
    whole : period_in limit (so_far known) (block a (to + c) ∷ moves c (rest v w n 1 l)) ≡ period_in limit (so_far known) (moves c (seen v w (pairs n l)))
    unfolding moves
    whole = rw (rest_all v w n l, q, u)

    -- a nearest block that does not touch the period
    pub window-ended : test ≡ true → (p : Period) → known ≡ Some p → ended (nanos p.near) (nanos p.far) ≡ period_in limit (so_far known) (moves c (seen v w (pairs n l)))
    unfolding period_in
    window-ended x p y = let z : not (eqb a (nanos p.far)) ≡ true = rw y at (sym t ∙ x) in rw y (rw (not-true (eqb a (nanos p.far)) z) at (rw y at whole))

    -- one beyond the limit
    pub window-far : test ≡ true → known ≡ None → too_far ≡ period_in limit (so_far known) (moves c (seen v w (pairs n l)))
    unfolding period_in
    window-far x y = let z : ltb limit a ≡ true = rw y at (sym t ∙ x) in rw y (rw z at (rw y at whole))

    module _ (x : test ≡ false) (start : ℕ) (y : start ≡ start_with known a) where
      -- one that is the first, or touches the period
      window_on : carried c start (period_in 0 (growing 0 to) (rest v w n 1 l)) ≡ period_in limit (so_far known) (moves c (seen v w (pairs n l)))
      unfolding period_in
      window_on = sym (period-in-moved c limit start to (rest v w n 1 l)) ∙ go known refl
        where
          go : (k : Option Period) → known ≡ k → period_in limit (growing start (to + c)) (moves c (rest v w n 1 l)) ≡ period_in limit (so_far known) (moves c (seen v w (pairs n l)))
          go (Some p) z = let o : not (eqb a (nanos p.far)) ≡ false = rw z at (sym t ∙ x) in let g : start ≡ nanos p.near = rw z at y in rw (z, g) (rw (not-false (eqb a (nanos p.far)) o) at (rw z at whole))
          go None z = let o : ltb limit a ≡ false = rw z at (sym t ∙ x) in let g : start ≡ a = rw z at y in rw (z, g) (rw o at (rw z at whole))

      module _ (d b : ℕ) (g : b ≡ d + c) where
        -- the period may go on in the next window
        pub window-open : growing 0 d ≡ period_in 0 (growing 0 to) (rest v w n 1 l) → growing start b ≡ period_in limit (so_far known) (moves c (seen v w (pairs n l)))
        window-open z = rw g (ap (carried c start) z ∙ window_on)

        -- it has ended
        pub window-closed : ended 0 d ≡ period_in 0 (growing 0 to) (rest v w n 1 l) → ended start b ≡ period_in limit (so_far known) (moves c (seen v w (pairs n l)))
        window-closed z = rw g (ap (carried c start) z ∙ window_on)

-- ---- equal lengths

pub same-seconds : (a x b y : ℕ) → x ≡ y → eqb a b ≡ eqb (a * 1000000000 + x) (b * 1000000000 + y)
same-seconds a x b y e =
    by-test (eqb a b)
    (λ p. let q = eqb-true a b p in p ∙ sym (eq-eqb (a * 1000000000 + x) (b * 1000000000 + y) (omega arith)))
    (λ p. let q = eqb-false a b p in p ∙ sym (ne_eqb (a * 1000000000 + x) (b * 1000000000 + y) (λ f. q (omega arith))))

pub other-nanos : (a x b y : ℕ) → (x ≡ y → ⊥) → x < 1000000000 → y < 1000000000 → false ≡ eqb (a * 1000000000 + x) (b * 1000000000 + y)
other-nanos a x b y e h k = sym (ne_eqb (a * 1000000000 + x) (b * 1000000000 + y) (λ f. e (omega arith)))
