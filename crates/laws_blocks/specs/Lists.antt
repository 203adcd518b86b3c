-- What a list of blocks says of a test W on numbers. One relation stands for sorted, disjoint, not empty and member: `Lists W lo hi l`.
use Rattle.std.specs.Prelude.{◌≡◌, Bool, true, false, List, [], ◌∷◌, ℕ, zero, suc, ◌+◌, ◌-◌, ◌≤◌, ◌<◌}
use Rattle.std.proofs.Common.{add-zero, add-suc, arith}
use Rattle.model.specs.Blocks.{Block}
use Rattle.laws_blocks.specs.Count.{span, span-add, span-self, span-one}

module _ (W : ℕ → Bool) where
  abbrev pub Empty : ℕ → ℕ → Type 0
  Empty a b = (u : ℕ) → a ≤ u → u < b → W u ≡ false

  abbrev pub Full : ℕ → ℕ → Type 0
  Full a b = (u : ℕ) → a ≤ u → u < b → W u ≡ true

  -- l lists the part of [lo, hi) where W holds: W fails up to the first block, holds in it, and the rest lists what is behind it
  pub data Lists : ℕ → ℕ → List Block → Type 0 where
    none : {lo hi : ℕ} → lo ≤ hi → Empty lo hi → Lists lo hi []
    next : {lo hi : ℕ} {l : List Block} (s e : ℕ) → lo ≤ s → s < e → e ≤ hi → Empty lo s → Full s e → Lists e hi l → Lists lo hi (record { start = s; end = e } ∷ l)

  -- the same with the window written out
  pub idle-lists : (lo hi : ℕ) → lo ≤ hi → Empty lo hi → Lists lo hi []
  idle-lists lo hi h e = none h e

  pub next-lists : (lo hi s e : ℕ) {l : List Block} → lo ≤ s → s < e → e ≤ hi → Empty lo s → Full s e → Lists e hi l → Lists lo hi (record { start = s; end = e } ∷ l)
  next-lists lo hi s e a b c i f r = next s e a b c i f r

  span-empty : (a n : ℕ) → Empty a (a + n) → span W a (a + n) ≡ 0
  span-empty a zero h = rw add-zero (span-self W a)
  span-empty a (suc n) h =
      rw (span-add W a (a + n) (a + suc n) (omega arith) (omega arith), span-empty a n (λ u p q. h u p (omega arith)), add-suc, span-one W (a + n), h (a + n) (omega arith) (omega arith))

  span-full : (a n : ℕ) → Full a (a + n) → span W a (a + n) ≡ n
  span-full a zero h = rw add-zero (span-self W a)
  span-full a (suc n) h =
      rw (span-add W a (a + n) (a + suc n) (omega arith) (omega arith), span-full a n (λ u p q. h u p (omega arith)), add-suc, span-one W (a + n), h (a + n) (omega arith) (omega arith)) (omega arith)

  pub empty-span : (a b : ℕ) → a ≤ b → Empty a b → span W a b ≡ 0
  empty-span a b k h = let e : a + (b - a) ≡ b = omega arith in
      rw e at (span-empty a (b - a) (rw e h))

  pub full-span : (a b : ℕ) → a ≤ b → Full a b → span W a b ≡ b - a
  full-span a b k h = let e : a + (b - a) ≡ b = omega arith in
      rw e at (span-full a (b - a) (rw e h))

-- the borders of a list's first block
abbrev pub first_start : List Block → ℕ
first_start [] = 0
first_start (b ∷ l) = b.start

abbrev pub first_end : List Block → ℕ
first_end [] = 0
first_end (b ∷ l) = b.end
