-- Blocks as distances from an instant t, on from it or back from it: they list the test as seen from t, and count what it counts.
use Prim.Native.Nat.{ℕ, zero, suc, ◌+◌, ◌-◌, ◌<◌, ◌≤◌}
use Rattle.std.specs.Prelude.{◌≡◌, Bool, false}
use Rattle.std.proofs.Math.Path.{refl}
use Rattle.std.proofs.Common.{sym}
use mathlib.Core.List.{List, [], ◌∷◌, ◌++◌, reverse-cons, map-append}
use native.Mathlib.Omega.{arith}
use Rattle.std.proofs.Math.Nat.{add-zero, add_assoc}
use Rattle.std.proofs.Math.Decide.{dec_lt}
use Rattle.model.specs.Blocks.{Block, block}
use Rattle.model.specs.Walk.{onward, backward}
use Rattle.laws_blocks.specs.Count.{bit, cnt, span, span-add, span-self, span-one}
use Rattle.laws_blocks.specs.Lists.{Empty, Lists, none, next, idle-lists, next-lists}

-- the test as seen from t, by distance
abbrev pub seen_from : (ℕ → Bool) → ℕ → ℕ → Bool
seen_from W t x = W (t + x)

-- the distance 0 stands for the last instant before t
abbrev pub behind : (ℕ → Bool) → ℕ → ℕ → Bool
behind W t x = W (t - 1 - x)

-- ---- lists put together

module _ (W : ℕ → Bool) where
  -- an idle stretch in front changes nothing
  pub lists-before : (lo mid hi : ℕ) {l : List Block} → lo ≤ mid → Empty W lo mid → Lists W mid hi l → Lists W lo hi l
  lists-before lo mid hi h idle (none k e) = idle-lists W lo hi (omega arith) (λ u a b. go u a b (dec_lt u mid))
    where
      go : (u : ℕ) → lo ≤ u → u < hi → Dec (u < mid) → W u ≡ false
      go u a b (yes y) = idle u a y
      go u a b (no n) = e u (omega arith) b
  lists-before lo mid hi h idle (next s e a b c i f r) = next-lists W lo hi s e (omega arith) b c (λ u p q. go u p q (dec_lt u mid)) f r
    where
      go : (u : ℕ) → lo ≤ u → u < s → Dec (u < mid) → W u ≡ false
      go u p q (yes y) = idle u p y
      go u p q (no n) = i u (omega arith) q

  pub lists-order : (lo hi : ℕ) {l : List Block} → Lists W lo hi l → lo ≤ hi
  lists-order lo hi (none h e) = h
  lists-order lo hi (next s e a b c i f r) = omega arith

  -- lists of adjacent windows, one behind the other
  pub lists-append : (lo mid hi : ℕ) {l k : List Block} → Lists W lo mid l → Lists W mid hi k → Lists W lo hi (l ++ k)
  lists-append lo mid hi (none h e) r = lists-before lo mid hi h e r
  lists-append lo mid hi (next s e a b c i f r) g =
      next-lists W lo hi s e a b (let h : mid ≤ hi = lists-order mid hi g in omega arith) i f (lists-append e mid hi r g)

-- ---- on from t

onward-less : (t lo u : ℕ) → lo - t ≤ u → lo ≤ t + u
onward-less t lo u h = omega arith

onward-more : (t hi u : ℕ) → u < hi - t → t + u < hi
onward-more t hi u h = omega arith

module _ (W : ℕ → Bool) (t : ℕ) where
  pub onward-lists : (lo hi : ℕ) {l : List Block} → t ≤ lo → Lists W lo hi l → Lists (seen_from W t) (lo - t) (hi - t) (onward t l)
  unfolding onward
  onward-lists lo hi h (none k e) = idle-lists (seen_from W t) (lo - t) (hi - t) (omega arith) (λ u a b. e (t + u) (onward-less t lo u a) (onward-more t hi u b))
  onward-lists lo hi h (next s e a b c i f r) =
      next-lists (seen_from W t) (lo - t) (hi - t) (s - t) (e - t) (omega arith) (omega arith) (omega arith)
      (λ u p q. i (t + u) (onward-less t lo u p) (onward-more t s u q))
      (λ u p q. f (t + u) (onward-less t s u p) (onward-more t e u q))
      (onward-lists e hi (omega arith) r)

  cnt-after : (a n : ℕ) → cnt (seen_from W t) a n ≡ cnt W (t + a) n
  unfolding cnt
  cnt-after a zero = refl
  cnt-after a (suc n) = rw (cnt-after a n, add_assoc t a n)

  pub span-after : (a b : ℕ) → span (seen_from W t) a b ≡ span W (t + a) (t + b)
  unfolding span
  span-after a b = let e : (t + b) - (t + a) ≡ b - a = omega arith in rw (e, cnt-after a (b - a))

-- ---- back from t

backward-more : (t s u : ℕ) → u < t - s → s ≤ t - 1 - u
backward-more t s u h = omega arith

backward-less : (t e u : ℕ) → 0 < e → e ≤ t → t - e ≤ u → t - 1 - u < e
backward-less t e u z k h = omega arith

module _ (W : ℕ → Bool) (t : ℕ) where
  backward-cons : (s e : ℕ) (l : List Block) → backward t (block s e ∷ l) ≡ backward t l ++ (block (t - e) (t - s) ∷ [])
  unfolding backward
  backward-cons s e l = rw (reverse-cons, map-append)

  pub backward-lists : (lo hi : ℕ) {l : List Block} → hi ≤ t → Lists W lo hi l → Lists (behind W t) (t - hi) (t - lo) (backward t l)
  unfolding backward
  backward-lists lo hi h (none k e) = idle-lists (behind W t) (t - hi) (t - lo) (omega arith) (λ u a b. e (t - 1 - u) (backward-more t lo u b) (backward-less t hi u (omega arith) h a))
  backward-lists lo hi h (next {l = l} s e a b c i f r) =
      rw (backward-cons s e l)
      (lists-append (behind W t) (t - hi) (t - e) (t - lo) (backward-lists e hi h r)
      (next-lists (behind W t) (t - e) (t - lo) (t - e) (t - s) (omega arith) (omega arith) (omega arith)
      (λ u p q. absurd (omega arith))
      (λ u p q. f (t - 1 - u) (backward-more t s u q) (backward-less t e u (omega arith) (omega arith) p))
      (idle-lists (behind W t) (t - s) (t - lo) (omega arith) (λ u p q. i (t - 1 - u) (backward-more t lo u q) (backward-less t s u (omega arith) (omega arith) p)))))

  cnt-behind : (a n : ℕ) → a + n ≤ t → cnt (behind W t) a n ≡ span W (t - (a + n)) (t - a)
  unfolding cnt
  cnt-behind a zero h = rw add-zero (sym (span-self W (t - a)))
  cnt-behind a (suc n) h =
      let e : suc (t - 1 - (a + n)) ≡ t - (a + n) = omega arith in
      let f : t - (a + suc n) ≡ t - 1 - (a + n) = omega arith in
      let one : span W (t - 1 - (a + n)) (t - (a + n)) ≡ bit (W (t - 1 - (a + n))) = rw e at (span-one W (t - 1 - (a + n))) in
      let two : span W (t - 1 - (a + n)) (t - a) ≡ span W (t - 1 - (a + n)) (t - (a + n)) + span W (t - (a + n)) (t - a) = span-add W (t - 1 - (a + n)) (t - (a + n)) (t - a) (omega arith) (omega arith) in
      rw (f, two, one, cnt-behind a n (omega arith)) (omega arith)

  pub span-behind : (a b : ℕ) → a ≤ b → b ≤ t → span (behind W t) a b ≡ span W (t - b) (t - a)
  unfolding span
  span-behind a b h k = let e : a + (b - a) ≡ b = omega arith in rw e at (cnt-behind a (b - a) (omega arith))
