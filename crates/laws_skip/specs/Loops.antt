-- The skipping walks turn by turn, as a loop takes them: the number of turns left follows from the place, and a run of windows that may all be
-- skipped is one step.
use Rattle.std.specs.Prelude.{◌≡◌, Bool, false, ◌&&◌, List}
use Rattle.std.proofs.Math.Path.{refl}
use Rattle.std.proofs.Common.{◌∙◌, ap, zero-mul, suc-mul}
use Rattle.std.proofs.Math.Bool.{true}
use Rattle.std.proofs.Math.Option.{Option, none, some}
use Prim.Native.Nat.{ℕ, zero, suc, ◌+◌, ◌*◌, ◌-◌, ◌≤◌, ◌<◌, min}
use native.Mathlib.Omega.{arith}
use Rattle.std.proofs.Math.Decide.{dec_le}
use Rattle.std.proofs.Math.Dec.{ltb, eqb}
use borrow.Author.Tests.{lt-ltb, eq-eqb, ne_eqb}
use Rattle.model.specs.Basic.{given}
use Rattle.model.specs.Instant.{week}
use Rattle.model.specs.Answer.{Answer, gives, refuses}
use Rattle.model.specs.Blocks.{Block, total}
use Rattle.model.specs.Walk.{begun, found, gap, left, search_blocks}
use Rattle.laws_skip.specs.Skips.{Previous, fresh, known, keep, may_skip, stops, goes, resolved, turn, Counted, counted, skip_from, skip_search, Summed, summed, may_reuse, skip_time}

-- ---- between

-- from lo to b
unfoldable pub time_rest : (ℕ → ℕ → List Block) → (ℕ → Bool) → ℕ → ℕ → Option ℕ → Summed
time_rest work rep lo b prev = skip_time (begun (b - lo)) work rep lo b prev

-- with what was summed before it
abbrev pub plus : ℕ → ℕ → Summed → Summed
plus t c r = summed (t + r.time) (c + r.count)

plus_none : (r : Summed) → r ≡ plus 0 0 r
plus_none r = let p : r.time ≡ 0 + r.time = omega arith in let q : r.count ≡ 0 + r.count = omega arith in λ i. record { time = p i; count = q i }

plus-more : (w x y : ℕ) (r : Summed) → y ≡ x + w → plus w 0 (plus x 0 r) ≡ plus y 0 r
plus-more w x y r e = let p : w + (x + r.time) ≡ y + r.time = omega arith in let q : 0 + (0 + r.count) ≡ 0 + r.count = omega arith in λ i. record { time = p i; count = q i }

-- one window less is begun behind it
pub begun-less : (x y : ℕ) → x < y → begun (y - x) ≡ suc (begun (y - min (x + week) y))
begun-less x y h = go (dec_le (x + week) y)
  where
    go : Dec (x + week ≤ y) → begun (y - x) ≡ suc (begun (y - min (x + week) y))
    go (yes k) = let e : min (x + week) y ≡ x + week = omega arith in rw e (further k)
      where
        further : x + week ≤ y → begun (y - x) ≡ suc (begun (y - (x + week)))
        further k = omega arith
    go (no k) = let e : min (x + week) y ≡ y = omega arith in rw e (omega arith)

module _ (work : ℕ → ℕ → List Block) (rep : ℕ → Bool) where
  pub time-done : (lo b : ℕ) (prev : Option ℕ) → b ≤ lo → time_rest work rep lo b prev ≡ summed 0 0
  unfolding time_rest skip_time
  time-done lo b prev h = let e : begun (b - lo) ≡ 0 = omega arith in rw e

  -- the loop begins
  pub time-start : (a b : ℕ) → time_rest work rep a b none ≡ skip_time (begun (b - a)) work rep a b none
  unfolding time_rest
  time-start a b = refl

  -- a window that is resolved
  pub time-resolves : (lo b : ℕ) (prev : Option ℕ) → lo < b → may_reuse prev (eqb (min (lo + week) b - lo) week && rep lo) ≡ false
      → time_rest work rep lo b prev
      ≡ plus (total (work lo (min (lo + week) b))) 1 (time_rest work rep (min (lo + week) b) b (given (eqb (min (lo + week) b - lo) week) (total (work lo (min (lo + week) b)))))
  unfolding time_rest skip_time
  time-resolves lo b none h e = rw (begun-less lo b h)
  time-resolves lo b (some k) h e = rw (begun-less lo b h, e)

  -- a window that is not: it is whole
  pub time-reuses : (lo b k : ℕ) → lo + week ≤ b → rep lo ≡ true → time_rest work rep lo b (some k) ≡ plus k 0 (time_rest work rep (lo + week) b (some k))
  unfolding time_rest skip_time
  time-reuses lo b k h e =
      let f : min (lo + week) b ≡ lo + week = omega arith in
      let w : eqb (lo + week - lo) week ≡ true = eq-eqb (lo + week - lo) week (omega arith) in
      rw (begun-less lo b (omega arith), f, w, e)

  -- k windows in one step
  pub time-run : (k lo b w : ℕ) → lo + k * week ≤ b → ((i : ℕ) → i < k → rep (lo + i * week) ≡ true)
      → time_rest work rep lo b (some w) ≡ plus (k * w) 0 (time_rest work rep (lo + k * week) b (some w))
  time-run zero lo b w h r = let e : lo + 0 * week ≡ lo = omega arith in rw (e, zero-mul w) (plus_none (time_rest work rep lo b (some w)))
  time-run (suc k) lo b w h r =
      let first : lo + 0 * week ≡ lo = omega arith in
      let last : lo + week + k * week ≡ lo + suc k * week = omega arith in
      time-reuses lo b w (omega arith) (rw first at (r 0 (omega arith)))
      ∙ ap (plus w 0) (rw last at (time-run k (lo + week) b w (omega arith) (λ i j. next i (r (suc i) (omega arith)))))
      ∙ plus-more w (k * w) (suc k * w) (time_rest work rep (lo + suc k * week) b (some w)) (suc-mul k w)
    where
      next : (i : ℕ) → rep (lo + suc i * week) ≡ true → rep (lo + week + i * week) ≡ true
      next i e = let f : lo + suc i * week ≡ lo + week + i * week = omega arith in rw f at e

-- ---- a search

-- from the distance x to the range's end
unfoldable pub search_rest : (ℕ → ℕ → List Block) → (ℕ → Bool) → ℕ → ℕ → ℕ → ℕ → ℕ → Previous → Counted
search_rest look rep limit end x last d prev = skip_from (begun (end - x)) look rep limit end x last d prev

-- with windows resolved before it
abbrev pub counted_more : ℕ → Counted → Counted
counted_more c r = counted r.answer (c + r.count)

more-none : (r : Counted) → counted_more 0 r ≡ r
more-none r = let q : 0 + r.count ≡ r.count = omega arith in λ i. record { answer = r.answer; count = q i }

module _ (look : ℕ → ℕ → List Block) (rep : ℕ → Bool) (limit end : ℕ) where
  pub search-done : (x last d : ℕ) (prev : Previous) → end ≤ x → search_rest look rep limit end x last d prev ≡ counted (refuses 7 0) 0
  unfolding search_rest skip_from
  search-done x last d prev h = let e : begun (end - x) ≡ 0 = omega arith in rw e

  pub search-start : (d : ℕ) → 0 < d → search_rest look rep limit end 0 0 d fresh ≡ skip_search look rep limit end d
  unfolding search_rest skip_search
  search-start d h = let e : end - 0 ≡ end = omega arith in rw (e, ne_eqb d 0 (λ f. omega arith))

  pub search-stops : (x last d : ℕ) (prev : Previous) (a : Answer ℕ) → x < end → turn look rep limit x (min (x + week) end) last d prev ≡ stops a
      → search_rest look rep limit end x last d prev ≡ counted a 1
  unfolding search_rest skip_from
  search-stops x last d prev a h e = rw (begun-less x end h, e, skip_from)

  pub search-goes : (x last d c m e : ℕ) (prev p : Previous) → x < end → turn look rep limit x (min (x + week) end) last d prev ≡ goes c m e p
      → search_rest look rep limit end x last d prev ≡ counted_more c (search_rest look rep limit end (min (x + week) end) m e p)
  unfolding search_rest skip_from
  search-goes x last d c m e prev p h f = rw (begun-less x end h, f, skip_from)

  -- a window that is resolved: what `search_blocks` makes of its blocks
  module _ (x last d : ℕ) (prev : Previous) (h : x < end) (no-skip : may_skip prev d (eqb (min (x + week) end - x) week && rep x) ≡ false) where
    pub search-finds : (z : ℕ) → search_blocks limit (min (x + week) end) last d (look x (min (x + week) end)) ≡ found z → search_rest look rep limit end x last d prev ≡ counted (gives z) 1
    unfolding turn resolved
    search-finds z e = search-stops x last d prev (gives z) h (rw (no-skip, e, resolved))

    pub search-gap : search_blocks limit (min (x + week) end) last d (look x (min (x + week) end)) ≡ gap → search_rest look rep limit end x last d prev ≡ counted (refuses 6 0) 1
    unfolding turn resolved
    search-gap e = search-stops x last d prev (refuses 6 0) h (rw (no-skip, e, resolved))

    pub search-left : (e m : ℕ) → search_blocks limit (min (x + week) end) last d (look x (min (x + week) end)) ≡ left e m
        → search_rest look rep limit end x last d prev
        ≡ counted_more 1 (search_rest look rep limit end (min (x + week) end) m e
        (keep (eqb (min (x + week) end - x) week && ltb 0 (total (look x (min (x + week) end)))) (total (look x (min (x + week) end))) (min (x + week) end - m)))
    unfolding turn resolved
    search-left e m f =
        search-goes x last d 1 m e prev
        (keep (eqb (min (x + week) end - x) week && ltb 0 (total (look x (min (x + week) end)))) (total (look x (min (x + week) end))) (min (x + week) end - m)) h (rw (no-skip, f, resolved))

  -- a window that is not: it is whole, and its time is less than what is left
  pub search-reuses : (x last d k g : ℕ) → x + week ≤ end → rep x ≡ true → k < d
      → search_rest look rep limit end x last d (known k g) ≡ counted_more 0 (search_rest look rep limit end (x + week) (x + week - g) (d - k) (known k g))
  unfolding turn
  search-reuses x last d k g h r m =
      let f : min (x + week) end ≡ x + week = omega arith in
      let w : eqb (x + week - x) week ≡ true = eq-eqb (x + week - x) week (omega arith) in
      let t : turn look rep limit x (min (x + week) end) last d (known k g) ≡ goes 0 (x + week - g) (d - k) (known k g) = rw (f, lt-ltb k d m, w, r) in
      rw f at (search-goes x last d 0 (x + week - g) (d - k) (known k g) (known k g) (omega arith) t)

  -- n windows in one step
  pub search-run : (n x last d k g : ℕ) → g + last ≡ x → x + n * week ≤ end → ((i : ℕ) → i < n → rep (x + i * week) ≡ true) → n * k < d
      → search_rest look rep limit end x last d (known k g) ≡ search_rest look rep limit end (x + n * week) (last + n * week) (d - n * k) (known k g)
  search-run zero x last d k g e h r m =
      let p : x + 0 * week ≡ x = omega arith in
      let q : last + 0 * week ≡ last = omega arith in
      let s : d - 0 ≡ d = omega arith in
      rw (p, q, zero-mul k, s)
  search-run (suc n) x last d k g e h r m =
      let first : x + 0 * week ≡ x = omega arith in
      let a : x + week - g ≡ last + week = omega arith in
      let b : x + week + n * week ≡ x + suc n * week = omega arith in
      let c : last + week + n * week ≡ last + suc n * week = omega arith in
      let t = suc-mul n k in
      let f : d - k - n * k ≡ d - suc n * k = omega arith in
      search-reuses x last d k g (omega arith) (rw first at (r 0 (omega arith))) (omega arith)
      ∙ more-none (search_rest look rep limit end (x + week) (x + week - g) (d - k) (known k g))
      ∙ ap (λ l. search_rest look rep limit end (x + week) l (d - k) (known k g)) a
      ∙ (rw (b, c, f) at (search-run n (x + week) (last + week) (d - k) k g (omega arith) (omega arith) (λ i j. next i (r (suc i) (omega arith))) (omega arith)))
    where
      next : (i : ℕ) → rep (x + suc i * week) ≡ true → rep (x + week + i * week) ≡ true
      next i e = let f : x + suc i * week ≡ x + week + i * week = omega arith in rw f at e
