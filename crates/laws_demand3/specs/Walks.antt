-- What a search along a schedule means, and that its answer is determined by what it means.
-- W is a test on numbers: whether there is work at a distance, or at an instant. Windows are not mentioned in what an answer means.
use Rattle.std.specs.Prelude.{◌≡◌, refl, Bool, true, false, List, ◌⊎◌, leb, ltb}
use Rattle.std.proofs.Math.Path.{ap}
use Rattle.std.proofs.Common.{inl, inr}
use Prim.Native.Nat.{ℕ, zero, suc, ◌+◌, ◌*◌, ◌-◌, ◌≤◌, ◌<◌, min, max}
use native.Mathlib.Omega.{arith}
use Rattle.std.proofs.Math.Decide.{dec_le, dec_lt}
use borrow.Author.Tests.{leb-true, leb-false, ltb-true, ltb-false, ne_eqb}
use Rattle.model.specs.Instant.{week}
use Rattle.model.specs.Answer.{Answer, gives, refuses}
use Rattle.model.specs.Blocks.{Block}
use Rattle.model.specs.Walk.{Step, found, gap, left, search_blocks, search_from, search_in, begun}
use Rattle.laws_base.specs.Test.{by-test, by-either, clash}
use Rattle.laws_blocks.specs.Count.{span, span-add, span-self, span-one}
use Rattle.laws_blocks.specs.Lists.{Lists, none, next, Empty, Full, empty-span, full-span}

module _ (W : ℕ → Bool) (limit : ℕ) where
  -- some number of [q, q + limit] passes
  abbrev pub Busy : ℕ → Type 0
  Busy q = (u : ℕ) × (q ≤ u) × (u ≤ q + limit) × (W u ≡ true)

  -- every stretch of more than the limit inside [t, p) has work
  abbrev pub Crossed : ℕ → ℕ → Type 0
  Crossed t p = (q : ℕ) → t ≤ q → q + limit < p → Busy q

  -- work ends at x
  abbrev pub EndsAt : ℕ → Type 0
  EndsAt x = (u : ℕ) × (suc u ≡ x) × (W u ≡ true)

  -- where the search from t for d stands: all before p is seen, `rest` is still to come, and work last ended at `last`
  pub record Walked (t d p rest last : ℕ) : Type 0 where
    pub from : t ≤ last
    pub upto : last ≤ p
    pub idle : Empty W last p
    pub sum : span W t p + rest ≡ d
    pub some : 0 < rest
    pub crossed : Crossed t last
    pub worked : (last ≡ t) ⊎ EndsAt last

  -- d of work is done from t to x, and at x work ends
  pub record Found (t d x : ℕ) : Type 0 where
    pub after : t < x
    pub sum : span W t x ≡ d
    pub ends : EndsAt x
    pub crossed : Crossed t x

  -- before d is done, there is a stretch without work that is longer than the limit and ends at hi or before
  pub record Stopped (t d hi : ℕ) : Type 0 where
    pub gap : ℕ
    pub from : t ≤ gap
    pub inside : gap + limit < hi
    pub idle : Empty W gap (gap + limit + 1)
    pub short : span W t gap < d

  -- what a window that ends at hi leaves
  pub data Means (t d hi : ℕ) : Step → Type 0 where
    is_found : {x : ℕ} → x ≤ hi → Found t d x → Means t d hi (found x)
    is-gap : Stopped t d hi → Means t d hi gap
    is-left : {rest last : ℕ} → Walked t d hi rest last → hi ≤ last + limit → Means t d hi (left rest last)

  stopped-later : (t d hi end : ℕ) → hi ≤ end → Stopped t d hi → Stopped t d end
  stopped-later t d hi end h s = record { gap = s.gap; from = s.from; inside = (let k = s.inside in omega arith); idle = s.idle; short = s.short }

  -- where [last, s) is idle and no longer than the limit
  crossed-idle : (t last s : ℕ) → last ≤ s → s ≤ last + limit → (last ≡ t) ⊎ EndsAt last → Crossed t last → Crossed t s
  crossed-idle t last s b c w k q h g = go (dec_lt (q + limit) last)
    where
      go : Dec (q + limit < last) → Busy q
      go (yes y) = k q h y
      go (no n) = by-either (λ (e : last ≡ t). absurd (omega arith)) (λ (v : EndsAt last). (v.0, (let z = v.1 in omega arith), (let z = v.1 in omega arith), v.2)) w

  crossed-full : (t s e : ℕ) → s < e → Full W s e → Crossed t s → Crossed t e
  crossed-full t s e h f k q a g = go (dec_lt (q + limit) s)
    where
      go : Dec (q + limit < s) → Busy q
      go (yes y) = k q a y
      go (no n) = (max q s, omega arith, omega arith, f (max q s) (omega arith) (omega arith))

  empty-join : (a b c : ℕ) → Empty W a b → Empty W b c → Empty W a c
  empty-join a b c e f u h k = go (dec_lt u b)
    where
      go : Dec (u < b) → W u ≡ false
      go (yes y) = e u h y
      go (no n) = f u (omega arith) k

  -- a gap behind the last work
  gap-stops : (t d hi rest last : ℕ) → Walked t d hi rest last → limit < hi - last → Stopped t d hi
  gap-stops t d hi rest last w k = record {
    gap = last;
    from = w.from;
    inside = omega arith;
    idle = λ u a b. w.idle u a (omega arith);
    short = let a = w.sum in let b = w.some in let c = w.upto in let e = w.from in let f = span-add W t last hi e c in omega arith;
  }

  -- through the blocks of one window, from p to hi
  search-blocks-means : (t d p hi : ℕ) {l : List Block} → Lists W p hi l → (rest last : ℕ) → Walked t d p rest last → Means t d hi (search_blocks limit hi last rest l)
  unfolding search_blocks
  search-blocks-means t d p hi (none h e) rest last w =
      by-test (ltb limit (hi - last))
      (λ q. rw q (is-gap (gap-stops t d hi rest last on (ltb-true limit (hi - last) q))))
      (λ q. rw q (is-left on (omega (arith, ltb-false limit (hi - last) q))))
    where
      sums : span W t hi + rest ≡ d
      sums = rw (span-add W t p hi (omega arith) h, empty-span W p hi h e) (omega arith)

      on : Walked t d hi rest last
      on = record { from = w.from; upto = omega arith; idle = empty-join last p hi w.idle e; sum = sums; some = w.some; crossed = w.crossed; worked = w.worked }
  search-blocks-means t d p hi (next {l = l} s e ps se eh idle full rest') rest last w =
      by-test (ltb limit (s - last))
      (λ q. rw q (is-gap (stopped-later t d s hi (omega arith) (gap-stops t d s rest last at-s (ltb-true limit (s - last) q)))))
      (λ q. let near : s ≤ last + limit = omega (arith, ltb-false limit (s - last) q) in
      by-test (leb rest (e - s))
      (λ v. rw (q, v) (is_found {x = s + rest} (omega (arith, leb-true rest (e - s) v)) (finds near (leb-true rest (e - s) v))))
      (λ v. rw (q, v) (search-blocks-means t d e hi rest' (rest - (e - s)) e (goes near (leb-false rest (e - s) v)))))
    where
      sums : span W t s + rest ≡ d
      sums = rw (span-add W t p s (omega arith) ps, empty-span W p s ps idle) (omega arith)

      at-s : Walked t d s rest last
      at-s = record { from = w.from; upto = omega arith; idle = empty-join last p s w.idle idle; sum = sums; some = w.some; crossed = w.crossed; worked = w.worked }

      cross-s : s ≤ last + limit → Crossed t s
      cross-s near = crossed-idle t last s (omega arith) near w.worked w.crossed

      tail : (x : ℕ) → s ≤ x → x ≤ e → span W t x ≡ span W t s + (x - s)
      tail x a b = rw (span-add W t s x (omega arith) a, full-span W s x a (λ u g h. full u g (omega arith)))

      finds : s ≤ last + limit → rest ≤ e - s → Found t d (s + rest)
      finds near le = record {
        after = omega arith;
        sum = let b = sums in rw (tail (s + rest) (omega arith) (omega arith)) (omega arith);
        ends = (s + rest - 1, omega arith, full (s + rest - 1) (omega arith) (omega arith));
        crossed = crossed-full t s (s + rest) (omega arith) (λ u g h. full u g (omega arith)) (cross-s near);
      }

      goes : s ≤ last + limit → e - s < rest → Walked t d e (rest - (e - s)) e
      goes near lt = record {
        from = omega arith;
        upto = omega arith;
        idle = λ u g h. absurd (omega arith);
        sum = let b = sums in rw (tail e (omega arith) (omega arith)) (omega arith);
        some = omega arith;
        crossed = crossed-full t s e se full (cross-s near);
        worked = inr (e - 1, omega arith, full (e - 1) (omega arith) (omega arith));
      }

  -- ---- the answers exclude each other

  pub found-once : (t d x y : ℕ) → Found t d x → t ≤ y → span W t y ≡ d → x ≤ y
  found-once t d x y f h g = go (dec_le x y)
    where
      go : Dec (x ≤ y) → x ≤ y
      go (yes k) = k
      go (no n) =
          let v = f.ends in let v1 = v.1 in
          let one : span W v.0 x ≡ 1 = rw (← v.1, span-one W v.0, v.2) in
          let a = span-add W t v.0 x (omega arith) (omega arith) in
          let b = span-add W t y v.0 h (omega arith) in
          absurd (let p = f.sum in omega arith)

  found-same : (t d x y : ℕ) → Found t d x → Found t d y → x ≡ y
  found-same t d x y f g =
      let a = f.after in let b = g.after in
      let p = found-once t d x y f (omega arith) g.sum in
      let q = found-once t d y x g (omega arith) f.sum in
      omega arith

  found-not-stopped : {P : Type 0} (t d x hi : ℕ) → x ≤ hi → Found t d x → Stopped t d hi → P
  found-not-stopped t d x hi h f s = absurd (go (dec_lt (s.gap + limit) x) (dec_le s.gap x))
    where
      go : Dec (s.gap + limit < x) → Dec (s.gap ≤ x) → ⊥
      go (yes y) k = let w = f.crossed s.gap s.from y in let w2 = w.2 in clash (W w.0) w.3 (s.idle w.0 w.1 (omega arith))
      go (no n) (yes y) =
          let a = span-add W t s.gap x s.from y in
          let b = empty-span W s.gap x y (λ u g k. s.idle u g (omega arith)) in
          let c = f.sum in let e = s.short in omega arith
      go (no n) (no k) =
          let o = f.after in
          let a = span-add W t x s.gap (omega arith) (omega arith) in
          let c = f.sum in let e = s.short in omega arith

  crossed-not-stopped : {P : Type 0} (t d hi : ℕ) → Crossed t hi → Stopped t d hi → P
  crossed-not-stopped t d hi c s = let w = c s.gap s.from s.inside in let w2 = w.2 in clash (W w.0) w.3 (s.idle w.0 w.1 (omega arith))

  -- ---- going on from x, where d is done, is going on from t

  crossed-on : (t d x y : ℕ) → Found t d x → Crossed x y → Crossed t y
  crossed-on t d x y f g q a h = go (dec_le x q) (dec_lt (q + limit) x)
    where
      go : Dec (x ≤ q) → Dec (q + limit < x) → Busy q
      go (yes k) m = g q k h
      go (no n) (yes k) = f.crossed q a k
      go (no n) (no m) = let v = f.ends in let z = v.1 in (v.0, omega arith, omega arith, v.2)

  found-on : (t d x e y : ℕ) → Found t d x → Found x e y → Found t (d + e) y
  found-on t d x e y f g = let a = f.after in let b = g.after in record {
    after = omega arith;
    sum = rw (span-add W t x y (omega arith) (omega arith), f.sum, g.sum);
    ends = g.ends;
    crossed = crossed-on t d x y f g.crossed;
  }

  stopped-on : (t d x e hi : ℕ) → Found t d x → Stopped x e hi → Stopped t (d + e) hi
  stopped-on t d x e hi f s = let a = f.after in let b = s.from in record {
    gap = s.gap;
    from = omega arith;
    inside = s.inside;
    idle = s.idle;
    short = let c = s.short in rw (span-add W t x s.gap (omega arith) b, f.sum) (omega arith);
  }

  -- ---- whole searches, in a range that ends at `end`

  module _ (end : ℕ) where
    -- what the answer of searching d > 0 from t means
    pub data Outcome (t d : ℕ) : Answer ℕ → Type 0 where
      met : {x : ℕ} → x ≤ end → Found t d x → Outcome t d (gives x)
      lacks : Stopped t d end → Outcome t d (refuses 6 0)
      over : span W t end < d → Crossed t end → Outcome t d (refuses 7 0)

    found-not-over : {P : Type 0} (t d x : ℕ) → x ≤ end → Found t d x → span W t end < d → P
    found-not-over t d x h f s = absurd (let a = f.after in let b = f.sum in let e = span-add W t x end (omega arith) h in omega arith)

    -- and it determines the answer
    pub outcome-once : (t d : ℕ) {a b : Answer ℕ} → Outcome t d a → Outcome t d b → a ≡ b
    outcome-once t d (met {x = x} h f) (met {x = y} k g) = ap gives (found-same t d x y f g)
    outcome-once t d (met {x = x} h f) (lacks s) = found-not-stopped t d x end h f s
    outcome-once t d (met {x = x} h f) (over s c) = found-not-over t d x h f s
    outcome-once t d (lacks s) (met {x = x} h f) = found-not-stopped t d x end h f s
    outcome-once t d (lacks s) (lacks s') = refl
    outcome-once t d (lacks s) (over k c) = crossed-not-stopped t d end c s
    outcome-once t d (over s c) (met {x = x} h f) = found-not-over t d x h f s
    outcome-once t d (over k c) (lacks s) = crossed-not-stopped t d end c s
    outcome-once t d (over s c) (over s' c') = refl

    pub outcome-on : (t d x e : ℕ) {a : Answer ℕ} → Found t d x → x ≤ end → Outcome x e a → Outcome t (d + e) a
    outcome-on t d x e f h (met {x = y} k g) = met k (found-on t d x e y f g)
    outcome-on t d x e f h (lacks s) = lacks (stopped-on t d x e end f s)
    outcome-on t d x e f h (over s c) = over (let a = f.after in rw (span-add W t x end (omega arith) h, f.sum) (omega arith)) (crossed-on t d x end f c)

    starts : (t d : ℕ) → 0 < d → Walked t d t d t
    starts t d h = record { from = omega arith; upto = omega arith; idle = λ u a b. absurd (omega arith); sum = rw (span-self W t) (omega arith); some = h; crossed = λ q a b. absurd (omega arith); worked = inl refl }

    module _ (look : ℕ → ℕ → List Block) where
      search-means : ((x y : ℕ) → x ≤ y → y ≤ end → Lists W x y (look x y)) → (n t d x rest last : ℕ) → x ≤ end → x ≤ last + limit → end ≤ x + n * week
          → Walked t d x rest last → Outcome t d (search_from n look limit end x last rest)
      unfolding search_from
      search-means lists zero t d x rest last b c e w =
          let f : end ≡ x = omega arith in
          over (let p = w.sum in let q = w.some in rw f (omega arith)) (rw f (crossed-idle t last x w.upto (omega arith) w.worked w.crossed))
      search-means lists (suc n) t d x rest last b c e w =
          step (min (x + week) end) (omega arith)
          (λ more l k v. search-means lists n t d (min (x + week) end) more l (omega arith) k (omega arith) v)
          (search_blocks limit (min (x + week) end) last rest (look x (min (x + week) end)))
          (search-blocks-means t d x (min (x + week) end) (lists x (min (x + week) end) (omega arith) (omega arith)) rest last w)
        where
          step : (y : ℕ) → y ≤ end → ((more l : ℕ) → y ≤ l + limit → Walked t d y more l → Outcome t d (search_from n look limit end y l more))
              → (s : Step) → Means t d y s
              → Outcome t d (elim s [ found z ↦ gives z | gap ↦ refuses 6 0 | left r l ↦ search_from n look limit end y l r ])
          step y h rec (found z) (is_found k f) = met {x = z} (omega arith) f
          step y h rec gap (is-gap s) = lacks (stopped-later t d y end h s)
          step y h rec (left r l) (is-left v k) = rec r l k v

      -- the answer of a search from the distance 0 means this
      pub search-outcome : ((x y : ℕ) → x ≤ y → y ≤ end → Lists W x y (look x y)) → (d : ℕ) → 0 < d → Outcome 0 d (search_in look limit end d)
      unfolding search_in
      search-outcome lists d h = rw (ne_eqb d 0 (λ e. omega arith), search_in) (search-means lists (begun end) 0 d 0 d 0 (omega arith) (omega arith) (omega arith) (starts 0 d h))

      module _ (z : ℕ) (zs : z ≤ end) (lists : (x y : ℕ) → x < z → x ≤ y → y ≤ x + week → y ≤ end → Lists W x y (look x y)) where
        short-of : (t d p rest last : ℕ) → Found t d z → Walked t d p rest last → p < z
        short-of t d p rest last f w = go (dec_lt p z)
          where
            go : Dec (p < z) → p < z
            go (yes y) = y
            go (no k) = absurd (let g = f.sum in let q = w.sum in let r = w.some in let o = f.after in let s = span-add W t z p (omega arith) (omega arith) in omega arith)

        from-finds : (n t d x rest last : ℕ) → Found t d z → x ≤ end → end ≤ x + n * week → Walked t d x rest last → search_from n look limit end x last rest ≡ gives z
        unfolding search_from
        from-finds zero t d x rest last f b e w = absurd (let m = short-of t d x rest last f w in omega arith)
        from-finds (suc n) t d x rest last f b e w =
            let m = short-of t d x rest last f w in
            step (min (x + week) end) (omega arith)
            (λ more l v. from-finds n t d (min (x + week) end) more l f (omega arith) (omega arith) v)
            (search_blocks limit (min (x + week) end) last rest (look x (min (x + week) end)))
            (search-blocks-means t d x (min (x + week) end) (lists x (min (x + week) end) m (omega arith) (omega arith) (omega arith)) rest last w)
          where
            step : (y : ℕ) → y ≤ end → ((more l : ℕ) → Walked t d y more l → search_from n look limit end y l more ≡ gives z)
                → (s : Step) → Means t d y s
                → (elim s as (λ _. Answer ℕ) [ found v ↦ gives v | gap ↦ refuses 6 0 | left r l ↦ search_from n look limit end y l r ]) ≡ gives z
            step y h rec (found v) (is_found k g) = ap gives (found-same t d v z g f)
            step y h rec gap (is-gap s) = found-not-stopped t d z end zs f (stopped-later t d y end h s)
            step y h rec (left r l) (is-left v k) = rec r l v

        -- where it is known what will be found, the windows up to it matter alone
        pub search-finds : (d : ℕ) → 0 < d → Found 0 d z → search_in look limit end d ≡ gives z
        unfolding search_in
        search-finds d h f = rw (ne_eqb d 0 (λ e. omega arith), search_in) (from-finds (begun end) 0 d 0 d 0 f (omega arith) (omega arith) (starts 0 d h))
