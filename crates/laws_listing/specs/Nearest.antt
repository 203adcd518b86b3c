-- The next period from an instant, for every schedule: it is the first stretch of the listing from that instant to the last one, cut to the search
-- limit, where that stretch begins within the limit; further off, or with no stretch and a range that ends beyond the limit, it is refused with 6;
-- with no stretch up to a range's end within the limit, with 7.
use Rattle.std.specs.Prelude.{◌≡◌, Bool, true, false, ◌||◌, leb, ltb, eqb, if◌then◌else◌}
use Rattle.std.proofs.Math.Path.{refl, sym}
use Rattle.std.proofs.Common.{◌∙◌, ap, arith}
use mathlib.Core.List.{List, [], ◌∷◌, ◌++◌, map-append}
use Prim.Native.Nat.{ℕ, zero, suc, ◌+◌, ◌*◌, ◌-◌, ◌≤◌, ◌<◌, min, max}
use Rattle.std.proofs.Math.Decide.{dec_lt}
use borrow.Author.Tests.{eqb-true, eqb-false, eq-eqb, ne_eqb, ltb-true, ltb-false, lt-ltb, le-ltb, leb-true, le-leb, lt-leb}
use Rattle.model.specs.Answer.{Answer, gives, refuses}
use Rattle.model.specs.Instant.{week, last_instant}
use Rattle.model.specs.Blocks.{Block, block, merged, merged_from}
use Rattle.model.specs.Working.{Schedule, working}
use Rattle.model.specs.Walk.{Way, on, reach, onward, ahead, begun, listed, stretches, PeriodSoFar, nothing, growing, ended, too_far, period_in, period_from, capped, period}
use Rattle.laws_base.specs.Test.{by-test, clash}
use Rattle.laws_blocks.specs.Lists.{Lists, next, first_start, first_end}
use Rattle.laws_blocks.specs.Stretches.{begun-enough}
use Rattle.laws_skip.specs.WindowEnds.{Inside, inside-more, lists-inside}
use Rattle.laws_skip.specs.Schedules.{ahead-inside}
use Rattle.laws_listing.specs.Listing.{listed_at, windows-list}

-- ---- a period that goes on as long as blocks touch

-- where a period that ends at e ends, with the blocks behind it
unfoldable pub grown : ℕ → List Block → ℕ
grown e [] = e
grown e (b ∷ l) = let r = grown b.end l in if eqb b.start e then r else e

-- not before e
grown-more : (lo hi e : ℕ) (l : List Block) → Inside lo hi l → e ≤ grown e l
unfolding grown
grown-more lo hi e [] i = omega arith
grown-more lo hi e (b ∷ l) i =
    by-test (eqb b.start e)
    (λ q. let z = eqb-true b.start e q in let r = grown-more lo hi b.end l i.3 in rw q (omega arith))
    (λ q. rw q (omega arith))

grown-most : (lo hi e : ℕ) (l : List Block) → Inside lo hi l → e ≤ hi → grown e l ≤ hi
unfolding grown
grown-most lo hi e [] i h = h
grown-most lo hi e (b ∷ l) i h = by-test (eqb b.start e) (λ q. rw q (grown-most lo hi b.end l i.3 i.2)) (λ q. rw q h)

-- blocks further on do not touch it
grown-apart : (lo hi e : ℕ) (l : List Block) → Inside lo hi l → e < lo → grown e l ≡ e
unfolding grown
grown-apart lo hi e [] i h = refl
grown-apart lo hi e (b ∷ l) i h = rw (ne_eqb b.start e (λ z. omega arith))

-- ---- `period_in` in a window, with what is behind it

-- whether the period may go on in the next window
unfoldable touches : ℕ → List Block → Bool
touches e [] = true
touches e (b ∷ l) = let r = touches b.end l in if eqb b.start e then r else false

period-in-grows : (limit f e : ℕ) (l : List Block) → touches e l ≡ true → period_in limit (growing f e) l ≡ growing f (grown e l)
unfolding period_in grown touches
period-in-grows limit f e [] t = refl
period-in-grows limit f e (b ∷ l) t =
    by-test (eqb b.start e) (λ q. rw q (period-in-grows limit f b.end l (rw q at t))) (λ q. clash false (rw q at t) refl)

period-in-ends : (limit f e : ℕ) (l : List Block) → touches e l ≡ false → period_in limit (growing f e) l ≡ ended f (grown e l)
unfolding period_in grown touches
period-in-ends limit f e [] t = clash true refl t
period-in-ends limit f e (b ∷ l) t =
    by-test (eqb b.start e) (λ q. rw q (period-in-ends limit f b.end l (rw q at t))) (λ q. rw q)

grown-on : (e : ℕ) (l m : List Block) → touches e l ≡ true → grown e (l ++ m) ≡ grown (grown e l) m
unfolding grown touches
grown-on e [] m t = refl
grown-on e (b ∷ l) m t =
    by-test (eqb b.start e) (λ q. rw q (grown-on b.end l m (rw q at t))) (λ q. clash false (rw q at t) refl)

grown-stays : (e : ℕ) (l m : List Block) → touches e l ≡ false → grown e (l ++ m) ≡ grown e l
unfolding grown touches
grown-stays e [] m t = clash true refl t
grown-stays e (b ∷ l) m t =
    by-test (eqb b.start e) (λ q. rw q (grown-stays b.end l m (rw q at t))) (λ q. rw q)

-- from no period
period-in-none : (limit : ℕ) {l : List Block} → l ≡ [] → period_in limit nothing l ≡ nothing
unfolding period_in
period-in-none limit q = rw q

period-in-far : (limit : ℕ) {b : Block} {l m : List Block} → m ≡ b ∷ l → ltb limit b.start ≡ true → period_in limit nothing m ≡ too_far
unfolding period_in
period-in-far limit q t = rw (q, t)

period-in-first : (limit : ℕ) {b : Block} {l m : List Block} → m ≡ b ∷ l → ltb limit b.start ≡ false → period_in limit nothing m ≡ period_in limit (growing b.start b.end) l
unfolding period_in
period-in-first limit q t = rw (q, t)

-- ---- the walk, for any windows whose blocks lie in them

inside_both : (lo mid hi : ℕ) (l m : List Block) → lo ≤ mid → mid ≤ hi → Inside lo mid l → Inside mid hi m → Inside lo hi (l ++ m)
inside_both lo mid hi [] [] h k i j = tt
inside_both lo mid hi [] (b ∷ m) h k i j = (omega arith, j.1, j.2, inside_both lo mid hi [] m h k tt j.3)
inside_both lo mid hi (b ∷ l) m h k i j = (i.0, i.1, omega arith, inside_both lo mid hi l m h k i.3 j)

-- the nearest period of a list of blocks, in a range that ends at `end`
unfoldable pub nearest_of : ℕ → ℕ → List Block → Answer Block
nearest_of limit end [] = if ltb limit end then refuses 6 0 else refuses 7 0
nearest_of limit end (b ∷ l) = if ltb limit b.start then refuses 6 0 else gives (capped limit b.start (grown b.end l))

-- it is too far off if all blocks are
far-off : (limit y end : ℕ) (l : List Block) → limit < y → y ≤ end → Inside y end l → nearest_of limit end l ≡ refuses 6 0
unfolding nearest_of
far-off limit y end [] h k i = rw (lt-ltb limit end (omega arith))
far-off limit y end (b ∷ l) h k i = rw (lt-ltb limit b.start (omega arith))

nearest-far : (limit end : ℕ) (b : Block) (l : List Block) → ltb limit b.start ≡ true → nearest_of limit end (b ∷ l) ≡ refuses 6 0
unfolding nearest_of
nearest-far limit end b l t = rw t

nearest-near : (limit end : ℕ) (b : Block) (l : List Block) → ltb limit b.start ≡ false → nearest_of limit end (b ∷ l) ≡ gives (capped limit b.start (grown b.end l))
unfolding nearest_of
nearest-near limit end b l t = rw t

-- with no windows left
at-end : (look : ℕ → ℕ → List Block) (limit end x f e : ℕ) → period_from 0 look limit end x (growing f e) ≡ gives (capped limit f (grown e []))
unfolding period_from grown
at-end look limit end x f e = refl

none_left : (look : ℕ → ℕ → List Block) (limit end x : ℕ) → end ≤ limit → period_from 0 look limit end x nothing ≡ nearest_of limit end []
unfolding period_from nearest_of
none_left look limit end x h = rw (le-ltb limit end h)

cut-same : (limit f e g : ℕ) → limit ≤ e - f → f ≤ e → e ≤ g → capped limit f e ≡ capped limit f g
cut-same limit f e g h k o = ap (block f) (omega arith)

module _ (look : ℕ → ℕ → List Block) (limit end : ℕ) (inside : (x y : ℕ) → x ≤ y → y ≤ end → Inside x y (look x y)) where
  listed-inside : (n x : ℕ) → x ≤ end → Inside x end (listed n look x end)
  unfolding listed
  listed-inside zero x h = tt
  listed-inside (suc n) x h =
      inside_both x (min (x + week) end) end (look x (min (x + week) end)) (listed n look (min (x + week) end) end) (omega arith) (omega arith)
      (inside x (min (x + week) end) (omega arith) (omega arith)) (listed-inside n (min (x + week) end) (omega arith))

  module _ (n x y : ℕ) (p : min (x + week) end ≡ y) (h : PeriodSoFar) where
    one-ends : (f e : ℕ) → period_in limit h (look x y) ≡ ended f e → period_from (suc n) look limit end x h ≡ gives (capped limit f e)
    unfolding period_from
    one-ends f e q = rw (p, q, period_from)

    one-goes : (f e : ℕ) → period_in limit h (look x y) ≡ growing f e → (ltb e y || leb limit (e - f)) ≡ false → period_from (suc n) look limit end x h ≡ period_from n look limit end y (growing f e)
    unfolding period_from
    one-goes f e q t = rw (p, q, p, t, period_from)

    one-whole : (f e : ℕ) → period_in limit h (look x y) ≡ growing f e → (ltb e y || leb limit (e - f)) ≡ true → period_from (suc n) look limit end x h ≡ gives (capped limit f e)
    unfolding period_from
    one-whole f e q t = rw (p, q, p, t, period_from)

    one-far : period_in limit h (look x y) ≡ too_far → period_from (suc n) look limit end x h ≡ refuses 6 0
    unfolding period_from
    one-far q = rw (p, q, period_from)

    one_none : period_in limit h (look x y) ≡ nothing → ltb limit y ≡ true → period_from (suc n) look limit end x h ≡ refuses 6 0
    unfolding period_from
    one_none q t = rw (p, q, p, t, period_from)

    one-nothing : period_in limit h (look x y) ≡ nothing → ltb limit y ≡ false → period_from (suc n) look limit end x h ≡ period_from n look limit end y nothing
    unfolding period_from
    one-nothing q t = rw (p, q, p, t, period_from)

    -- a period that may go on in the windows behind
    grows-on : (f e : ℕ) → y ≤ end → f ≤ e → e ≤ y → period_in limit h (look x y) ≡ growing f e
        → period_from n look limit end y (growing f e) ≡ gives (capped limit f (grown e (listed n look y end)))
        → period_from (suc n) look limit end x h ≡ gives (capped limit f (grown e (listed n look y end)))
    grows-on f e k o u q rec =
        by-test (ltb e y)
        (λ t. one-whole f e q (rw t) ∙ ap (λ z. gives (capped limit f z)) (sym (grown-apart y end e (listed n look y end) (listed-inside n y k) (ltb-true e y t))))
        (λ t.
        by-test (leb limit (e - f))
        (λ r. one-whole f e q (rw (t, r)) ∙ ap gives (cut-same limit f e (grown e (listed n look y end)) (leb-true limit (e - f) r) o (grown-more y end e (listed n look y end) (listed-inside n y k))))
        (λ r. one-goes f e q (rw (t, r)) ∙ rec))

    -- the same from the blocks of this window
    grows_in : (f e : ℕ) (l : List Block) → x ≤ y → y ≤ end → f ≤ e → e ≤ y → Inside x y l → period_in limit h (look x y) ≡ period_in limit (growing f e) l
        → ((g : ℕ) → f ≤ g → g ≤ y → period_from n look limit end y (growing f g) ≡ gives (capped limit f (grown g (listed n look y end))))
        → period_from (suc n) look limit end x h ≡ gives (capped limit f (grown e (l ++ listed n look y end)))
    grows_in f e l j k o u i q rec =
        let a = grown-more x y e l i in
        let b = grown-most x y e l i u in
        by-test (touches e l)
        (λ t. rw (grown-on e l (listed n look y end) t) (grows-on f (grown e l) k (omega arith) b (q ∙ period-in-grows limit f e l t) (rec (grown e l) (omega arith) b)))
        (λ t. rw (grown-stays e l (listed n look y end) t) (one-ends f (grown e l) (q ∙ period-in-ends limit f e l t)))

  -- a walk with a period so far
  growing-is : (n x f e : ℕ) → x ≤ end → f ≤ e → e ≤ x → period_from n look limit end x (growing f e) ≡ gives (capped limit f (grown e (listed n look x end)))
  unfolding listed
  growing-is zero x f e h k o = zero_is
    where
      zero_is : period_from 0 look limit end x (growing f e) ≡ gives (capped limit f (grown e []))
      zero_is = at-end look limit end x f e
  growing-is (suc n) x f e h k o =
      grows_in n x (min (x + week) end) refl (growing f e) f e (look x (min (x + week) end)) (omega arith) (omega arith) k (omega arith)
      (inside x (min (x + week) end) (omega arith) (omega arith)) refl (λ g a b. growing-is n (min (x + week) end) f g (omega arith) a b)

  -- a walk with none
  nothing_is : (n x : ℕ) → x ≤ end → end ≤ x + n * week → x ≤ limit → period_from n look limit end x nothing ≡ nearest_of limit end (listed n look x end)
  unfolding listed
  nothing_is zero x h k o = none_left look limit end x (omega arith)
  nothing_is (suc n) x h k o =
      go (look x (min (x + week) end)) refl (inside x (min (x + week) end) (omega arith) (omega arith)) (λ a. nothing_is n (min (x + week) end) (omega arith) (omega arith) a)
    where
      go : (l : List Block) → look x (min (x + week) end) ≡ l → Inside x (min (x + week) end) l
          → (min (x + week) end ≤ limit → period_from n look limit end (min (x + week) end) nothing ≡ nearest_of limit end (listed n look (min (x + week) end) end))
          → period_from (suc n) look limit end x nothing ≡ nearest_of limit end (look x (min (x + week) end) ++ listed n look (min (x + week) end) end)
      go [] q i rec =
          rw q
          (by-test (ltb limit (min (x + week) end))
          (λ t. one_none n x (min (x + week) end) refl nothing (period-in-none limit q) t ∙ sym (far-off limit (min (x + week) end) end (listed n look (min (x + week) end) end) (ltb-true limit (min (x + week) end) t) (omega arith) (listed-inside n (min (x + week) end) (omega arith))))
          (λ t. one-nothing n x (min (x + week) end) refl nothing (period-in-none limit q) t ∙ rec (ltb-false limit (min (x + week) end) t)))
      go (b ∷ l) q i rec =
          rw q
          (by-test (ltb limit b.start)
          (λ t. one-far n x (min (x + week) end) refl nothing (period-in-far limit q t) ∙ sym (nearest-far limit end b (l ++ listed n look (min (x + week) end) end) t))
          (λ t.
          grows_in n x (min (x + week) end) refl nothing b.start b.end l (omega arith) (omega arith) (omega arith) i.2 i.3 (period-in-first limit q t)
          (λ g a c. growing-is n (min (x + week) end) b.start g (omega arith) a c)
          ∙ sym (nearest-near limit end b (l ++ listed n look (min (x + week) end) end) t)))

-- ---- the first of the blocks made one

not_same : (e a : ℕ) → e ≤ a → (a ≡ e → ⊥) → e < a
not_same e a h k = go (dec_lt e a)
  where
    go : Dec (e < a) → e < a
    go (yes p) = p
    go (no p) = absurd (k (omega arith))

-- those that touch a block are made one with it
first-merged : (W : ℕ → Bool) (s e hi : ℕ) (l : List Block) → s < e → Lists W e hi l → (f g : ℕ) (m : List Block) → merged_from (block s e) l ≡ block f g ∷ m → (s ≡ f) × (grown e l ≡ g)
unfolding merged_from grown
first-merged W s e hi [] h r f g m q = (ap first_start q, ap first_end q)
first-merged W s e hi (c ∷ l) h (next a b i j k o u r) f g m q =
    by-test (eqb a e)
    (λ t.
    let z = eqb-true a e t in
    let v : max e b ≡ b = omega arith in
    rw t (first-merged W s b hi l (omega arith) r f g m (rw (le-leb a e (omega arith), v) at q)))
    (λ t.
    let z = eqb-false a e t in
    let v : leb a e ≡ false = lt-leb a e (not_same e a i z) in
    let y : block s e ∷ merged_from (block a b) l ≡ block f g ∷ m = rw v at q in
    rw t (ap first_start y, ap first_end y))

abbrev is_some : List Block → ℕ
is_some [] = 0
is_some (b ∷ l) = 1

no_block : (b : Block) (l : List Block) → b ∷ l ≡ [] → ⊥
no_block b l q = let z : ◌≡◌ {A = ℕ} 1 0 = ap is_some q in absurd (omega arith)

-- something is left of a block
some-merged : (b : Block) (l : List Block) → merged_from b l ≡ [] → ⊥
unfolding merged_from
some-merged b [] q = no_block b [] q
some-merged b (c ∷ l) q =
    by-test (leb c.start b.end) (λ t. some-merged (block b.start (max b.end c.end)) l (rw t at q)) (λ t. no_block b (merged_from c l) (rw t at q))

-- ---- the same blocks as distances

grown-onward : (t hi e : ℕ) (l : List Block) → Inside t hi l → t ≤ e → grown (e - t) (onward t l) ≡ grown e l - t
unfolding grown onward
grown-onward t hi e [] i h = refl
grown-onward t hi e (b ∷ l) i h =
    by-test (eqb b.start e)
    (λ q.
    let z = eqb-true b.start e q in
    let v : eqb (b.start - t) (e - t) ≡ true = eq-eqb (b.start - t) (e - t) (omega arith) in
    rw (q, v) (grown-onward t hi b.end l i.3 (omega arith)))
    (λ q.
    let z = eqb-false b.start e q in
    let v : eqb (b.start - t) (e - t) ≡ false = ne_eqb (b.start - t) (e - t) (λ p. z (omega arith)) in
    rw (q, v))

onward-append : (t : ℕ) (l m : List Block) → onward t (l ++ m) ≡ onward t l ++ onward t m
unfolding onward
onward-append t l m = map-append (λ (b : Block). block (b.start - t) (b.end - t)) l m

listed-onward : (s : Schedule) (t n x end : ℕ) → x ≤ end → onward t (listed n (working s) (t + x) (t + end)) ≡ listed n (ahead on s t) x end
unfolding listed ahead onward
listed-onward s t zero x end h = refl
listed-onward s t (suc n) x end h =
    let e : min (t + x + week) (t + end) ≡ t + min (x + week) end = omega arith in
    rw e
    (onward-append t (working s (t + x) (t + min (x + week) end)) (listed n (working s) (t + min (x + week) end) (t + end))
    ∙ ap (λ (l : List Block). onward t (working s (t + x) (t + min (x + week) end)) ++ l) (listed-onward s t n (min (x + week) end) end (omega arith)))

-- ---- the next period by the listing

-- of a listing from t to the last instant of a range: its first stretch as distances from t, cut to the limit; 6 where it begins beyond the limit, or
-- where there is none and the range goes on beyond the limit; 7 where there is none up to the range's end
unfoldable pub first_stretch : ℕ → ℕ → ℕ → List Block → Answer Block
first_stretch limit t last [] = if ltb limit (last - t) then refuses 6 0 else refuses 7 0
first_stretch limit t last (b ∷ l) = if ltb limit (b.start - t) then refuses 6 0 else gives (block (b.start - t) (min (b.end - t) (b.start - t + limit)))

-- a block and others behind it, made one where they touch, begin with a block
merged-first : (W : ℕ → Bool) (limit t last s e : ℕ) (l : List Block) → t ≤ s → s < e → Lists W e last l → (m : List Block) → merged_from (block s e) l ≡ m
    → first_stretch limit t last m ≡ (if ltb limit (s - t) then refuses 6 0 else gives (capped limit (s - t) (grown e l - t)))
unfolding first_stretch
merged-first W limit t last s e l h k r [] q = absurd (some-merged (block s e) l q)
merged-first W limit t last s e l h k r (b ∷ m) q =
    let p = first-merged W s e last l k r b.start b.end m q in
    rw (p.0, p.1)

-- the listing's first stretch is the nearest period of its windows' blocks
pub first-nearest : (W : ℕ → Bool) (limit t last : ℕ) (l : List Block) → Lists W t last l → first_stretch limit t last (merged l) ≡ nearest_of limit (last - t) (onward t l)
unfolding first_stretch nearest_of merged onward
first-nearest W limit t last [] r = refl
first-nearest W limit t last (c ∷ l) (next s e a b k i f r) =
    let j = lists-inside W e last r in
    let g = grown-onward t last e l (inside-more t e last l (omega arith) j) (omega arith) in
    merged-first W limit t last s e l a b r (merged_from (block s e) l) refl ∙ rw (← g)

-- on and back, for every schedule: the first block of the windows one behind the other, with those that touch it, cut to the limit
pub period-nearest : (w : Way) (s : Schedule) (t : ℕ) → period w s t ≡ nearest_of s.limit (reach w t) (listed (begun (reach w t)) (ahead w s t) 0 (reach w t))
period-nearest w s t =
    nothing_is (ahead w s t) s.limit (reach w t) (λ x y a b. ahead-inside w s t x y a b) (begun (reach w t)) 0 (omega arith)
    (let g = begun-enough (reach w t) in omega arith) (omega arith)

module _ (s : Schedule) (t : ℕ) (h : t ≤ last_instant) where
  -- for every schedule and every instant of the range
  pub next-period : period on s t ≡ first_stretch s.limit t last_instant (stretches s t last_instant)
  next-period =
      let n = begun (last_instant - t) in
      let e : t + (last_instant - t) ≡ last_instant = omega arith in
      let z : t + 0 ≡ t = omega arith in
      let q = listed-onward s t n 0 (last_instant - t) (omega arith) in
      period-nearest on s t
      ∙ ap (nearest_of s.limit (last_instant - t)) (sym (rw (e, z) at q))
      ∙ sym (first-nearest (listed_at s t last_instant h) s.limit t last_instant (listed n (working s) t last_instant) (windows-list s t last_instant h))

  -- so it is the listing's first stretch, cut to the limit, where that begins within the limit
  pub next-is-first : (b : Block) (l : List Block) → stretches s t last_instant ≡ b ∷ l → b.start - t ≤ s.limit
      → period on s t ≡ gives (block (b.start - t) (min (b.end - t) (b.start - t + s.limit)))
  unfolding first_stretch
  next-is-first b l e k = next-period ∙ rw (e, le-ltb s.limit (b.start - t) k)
