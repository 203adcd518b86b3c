-- The loop of `period_walk`: its invariant, and that a turn keeps it. Assumes nothing.
use Rattle.std.specs.Prelude.{Option, Some, None}
use Rattle.instant.specs.Instant.{nanos, most}
use mathlib.Core.Path.{◌≡◌, refl, sym, ◌∙◌, ap}
use mathlib.Core.Bool.{Bool, true, false, not, ◌||◌}
use mathlib.Core.List.{List, [], ◌∷◌}
use Prim.Native.Nat.{ℕ, suc, ◌+◌, ◌*◌, ◌-◌, ◌≤◌, ◌<◌, min}
use native.Mathlib.Omega.{arith}
use native.Mathlib.Decide.{dec_le}
use lib.Dec.{leb, ltb, eqb}
use borrow.Author.Tests.{eqb-true, ltb-true, ltb-false, le-leb, lt-leb}
use Rattle.model.specs.Instant.{second, week}
use Rattle.model.specs.Answer.{Answer, gives, refuses}
use Rattle.model.specs.Blocks.{Block, block}
use Rattle.model.specs.Working.{Schedule, working}
use Rattle.model.specs.Walk.{Way, PeriodSoFar, nothing, growing, ended, too_far, period_in, period_from, capped, at_range_end, begun, reach, onward, ahead, period}
use Rattle.laws_base.specs.Test.{by-test}
use Rattle.laws_blocks.specs.Move.{moves}
use Rattle.laws_skip.specs.WindowEnds.{Inside}
use Rattle.instant.specs.declared.Instant.{Instant}
use Rattle.walk_period_week.specs.SoFars.{so_far}
use Rattle.walk_period_week.specs.declared.Period.{Period}
use Rattle.walk_distance.proofs.Near.{into-placed}
use Rattle.walk_distance.specs.Distances.{Short, WindowPlaced, seen}
use Rattle.walk_period.specs.Found.{PeriodFits, IsCut}
use Rattle.laws_skip.specs.Loops.{begun-less}

-- ---- the definition turn by turn

-- the walk from the distance x to the range's end
unfoldable pub period_rest : (ℕ → ℕ → List Block) → ℕ → ℕ → ℕ → PeriodSoFar → Answer Block
period_rest look limit end x h = period_from (begun (end - x)) look limit end x h

module _ (look : ℕ → ℕ → List Block) (limit end x : ℕ) (h : PeriodSoFar) where
  rest-done : end ≤ x → period_rest look limit end x h ≡ at_range_end limit h
  unfolding period_rest period_from
  rest-done k = let e : begun (end - x) ≡ 0 = omega arith in rw e

  module _ (k : x < end) where
    rest-nothing : period_in limit h (look x (min (x + week) end)) ≡ nothing → ltb limit (min (x + week) end) ≡ false → period_rest look limit end x h ≡ period_rest look limit end (min (x + week) end) nothing
    unfolding period_rest period_from
    rest-nothing p q = rw (begun-less x end k, p, q, period_from)

    rest-no-work : period_in limit h (look x (min (x + week) end)) ≡ nothing → ltb limit (min (x + week) end) ≡ true → period_rest look limit end x h ≡ refuses 6 0
    unfolding period_rest period_from
    rest-no-work p q = rw (begun-less x end k, p, q, period_from)

    rest-grows : (f e : ℕ) → period_in limit h (look x (min (x + week) end)) ≡ growing f e → (ltb e (min (x + week) end) || leb limit (e - f)) ≡ false
        → period_rest look limit end x h ≡ period_rest look limit end (min (x + week) end) (growing f e)
    unfolding period_rest period_from
    rest-grows f e p q = rw (begun-less x end k, p, q, period_from)

    rest-whole : (f e : ℕ) → period_in limit h (look x (min (x + week) end)) ≡ growing f e → (ltb e (min (x + week) end) || leb limit (e - f)) ≡ true
        → period_rest look limit end x h ≡ gives (capped limit f e)
    unfolding period_rest period_from
    rest-whole f e p q = rw (begun-less x end k, p, q, period_from)

    rest_ended : (f e : ℕ) → period_in limit h (look x (min (x + week) end)) ≡ ended f e → period_rest look limit end x h ≡ gives (capped limit f e)
    unfolding period_rest period_from
    rest_ended f e p = rw (begun-less x end k, p, period_from)

    rest-far : period_in limit h (look x (min (x + week) end)) ≡ too_far → period_rest look limit end x h ≡ refuses 6 0
    unfolding period_rest period_from
    rest-far p = rw (begun-less x end k, p, period_from)

-- ---- a period lies in the windows passed

-- it ends at or before y
abbrev pub Upto : ℕ → PeriodSoFar → Type 0
Upto y nothing = Unit {0}
Upto y (growing f e) = (f ≤ e) × (e ≤ y)
Upto y (ended f e) = (f ≤ e) × (e ≤ y)
Upto y too_far = Unit {0}

upto-more : (x y : ℕ) (h : PeriodSoFar) → x ≤ y → Upto x h → Upto y h
upto-more x y nothing k u = tt
upto-more x y (growing f e) k u = (u.0, omega arith)
upto-more x y (ended f e) k u = (u.0, omega arith)
upto-more x y too_far k u = tt

period-in-upto : (limit x y : ℕ) (h : PeriodSoFar) (l : List Block) → Inside x y l → Upto y h → Upto y (period_in limit h l)
unfolding period_in
period-in-upto limit x y h [] i u = go h u
  where
    go : (h : PeriodSoFar) → Upto y h → Upto y (period_in limit h [])
    go nothing u = u
    go (growing f e) u = u
    go (ended f e) u = u
    go too_far u = u
period-in-upto limit x y nothing (b ∷ l) i u =
    by-test (ltb limit b.start) (λ q. rw q tt) (λ q. rw q (period-in-upto limit x y (growing b.start b.end) l i.3 (omega arith, i.2)))
period-in-upto limit x y (growing f e) (b ∷ l) i u =
    by-test (eqb b.start e)
    (λ q. let z = eqb-true b.start e q in rw q (period-in-upto limit x y (growing f b.end) l i.3 (omega arith, i.2)))
    (λ q. rw q u)
period-in-upto limit x y (ended f e) (b ∷ l) i u = u
period-in-upto limit x y too_far (b ∷ l) i u = u

-- there is a period
abbrev IsThere : PeriodSoFar → Type 0
IsThere nothing = ⊥
IsThere (growing f e) = Unit {0}
IsThere (ended f e) = Unit {0}
IsThere too_far = ⊥

-- the cut of a period is given
cut-gives : (limit : ℕ) (r c : Period) → IsCut limit r c → gives (block (nanos c.near) (nanos c.far)) ≡ gives (capped limit (nanos r.near) (nanos r.far))
cut-gives limit r c u = λ i. gives (block (u.0 i) (u.1 i))

-- a period that there is stays
still-some : (limit f e : ℕ) (l : List Block) → IsThere (period_in limit (growing f e) l)
unfolding period_in
still-some limit f e [] = tt
still-some limit f e (b ∷ l) = by-test (eqb b.start e) (λ u. rw u (still-some limit f b.end l)) (λ u. rw u tt)

still-none : (limit : ℕ) (known : Option Period) (l : List Block) → period_in limit (so_far known) l ≡ nothing → known ≡ None
still-none limit (Some p) l q = absurd (rw q at (still-some limit (nanos p.near) (nanos p.far) l))
still-none limit None l q = refl

-- ---- the loop

module _ (look : ℕ → ℕ → List Block) (limit end : ℕ) where
  -- at the distance x, with the period that there is so far: the walk from there is the whole walk
  pub record Walking (x : ℕ) (known : Option Period) : Type 0 where
    pub upto : x ≤ end
    pub inside : Upto x (so_far known)
    pub same : period_rest look limit end x (so_far known) ≡ period_rest look limit end 0 nothing

  pub walking-starts : Walking 0 None
  walking-starts = record { upto = omega arith; inside = tt; same = refl }

  module _ (x : ℕ) (known : Option Period) (m : Walking x known) where
    module _ (h : x < end) (y : ℕ) (p : y ≡ min (x + week) end) where
      pub walking-nothing : nothing ≡ period_in limit (so_far known) (look x y) → ltb limit y ≡ false → Walking y known
      walking-nothing q u =
          let z = still-none limit known (look x y) (sym q) in
          record {
            upto = omega arith;
            inside = rw z tt;
            same = rw z (moved z);
          }
        where
          moved : known ≡ None → period_rest look limit end y nothing ≡ period_rest look limit end 0 nothing
          moved z = rw p (sym (rest-nothing look limit end x (so_far known) h (rw p at (sym q)) (rw p at u)) ∙ m.same)

      pub walking-no-work : nothing ≡ period_in limit (so_far known) (look x y) → ltb limit y ≡ true → refuses 6 0 ≡ period_rest look limit end 0 nothing
      walking-no-work q u = sym (rest-no-work look limit end x (so_far known) h (rw p at (sym q)) (rw p at u)) ∙ m.same

      pub walking-far : too_far ≡ period_in limit (so_far known) (look x y) → refuses 6 0 ≡ period_rest look limit end 0 nothing
      walking-far q = sym (rest-far look limit end x (so_far known) h (rw p at (sym q))) ∙ m.same

      module _ (i : Inside x y (look x y)) (r : Period) where
        pub ended-upto : ended (nanos r.near) (nanos r.far) ≡ period_in limit (so_far known) (look x y) → (nanos r.near ≤ nanos r.far) × (nanos r.far ≤ end)
        ended-upto q =
            let u : Upto y (ended (nanos r.near) (nanos r.far)) = rw (← q) at (period-in-upto limit x y (so_far known) (look x y) i (upto-more x y (so_far known) (omega arith) m.inside)) in
            (u.0, omega arith)

        pub growing-upto : growing (nanos r.near) (nanos r.far) ≡ period_in limit (so_far known) (look x y) → (nanos r.near ≤ nanos r.far) × (nanos r.far ≤ y) × (nanos r.far ≤ end)
        growing-upto q =
            let u : Upto y (growing (nanos r.near) (nanos r.far)) = rw (← q) at (period-in-upto limit x y (so_far known) (look x y) i (upto-more x y (so_far known) (omega arith) m.inside)) in
            (u.0, u.1, omega arith)

        -- a period that has ended, cut to c
        pub walking-ended : ended (nanos r.near) (nanos r.far) ≡ period_in limit (so_far known) (look x y) → (c : Period) → IsCut limit r c → gives (block (nanos c.near) (nanos c.far)) ≡ period_rest look limit end 0 nothing
        walking-ended q c u = cut-gives limit r c u ∙ sym (rest_ended look limit end x (so_far known) h (nanos r.near) (nanos r.far) (rw p at (sym q))) ∙ m.same

        module _ (q : growing (nanos r.near) (nanos r.far) ≡ period_in limit (so_far known) (look x y)) {test : Bool} (o : test ≡ (ltb (nanos r.far) y || leb limit (nanos r.far - nanos r.near))) where
          -- one that goes no further
          pub walking-whole : test ≡ true → (c : Period) → IsCut limit r c → gives (block (nanos c.near) (nanos c.far)) ≡ period_rest look limit end 0 nothing
          walking-whole v c u = cut-gives limit r c u ∙ sym (rest-whole look limit end x (so_far known) h (nanos r.near) (nanos r.far) (rw p at (sym q)) (rw p at (sym o ∙ v))) ∙ m.same

          -- one that may go on in the next window
          pub walking-grows : test ≡ false → Walking y (Some r)
          walking-grows v =
              let u = growing-upto q in
              record {
                upto = omega arith;
                inside = (u.0, u.1);
                same = rw p (sym (rest-grows look limit end x (so_far known) h (nanos r.near) (nanos r.far) (rw p at (sym q)) (rw p at (sym o ∙ v))) ∙ m.same);
              }

    module _ (h : end ≤ x) where
      done : at_range_end limit (so_far known) ≡ period_rest look limit end 0 nothing
      done = sym (rest-done look limit end x (so_far known) h) ∙ m.same

      -- a period that goes on to the range's end
      pub walking-last : (r : Period) → known ≡ Some r → (c : Period) → IsCut limit r c → gives (block (nanos c.near) (nanos c.far)) ≡ period_rest look limit end 0 nothing
      walking-last r q c u = cut-gives limit r c u ∙ (rw q at done)

      pub last-upto : (r : Period) → known ≡ Some r → (nanos r.near ≤ nanos r.far) × (nanos r.far ≤ end)
      last-upto r q = let u : Upto x (growing (nanos r.near) (nanos r.far)) = rw q at m.inside in let o = m.upto in (u.0, omega arith)

      -- no period up to the range's end
      pub walking-ends : known ≡ None → refuses 7 0 ≡ period_rest look limit end 0 nothing
      walking-ends q = rw q at done

-- ---- the answer

module _ (s : Schedule) (w : Way) (t limit end : ℕ) (l : limit ≡ s.limit) (e : end ≡ reach w t) where
  pub walked : (a : Answer Block) → a ≡ period_rest (ahead w s t) limit end 0 nothing → a ≡ period w s t
  unfolding period_rest
  walked a q = let z : reach w t - 0 ≡ reach w t = omega arith in rw z at (rw (l, e) at q)

pub limit_is : (n : ℕ) → n * second + 0 ≡ n * second
limit_is n = omega arith

-- ---- a test

-- a length that is not below the limit reaches it
pub reaches : (limit len n : ℕ) → len ≡ n → not (ltb len limit) ≡ leb limit n
reaches limit len n q =
    rw q
    (by-test (ltb n limit)
    (λ u. rw u (sym (lt-leb limit n (ltb-true n limit u))))
    (λ u. rw u (sym (le-leb limit n (ltb-false n limit u)))))

-- ---- what a window's blocks make known

-- the blocks that were found in the window are those ahead
module _ (limit : ℕ) (h : PeriodSoFar) (v : Way) (s : Schedule) (t x y lo hi w : ℕ) (p : List Block) where
  pub looked : {r : PeriodSoFar} → r ≡ period_in limit h (moves x (seen v w p)) → w ≡ y - x → (end : ℕ) → x ≤ end → y ≡ min (x + week) end → WindowPlaced v t x y lo hi → p ≡ onward lo (working s lo hi)
      → r ≡ period_in limit h (ahead v s t x y)
  looked q f end k m g o = let z : moves x (seen v (y - x) p) ≡ ahead v s t x y = into-placed v s t x y lo hi p (omega arith) g o in rw (← z, ← f) q

-- ---- what fits

-- a period of the windows passed, cut to c
pub fits : (w : Way) (t : ℕ) (limit end : ℕ) (r c : Period) → IsCut limit r c → (nanos r.near ≤ nanos r.far) × (nanos r.far ≤ end) → end ≡ reach w t → PeriodFits w t c.near c.far
fits w t limit end r c u o p = let i = o.0 in let j = o.1 in let e = u.0 in let f = u.1 in record { start-ns = u.2; end-ns = u.3; order = omega arith; near = omega arith }

-- the cut's sum stays small
pub cut_fits : (r : Period) (end : Instant) (limit : ℕ) → (nanos r.near ≤ nanos r.far) × (nanos r.far ≤ nanos end) → Short end → limit ≤ 341280000 → nanos r.near + (limit * 1000000000 + 0) < most
cut_fits r end limit o h k = let i = o.0 in let j = o.1 in let x = h.sec in let y = h.ns in omega arith

pub end_fits : (e end : Instant) → nanos e ≤ nanos end → Short end → nanos e < most
end_fits e end o h = let x = h.sec in let y = h.ns in omega arith
