-- The earliest of the greatest: what `hardest_of` gives is one of the windows, no window has more time, and no earlier one has as much. One pass over the
-- windows, which keeps the best so far and takes a later one only where it has more, finds it.
use Rattle.std.specs.Prelude.{◌≡◌, refl, true, false, List, [], ◌∷◌, ◌++◌, map, ℕ, ◌≤◌, ◌<◌, eqb, ltb, if◌then◌else◌}
use Rattle.std.proofs.Common.{sym, ◌∙◌, ap, arith, ltb-true, ltb-false, eq-eqb, ne_eqb}
use Rattle.std.proofs.Math.Decide.{ℕ_discrete}
use Rattle.model.specs.Basic.{filter, maximum}
use Rattle.model.specs.Hardest.{Stretch, first_or, hardest_of}
use Rattle.laws_base.specs.Test.{by-test}
use Rattle.laws_base.specs.Every.{Every}

abbrev pub stretch : ℕ → ℕ → Stretch
stretch time start = record { time = time; start = start }

abbrev pub stretch_times : List Stretch → List ℕ
stretch_times l = map (λ (h : Stretch). h.time) l

-- the first of those with the time m
abbrev first_with : ℕ → ℕ → List Stretch → Stretch
first_with t m l = first_or (stretch 0 t) (filter (λ (h : Stretch). eqb h.time m) l)

-- ---- what is given

-- h is one of l; those before it have less time, and those behind it no more
pub record Earliest (l : List Stretch) (h : Stretch) : Type 0 where
  pub before : List Stretch
  pub after : List Stretch
  pub among : l ≡ before ++ (h ∷ after)
  pub less : Every (λ (x : Stretch). x.time < h.time) before
  pub most : Every (λ (x : Stretch). x.time ≤ h.time) after

none_more : (l : List Stretch) (m : ℕ) → maximum (stretch_times l) ≤ m → Every (λ (x : Stretch). x.time ≤ m) l
none_more [] m h = tt
none_more (x ∷ l) m h = (omega arith, none_more l m (omega arith))

-- one that has another time is not the first with the time m; one that has it is
first-skips : (t m : ℕ) (x : Stretch) (l : List Stretch) → (x.time ≡ m → ⊥) → first_with t m (x ∷ l) ≡ first_with t m l
unfolding filter
first-skips t m x l d = rw (ne_eqb x.time m d)

first-takes : (t m : ℕ) (x : Stretch) (l : List Stretch) → x.time ≡ m → first_with t m (x ∷ l) ≡ x
unfolding filter
first-takes t m x l p = rw (eq-eqb x.time m p)

first-earliest : (t : ℕ) (x : Stretch) (l : List Stretch) (m : ℕ) → maximum (stretch_times (x ∷ l)) ≡ m → Earliest (x ∷ l) (first_with t m (x ∷ l)) × ((first_with t m (x ∷ l)).time ≡ m)
first-earliest t x [] m e =
    let p : x.time ≡ m = omega arith in
    rw (first-takes t m x [] p) (record { before = []; after = []; among = refl; less = tt; most = tt }, p)
first-earliest t x (y ∷ l) m e =
    elim (ℕ_discrete x.time m) [
      | yes p ↦
          rw (first-takes t m x (y ∷ l) p)
          (record { before = []; after = y ∷ l; among = refl; less = tt; most = none_more (y ∷ l) x.time (omega arith) }, p)
      | no d ↦
          (let r = first-earliest t y l m (omega arith) in
          let k = r.1 in
          rw (first-skips t m x (y ∷ l) d) (
            record {
              before = x ∷ r.0.before;
              after = r.0.after;
              among = ap (λ (z : List Stretch). x ∷ z) r.0.among;
              less = (omega arith, r.0.less);
              most = r.0.most;
            },
            k,
          ))
    ]

-- the answer is one of the windows; no window has more; no earlier one has as much
pub hardest-earliest : (t : ℕ) (x : Stretch) (l : List Stretch) → Earliest (x ∷ l) (hardest_of t (x ∷ l))
hardest-earliest t x l = (first-earliest t x l (maximum (stretch_times (x ∷ l))) refl).0

-- an empty log
pub hardest-empty : (t : ℕ) → hardest_of t [] ≡ stretch 0 t
unfolding filter
hardest-empty t = refl

-- ---- in one pass

-- the later of the two only where it has more
abbrev pub harder : Stretch → Stretch → Stretch
harder h x = if ltb h.time x.time then x else h

abbrev pub hardest_from : Stretch → List Stretch → Stretch
hardest_from h [] = h
hardest_from h (x ∷ l) = hardest_from (harder h x) l

pub hardest-fold : (t : ℕ) (h : Stretch) (l : List Stretch) → hardest_from h l ≡ hardest_of t (h ∷ l)
hardest-fold t h [] = sym (first-takes t (maximum (stretch_times (h ∷ []))) h [] (omega arith))
hardest-fold t h (x ∷ l) = by-test (ltb h.time x.time) (λ q. rw q (hardest-fold t x l ∙ later q)) (λ q. rw q (hardest-fold t h l ∙ keeps q))
  where
    later : ltb h.time x.time ≡ true → hardest_of t (x ∷ l) ≡ hardest_of t (h ∷ x ∷ l)
    later q =
        let k : h.time < x.time = ltb-true h.time x.time q in
        let e : maximum (stretch_times (x ∷ l)) ≡ maximum (stretch_times (h ∷ x ∷ l)) = omega arith in
        ap (λ m. first_with t m (x ∷ l)) e ∙ sym (first-skips t (maximum (stretch_times (h ∷ x ∷ l))) h (x ∷ l) (λ p. omega arith))

    both : (m : ℕ) → x.time ≤ h.time → h.time ≤ m → Dec (h.time ≡ m) → first_with t m (h ∷ l) ≡ first_with t m (h ∷ x ∷ l)
    both m k b (yes p) = first-takes t m h l p ∙ sym (first-takes t m h (x ∷ l) p)
    both m k b (no d) = first-skips t m h l d ∙ sym (first-skips t m x l (λ p. d (omega arith))) ∙ sym (first-skips t m h (x ∷ l) d)

    keeps : ltb h.time x.time ≡ false → hardest_of t (h ∷ l) ≡ hardest_of t (h ∷ x ∷ l)
    keeps q =
        let k : x.time ≤ h.time = ltb-false h.time x.time q in
        let m = maximum (stretch_times (h ∷ x ∷ l)) in
        let e : maximum (stretch_times (h ∷ l)) ≡ m = omega arith in
        ap (λ m. first_with t m (h ∷ l)) e ∙ both m k (omega arith) (ℕ_discrete h.time m)

-- and from nothing at the first window's start: that window has no less
abbrev pub start_or : ℕ → List Stretch → ℕ
start_or t [] = t
start_or t (x ∷ l) = x.start

pub hardest-pass : (t : ℕ) (l : List Stretch) → hardest_from (stretch 0 (start_or t l)) l ≡ hardest_of t l
hardest-pass t [] = sym (hardest-empty t)
hardest-pass t (x ∷ l) =
    by-test (ltb 0 x.time)
    (λ q. rw q (hardest-fold t x l))
    (λ q.
    let z : 0 ≡ x.time = omega (arith, ltb-false 0 x.time q) in
    let e : stretch 0 x.start ≡ x = λ i. stretch (z i) x.start in
    rw q (ap (λ h. hardest_from h l) e ∙ hardest-fold t x l))

-- what holds of every window, and of the given instant without any, holds of the hardest one
pub hardest-every : (P : Stretch → Type 0) (t : ℕ) (l : List Stretch) → P (stretch 0 t) → Every P l → P (hardest_of t l)
unfolding filter
hardest-every P t l d h = first l h
  where
    m : ℕ
    m = maximum (stretch_times l)

    first : (k : List Stretch) → Every P k → P (first_with t m k)
    first [] h = d
    first (x ∷ k) h = by-test (eqb x.time m) (λ e. rw e h.0) (λ e. rw e (first k h.1))
