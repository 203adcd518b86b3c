-- From distances to instants: what is found at a distance on from t, or back from x, and where the working time behind t begins.
use Rattle.std.specs.Prelude.{◌≡◌, Bool, true, false, ℕ, zero, suc, ◌+◌, ◌-◌, ◌≤◌, ◌<◌, eqb}
use Rattle.std.proofs.Common.{sym, ◌∙◌, ap, add-zero, arith, eqb-true}
use Rattle.std.proofs.lemmas.Bool.{eqb-false}
use Rattle.model.specs.Answer.{Answer, gives, ◌>>=◌}
use Rattle.laws_base.specs.Test.{by-test}
use Rattle.laws_blocks.specs.Count.{span, span-add, span-self, span-one}
use Rattle.laws_blocks.specs.Lists.{Empty}
use Rattle.laws_blocks.specs.Turn.{seen_from, behind, span-after, span-behind}
use Rattle.laws_demand3.specs.Walks.{Crossed, Found, Stopped, Outcome, met, lacks, over}

-- ---- on from t

-- the answer as an instant
abbrev pub as_instant : ℕ → Answer ℕ → Answer ℕ
as_instant t a = a >>= λ x. gives (t + x)

module _ (W : ℕ → Bool) (t : ℕ) where
  span-start : (b : ℕ) → span (seen_from W t) 0 b ≡ span W t (t + b)
  span-start b = span-after W t 0 b ∙ ap (λ x. span W x (t + b)) (add-zero t)

  crossed-onward : (limit p : ℕ) → Crossed (seen_from W t) limit 0 p → Crossed W limit t (t + p)
  crossed-onward limit p c q a b = let v = c (q - t) (omega arith) (omega arith) in let v1 = v.1 in let v2 = v.2 in (t + v.0, omega arith, omega arith, v.3)

  found-onward : (limit d x : ℕ) → Found (seen_from W t) limit 0 d x → Found W limit t d (t + x)
  found-onward limit d x f = let a = f.after in let v = f.ends in let v1 = v.1 in record {
    after = omega arith;
    sum = sym (span-start x) ∙ f.sum;
    ends = (t + v.0, omega arith, v.2);
    crossed = crossed-onward limit x f.crossed;
  }

  stopped-onward : (limit d end : ℕ) → Stopped (seen_from W t) limit 0 d end → Stopped W limit t d (t + end)
  stopped-onward limit d end s = let a = s.inside in record {
    gap = t + s.gap;
    from = omega arith;
    inside = omega arith;
    idle = λ u p q. (let e : t + (u - t) ≡ u = omega arith in rw e at (s.idle (u - t) (omega arith) (omega arith)));
    short = let b = s.short in rw (← (span-start s.gap)) b;
  }

  -- a search on from t
  pub outcome-onward : (limit end d : ℕ) {a : Answer ℕ} → Outcome (seen_from W t) limit end 0 d a → Outcome W limit (t + end) t d (as_instant t a)
  outcome-onward limit end d (met {x = x} h f) = met {x = t + x} (omega arith) (found-onward limit d x f)
  outcome-onward limit end d (lacks s) = lacks (stopped-onward limit d end s)
  outcome-onward limit end d (over s c) = over (rw (← (span-start end)) s) (crossed-onward limit end c)

  pub found-distance : (limit d x : ℕ) → Found W limit t d x → Found (seen_from W t) limit 0 d (x - t)
  found-distance limit d x f = let a = f.after in let v = f.ends in let v1 = v.1 in
      let e : t + (x - t) ≡ x = omega arith in record {
        after = omega arith;
        sum = span-start (x - t) ∙ rw e f.sum;
        ends = (v.0 - t, omega arith, (let k : t + (v.0 - t) ≡ v.0 = omega arith in rw k v.2));
        crossed = λ q p r. (let w = f.crossed (t + q) (omega arith) (omega arith) in let w1 = w.1 in let w2 = w.2 in
            let k : t + (w.0 - t) ≡ w.0 = omega arith in (w.0 - t, omega arith, omega arith, rw k w.3));
      }

-- ---- back from x

module _ (W : ℕ → Bool) (x : ℕ) where
  span-backward : (z : ℕ) → z ≤ x → span (behind W x) 0 (x - z) ≡ span W z x
  span-backward z h =
      let e : x - (x - z) ≡ z = omega arith in
      let f : x - 0 ≡ x = omega arith in
      rw (e, f) at (span-behind W x 0 (x - z) (omega arith) (omega arith))

  -- z is found from x on the way back, if work begins at z
  pub found-backward : (limit d z : ℕ) → z < x → span W z x ≡ d → W z ≡ true → Crossed W limit z x → Found (behind W x) limit 0 d (x - z)
  found-backward limit d z h s w c = record {
    after = omega arith;
    sum = span-backward z (omega arith) ∙ s;
    ends = (x - 1 - z, omega arith, (let e : x - 1 - (x - 1 - z) ≡ z = omega arith in rw e w));
    crossed = λ q a b. let v = c (x - 1 - (q + limit)) (near-a q b) (near-b q b) in
        let v1 = v.1 in let v2 = v.2 in
        let e : x - 1 - (x - 1 - v.0) ≡ v.0 = back_to q v.0 b v2 in
        (x - 1 - v.0, near-c q v.0 b v2, near_d q v.0 v1, rw e v.3);
  }
    where
      near-a : (q : ℕ) → q + limit < x - z → z ≤ x - 1 - (q + limit)
      near-a q b = omega arith

      near-b : (q : ℕ) → q + limit < x - z → x - 1 - (q + limit) + limit < x
      near-b q b = omega arith

      back_to : (q u : ℕ) → q + limit < x - z → u ≤ x - 1 - (q + limit) + limit → x - 1 - (x - 1 - u) ≡ u
      back_to q u b k = omega arith

      near-c : (q u : ℕ) → q + limit < x - z → u ≤ x - 1 - (q + limit) + limit → q ≤ x - 1 - u
      near-c q u b k = omega arith

      near_d : (q u : ℕ) → x - 1 - (q + limit) ≤ u → x - 1 - u ≤ q + limit
      near_d q u k = omega arith

-- ---- the first work behind t

pub first-work : (W : ℕ → Bool) (n t : ℕ) → 0 < span W t (t + n) → (z : ℕ) × (t ≤ z) × (z < t + n) × Empty W t z × (W z ≡ true)
first-work W zero t h = absurd (let e = span-self W t in let f : span W t (t + 0) ≡ span W t t = rw (add-zero t) in omega arith)
first-work W (suc n) t h =
    by-test (W t)
    (λ p. (t, omega arith, omega arith, (λ u a b. absurd (omega arith)), p))
    (λ p. let s : t + suc n ≡ suc t + n = omega arith in
    let o : span W t (suc t) ≡ 0 = rw (span-one W t, p) in
    let k : 0 < span W (suc t) (suc t + n) = (let e = span-add W t (suc t) (suc t + n) (omega arith) (omega arith) in let g : 0 < span W t (suc t + n) = rw s at h in omega arith) in
    let r = first-work W n (suc t) k in
    let r1 = r.1 in let r2 = r.2 in
    (r.0, omega arith, omega arith, (λ u a b. early u a p r.0 b r.3), r.4))
  where
    early : (u : ℕ) → t ≤ u → W t ≡ false → (z : ℕ) → u < z → Empty W (suc t) z → W u ≡ false
    early u a p z b e = by-test (eqb u t)
        (λ f. rw (eqb-true u t f) p)
        (λ f. let g = eqb-false u t f in e u (omega arith) b)
