-- Searching for the second of a local time over runs of one offset: where such a search is, and what it finds. For any offsets `off`
-- and a local second l, both with the 26 hours added.
use Rattle.std.specs.Prelude.{◌≡◌, true, false, ◌⊎◌, ℕ, ◌+◌, ◌-◌, ◌≤◌, ◌<◌}
use Rattle.std.proofs.Common.{sym, ◌∙◌, ap, inr, ⊎_elim, arith}
use Rattle.std.proofs.Math.Decide.{dec_lt}
use Rattle.model.specs.Tzif.{Zone}
use Rattle.model.specs.Zone.{offset_at, steady}
use Rattle.laws_base.specs.Test.{by-test}
use Rattle.laws_zone.specs.Sound.{Sound, dawn}
use Rattle.laws_zone.specs.Changes.{same-steady}
use Rattle.laws_zone.specs.Resolve.{Reads, Jumps, Resolves, read, jump}

-- a run: one offset from u on, before e
pub record Run (offset : ℕ → ℕ) (u e : ℕ) : Type 0 where
  pub on : u < e
  pub same : (v : ℕ) → u ≤ v → v < e → offset v ≡ offset u

module _ (offset : ℕ → ℕ) (l : ℕ) where
  -- no second before u reads l
  abbrev pub NoReading : ℕ → Type 0
  NoReading u = (v : ℕ) → v < u → Reads offset l v → ⊥

  -- no change at or before u jumps over l
  abbrev pub NoJump : ℕ → Type 0
  NoJump u = (e : ℕ) → e ≤ u → Jumps offset l e → ⊥

  -- where a search is at u: before any reading and any jump ..
  pub record Low (u : ℕ) : Type 0 where
    pub none : NoReading u
    pub plain : NoJump u
    pub low : u + offset u ≤ l

  -- .. and past the first jump, which is at e and gives the answer d
  pub record Past (u d : ℕ) : Type 0 where
    pub none : NoReading u
    pub e : ℕ
    pub gives : d + offset (e - 1) ≡ l
    pub jumped : Jumps offset l e
    pub least : (f : ℕ) → f < e → Jumps offset l f → ⊥

module _ {offset : ℕ → ℕ} {u e : ℕ} (r : Run offset u e) (l : ℕ) where
  -- a run in which no second reads l
  clear : NoReading offset l u → (l < u + offset u) ⊎ (e + offset u ≤ l) → NoReading offset l e
  clear n w v h p = go (dec_lt v u)
    where
      go : Dec (v < u) → ⊥
      go (yes y) = n v y p
      go (no y) =
          let s : offset v ≡ offset u = r.same v (omega arith) h in
          ⊎_elim (λ a. omega arith) (λ a. omega arith) w

  -- the second of a run that reads l
  found : NoReading offset l u → u + offset u ≤ l → l < e + offset u → Resolves offset l (l - offset u)
  found n a b = read {u = l - offset u} (omega (arith, r.same (l - offset u) (omega arith) (omega arith))) none
    where
      none : NoReading offset l (l - offset u)
      none v h p = go (dec_lt v u)
        where
          go : Dec (v < u) → ⊥
          go (yes y) = n v y p
          go (no y) = omega (arith, r.same v (omega arith) (omega arith))

  -- inside a run no change jumps
  no_inner : NoJump offset l u → (f : ℕ) → f < e → Jumps offset l f → ⊥
  no_inner n f h j = go (dec_lt u f)
    where
      go : Dec (u < f) → ⊥
      go (yes y) = omega (arith, j.from, j.to, r.same f (omega arith) h, r.same (f - 1) (omega arith) (omega arith))
      go (no y) = n f (omega arith) j

  module _ (s : Low offset l u) where
    pub low-found : l < e + offset u → Resolves offset l (l - offset u)
    low-found h = found s.none s.low h

    module _ (t : e + offset u ≤ l) where
      pub low-next : e + offset e ≤ l → Low offset l e
      low-next h = record { none = clear s.none (inr t); plain = plain; low = h }
        where
          plain : NoJump offset l e
          plain f k j = go (dec_lt f e)
            where
              go : Dec (f < e) → ⊥
              go (yes y) = no_inner s.plain f y j
              go (no y) = let q : f ≡ e = omega arith in omega (arith, j.to, ap offset q)

      pub low_jump : l < e + offset e → Past offset l e (l - offset u)
      low_jump h =
          let o : offset (e - 1) ≡ offset u = r.same (e - 1) (omega (arith, r.on)) (omega (arith, r.on)) in
          record {
            none = clear s.none (inr t);
            e = e;
            gives = omega arith;
            jumped = record { from = omega arith; to = h };
            least = λ f k j. no_inner s.plain f k j;
          }

  module _ {d : ℕ} (s : Past offset l u d) where
    pub past-found : u + offset u ≤ l → l < e + offset u → Resolves offset l (l - offset u)
    past-found g h = found s.none g h

    pub past_next : (l < u + offset u) ⊎ (e + offset u ≤ l) → Past offset l e d
    past_next w = record { none = clear s.none w; e = s.e; gives = s.gives; jumped = s.jumped; least = s.least }

module _ (offset : ℕ → ℕ) (l : ℕ) where
  -- before l less the greatest offset no second reads l and no change jumps over it ..
  pub low-start : (g : ℕ) → ((u : ℕ) → offset u ≤ g) → g ≤ l → Low offset l (l - g)
  low-start g high h = record {
    none = λ v k p. omega (arith, p, high v);
    plain = λ e k j. omega (arith, j.to, high e);
    low = omega (arith, high (l - g));
  }

  -- .. and behind l less the least no second reads it
  pub past-done : (m : ℕ) → ((u : ℕ) → m ≤ offset u) → {u d : ℕ} → Past offset l u d → l < u + m → Resolves offset l d
  past-done m low s h = jump s.e s.gives (λ v p. s.none v (omega (arith, p, low v)) p) s.jumped s.least

-- ---- whether a span has one offset

-- one offset from lo on, before e
module _ {offset : ℕ → ℕ} {lo e : ℕ} (s : Run offset lo e) where
  pub run_on : {f : ℕ} → Run offset e f → offset e ≡ offset lo → Run offset lo f
  run_on {f} r q = record { on = omega (arith, s.on, r.on); same = λ v a b. go v a b (dec_lt v e) }
    where
      go : (v : ℕ) → lo ≤ v → v < f → Dec (v < e) → offset v ≡ offset lo
      go v a b (yes y) = s.same v a y
      go v a b (no y) = r.same v (omega arith) b ∙ q

module _ (z : Zone) {lo e : ℕ} (s : Run (offset_at z) lo e) where
  -- a run that ends behind hi: steady
  pub run-steady : (hi : ℕ) → hi < e → true ≡ steady z lo hi
  run-steady hi h = sym (same-steady z lo hi (λ u a b. s.same u a (omega arith)))

  -- a run that ends at another offset, at hi or before: not steady
  pub run-changes : Sound z → (hi : ℕ) → dawn ≤ lo → e ≤ hi → (offset_at z e ≡ offset_at z lo → ⊥) → false ≡ steady z lo hi
  run-changes k hi d h n =
      by-test (steady z lo hi) (λ t. absurd (n (k.same lo hi d t e (omega (arith, s.on)) h))) (λ t. sym t)
