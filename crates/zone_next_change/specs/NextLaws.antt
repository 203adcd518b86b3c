-- What the next change is: the one second after u up to which the offset stays as at u and at which it is another; if there is none in the range, the
-- offset stays to the range's end.
use Rattle.std.specs.Prelude.{◌≡◌, refl, true, false, eqb}
use Rattle.std.proofs.Common.{sym, ◌∙◌, eq-eqb, eqb-true}
use Rattle.std.proofs.Math.Path.{ap}
use Rattle.std.proofs.Math.Option.{Option, none, some}
use Prim.Native.Nat.{ℕ, zero, suc, ◌+◌, ◌-◌, ◌≤◌, ◌<◌}
use native.Mathlib.Omega.{arith}
use Rattle.std.proofs.Math.Decide.{dec_lt}
use Rattle.std.proofs.lemmas.Bool.{not-false}
use Rattle.model.specs.Tzif.{Zone}
use Rattle.model.specs.Zone.{offset_at, is_change, steady}
use Rattle.laws_base.specs.Test.{by-test, clash}
use Rattle.laws_zone.specs.Changes.{steady-same}
use Rattle.laws_zone.specs.Grammar.{FooterFits}
use Rattle.laws_zone.specs.Runs.{Run}
use Rattle.model.specs.NextChange.{first_of, next_change}
use Rattle.model.specs.Instant.{last_second}

-- what an answer says of the offsets `off`
pub data SaysNext (offset : ℕ → ℕ) (u : ℕ) : Option ℕ → Type 0 where
  -- v is after u and in the range, the offset there differs from that at u, and between u and v the offset is that of u
  changes : (v : ℕ) → u < v → v ≤ last_second → (offset v ≡ offset u → ⊥) → ((w : ℕ) → u ≤ w → w < v → offset w ≡ offset u) → SaysNext offset u (some v)
  -- the offset is that of u to the range's end
  never-changes : ((w : ℕ) → u ≤ w → w ≤ last_second → offset w ≡ offset u) → SaysNext offset u none

-- ---- the next change says so

differs : (z : Zone) (u v : ℕ) → is_change z v ≡ true → offset_at z (v - 1) ≡ offset_at z u → offset_at z v ≡ offset_at z u → ⊥
differs z u v e p q = clash false (rw (eq-eqb (offset_at z (v - 1)) (offset_at z v) (p ∙ sym q)) at e) refl

unchanged : (z : Zone) (v : ℕ) → is_change z v ≡ false → offset_at z v ≡ offset_at z (v - 1)
unchanged z v e = sym (eqb-true _ _ (not-false (eqb (offset_at z (v - 1)) (offset_at z v)) e))

module _ (z : Zone) (u : ℕ) where
  abbrev Same : ℕ → Type 0
  Same v = (w : ℕ) → u ≤ w → w < v → offset_at z w ≡ offset_at z u

  longer : (v : ℕ) → Same v → offset_at z v ≡ offset_at z u → Same (suc v)
  longer v s p w a b = go (dec_lt w v)
    where
      go : Dec (w < v) → offset_at z w ≡ offset_at z u
      go (yes h) = s w a h
      go (no h) = let q : w ≡ v = omega arith in ap (offset_at z) q ∙ p

  found : (n v : ℕ) → u < v → n ≡ last_second + 1 - v → Same v → SaysNext (offset_at z) u (first_of (is_change z) v n)
  unfolding first_of
  found zero v h e s = never-changes (λ w a b. s w a (omega arith))
  found (suc n) v h e s =
      let p : offset_at z (v - 1) ≡ offset_at z u = s (v - 1) (omega arith) (omega arith) in
      by-test (is_change z v) (λ t. rw t (changes v h (omega arith) (differs z u v t p) s))
      (λ t. rw t (found n (suc v) (omega arith) (omega arith) (longer v s (unchanged z v t ∙ p))))

  pub next-means : SaysNext (offset_at z) u (next_change z u)
  unfolding next_change
  next-means = found (last_second - u) (suc u) (omega arith) (omega arith) (λ w a b. let q : w ≡ u = omega arith in ap (offset_at z) q)

-- ---- and nothing else does

module _ {offset : ℕ → ℕ} {u : ℕ} where
  later : (v w : ℕ) → (offset v ≡ offset u → ⊥) → u < v → ((x : ℕ) → u ≤ x → x < w → offset x ≡ offset u) → w ≤ v
  later v w d h s = go (dec_lt v w)
    where
      go : Dec (v < w) → w ≤ v
      go (yes k) = absurd (d (s v (omega arith) k))
      go (no k) = omega arith

  pub says-once : {a b : Option ℕ} → SaysNext offset u a → SaysNext offset u b → a ≡ b
  says-once (changes v h m d s) (changes w i n e t) = let q : v ≡ w = omega (arith, later v w d h t, later w v e i s) in ap some q
  says-once (changes v h m d s) (never-changes t) = absurd (d (t v (omega arith) m))
  says-once (never-changes t) (changes v h m d s) = absurd (d (t v (omega arith) m))
  says-once (never-changes t) (never-changes s) = refl

-- what says so is the next change
pub is-next : (z : Zone) (u : ℕ) {a : Option ℕ} → SaysNext (offset_at z) u a → a ≡ next_change z u
is-next z u s = says-once s (next-means z u)

pub next-in : (z : Zone) (u v : ℕ) → next_change z u ≡ some v → v ≤ last_second
next-in z u v e = go (rw e at (next-means z u))
  where
    go : SaysNext (offset_at z) u (some v) → v ≤ last_second
    go (changes v h m d s) = m

-- ---- found by runs of one offset

module _ (z : Zone) {u e : ℕ} (r : Run (offset_at z) u e) where
  pub run-next : e ≤ last_second → (offset_at z e ≡ offset_at z u → ⊥) → some e ≡ next_change z u
  run-next h d = is-next z u (changes e r.on h d r.same)

  pub run-never : last_second < e → none ≡ next_change z u
  run-never h = is-next z u (never-changes (λ w a b. r.same w a (omega arith)))

pub late-never : (z : Zone) (u : ℕ) → last_second ≤ u → none ≡ next_change z u
late-never z u h = is-next z u (never-changes (λ w a b. let q : w ≡ u = omega arith in ap (offset_at z) q))

-- ---- found by computing: no change up to the second before, and a change there

module _ (z : Zone) (f : FooterFits z.footer) (u : ℕ) where
  pub steady-next : (v : ℕ) → u < v → v ≤ last_second → steady z u (v - 1) ≡ true → is_change z v ≡ true → next_change z u ≡ some v
  steady-next v h m s t =
      let p : offset_at z (v - 1) ≡ offset_at z u = steady-same z f u (v - 1) s (v - 1) (omega arith) (omega arith) in
      sym (is-next z u (changes v h m (differs z u v t p) (λ w a b. steady-same z f u (v - 1) s w a (omega arith))))

  pub steady-never : steady z u last_second ≡ true → next_change z u ≡ none
  steady-never s = sym (is-next z u (never-changes (λ w a b. steady-same z f u last_second s w a b)))
