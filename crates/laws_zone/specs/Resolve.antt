-- What `second_of` means. Document 01: "a local time takes the earliest instant that reads so .. If none does, take the earliest change that jumps
-- over it and use the offset before it." The definition looks at 187,200 s; the meaning speaks of every second and every change.
use Rattle.std.specs.Prelude.{◌≡◌, List, [], ◌∷◌, map, ℕ, zero, suc, ◌+◌, ◌-◌, ◌≤◌, ◌<◌, leb, ltb}
use Rattle.std.proofs.Math.Path.{refl}
use Rattle.std.proofs.Common.{sym, ap, subst, inl, arith, le-leb, lt-ltb, leb-true, ltb-true, eq-eqb, eqb-true}
use Rattle.std.proofs.Math.Decide.{dec_le, dec_lt}
use Rattle.model.specs.Basic.{filter, least_or}
use Rattle.model.specs.Tzif.{Zone}
use Rattle.model.specs.Offset.{greatest_offset}
use Rattle.model.specs.Zone.{offset_at, changes_in, reads, jumps, second_of}
use Rattle.laws_base.specs.Test.{and_both, both-and}
use Rattle.laws_base.specs.Members.{Member, filter_passes, filter-keeps, in_map, or-in, or-least}
use Rattle.laws_zone.specs.Grammar.{FooterFits}
use Rattle.laws_zone.specs.Changes.{change-listed, has-tried}
use Rattle.laws_zone.specs.Sound.{first_local}

-- ---- the meaning, of any offsets

module _ (offset : ℕ → ℕ) where
  -- the second u reads l
  abbrev pub Reads : ℕ → ℕ → Type 0
  Reads l u = u + offset u ≡ l

  -- the change at e jumps over l
  pub record Jumps (l e : ℕ) : Type 0 where
    pub from : e + offset (e - 1) ≤ l
    pub to : l < e + offset e

  -- the least second that reads l; or, where none does, l less the offset before the least jump over it
  pub data Resolves (l : ℕ) : ℕ → Type 0 where
    read : {u : ℕ} → Reads l u → ((v : ℕ) → v < u → Reads l v → ⊥) → Resolves l u
    jump : {d : ℕ} (e : ℕ) → d + offset (e - 1) ≡ l → ((v : ℕ) → Reads l v → ⊥) → Jumps l e → ((f : ℕ) → f < e → Jumps l f → ⊥) → Resolves l d

  -- always the local time less an offset of the zone
  pub by-offset : {l d : ℕ} → Resolves l d → (w : ℕ) × (d + offset w ≡ l)
  by-offset (read {u} r n) = (u, r)
  by-offset (jump e q n j m) = (e - 1, q)

  -- .. that it has shortly before it
  pub by-near-offset : {l d : ℕ} → ((u : ℕ) → offset u ≤ greatest_offset) → Resolves l d → (w : ℕ) × (l ≤ w + greatest_offset) × (d + offset w ≡ l)
  by-near-offset high (read {u} r n) = (u, omega (arith, r, high u), r)
  by-near-offset high (jump e q n j m) = (e - 1, omega (arith, j.to, high e), q)

  -- if some second reads l, the answer does, and is no later
  pub reads-if : {l d v : ℕ} → Resolves l d → Reads l v → (Reads l d) × (d ≤ v)
  reads-if {l} {d} {v} (read r n) s = (r, go (dec_le d v))
    where
      go : Dec (d ≤ v) → d ≤ v
      go (yes k) = k
      go (no k) = absurd (n v (omega arith) s)
  reads-if {v = v} (jump e q n j m) s = absurd (n v s)

  least : (P : ℕ → Type 0) {a b : ℕ} → P a → P b → ((v : ℕ) → v < a → P v → ⊥) → ((v : ℕ) → v < b → P v → ⊥) → a ≡ b
  least P {a} {b} p q f g = go (dec_lt a b) (dec_lt b a)
    where
      go : Dec (a < b) → Dec (b < a) → a ≡ b
      go (yes k) r = absurd (g a k p)
      go (no k) (yes r) = absurd (f b r q)
      go (no k) (no r) = omega arith

  -- the meaning fixes the answer
  pub one_answer : {l a b : ℕ} → Resolves l a → Resolves l b → a ≡ b
  one_answer {l} (read r n) (read s m) = least (Reads l) r s n m
  one_answer (read {u} r n) (jump e q m j o) = absurd (m u r)
  one_answer (jump e q m j o) (read {u} r n) = absurd (m u r)
  one_answer {l} (jump e q n j m) (jump f r o k p) = let s : e ≡ f = least (Jumps l) j k m p in omega (arith, q, r, ap (λ (x : ℕ). offset (x - 1)) s)

  -- where the clock passes l and no second reads it, a change jumps over it
  jumped : (l a n : ℕ) → ((v : ℕ) → Reads l v → ⊥) → a + offset a ≤ l → l < a + n + offset (a + n) → (e : ℕ) × Jumps l e
  jumped l a zero g h k = let s : a + 0 ≡ a = omega arith in absurd (omega (arith, ap offset s))
  jumped l a (suc n) g h k = go (dec_le (a + n + offset (a + n)) l) (λ q. jumped l a n g h q)
    where
      go : Dec (a + n + offset (a + n) ≤ l) → (l < a + n + offset (a + n) → (e : ℕ) × Jumps l e) → (e : ℕ) × Jumps l e
      go (no p) f = f (omega arith)
      go (yes p) f = short (dec_lt (a + n + offset (a + n)) l)
        where
          short : Dec (a + n + offset (a + n) < l) → (e : ℕ) × Jumps l e
          short (yes q) = let s : a + suc n - 1 ≡ a + n = omega arith in (a + suc n, record { from = omega (arith, ap offset s); to = k })
          short (no q) = absurd (g (a + n) (omega arith))

-- ---- the definition

module _ (z : Zone) (f : FooterFits z.footer) (low : (u : ℕ) → 1 ≤ offset_at z u) (high : (u : ℕ) → offset_at z u ≤ greatest_offset) (l : ℕ) (h : first_local ≤ l) where
  abbrev begin : ℕ
  begin = l - first_local

  abbrev tries : List ℕ
  tries = map (λ e. l - offset_at z e) (begin ∷ changes_in z begin l)

  -- the seconds that read l are among those tried
  pub read-tried : (u : ℕ) → Reads (offset_at z) l u → Member u (filter (reads z l) tries)
  read-tried u p =
      let r = has-tried z f begin l u (omega (arith, p, high u)) (omega (arith, p)) in
      let e : l - offset_at z r.0 ≡ u = omega (arith, p, r.2) in
      filter-keeps (reads z l) tries u (subst (λ (v : ℕ). Member v tries) e (in_map (λ e. l - offset_at z e) (begin ∷ changes_in z begin l) r.0 r.1)) (eq-eqb _ _ p)

  abbrev overs : List ℕ
  overs = filter (jumps z l) (changes_in z begin l)

  -- the jumps over l are among the changes looked at
  jump-listed : (e : ℕ) → Jumps (offset_at z) l e → Member e overs
  jump-listed e j =
      filter-keeps (jumps z l) (changes_in z begin l) e
      (change-listed z f begin l e (omega (arith, high e)) (omega (arith, low (e - 1))) (λ (p : offset_at z (e - 1) ≡ offset_at z e). omega arith))
      (both-and (leb (e + offset_at z (e - 1)) l) (ltb l (e + offset_at z e)) (le-leb _ _ j.from) (lt-ltb _ _ j.to))

  listed-jump : (e : ℕ) → Member e overs → Jumps (offset_at z) l e
  listed-jump e i =
      let t = and_both (leb (e + offset_at z (e - 1)) l) (ltb l (e + offset_at z e)) (filter_passes (jumps z l) (changes_in z begin l) e i) in
      record { from = leb-true _ _ t.0; to = ltb-true _ _ t.1 }

  by_jump : ((v : ℕ) → Reads (offset_at z) l v → ⊥) → Resolves (offset_at z) l (l - offset_at z (least_or 0 overs - 1))
  by_jump g =
      let s : begin + first_local ≡ l = omega arith in
      let e = jumped (offset_at z) l begin first_local g (omega (arith, high begin)) (omega (arith, ap (offset_at z) s, low l)) in
      let i = jump-listed e.0 e.1 in
      let q : l - offset_at z (least_or 0 overs - 1) + offset_at z (least_or 0 overs - 1) ≡ l = omega (arith, high (least_or 0 overs - 1)) in
      jump (least_or 0 overs) q g (listed-jump _ (or-in 0 overs e.0 i))
      (λ k p j. let m : least_or 0 overs ≤ k = or-least 0 overs k (jump-listed k j) in omega arith)

  answered : (rs : List ℕ) → filter (reads z l) tries ≡ rs → Resolves (offset_at z) l (least_or (l - offset_at z (least_or 0 overs - 1)) rs)
  answered [] e = by_jump (λ v p. rw e at (read-tried v p))
  answered (n ∷ rs) e =
      let i : Member (least_or 0 (n ∷ rs)) (n ∷ rs) = or-in 0 (n ∷ rs) n (inl refl) in
      read (eqb-true _ _ (filter_passes (reads z l) tries _ (subst (λ (x : List ℕ). Member (least_or 0 (n ∷ rs)) x) (sym e) i)))
      (λ v p q. let m : least_or 0 (n ∷ rs) ≤ v = or-least 0 (n ∷ rs) v (rw e at (read-tried v q)) in omega arith)

  pub second-means : Resolves (offset_at z) l (second_of z l)
  unfolding second_of
  second-means = answered (filter (reads z l) tries) refl
