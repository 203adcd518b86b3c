-- What the mark of a local time means: whether no second, one or more than one reads it. The definition looks at 187,200 s; the meaning speaks of
-- every second.
use Rattle.std.specs.Prelude.{◌≡◌, refl, true, false, not, List, [], ◌∷◌, map, ℕ, ◌-◌, ◌+◌, ◌≤◌, eqb}
use Rattle.std.proofs.Common.{sym, ◌∙◌, inl, inr, eq-eqb, eqb-true}
use Rattle.model.specs.Basic.{any}
use Rattle.model.specs.Tzif.{Zone}
use Rattle.model.specs.Offset.{greatest_offset}
use Rattle.model.specs.Zone.{offset_at, changes_in, reads}
use Rattle.model.specs.Marks.{plain, repeated, skipped, readings, mark_of}
use Rattle.laws_base.specs.Test.{by-test, clash}
use Rattle.laws_base.specs.Members.{Member, filter_passes}
use Rattle.laws_zone.specs.Grammar.{FooterFits}
use Rattle.laws_zone.specs.Sound.{first_local}
use Rattle.laws_zone.specs.Resolve.{Reads, read-tried}

-- ---- the mark of a list of seconds

-- no number but u
none-else : (u : ℕ) (l : List ℕ) → ((v : ℕ) → Member v l → v ≡ u) → any (λ v. not (eqb v u)) l ≡ false
unfolding any
none-else u [] f = refl
none-else u (n ∷ l) f = rw (eq-eqb n u (f n (inl refl))) (none-else u l (λ v i. f v (inr i)))

-- a number that is not u
some-else : (u v : ℕ) (l : List ℕ) → Member v l → (v ≡ u → ⊥) → any (λ v. not (eqb v u)) l ≡ true
unfolding any
some-else u v [] i d = absurd i
some-else u v (n ∷ l) (inl p) d = by-test (eqb n u) (λ e. absurd (d (p ∙ eqb-true n u e))) (λ e. rw e)
some-else u v (n ∷ l) (inr q) d = by-test (eqb n u) (λ e. rw e (some-else u v l q d)) (λ e. rw e)

none-skipped : (l : List ℕ) → ((v : ℕ) → Member v l → ⊥) → mark_of l ≡ skipped
none-skipped [] f = refl
none-skipped (n ∷ l) f = absurd (f n (inl refl))

pub one_plain : (u : ℕ) (l : List ℕ) → Member u l → ((v : ℕ) → Member v l → v ≡ u) → mark_of l ≡ plain
one_plain u [] i f = absurd i
one_plain u (n ∷ l) i f = rw (none-else n l (λ v j. f v (inr j) ∙ sym (f n (inl refl))))

two-repeated : (u v : ℕ) (l : List ℕ) → Member u l → Member v l → (u ≡ v → ⊥) → mark_of l ≡ repeated
two-repeated u v [] i j d = absurd i
two-repeated u v (n ∷ l) (inl p) (inl q) d = absurd (d (p ∙ sym q))
two-repeated u v (n ∷ l) (inl p) (inr j) d = rw (some-else n v l j (λ e. d (p ∙ sym e)))
two-repeated u v (n ∷ l) (inr i) (inl q) d = rw (some-else n u l i (λ e. d (e ∙ sym q)))
two-repeated u v (n ∷ l) (inr i) (inr j) d =
    by-test (eqb u n)
    (λ e. rw (some-else n v l j (λ g. d (eqb-true u n e ∙ sym g))))
    (λ e. rw (some-else n u l i (λ g. clash (eqb u n) (eq-eqb u n g) e)))

-- ---- the mark of a local second

-- what is listed reads l
pub listed-reads : (z : Zone) (l u : ℕ) → Member u (readings z l) → Reads (offset_at z) l u
unfolding readings
listed-reads z l u i = let a = l - (greatest_offset + 1) in eqb-true _ _ (filter_passes (reads z l) (map (λ e. l - offset_at z e) (a ∷ changes_in z a l)) u i)

module _ (z : Zone) (f : FooterFits z.footer) (low : (u : ℕ) → 1 ≤ offset_at z u) (high : (u : ℕ) → offset_at z u ≤ greatest_offset) (l : ℕ) (h : first_local ≤ l) where
  -- what reads l is listed
  reads-listed : (u : ℕ) → Reads (offset_at z) l u → Member u (readings z l)
  unfolding readings
  reads-listed u p = read-tried z f low high l h u p

  -- no second reads l
  pub mark-skipped : ((v : ℕ) → Reads (offset_at z) l v → ⊥) → mark_of (readings z l) ≡ skipped
  mark-skipped n = none-skipped (readings z l) (λ v i. n v (listed-reads z l v i))

  -- one second reads l
  pub mark-plain : (u : ℕ) → Reads (offset_at z) l u → ((v : ℕ) → Reads (offset_at z) l v → v ≡ u) → mark_of (readings z l) ≡ plain
  mark-plain u p one = one_plain u (readings z l) (reads-listed u p) (λ v i. one v (listed-reads z l v i))

  -- two seconds read l
  pub mark-repeated : (u v : ℕ) → Reads (offset_at z) l u → Reads (offset_at z) l v → (u ≡ v → ⊥) → mark_of (readings z l) ≡ repeated
  mark-repeated u v p q d = two-repeated u v (readings z l) (reads-listed u p) (reads-listed v q) d
