-- Where the offset of a zone changes: at no second but those that `changes_in` lists. So `steady` says what it is named for.
use Rattle.std.specs.Prelude.{◌≡◌, refl, Bool, true, false, ◌&&◌, List, [], ◌∷◌, ◌++◌, map, ◌⊎◌, ℕ, zero, suc, ◌+◌, ◌-◌, ◌≤◌, ◌<◌, eqb}
use Rattle.std.proofs.Common.{sym, ◌∙◌, ap, arith}
use Rattle.std.proofs.Math.Logic.{inl, inr}
use Rattle.std.proofs.Math.Decide.{dec_le}
use Rattle.std.proofs.Math.Dec.{leb, ltb}
use borrow.Author.Tests.{le-leb, lt-ltb, leb-true, leb-false, ltb-true, eq-eqb, eqb-true, not-false}
use Rattle.model.specs.Basic.{run, any}
use Rattle.model.specs.Footer.{Footer, empty, fixed, rules, ChangeRule, change_in}
use Rattle.model.specs.Tzif.{Zone, Change}
use Rattle.model.specs.Offset.{greatest_offset}
use Rattle.model.specs.Zone.{latest, year_at, ruled_at, offset_from, offset_at, footer_changes, changes_in, is_change, steady}
use Rattle.laws_base.specs.Test.{by-test, by-either, and_both, both-and, not-true, true-not, clash}
use Rattle.laws_base.specs.Members.{Member, filter_passes, filter-keeps, in_map, in_right, in-run}
use Rattle.laws_zone.specs.FooterChanges.{ChangeRuleFits, latest-is, latest-le, latest-of-all, change-rises, two-before, two-after}
use Rattle.laws_zone.specs.Grammar.{FooterFits}

-- ---- lists

in_left : (a b : List ℕ) (u : ℕ) → Member u a → Member u (a ++ b)
in_left [] b u h = absurd h
in_left (n ∷ a) b u (inl p) = inl p
in_left (n ∷ a) b u (inr q) = inr (in_left a b u q)

-- ---- a footer

-- e is the change of some year
abbrev pub ChangesAt : (ℕ → ℕ) → ℕ → Type 0
ChangesAt change e = (y : ℕ) × (change y ≡ e)

-- the changes of the years that `changes_in` looks at
abbrev looked : ℕ → ChangeRule → ℕ → ℕ → List ℕ
looked o r a b = map (change_in o r) (run (year_at a - 2) (year_at b + 5 - year_at a))

module _ (o : ℕ) (r : ChangeRule) (ho : o ≤ greatest_offset) (f : ChangeRuleFits r) where
  abbrev change : ℕ → ℕ
  change = change_in o r

  not-later : (e : ℕ) → latest change (e - 1) ≤ latest change e
  not-later e =
      by-either (λ (p : latest change (e - 1) ≡ 0). omega arith)
      (λ (p : ChangesAt change (latest change (e - 1))).
      let k : change p.0 ≤ e = omega (arith, p.1, latest-le change (e - 1)) in
      omega (arith, p.1, latest-of-all o r ho f e p.0 k))
      (latest-is change (e - 1))

  -- the latest change is another at e than just before only where e is a change
  latest-steps : (e : ℕ) → (latest change (e - 1) ≡ latest change e) ⊎ ChangesAt change e
  latest-steps e =
      by-either (λ (p : latest change e ≡ 0). inl (omega (arith, not-later e))) (λ (p : ChangesAt change (latest change e)). go p (dec_le e (latest change e)))
      (latest-is change e)
    where
      go : ChangesAt change (latest change e) → Dec (e ≤ latest change e) → (latest change (e - 1) ≡ latest change e) ⊎ ChangesAt change e
      go p (yes h) = inr (p.0, omega (arith, p.1, latest-le change e))
      go p (no h) =
          let k : change p.0 ≤ e - 1 = omega (arith, p.1) in
          inl (omega (arith, p.1, not-later e, latest-of-all o r ho f (e - 1) p.0 k))

  -- they hold all changes behind a, up to b
  change-looked : (a b e : ℕ) → a < e → e ≤ b → ChangesAt change e → Member e (looked o r a b)
  change-looked a b e ha hb (y, p) =
      let lo : year_at a - 2 ≤ y = low (dec_le (year_at a - 2) y) in
      let hi : y < year_at b + 2 = high (dec_le (year_at b + 2) y) in
      rw p at (in_map change (run (year_at a - 2) (year_at b + 5 - year_at a)) y (in-run (year_at b + 5 - year_at a) (year_at a - 2) y lo (omega arith)))
    where
      low : Dec (year_at a - 2 ≤ y) → year_at a - 2 ≤ y
      low (yes h) = h
      low (no h) = absurd (omega (arith, p, change-rises o r ho f y (year_at a - 2) (omega arith), two-before o r ho f a (omega arith)))

      high : Dec (year_at b + 2 ≤ y) → y < year_at b + 2
      high (yes h) = absurd (omega (arith, p, two-after o r ho f b y h))
      high (no h) = omega arith

-- e is a change of the footer
abbrev pub FooterChangesAt : Footer → ℕ → Type 0
FooterChangesAt empty e = ⊥
FooterChangesAt (fixed o) e = ⊥
FooterChangesAt (rules std dst start end) e = ChangesAt (change_in std start) e ⊎ ChangesAt (change_in dst end) e

ruled-steps : (f : Footer) → FooterFits f → (o e : ℕ) → (ruled_at f o (e - 1) ≡ ruled_at f o e) ⊎ FooterChangesAt f e
unfolding ruled_at
ruled-steps empty h o e = inl refl
ruled-steps (fixed g) h o e = inl refl
ruled-steps (rules std dst start end) h o e =
    by-either (λ (p : latest (change_in std start) (e - 1) ≡ latest (change_in std start) e).
    by-either (λ (q : latest (change_in dst end) (e - 1) ≡ latest (change_in dst end) e). inl (rw (p, q) refl))
    (λ (q : ChangesAt (change_in dst end) e). inr (inr q)) (latest-steps dst end h.1.1 h.3 e))
    (λ (p : ChangesAt (change_in std start) e). inr (inl p)) (latest-steps std start h.0.1 h.2 e)

footer-in : (f : Footer) → FooterFits f → (a b e : ℕ) → a < e → e ≤ b → FooterChangesAt f e → Member e (footer_changes f (year_at a - 2) (year_at b + 5 - year_at a))
footer-in empty h a b e ha hb t = absurd t
footer-in (fixed g) h a b e ha hb t = absurd t
footer-in (rules std dst start end) h a b e ha hb (inl t) =
    in_left (looked std start a b) (looked dst end a b) e (change-looked std start h.0.1 h.2 a b e ha hb t)
footer-in (rules std dst start end) h a b e ha hb (inr t) =
    in_right (looked std start a b) (looked dst end a b) e (change-looked dst end h.1.1 h.3 a b e ha hb t)

-- ---- the table and the footer

abbrev time_of : Change → ℕ
time_of c = c.time

offset-steps : (o : ℕ) (l : List Change) (f : Footer) → FooterFits f → (e : ℕ)
    → (offset_from o l f (e - 1) ≡ offset_from o l f e) ⊎ (Member e (map time_of l) ⊎ FooterChangesAt f e)
unfolding offset_from
offset-steps o [] f h e = by-either (λ p. inl p) (λ q. inr (inr q)) (ruled-steps f h o e)
offset-steps o (c ∷ l) f h e =
    by-test (leb c.time (e - 1))
    (λ t. let s : leb c.time e ≡ true = le-leb c.time e (omega (arith, leb-true c.time (e - 1) t)) in
    rw (t, s) (by-either (λ p. inl p) (λ q. inr (by-either (λ p. inl (inr p)) (λ r. inr r) q)) (offset-steps c.offset l f h e)))
    (λ t. by-test (leb c.time e)
    (λ s. inr (inl (inl (omega (arith, leb-true c.time e s, leb-false c.time (e - 1) t)))))
    (λ s. inl (rw (t, s) refl)))

-- ---- a zone

pub any_none : (t : ℕ → Bool) (l : List ℕ) (u : ℕ) → any t l ≡ false → Member u l → t u ≡ false
unfolding any
any_none t (n ∷ l) u h i = by-test (t n) (λ e. clash true refl (rw e at h)) (λ e. by-either (λ (p : u ≡ n). rw p e) (λ (q : Member u l). any_none t l u (rw e at h) q) i)
any_none t [] u h i = absurd i

pub none_any : (t : ℕ → Bool) (l : List ℕ) → ((u : ℕ) → Member u l → t u ≡ false) → any t l ≡ false
unfolding any
none_any t [] f = refl
none_any t (n ∷ l) f = rw (f n (inl refl)) (none_any t l (λ u i. f u (inr i)))

module _ (z : Zone) (f : FooterFits z.footer) where
  -- behind a and up to b the offset changes at the listed seconds alone
  pub step : (a b e : ℕ) → a < e → e ≤ b → (offset_at z (e - 1) ≡ offset_at z e) ⊎ Member e (changes_in z a b)
  unfolding offset_at changes_in
  step a b e ha hb =
      by-either (λ p. inl p) (λ q. inr (
      filter-keeps (λ e. ltb a e && leb e b) _ e
      (by-either (λ (r : Member e (map time_of z.changes)). in_left (map time_of z.changes) _ e r)
      (λ (r : FooterChangesAt z.footer e). in_right (map time_of z.changes) _ e (footer-in z.footer f a b e ha hb r)) q)
      (both-and (ltb a e) (leb e b) (lt-ltb a e ha) (le-leb e b hb))))
      (offset-steps z.initial z.changes z.footer f e)

  pub change-listed : (a b e : ℕ) → a < e → e ≤ b → (offset_at z (e - 1) ≡ offset_at z e → ⊥) → Member e (changes_in z a b)
  change-listed a b e ha hb d = by-either (λ p. absurd (d p)) (λ q. q) (step a b e ha hb)

  -- each second of [a, b] has the offset of a or of a listed second
  offset-tried : (a b n : ℕ) → a + n ≤ b → (e : ℕ) × (Member e (a ∷ changes_in z a b)) × (offset_at z e ≡ offset_at z (a + n))
  offset-tried a b zero h = let s : a ≡ a + 0 = omega arith in (a, inl refl, ap (offset_at z) s)
  offset-tried a b (suc n) h =
      let r = offset-tried a b n (omega arith) in
      let s : a + suc n - 1 ≡ a + n = omega arith in
      by-either (λ (p : offset_at z (a + suc n - 1) ≡ offset_at z (a + suc n)). (r.0, r.1, r.2 ∙ (rw s at p)))
      (λ q. (a + suc n, inr q, refl)) (step a b (a + suc n) (omega arith) h)

  pub has-tried : (a b u : ℕ) → a ≤ u → u ≤ b → (e : ℕ) × (Member e (a ∷ changes_in z a b)) × (offset_at z e ≡ offset_at z u)
  has-tried a b u ha hb =
      let s : a + (u - a) ≡ u = omega arith in
      rw s at (offset-tried a b (u - a) (omega arith))

  -- ---- a span without change has one offset, and a span of one offset has no change

  unchanged : (a b e : ℕ) → steady z a b ≡ true → a < e → e ≤ b → offset_at z (e - 1) ≡ offset_at z e
  unfolding steady
  unchanged a b e h ha hb =
      by-either (λ p. p)
      (λ q. eqb-true _ _ (not-false (eqb (offset_at z (e - 1)) (offset_at z e)) (any_none (is_change z) (changes_in z a b) e (not-true (any (is_change z) (changes_in z a b)) h) q)))
      (step a b e ha hb)

  same-on : (a b n : ℕ) → steady z a b ≡ true → a + n ≤ b → offset_at z (a + n) ≡ offset_at z a
  same-on a b zero h k = let s : a + 0 ≡ a = omega arith in ap (offset_at z) s
  same-on a b (suc n) h k =
      let s : a + suc n - 1 ≡ a + n = omega arith in
      sym (rw s at (unchanged a b (a + suc n) h (omega arith) k)) ∙ same-on a b n h (omega arith)

  pub steady-same : (a b : ℕ) → steady z a b ≡ true → (u : ℕ) → a ≤ u → u ≤ b → offset_at z u ≡ offset_at z a
  steady-same a b h u ha hb =
      let s : a + (u - a) ≡ u = omega arith in
      rw s at (same-on a b (u - a) h (omega arith))

-- this way round whatever the footer is
pub same-steady : (z : Zone) (a b : ℕ) → ((u : ℕ) → a ≤ u → u ≤ b → offset_at z u ≡ offset_at z a) → steady z a b ≡ true
unfolding steady changes_in
same-steady z a b f = true-not _ (none_any (is_change z) (changes_in z a b) none)
  where
    none : (e : ℕ) → Member e (changes_in z a b) → is_change z e ≡ false
    none e i =
        let t = and_both (ltb a e) (leb e b) (filter_passes (λ e. ltb a e && leb e b) _ e i) in
        let lo : a < e = ltb-true a e t.0 in
        let hi : e ≤ b = leb-true e b t.1 in
        let p : offset_at z (e - 1) ≡ offset_at z e = f (e - 1) (omega arith) (omega arith) ∙ sym (f e (omega arith) hi) in
        rw (eq-eqb (offset_at z (e - 1)) (offset_at z e) p) refl
