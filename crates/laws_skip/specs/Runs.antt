-- One test for a run of borders: where it passes, the skip test passes at each border of the run.
use Rattle.std.specs.Prelude.{◌≡◌, refl, Bool, true, false, ◌&&◌, ◌⊎◌, List, [], ◌∷◌, ◌++◌, map, ℕ, ◌+◌, ◌*◌, ◌-◌, ◌/◌, ◌≤◌, eqb}
use Rattle.std.proofs.Common.{sym, ◌∙◌, inl, inr}
use native.Mathlib.Omega.{arith}
use Rattle.std.proofs.Math.Dec.{leb}
use borrow.Author.Tests.{leb-true, le-leb, eqb-true, eqb-false}
use Rattle.model.specs.Basic.{all, any, is_in}
use Rattle.model.specs.Instant.{second, day, week, first_instant, last_instant}
use Rattle.model.specs.Tzif.{Zone}
use Rattle.model.specs.Zone.{steady}
use Rattle.model.specs.Working.{Holidays, Schedule, holiday_rule, local_day, first_date, last_date}
use Rattle.model.specs.Skip.{rule_steady, none_near, repeats}
use Rattle.laws_base.specs.Test.{by-test, and_both, both-and, clash, not-true, true-not, all_head}
use Rattle.laws_zone.specs.Changes.{any_none, none_any, same-steady}
use Rattle.laws_zone.specs.Sound.{Sound}
use Rattle.laws_base.specs.Every.{Every, every-apart, every-both}
use Rattle.laws_demand3.specs.Windows.{RuleOk, OfRules}
use Rattle.laws_demand3.specs.Local.{offset-low, offset-high, day-is, first-near, first-upto, last-near, last-from}
use Rattle.laws_skip.specs.Steady.{}

-- the borders from t to u, whole weeks apart
unfoldable pub repeats_to : Schedule → ℕ → ℕ → Bool
repeats_to s t u =
    let a = t - 11 * day in
    let b = u + 11 * day in
    (leb (first_instant + 11 * day) t && leb b last_instant)
    && (all (rule_steady a b) (s.work ++ s.breaks) && all (none_near a b) s.holidays)

pub repeats-one : (s : Schedule) (t : ℕ) → repeats_to s t t ≡ repeats s t
unfolding repeats_to repeats
repeats-one s t = refl

-- ---- a zone

-- the same instant, or a week apart or more
abbrev pub Apart : ℕ → ℕ → Type 0
Apart t u = (t ≡ u) ⊎ (t + week ≤ u)

module _ (z : Zone) (s : Sound z) where
  steady-part : (a b c d : ℕ) → first_instant ≤ a → a ≤ c → d ≤ b → steady z (a / second) (b / second) ≡ true → steady z (c / second) (d / second) ≡ true
  steady-part a b c d h p q e =
      same-steady z (c / second) (d / second) (λ u i j. s.same (a / second) (b / second) (omega arith) e u (omega arith) (omega arith)
      ∙ sym (s.same (a / second) (b / second) (omega arith) e (c / second) (omega arith) (omega arith)))

  days-on : (t u : ℕ) → t + week ≤ u → local_day z t + 4 ≤ local_day z u
  days-on t u h =
      let a = day-is z s t in let b = day-is z s u in
      let c = offset-high z s t in let d = offset-low z s u in
      omega arith

  first_on : (t u : ℕ) → Apart t u → first_date z t ≤ first_date z u
  first_on t u (inl e) = rw e (omega arith)
  first_on t u (inr h) = let a = days-on t u h in let b = first-upto z s t in let c = first-near z s u in omega arith

  last_on : (t u : ℕ) → Apart t u → last_date z t ≤ last_date z u
  last_on t u (inl e) = rw e (omega arith)
  last_on t u (inr h) = let a = days-on t u h in let b = last-near z s t in let c = last-from z s u in omega arith

-- ---- the tests

all-each : {A : Type 0} (p q : A → Bool) (P : A → Type 0) → ((a : A) → P a → p a ≡ true → q a ≡ true) → (l : List A) → Every P l → all p l ≡ true → all q l ≡ true
unfolding all
all-each p q P f [] h e = refl
all-each p q P f (a ∷ l) h e = let k = all_head p a l e in rw (f a h.0 k.0) (all-each p q P f l h.1 k.1)

OkHolidays : Holidays → Type 0
OkHolidays h = RuleOk (holiday_rule h)

holidays-ok : (l : List Holidays) → Every RuleOk (map holiday_rule l) → Every OkHolidays l
unfolding OkHolidays
holidays-ok [] h = tt
holidays-ok (d ∷ l) h = (h.0, holidays-ok l h.1)

none-part : (h : Holidays) → OkHolidays h → (a b c d : ℕ) → Apart a c → Apart d b → none_near a b h ≡ true → none_near c d h ≡ true
unfolding OkHolidays
none-part h ok a b c d p q e =
    let f = first_date h.zone a in let l = last_date h.zone b in
    let f' = first_date h.zone c in let l' = last_date h.zone d in
    let x = first_on h.zone ok.sound a c p in let y = last_on h.zone ok.sound d b q in
    true-not (any (is_in f' l') h.dates) (none_any (is_in f' l') h.dates (λ u i. narrower f l f' l' u x y (any_none (is_in f l) h.dates u (not-true (any (is_in f l) h.dates) e) i)))
  where
    narrower : (f l f' l' u : ℕ) → f ≤ f' → l' ≤ l → is_in f l u ≡ false → is_in f' l' u ≡ false
    narrower f l f' l' u x y e =
        by-test (leb f' u)
        (λ p. by-test (leb u l')
        (λ q. let i = leb-true f' u p in let j = leb-true u l' q in clash (is_in f l u) (both-and (leb f u) (leb u l) (le-leb f u (omega arith)) (le-leb u l (omega arith))) e)
        (λ q. rw (p, q)))
        (λ p. rw p)

module _ (s : Schedule) (ok : OfRules RuleOk s) where
  -- the test of the run says that of each border in it
  pub run-repeats : (t u v : ℕ) → repeats_to s t u ≡ true → Apart t v → Apart v u → repeats s v ≡ true
  unfolding repeats_to repeats
  run-repeats t u v e p q =
      let a = t - 11 * day in let b = u + 11 * day in
      let c = v - 11 * day in let d = v + 11 * day in
      let k = and_both (leb (first_instant + 11 * day) t && leb b last_instant) (all (rule_steady a b) (s.work ++ s.breaks) && all (none_near a b) s.holidays) e in
      let r = and_both (leb (first_instant + 11 * day) t) (leb b last_instant) k.0 in
      let m = and_both (all (rule_steady a b) (s.work ++ s.breaks)) (all (none_near a b) s.holidays) k.1 in
      let x = leb-true (first_instant + 11 * day) t r.0 in let y = leb-true b last_instant r.1 in
      let i : t ≤ v = upto t v p in let j : v ≤ u = upto v u q in
      let oks = every-apart RuleOk s.breaks (map holiday_rule s.holidays) ok.1 in
      both-and (leb (first_instant + 11 * day) v && leb d last_instant) (all (rule_steady c d) (s.work ++ s.breaks) && all (none_near c d) s.holidays)
      (both-and (leb (first_instant + 11 * day) v) (leb d last_instant) (le-leb (first_instant + 11 * day) v (omega arith)) (le-leb d last_instant (omega arith)))
      (both-and (all (rule_steady c d) (s.work ++ s.breaks)) (all (none_near c d) s.holidays)
      (all-each (rule_steady a b) (rule_steady c d) RuleOk (λ o h f. steady-part o.zone h.sound a b c d (omega arith) (omega arith) (omega arith) f) (s.work ++ s.breaks) (every-both RuleOk s.work s.breaks ok.0 oks.0) m.0)
      (all-each (none_near a b) (none_near c d) OkHolidays (λ o h f. none-part o h a b c d (back-apart t v x p) (on-apart v u q) f) s.holidays (holidays-ok s.holidays oks.1) m.1))
    where
      upto : (t u : ℕ) → Apart t u → t ≤ u
      upto t u (inl e) = omega arith
      upto t u (inr h) = omega arith

      back-apart : (t u : ℕ) → first_instant + 11 * day ≤ t → Apart t u → Apart (t - 11 * day) (u - 11 * day)
      back-apart t u x (inl e) = inl (omega arith)
      back-apart t u x (inr h) = inr (omega arith)

      on-apart : (t u : ℕ) → Apart t u → Apart (t + 11 * day) (u + 11 * day)
      on-apart t u (inl e) = inl (omega arith)
      on-apart t u (inr h) = inr (omega arith)

  -- k + 1 borders from t on
  pub run-each : (t k i : ℕ) → repeats_to s t (t + k * week) ≡ true → i ≤ k → repeats s (t + i * week) ≡ true
  run-each t k i e h = run-repeats t (t + k * week) (t + i * week) e (on i) (upto i h)
    where
      on : (i : ℕ) → Apart t (t + i * week)
      on i = from (eqb i 0) refl
        where
          from : (c : Bool) → eqb i 0 ≡ c → Apart t (t + i * week)
          from true p = let q = eqb-true i 0 p in inl (omega arith)
          from false p = let q = eqb-false i 0 p in inr (omega arith)

      upto : (i : ℕ) → i ≤ k → Apart (t + i * week) (t + k * week)
      upto i h = from (eqb i k) refl
        where
          from : (c : Bool) → eqb i k ≡ c → Apart (t + i * week) (t + k * week)
          from true p = let q = eqb-true i k p in inl (omega arith)
          from false p = let q = eqb-false i k p in inr (omega arith)

  -- and back from t
  pub run-back : (t k i : ℕ) → k * week ≤ t → repeats_to s (t - k * week) t ≡ true → i ≤ k → repeats s (t - i * week) ≡ true
  run-back t k i h e j =
      let f : t - k * week + k * week ≡ t = omega arith in
      let g : t - k * week + (k - i) * week ≡ t - i * week = omega arith in
      rw g at (run-each (t - k * week) k (k - i) (rw f e) (omega arith))
