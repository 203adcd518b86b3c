-- Runs back from a second: in the table, in the footer, and one joined to another.
use mathlib.Core.Path.{◌≡◌, refl, sym, ◌∙◌, ap}
use mathlib.Core.Bool.{Bool, true, false}
use mathlib.Core.List.{List}
use Prim.Native.Nat.{ℕ, zero, suc, ◌+◌, ◌-◌, ◌≤◌, ◌<◌, max}
use native.Mathlib.Omega.{arith}
use native.Mathlib.Decide.{dec_lt}
use Rattle.model.specs.Footer as model
use Rattle.model.specs.Footer.{change_in}
use Rattle.model.specs.Tzif.{Zone}
use Rattle.model.specs.Offset.{greatest_offset}
use Rattle.model.specs.Zone.{latest, offset_at, ruled_at, steady}
use Rattle.laws_base.specs.Test.{by-test, by-either}
use Rattle.laws_zone.specs.Changes.{same-steady}
use Rattle.laws_zone.specs.Sound.{Sound, dawn}
use Rattle.laws_zone.specs.FooterChanges.{ChangeRuleFits, latest-is, latest-le, latest-of-all}
use Rattle.laws_zone.specs.Grammar.{FooterFits}
use Rattle.laws_zone.specs.Runs.{Run, run-steady, run-changes}
use Rattle.zone_tzif.specs.declared.Layout.{Layout}
use Rattle.zone_tzif.specs.Places.{time_at, offset_after}
use Rattle.zone_tzif.specs.Opened.{Opened, zone_at, count_at}
use Rattle.zone_tzif.proofs.Laws.{times-rise, count_most, count_past, count_next, count-is, offset-early, offset-late}
use Rattle.zone_footer.specs.Parsed.{change_rule_is}
use Rattle.zone_footer.specs.declared.Rules as code
use Rattle.zone_footer.specs.declared.Footer.{Footer}
use Rattle.zone_footer.specs.declared.Footer.TheVariants.{Empty, Fixed, Rules}
use Rattle.zone_changes.specs.Meaning.{footer_rules, the_footer, Near}
use Rattle.zone_changes.specs.MeaningLaws.{rules-daylight, rules-standard}
use Rattle.zone_steady.specs.Steady.{SteadyRoom, Back, since_at, low, high}

-- ---- the table

pub since-first : (f : List ℕ) (l : Layout) {k : ℕ} → k ≡ 0 → 0 ≡ since_at f l k
unfolding since_at
since-first f l e = rw e

pub since-next : (f : List ℕ) (l : Layout) (k : ℕ) → (k ≡ 0 → ⊥) → {t : ℕ} → t ≡ time_at f l (k - 1) → t ≡ since_at f l k
unfolding since_at
since-next f l zero h e = absurd (h refl)
since-next f l (suc k) h e = let q : suc k - 1 ≡ k = omega arith in e ∙ ap (time_at f l) q

module _ (f : List ℕ) (l : Layout) (o : Opened f l) where
  -- a second of the table's k-th part lies behind each transition before it
  behind-each : (k v : ℕ) → k ≤ l.count → since_at f l k ≤ v → (j : ℕ) → j < k → time_at f l j ≤ v
  unfolding since_at
  behind-each zero v m h j q = absurd (omega arith)
  behind-each (suc k) v m h j q = omega (arith, times-rise f l o j k (omega arith) (omega arith))

  since-upto : (u k : ℕ) → k ≡ count_at f l u → since_at f l k ≤ u
  unfolding since_at
  since-upto u zero e = omega arith
  since-upto u (suc k) e = count_past f l o u k (omega arith)

  module _ (u : ℕ) {k : ℕ} (e : k ≡ count_at f l u) where
    pub since-le : {s : ℕ} → s ≡ since_at f l k → s ≤ u
    since-le q = omega (arith, q, since-upto u k e)

    count-back : (v : ℕ) → since_at f l k ≤ v → v ≤ u → count_at f l v ≡ k
    count-back v a b =
        count-is f l o v k (omega (arith, count_most f l o u)) (behind-each k v (omega (arith, count_most f l o u)) a)
        (λ h. omega (arith, count_next f l o u (omega arith), ap (time_at f l) e))

    module _ (foot : model.Footer) {s : ℕ} (q : s ≡ since_at f l k) where
      pub early-back : k < l.count → Back (offset_at (zone_at f l foot)) u s
      early-back h = record {
        to = since-le q;
        same = λ v a b.
            let c : count_at f l v ≡ k = count-back v (omega arith) b in
            offset-early f l o v foot (omega arith) ∙ ap (offset_after f l) (c ∙ e) ∙ sym (offset-early f l o u foot (omega arith));
      }

      -- from the last transition on a run of what the footer rules is one of the zone
      pub late-back : l.count ≤ k → k ≤ l.count → {last : ℕ} → last ≡ offset_after f l k → {r : ℕ} → s ≤ r → Back (ruled_at foot last) u r → Back (offset_at (zone_at f l foot)) u r
      late-back h m {last} g {r} i b = record { to = b.to; same = λ v x y. late v (omega arith) y ∙ b.same v x y ∙ sym (late u (omega (arith, since-le q)) (omega arith)) }
        where
          late : (v : ℕ) → s ≤ v → v ≤ u → offset_at (zone_at f l foot) v ≡ ruled_at foot last v
          late v x y =
              let c : count_at f l v ≡ k = count-back v (omega arith) y in
              let n : l.count ≡ k = omega arith in
              offset-late f l o v foot (omega arith) ∙ ap (λ (w : ℕ). ruled_at foot w v) (ap (offset_after f l) n ∙ sym g)

-- ---- the footer

-- from the latest change at or before u up to u it is the latest
module _ (o : ℕ) (t : model.ChangeRule) (ho : o ≤ greatest_offset) (f : ChangeRuleFits t) where
  latest-back : (u v : ℕ) → latest (change_in o t) u ≤ v → v ≤ u → latest (change_in o t) v ≡ latest (change_in o t) u
  latest-back u v h k = omega (arith, later, earlier)
    where
      later : latest (change_in o t) u ≤ latest (change_in o t) v
      later =
          by-either (λ (p : latest (change_in o t) u ≡ 0). omega arith)
          (λ (p : (y : ℕ) × (change_in o t y ≡ latest (change_in o t) u)). omega (arith, p.1, latest-of-all o t ho f v p.0 (omega (arith, p.1))))
          (latest-is (change_in o t) u)

      earlier : latest (change_in o t) v ≤ latest (change_in o t) u
      earlier =
          by-either (λ (p : latest (change_in o t) v ≡ 0). omega arith)
          (λ (p : (y : ℕ) × (change_in o t y ≡ latest (change_in o t) v)). omega (arith, p.1, latest-of-all o t ho f u p.0 (omega (arith, p.1, latest-le (change_in o t) v))))
          (latest-is (change_in o t) v)

-- r is the footer's offset at u and has stayed it from s on, which is not before `from`
abbrev StaysFrom : Footer → ℕ → ℕ → ℕ → ℕ → ℕ → Type 0
StaysFrom f o u from r s = (r ≡ ruled_at (the_footer f) o u) × Back (ruled_at (the_footer f) o) u s × (from ≤ s)

pub empty-behind : {f : Footer} (o : ℕ) {u from : ℕ} → f ≡ Empty → from ≤ u → StaysFrom f o u from o from
unfolding ruled_at
empty-behind o e h = rw e (refl, record { to = h; same = λ v p q. refl }, omega arith)

pub fixed-behind : {f : Footer} (o : ℕ) {g u from : ℕ} → f ≡ Fixed g → from ≤ u → StaysFrom f o u from g from
unfolding ruled_at
fixed-behind o e h = rw e (refl, record { to = h; same = λ v p q. refl }, omega arith)

module _ {f : Footer} {r : code.Rules} (e : f ≡ Rules r) (fits : FooterFits (the_footer f)) where
  pub start_fits : ChangeRuleFits (change_rule_is r.start) × (r.std ≤ greatest_offset)
  start_fits = let h = (rw e at fits) in (h.2, h.0.1)

  pub end_fits : ChangeRuleFits (change_rule_is r.end) × (r.dst ≤ greatest_offset)
  end_fits = let h = (rw e at fits) in (h.3, h.1.1)

  module _ (o : ℕ) {u from la na lb nb m s : ℕ} (h : from ≤ u) (a : Near (change_in r.std (change_rule_is r.start)) u la na) (b : Near (change_in r.dst (change_rule_is r.end)) u lb nb) (p : m ≡ max la lb) (q : s ≡ max from m) where
    rules-back : Back (ruled_at (footer_rules r) o) u s
    unfolding ruled_at
    rules-back = record {
      to = omega (arith, a.last-is, b.last-is, latest-le (change_in r.std (change_rule_is r.start)) u, latest-le (change_in r.dst (change_rule_is r.end)) u);
      same = λ v x y.
          rw (
            latest-back r.std (change_rule_is r.start) start_fits.1 start_fits.0 u v (omega (arith, a.last-is)) y,
            latest-back r.dst (change_rule_is r.end) end_fits.1 end_fits.0 u v (omega (arith, b.last-is)) y,
          );
    }

    pub daylight-behind : lb ≤ la → StaysFrom f o u from r.dst s
    daylight-behind i = let k = (rw e at fits) in rw e (rules-daylight r.std r.dst (change_rule_is r.start) (change_rule_is r.end) k o a b i, rules-back, omega arith)

    pub standard-behind : la < lb → StaysFrom f o u from r.std s
    standard-behind i = let k = (rw e at fits) in rw e (rules-standard r.std r.dst (change_rule_is r.start) (change_rule_is r.end) k o a b i, rules-back, omega arith)

-- ---- how far it stays

module _ (z : Zone) (k : Sound z) {lo hi : ℕ} (d : dawn ≤ lo) where
  pub on-changes : {e : ℕ} → Run (offset_at z) lo e → e ≤ hi → (offset_at z e ≡ offset_at z lo → ⊥) → SteadyRoom (λ e. steady z lo (hi + e)) 0
  on-changes r h n = let q : hi + 0 ≡ hi = omega arith in record { none = λ _. rw q (sym (run-changes z r k hi d h n)); each = λ e h. absurd (omega arith) }

  pub back-changes : {s : ℕ} → Back (offset_at z) hi s → lo < s → (offset_at z (s - 1) ≡ offset_at z hi → ⊥) → SteadyRoom (λ e. steady z (lo - e) hi) 0
  back-changes {s} b h n =
      let q : lo - 0 ≡ lo = omega arith in
      record {
        none = λ _. rw q (by-test (steady z lo hi)
            (λ t. absurd (n (k.same lo hi d t (s - 1) (omega arith) (omega (arith, b.to)) ∙ sym (k.same lo hi d t hi (omega (arith, b.to)) (omega arith)))))
            (λ t. t));
        each = λ e h. absurd (omega arith);
      }

pub on-stays : (z : Zone) {lo hi e : ℕ} → Run (offset_at z) lo e → hi < e → SteadyRoom (λ e. steady z lo (hi + e)) (e - hi)
on-stays z {lo} {hi} {e} r h = record { none = λ q. absurd (omega arith); each = λ x p. sym (run-steady z r (hi + x) (omega arith)) }

pub back-stays : (z : Zone) {lo hi s : ℕ} → Back (offset_at z) hi s → s ≤ lo → lo ≤ hi → SteadyRoom (λ e. steady z (lo - e) hi) (lo - s + 1)
back-stays z {lo} {hi} {s} b h k = record {
  none = λ q. absurd (omega arith);
  each = λ x p. same-steady z (lo - x) hi (λ u i j. b.same u (omega arith) j ∙ sym (b.same (lo - x) (omega arith) (omega arith)));
}

-- one run back joined to another
pub back_on : {offset : ℕ → ℕ} {u s r : ℕ} → Back offset u s → 0 < s → Back offset (s - 1) r → offset (s - 1) ≡ offset u → Back offset u r
back_on {offset} {u} {s} {r} b h c q = record { to = omega (arith, b.to, c.to); same = λ v x y. go v x y (dec_lt v s) }
  where
    go : (v : ℕ) → r ≤ v → v ≤ u → Dec (v < s) → offset v ≡ offset u
    go v x y (yes l) = c.same v x (omega arith) ∙ q
    go v x y (no l) = b.same v (omega arith) y

-- ---- either way

pub room_back : {back : Bool} (z : Zone) (lo hi : ℕ) {r : ℕ} → back ≡ true → SteadyRoom (λ e. steady z (lo - e) hi) r → SteadyRoom (λ e. steady z (low back lo e) (high back hi e)) r
room_back z lo hi e r = rw e r

pub room-on : {back : Bool} (z : Zone) (lo hi : ℕ) {r : ℕ} → back ≡ false → SteadyRoom (λ e. steady z lo (hi + e)) r → SteadyRoom (λ e. steady z (low back lo e) (high back hi e)) r
room-on z lo hi e r = rw e r
