-- Zones that keep one offset around an instant: what a turn of the loops over rules and records keeps. Assumes nothing.
use mathlib.Core.Path.{◌≡◌, sym, subst}
use mathlib.Core.List.{List, map}
use Prim.Native.Nat.{ℕ, ◌+◌, ◌*◌, ◌≤◌, ◌<◌}
use native.Mathlib.Omega.{arith}
use lib.ListN.{length, drop, get_or}
use lib.Seq.{take_all}
use Rattle.model.specs.Instant.{second}
use Rattle.model.specs.Working as model
use Rattle.laws_base.specs.Every.{Every, every-both}
use Rattle.laws_base.specs.Front.{front, rest-cons, rest-none}
use Rattle.laws_demand3.specs.Windows.{RuleOk, OfRules}
use Rattle.laws_marks.specs.Plain.{SteadyIn}
use Rattle.laws_zone.specs.Zones.{fits-sound}
use Rattle.zone.specs.Zones.{zone_is}
use Rattle.zone_local.specs.Dates.{KeepsOffset}
use Rattle.rule.specs.Rules.{file_at, rule_is, holidays_is, RuleFits, HolidaysFit}
use Rattle.rule.specs.declared.Rule.{Rule}
use Rattle.rule.specs.declared.HolidayDates.{HolidayDates}
use Rattle.window_dates.proofs.Fill.{maps}
use Rattle.window_marks.proofs.Taken.{closed_rule}

-- ---- one rule

steady : (r : model.Rule) (lo hi o : ℕ) → RuleOk r → KeepsOffset r.zone lo hi o → 0 < o → SteadyIn lo hi r
steady r lo hi o k q h = record { ok = k; low = q.low h; high = q.high h; offset = o * second; same = q.same h }

pub steady-rule : (p f : List ℕ) (r : Rule) (lo hi o : ℕ) → f ≡ file_at p r.at r.len → RuleFits p r → KeepsOffset (zone_is f r.zone) lo hi o → 0 < o → SteadyIn lo hi (rule_is p r)
steady-rule p f r lo hi o e k q h =
    let a = k.from.seconds in let b = k.from.nanos in let c = k.to.seconds in let d = k.to.nanos in
    steady (rule_is p r) lo hi o (record { sound = fits-sound (rule_is p r).zone k.opened.fits; from-day = omega arith; to-day = omega arith }) (rw e at q) h

pub steady-holiday : (b p f : List ℕ) (c : HolidayDates) (lo hi o : ℕ) → f ≡ file_at p c.at c.len → HolidaysFit b p c → KeepsOffset (zone_is f c.zone) lo hi o → 0 < o
    → SteadyIn lo hi (closed_rule b p c)
unfolding closed_rule
steady-holiday b p f c lo hi o e k q h =
    let r = model.holiday_rule (holidays_is b p c) in
    steady r lo hi o (record { sound = fits-sound r.zone k.opened.fits; from-day = omega arith; to-day = omega arith }) (rw e at q) h

-- ---- the rules of a counted array

module _ {A : Type 0} (P : model.Rule → Type 0) (h : A → model.Rule) (n : ℕ) (l : List A) where
  -- the property holds of all if it holds of those from the i-th on
  pub record Keeping (i : ℕ) : Type 0 where
    pub rest : Every P (drop i (front h n l)) → Every P (front h n l)
    pub fits : n ≤ length l
    pub upto : i ≤ n

  pub keeping-starts : n ≤ length l → Keeping 0
  keeping-starts f = record { rest = λ e. e; fits = f; upto = omega arith }

  module _ (i : ℕ) (m : Keeping i) where
    pub keeping-turn : i < n → (x : A) → P (h (get_or l i x)) → Keeping (i + 1)
    keeping-turn t x s = record { rest = λ e. m.rest (subst (Every P) (sym (rest-cons h n l i x t m.fits)) (s, e)); fits = m.fits; upto = omega arith }

    pub keeping-done : n ≤ i → Every P (front h n l)
    keeping-done t =
        let k = m.upto in let e : i ≡ n = omega arith in
        m.rest (rw (e, rest-none h n l m.fits) tt)

-- the records' rules
pub closed-every : (P : model.Rule → Type 0) (b p : List ℕ) (l : List HolidayDates) → Every P (map (closed_rule b p) l) → Every P (map model.holiday_rule (map (holidays_is b p) l))
unfolding closed_rule
closed-every P b p l h = subst (Every P) (maps model.holiday_rule (holidays_is b p) l) h

-- all rules of a schedule
pub all-steady : (P : model.Rule → Type 0) (s : model.Schedule) → Every P s.work → Every P s.breaks → Every P (map model.holiday_rule s.holidays) → OfRules P s
all-steady P s a b c = (a, every-both P s.breaks (map model.holiday_rule s.holidays) b c)

-- each rule of a list
pub keeping-all : {A : Type 0} (P : model.Rule → Type 0) (h : A → model.Rule) (l : List A) (i : ℕ) → Keeping P h (length l) l i → length l ≤ i → Every P (map h l)
keeping-all P h l i m t = rw (take_all (length l) l (omega arith)) at (keeping-done P h (length l) l i m t)
