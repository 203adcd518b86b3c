-- A date whose local times lie further from an instant than the zone's offsets reach shows nothing around it: what is taken of it starts behind the instant
-- even by the greatest offset, or ends before it even by the least.
use Rattle.std.specs.Prelude.{◌≡◌, [], ℕ, ◌+◌, ◌*◌, ◌/◌, ◌≤◌, ◌<◌, ltb}
use Rattle.std.proofs.Common.{arith}
use borrow.Author.Tests.{ltb-true, ltb-false, lt-leb, le-leb, le-ltb, lt-ltb, ne_eqb}
use Rattle.model.specs.Basic.{any}
use Rattle.model.specs.Calendar.{first_day, last_day}
use Rattle.model.specs.Instant.{second, day, day_seconds, first_instant, last_instant}
use Rattle.model.specs.Offset.{offset_bias}
use Rattle.model.specs.Zone.{offset_at, resolve}
use Rattle.model.specs.Working.{Rule, start_of, end_of}
use Rattle.model.specs.Marks.{whole_on}
use Rattle.laws_base.specs.Test.{by-test}
use Rattle.laws_demand3.specs.Windows.{RuleOk}
use Rattle.laws_demand3.specs.Local.{raw, Clamped, kept, early, late, raw-takes, in-range}
use Rattle.laws_skip.specs.Steady.{till}
use Rattle.laws_marks.specs.Around.{around_of, covered_at, covered_before, best_start, best_end}

-- ---- what lies apart from u shows nothing around it

module _ (r : Rule) (d u : ℕ) where
  pub shows-none : (start_of r d < end_of r d → u < start_of r d) → around_of u (whole_on r d) ≡ around_of u []
  unfolding whole_on covered_at covered_before best_start best_end any
  shows-none h =
      by-test (ltb (start_of r d) (end_of r d))
      (λ t. let k = h (ltb-true _ _ t) in let e = ltb-true (start_of r d) (end_of r d) t in
      rw (t, lt-leb (start_of r d) u k, le-ltb (start_of r d) u (omega arith), ne_eqb (start_of r d) u (λ q. omega arith), ne_eqb (end_of r d) u (λ q. omega arith)))
      (λ t. rw t)

  pub shows-none-before : (start_of r d < end_of r d → end_of r d < u) → around_of u (whole_on r d) ≡ around_of u []
  unfolding whole_on covered_at covered_before best_start best_end any
  shows-none-before h =
      by-test (ltb (start_of r d) (end_of r d))
      (λ t. let k = h (ltb-true _ _ t) in let e = ltb-true (start_of r d) (end_of r d) t in
      rw (t, le-leb (start_of r d) u (omega arith), lt-ltb (start_of r d) u (omega arith), le-ltb u (end_of r d) (omega arith), lt-leb u (end_of r d) k, ne_eqb (start_of r d) u (λ q. omega arith), ne_eqb (end_of r d) u (λ q. omega arith)))
      (λ t. rw t)

-- ---- what the offsets' bounds tell

module _ (r : Rule) (ok : RuleOk r) (d : ℕ) (a : first_day ≤ d) (b : d ≤ last_day) where
  clamped-in : (x y : ℕ) → Clamped x y → (first_instant ≤ y) × (y ≤ last_instant)
  clamped-in x y (kept p q) = (p, q)
  clamped-in x y (early p) = (omega arith, omega arith)
  clamped-in x y (late p) = (omega arith, omega arith)

  start-in : first_instant ≤ start_of r d
  unfolding start_of
  start-in = (clamped-in (raw r.zone d r.from) (resolve r.zone d r.from) (in-range r.zone ok.sound d r.from a b ok.from-day)).0

  end-in : end_of r d ≤ last_instant
  unfolding end_of
  end-in =
      by-test (ltb r.from r.to)
      (λ p. rw p (clamped-in (raw r.zone d r.to) (resolve r.zone d r.to) (in-range r.zone ok.sound d r.to a b ok.to-day)).1)
      (λ p. by-test (ltb d last_day)
      (λ q. let m = ltb-true d last_day q in
      rw (p, q) (clamped-in (raw r.zone (d + 1) r.to) (resolve r.zone (d + 1) r.to) (in-range r.zone ok.sound (d + 1) r.to (omega arith) (omega arith) ok.to-day)).1)
      (λ q. rw (p, q) (omega arith)))

  module _ (u : ℕ) (from : first_instant ≤ u) (upto : u ≤ last_instant) where
    -- a start behind u, by the greatest offset
    module _ (greatest : ℕ) (high : (v : ℕ) → offset_at r.zone v ≤ greatest) (h : u / second + greatest < d * day_seconds + r.from / second + offset_bias) where
      raw-behind : u < raw r.zone d r.from
      raw-behind = let k = raw-takes r.zone ok.sound d r.from a in let e = k.2 in let g = high k.0 in omega arith

      starts-behind : start_of r d < end_of r d → u < start_of r d
      unfolding start_of
      starts-behind n = go (raw r.zone d r.from) (resolve r.zone d r.from) (in-range r.zone ok.sound d r.from a b ok.from-day) raw-behind n
        where
          go : (x y : ℕ) → Clamped x y → u < x → y < end_of r d → u < y
          go x y (kept p q) v w = v
          go x y (early p) v w = absurd (omega arith)
          go x y (late p) v w = absurd (let m = end-in in omega arith)

      pub behind-shows-none : around_of u (whole_on r d) ≡ around_of u []
      behind-shows-none = shows-none r d u starts-behind

    -- an end before u, by the least offset
    module _ (least : ℕ) (low : (v : ℕ) → least ≤ offset_at r.zone v) (h : d * day_seconds + till r / second + offset_bias < u / second + least) where
      ends_by : (k t : ℕ) → first_day ≤ k → k ≤ last_day → t < day → (k * day + t ≡ d * day + till r) → start_of r d < resolve r.zone k t → resolve r.zone k t < u
      ends_by k t c e f g n = go (raw r.zone k t) (resolve r.zone k t) (in-range r.zone ok.sound k t c e f) (let w = raw-takes r.zone ok.sound k t c in let q = w.2 in let l = low w.0 in omega arith) n
        where
          go : (x y : ℕ) → Clamped x y → x < u → start_of r d < y → y < u
          go x y (kept p q) v w = v
          go x y (early p) v w = absurd (let m = start-in in omega arith)
          go x y (late p) v w = absurd (omega arith)

      ends-before : start_of r d < end_of r d → end_of r d < u
      unfolding end_of till
      ends-before n =
          by-test (ltb r.from r.to)
          (λ p. rw p (ends_by d r.to a b ok.to-day (rw p) (rw p at n)))
          (λ p. by-test (ltb d last_day)
          (λ q. let m = ltb-true d last_day q in rw (p, q) (ends_by (d + 1) r.to (omega arith) (omega arith) ok.to-day (rw p (omega arith)) (rw (p, q) at n)))
          (λ q. absurd (let m = ltb-false d last_day q in let l = low 0 in let g = ok.sound.high 0 in let h' = rw p at h in omega arith)))

      pub before-shows-none : around_of u (whole_on r d) ≡ around_of u []
      before-shows-none = shows-none-before r d u ends-before
