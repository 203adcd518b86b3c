use Rattle.std.specs.Prelude.{None, Some}
use Rattle.window_marks.proofs.Filling.{nearing-starts, nearing-stored, nearing-none, nearing-off, nearing-apart, nearing-done, near-moved}
use Rattle.window_marks.proofs.Taken.{held-taken, rule-on, rule-dates, apart_none, apart-near}
use Rattle.window_dates.proofs.Fill.{zone-moved, local-date-in}
use Rattle.laws_calendar.specs.Numbers.{is-fits, day-bits, bits-day}
use lib.ListN.{length}
use mir.Facts.{to_z-of_z}
use mathlib.Core.Logic.{⊎_elim}
use mathlib.Core.Path.{◌≡◌}
use native.Mathlib.Omega.{arith}
use Rattle.window_marks.proofs.blocks_near.Goals.{then-is_near+in-Some, then-is_near+in_default, else-is_near}
use Rattle.window_marks.proofs.blocks_near.Goals as goal

pub bounds_of-bounds-requires : goal.bounds_of-bounds-requires
bounds_of-bounds-requires c = zone-moved _ _ _ c.part-f.ensures c.requires.0.opened

pub local_dates-days-requires : goal.local_dates-days-requires
local_dates-days-requires c = (c.requires.0.opened, c.requires.1.window)

pub day_count-count-requires : goal.day_count-count-requires
day_count-count-requires c = let q = c.local_dates-days.ensures in rw (to_z-of_z (is-fits q.first-number), to_z-of_z (is-fits q.last-number)) (q.first-number, q.last-number)

pub later-d-requires : goal.later-d-requires
later-d-requires c = let q = c.local_dates-days.ensures in let a = day-bits (is-fits q.first-number) in let b = day-bits (is-fits q.last-number) in rw (to_z-of_z (is-fits q.first-number)) (q.first-number, omega (arith, q.high, c.day_count-count.ensures, c.loop-k-test.true))

pub is_near-requires : goal.is_near-requires
is_near-requires c = let q = c.local_dates-days.ensures in let a = day-bits (is-fits q.first-number) in let b = day-bits (is-fits q.last-number) in let n = c.day_count-count.ensures in let l = c.loop-k-test.true in let t = bits-day c.later-d.ensures (omega (arith, q.high)) in (c.requires.0.dates, record { is-day = local-date-in _ _ _ _ _ q (omega arith) (omega arith); from-fits = c.requires.0.from; to-fits = c.requires.0.to; least = let x = c.bounds_of-bounds.ensures.least 0 in let y = c.bounds_of-bounds.ensures.greatest 0 in let m = c.bounds_of-bounds.ensures.most in omega arith; greatest = c.bounds_of-bounds.ensures.most; from_in = c.requires.1.from_in; upto-in = c.requires.1.upto-in })

pub whole_on-requires : goal.whole_on-requires
whole_on-requires c = let q = c.local_dates-days.ensures in let a = day-bits (is-fits q.first-number) in let b = day-bits (is-fits q.last-number) in let n = c.day_count-count.ensures in let l = c.loop-k-test.true in let t = bits-day c.later-d.ensures (omega (arith, q.high)) in (zone-moved _ _ _ c.part-f.ensures c.requires.0.opened, local-date-in _ _ _ _ _ q (omega arith) (omega arith), c.requires.0.from, c.requires.0.to)

pub loop-k-init : goal.loop-k-init
loop-k-init c = let l : length c.empty_marked-out.result.items ≡ 21 = omega (arith, c.empty_marked-out.type_inv) in rw c.empty_marked-out.ensures.1 (nearing-starts _ _ _ _ _ _ l)

pub loop-k-preserved : goal.loop-k-preserved
loop-k-preserved c = let q = c.local_dates-days.ensures in let a = day-bits (is-fits q.first-number) in let b = day-bits (is-fits q.last-number) in let n = c.day_count-count.ensures in let l = c.loop-k-test.true in let t = bits-day c.later-d.ensures (omega (arith, q.high)) in
    elim c.if-is_near.branch [
      | then-is_near+in-Some w ↦ rw w.out-is (nearing-stored _ _ _ _ _ _ _ _ c.loop-k.invariant l (omega (arith, q.few, n)) (rule-on _ _ _ _ _ _ t (c.is_near.ensures.near w.if-is_near.true)) _ (held-taken _ _ _ _ _ _ (Some w.in-Some.y) t (rw w.in-Some.is at w.whole_on.ensures)))
      | then-is_near+in_default w ↦ rw w.out-is (nearing-none _ _ _ _ _ _ _ _ c.loop-k.invariant l (rule-on _ _ _ _ _ _ t (c.is_near.ensures.near w.if-is_near.true)) (held-taken _ _ _ _ _ _ None t (rw w.in_default.is at w.whole_on.ensures)))
      | else-is_near w ↦ rw w.out-is (⊎_elim (λ e. nearing-off _ _ _ _ _ _ _ _ c.loop-k.invariant l (rule-on _ _ _ _ _ _ t e)) (λ e. nearing-apart _ _ _ _ _ _ _ _ c.loop-k.invariant l (apart-near _ _ _ _ _ _ _ _ _ t (apart_none _ _ _ _ _ _ _ _ _ _ (zone-moved _ _ _ c.part-f.ensures c.requires.0.opened) c.bounds_of-bounds.ensures record { is-day = local-date-in _ _ _ _ _ q (omega arith) (omega arith); from-fits = c.requires.0.from; to-fits = c.requires.0.to; least = let x = c.bounds_of-bounds.ensures.least 0 in let y = c.bounds_of-bounds.ensures.greatest 0 in let m = c.bounds_of-bounds.ensures.most in omega arith; greatest = c.bounds_of-bounds.ensures.most; from_in = c.requires.1.from_in; upto-in = c.requires.1.upto-in } e))) (c.is_near.ensures.far w.if-is_near.false))
    ]

pub returns : goal.returns
returns c = let q = c.local_dates-days.ensures in let a = day-bits (is-fits q.first-number) in let b = day-bits (is-fits q.last-number) in nearing-done _ _ _ _ (rule-dates _ _ _ _ _ _ _ _ _ q) _ _ _ _ a (omega (arith, c.day_count-count.ensures)) _ _ (near-moved _ _ _ _ _ _ _ _ _ _ _ _ _ _ c.part-f.ensures c.loop-k.invariant) c.loop-k-test.false (omega arith)
