use native.Mathlib.Omega.{arith}
use mir.Facts.{to_z-of_z}
use Rattle.laws_calendar.specs.Numbers.{is-fits, day-bits, bits-day, bits_is}
use Rattle.instant.specs.Instant.{nanos}
use Rattle.rule.specs.Rules.{rule_is}
use Rattle.window_dates.proofs.Fill.{told-on}
use Rattle.window_piece.proofs.Fills.{dating-starts, dating-ready, dating-on, dating-off, dating-done, filled-same}
use Rattle.window_piece.proofs.Frames.{rule-shows, piece-apart}
use Rattle.window_workday.proofs.dates_into.Goals.{then-applies, else-applies}
use Rattle.window_workday.proofs.dates_into.Goals as goal

pub day_count-count-requires : goal.day_count-count-requires
day_count-count-requires c = rw (to_z-of_z (is-fits c.requires.0.2.first-number), to_z-of_z (is-fits c.requires.0.2.last-number)) (c.requires.0.2.first-number, c.requires.0.2.last-number)

pub loop-i-init : goal.loop-i-init
loop-i-init c = dating-starts _ _ _ _ _ _ _ c.requires.1.normal

pub later-d-requires : goal.later-d-requires
later-d-requires c = let q = c.requires.0.2 in let a = day-bits (is-fits q.first-number) in let b = day-bits (is-fits q.last-number) in
    rw (to_z-of_z (is-fits q.first-number)) (q.first-number, omega (arith, q.high, c.day_count-count.ensures, c.loop-i-test.true))

pub applies-requires : goal.applies-requires
applies-requires c = let q = c.requires.0.2 in let a = day-bits (is-fits q.first-number) in let b = day-bits (is-fits q.last-number) in
    bits_is c.later-d.ensures (omega (arith, q.high, c.day_count-count.ensures, c.loop-i-test.true))

pub date_into-n-requires : goal.date_into-n-requires
date_into-n-requires c = let q = c.requires.0.2 in let a = day-bits (is-fits q.first-number) in let b = day-bits (is-fits q.last-number) in
    let k = c.day_count-count.ensures in let l = c.loop-i-test.true in
    let t = bits-day c.later-d.ensures (omega (arith, q.high)) in
    ((c.requires.0.0, c.requires.0.1, q, omega arith, omega arith), dating-ready _ _ _ (piece-apart (rule_is c.args.pack.now c.args.r) (nanos c.args.lo) (nanos c.args.hi)) _ _ _ _ _ _ _ c.loop-i.invariant l (rw (k, a, b) c.requires.1.room))

pub loop-i-preserved : goal.loop-i-preserved
loop-i-preserved c = let q = c.requires.0.2 in let a = day-bits (is-fits q.first-number) in let b = day-bits (is-fits q.last-number) in
    let k = c.day_count-count.ensures in let l = c.loop-i-test.true in
    let t = bits-day c.later-d.ensures (omega (arith, q.high)) in
    elim c.if-applies.branch [
      | then-applies w ↦ rw (w.out-is, w.n-is) (dating-on _ _ _ (piece-apart (rule_is c.args.pack.now c.args.r) (nanos c.args.lo) (nanos c.args.hi)) _ _ _ _ _ _ _ c.loop-i.invariant l (told-on _ t c.applies.ensures w.if-applies.true) _ _ (rw t at w.date_into-n.ensures))
      | else-applies w ↦ rw (w.out-is, w.n-is) (dating-off _ _ _ (piece-apart (rule_is c.args.pack.now c.args.r) (nanos c.args.lo) (nanos c.args.hi)) _ _ _ _ _ _ _ c.loop-i.invariant l (told-on _ t c.applies.ensures w.if-applies.false))
    ]

pub returns : goal.returns
returns c = let q = c.requires.0.2 in let a = day-bits (is-fits q.first-number) in let b = day-bits (is-fits q.last-number) in
    let m = dating-done _ _ _ (piece-apart (rule_is c.args.pack.now c.args.r) (nanos c.args.lo) (nanos c.args.hi)) _ _ _ _ _ _ _ c.loop-i.invariant c.loop-i-test.false in
    filled-same _ _ _ _ _ _ _ _ (rule-shows (rule_is c.args.pack.now c.args.r) _ _ _ _ q.first-is q.last-is) (rw (c.day_count-count.ensures, a, b) at m)
