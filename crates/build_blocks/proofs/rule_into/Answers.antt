use Rattle.std.proofs.Common.{◌<◌, arith}
use mir.Facts.{to_z-of_z}
use Rattle.laws_calendar.specs.Numbers.{is-fits, day-bits, bits-day}
use Rattle.build_blocks.proofs.Filling.{Put, put-block, put-none, dating-starts, dating-room, dating-turn, dating-done}
use Rattle.build_blocks.proofs.rule_into.Goals.{in-Some, in_default}
use Rattle.build_blocks.proofs.rule_into.Goals as goal

pub shifts_of-x-requires : goal.shifts_of-x-requires
shifts_of-x-requires c = (c.requires.0, c.requires.1)

pub day_count-count-requires : goal.day_count-count-requires
day_count-count-requires c = let q = c.shifts_of-x.ensures.dates in rw (to_z-of_z (is-fits q.first-number), to_z-of_z (is-fits q.last-number)) (q.first-number, q.last-number)

pub loop-k-init : goal.loop-k-init
loop-k-init c = dating-starts _ _ _ _ _ _ _ c.requires.3

pub later-requires : goal.later-requires
later-requires c = let q = c.shifts_of-x.ensures.dates in let a = day-bits (is-fits q.first-number) in let b = day-bits (is-fits q.last-number) in
    rw (to_z-of_z (is-fits q.first-number)) (q.first-number, omega (arith, q.high, c.day_count-count.ensures, c.loop-k-test.true))

pub piece_on-requires : goal.piece_on-requires
piece_on-requires c = let q = c.shifts_of-x.ensures.dates in let a = day-bits (is-fits q.first-number) in let b = day-bits (is-fits q.last-number) in
    let n = c.day_count-count.ensures in let l = c.loop-k-test.true in let t = bits-day c.later.ensures (omega (arith, q.high)) in
    (c.requires.0, c.requires.1, c.shifts_of-x.ensures, omega arith, omega arith)

pub bounds-out-out : goal.bounds-out-out
bounds-out-out c = let q = c.shifts_of-x.ensures.dates in let a = day-bits (is-fits q.first-number) in let b = day-bits (is-fits q.last-number) in
    dating-room _ _ _ _ _ _ _ _ _ _ c.loop-k.invariant c.loop-k-test.true (omega (arith, q.few, c.day_count-count.ensures, c.requires.2))

pub loop-k-preserved : goal.loop-k-preserved
loop-k-preserved c = let q = c.shifts_of-x.ensures.dates in let a = day-bits (is-fits q.first-number) in let b = day-bits (is-fits q.last-number) in
    let n = c.day_count-count.ensures in let l = c.loop-k-test.true in let t = bits-day c.later.ensures (omega (arith, q.high)) in
    let r : c.loop-k.out.len < 672 = dating-room _ _ _ _ _ _ _ _ _ _ c.loop-k.invariant l (omega (arith, q.few, n, c.requires.2)) in
    let x : Put c.loop-k.out.items c.loop-k.out.len c.piece_on.result c.match-piece_on.out.items c.match-piece_on.out.len = elim c.match-piece_on.branch [
      | in-Some w ↦ rw w.out-is (put-block _ _ _ _ w.in-Some.is (omega (arith, c.loop-k.invariant.long)))
      | in_default w ↦ rw w.out-is (put-none _ _ _ w.in_default.is)
    ] in
    dating-turn _ _ _ _ _ _ _ _ _ _ c.loop-k.invariant l c.piece_on.result (rw t at c.piece_on.ensures) _ _ x

pub returns : goal.returns
returns c = let q = c.shifts_of-x.ensures.dates in let a = day-bits (is-fits q.first-number) in let b = day-bits (is-fits q.last-number) in
    let d = dating-done _ _ _ _ q _ _ a (omega (arith, c.day_count-count.ensures)) _ _ _ _ _ c.loop-k.invariant c.loop-k-test.false in record { same = d.0; few = d.1; long = c.loop-k.invariant.long }
