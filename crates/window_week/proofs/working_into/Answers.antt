use native.Mathlib.Omega.{arith}
use Prim.Native.Nat.{◌-◌, ◌<◌}
use lib.ListN.{length, take}
use mathlib.Core.Path.{◌≡◌, refl, ◌∙◌, sym, ap}
use Rattle.instant.specs.Instant.{nanos}
use Rattle.std.proofs.lemmas.List.{length-take-le}
use Rattle.window_week.proofs.Whole.{closed-are, none-normal, window-is, front_at, front-long, front_again}
use Rattle.window_piece.proofs.Fills.{ruling-starts, ruling-ready, ruling-roomy, ruling-turn, ruling-done}
use Rattle.window_dates.proofs.Fill.{rules-are}
use Rattle.rule.specs.Rules.{rule_is, schedule_is, RuleFits, HolidaysFit}
use Rattle.window_week.proofs.working_into.Goals as goal

pub loop-r-init : goal.loop-r-init
loop-r-init c = let l : length c.args.s.work ≡ 16 = omega (arith, c.well_formed) in ruling-starts _ _ _ _ _ _ _ _ (none-normal _) (front-long _ _ (omega (arith, c.requires.0.works)))

pub rule_into-n-requires : goal.rule_into-n-requires
rule_into-n-requires c = let l : length c.args.s.work ≡ 16 = omega (arith, c.well_formed) in let e = length-take-le c.args.s.works c.args.s.work (omega (arith, c.requires.0.works)) in let h : c.loop-r.r-index < c.args.s.works = omega (arith, c.loop-r-test.true) in (front_at (RuleFits c.args.pack.now) _ _ _ _ h (omega (arith, c.requires.0.works)) c.requires.0.work-fits, c.requires.1, ruling-ready _ _ _ _ _ _ _ _ _ _ _ c.loop-r.invariant h (omega (arith, c.requires.2.0, c.requires.2.1)))

pub loop-r-preserved : goal.loop-r-preserved
loop-r-preserved c = let l : length c.args.s.work ≡ 16 = omega (arith, c.well_formed) in let e = length-take-le c.args.s.works c.args.s.work (omega (arith, c.requires.0.works)) in ruling-turn _ _ _ _ _ _ _ _ _ _ _ c.loop-r.invariant (omega (arith, c.loop-r-test.true)) _ _ _ c.rule_into-n.ensures

pub loop-r-2-init : goal.loop-r-2-init
loop-r-2-init c = let l : length c.args.s.breaks ≡ 16 = omega (arith, c.well_formed) in ruling-starts _ _ _ _ _ _ _ _ (none-normal _) (front-long _ _ (omega (arith, c.requires.0.pauses)))

pub rule_into-m-requires : goal.rule_into-m-requires
rule_into-m-requires c = let l : length c.args.s.breaks ≡ 16 = omega (arith, c.well_formed) in let e = length-take-le c.args.s.pauses c.args.s.breaks (omega (arith, c.requires.0.pauses)) in let h : c.loop-r-2.r-index < c.args.s.pauses = omega (arith, c.loop-r-2-test.true) in (front_at (RuleFits c.args.pack.now) _ _ _ _ h (omega (arith, c.requires.0.pauses)) c.requires.0.breaks-fit, c.requires.1, ruling-ready _ _ _ _ _ _ _ _ _ _ _ c.loop-r-2.invariant h (omega (arith, c.requires.2.0, c.requires.2.1)))

pub loop-r-2-preserved : goal.loop-r-2-preserved
loop-r-2-preserved c = let l : length c.args.s.breaks ≡ 16 = omega (arith, c.well_formed) in let e = length-take-le c.args.s.pauses c.args.s.breaks (omega (arith, c.requires.0.pauses)) in ruling-turn _ _ _ _ _ _ _ _ _ _ _ c.loop-r-2.invariant (omega (arith, c.loop-r-2-test.true)) _ _ _ c.rule_into-m.ensures

pub loop-c-init : goal.loop-c-init
loop-c-init c = let l : length c.args.s.closed ≡ 8 = omega (arith, c.well_formed) in ruling-starts _ _ _ _ _ _ _ _ c.loop-r-2.invariant.normal (front-long _ _ (omega (arith, c.requires.0.closings)))

pub holidays_into-m-requires : goal.holidays_into-m-requires
holidays_into-m-requires c = let l : length c.args.s.closed ≡ 8 = omega (arith, c.well_formed) in let e = length-take-le c.args.s.closings c.args.s.closed (omega (arith, c.requires.0.closings)) in let h : c.loop-c.c-index < c.args.s.closings = omega (arith, c.loop-c-test.true) in (front_at (HolidaysFit c.args.book.now c.args.pack.now) _ _ _ _ h (omega (arith, c.requires.0.closings)) c.requires.0.closed-fits, c.requires.1, ruling-roomy _ _ _ _ _ _ _ _ _ _ _ c.loop-c.invariant h (omega (arith, c.requires.2.1, c.loop-r-2.invariant.count, c.loop-r-2.invariant.upto, c.loop-r-2.invariant.long)))

pub loop-c-preserved : goal.loop-c-preserved
loop-c-preserved c = let l : length c.args.s.closed ≡ 8 = omega (arith, c.well_formed) in let e = length-take-le c.args.s.closings c.args.s.closed (omega (arith, c.requires.0.closings)) in ruling-turn _ _ _ _ _ _ _ _ _ _ _ c.loop-c.invariant (omega (arith, c.loop-c-test.true)) _ _ _ c.holidays_into-m.ensures

pub subtract-requires : goal.subtract-requires
subtract-requires c = (c.loop-r.invariant.normal, omega (arith, c.requires.2.0, c.loop-r.invariant.count, c.loop-r.invariant.upto, c.loop-r.invariant.long), omega (arith, c.requires.2.1, c.loop-r-2.invariant.count, c.loop-r-2.invariant.upto, c.loop-r-2.invariant.long, c.loop-c.invariant.count, c.loop-c.invariant.upto, c.loop-c.invariant.long), omega (arith, c.requires.2.2, c.loop-r.invariant.count, c.loop-r.invariant.upto, c.loop-r-2.invariant.count, c.loop-r-2.invariant.upto, c.loop-c.invariant.count, c.loop-c.invariant.upto))

pub returns : goal.returns
returns c =
    let lw : length c.args.s.work ≡ 16 = omega (arith, c.well_formed) in
    let lb : length c.args.s.breaks ≡ 16 = omega (arith, c.well_formed) in
    let lc : length c.args.s.closed ≡ 8 = omega (arith, c.well_formed) in
    let ew = front_again c.args.s.works c.args.s.work (omega (arith, c.requires.0.works)) in
    let eb = front_again c.args.s.pauses c.args.s.breaks (omega (arith, c.requires.0.pauses)) in
    let ec = front_again c.args.s.closings c.args.s.closed (omega (arith, c.requires.0.closings)) in
    let fw = length-take-le c.args.s.works c.args.s.work (omega (arith, c.requires.0.works)) in
    let fb = length-take-le c.args.s.pauses c.args.s.breaks (omega (arith, c.requires.0.pauses)) in
    let fc = length-take-le c.args.s.closings c.args.s.closed (omega (arith, c.requires.0.closings)) in (
      (
        window-is (nanos c.args.lo) (nanos c.args.hi) (schedule_is c.args.book.now c.args.pack.now c.args.s) c.requires.0.well
            _ _ _ _ _ (ruling-done _ _ _ _ _ _ _ _ _ _ _ c.loop-r.invariant (omega (arith, c.loop-r-test.false))) (rw ew (rules-are (nanos c.args.lo) (nanos c.args.hi) (rule_is c.args.pack.now) (take c.args.s.works c.args.s.work)))
            _ _ _ _ _ (ruling-done _ _ _ _ _ _ _ _ _ _ _ c.loop-r-2.invariant (omega (arith, c.loop-r-2-test.false))) (rw eb (rules-are (nanos c.args.lo) (nanos c.args.hi) (rule_is c.args.pack.now) (take c.args.s.pauses c.args.s.breaks)))
            _ _ _ _ (ruling-done _ _ _ _ _ _ _ _ _ _ _ c.loop-c.invariant (omega (arith, c.loop-c-test.false))) (rw ec (closed-are c.args.book.now c.args.pack.now (nanos c.args.lo) (nanos c.args.hi) (take c.args.s.closings c.args.s.closed)))
            _ c.subtract.ensures.0,
        omega (arith, c.subtract.ensures.1, c.loop-r.invariant.count, c.loop-r.invariant.upto, c.loop-r-2.invariant.count, c.loop-r-2.invariant.upto, c.loop-c.invariant.count, c.loop-c.invariant.upto),
      ),
      c.subtract.ensures.2,
    )
