use mathlib.Core.Path.{refl, sym, ◌∙◌, ap}
use Prim.Native.Nat.{◌+◌, ◌-◌}
use native.Mathlib.Omega.{arith}
use borrow.Author.Tests.{ltb-true, ltb-false}
use Rattle.instant.specs.Instant.{nanos}
use Rattle.window_week.proofs.Whole.{total-fits, total-is}
use Rattle.walk_distance.proofs.Borders.{between-range}
use Rattle.walk_between.specs.Sums.{kept_is}
use Rattle.walk_between.proofs.Adding.{adding-reuses, adding-resolves, adding-time, adding-count, keeps-time, keeps-exact}
use Rattle.walk_between.proofs.between_into.Goals as goal

pub loop-s-preserved-in-Some : goal.loop-s-preserved-in-Some
loop-s-preserved-in-Some c =
    let r = c.in-Some.ensures.1.inside in
    let e = c.weeks_on-lo.ensures.0 in
    let f = c.weeks_on-lo.ensures.1 in
    let n = c.loop-s.invariant.1.ns in (
      adding-reuses _ _ _ _ _ _ _ c.loop-s.invariant.0 _ _ (ap kept_is c.in-Some.ensures.0) c.in-Some.ensures.1 _ _ e (c.sum-sum.ensures.0 ∙ ap (λ q. nanos c.loop-s.sum + q) c.times.ensures.0),
      between-range _ _ _ c.loop-s.invariant.1 c.requires.1.end (omega arith) (omega arith) (omega arith),
      c.sum-sum.ensures.1,
      c.loop-s.invariant.3,
      c.loop-s.invariant.4,
      c.loop-s.invariant.5,
      c.loop-s.invariant.6,
    )

pub total-requires : goal.total-requires
total-requires c =
    let h = (ltb-true (nanos c.loop-s.lo) (nanos c.args.b) (sym c.precedes.ensures ∙ c.loop-s-test.true)) in
    let e = c.window_end-hi.ensures.0 in
    let f = total-fits _ _ _ (omega arith) (omega arith) _ c.working_into-blocks.ensures.0.0 in
    (omega (arith, c.working_into-blocks.ensures.0.1, c.working_into-blocks.ensures.1, c.loop-s.invariant.6, c.requires.2.2), f.0, f.1)

pub loop-s-preserved : goal.loop-s-preserved
loop-s-preserved c =
    let h = (ltb-true (nanos c.loop-s.lo) (nanos c.args.b) (sym c.precedes.ensures ∙ c.loop-s-test.true)) in
    let e = c.window_end-hi.ensures.0 in
    let k = between-range c.loop-s.lo c.args.b c.window_end-hi.result c.loop-s.invariant.1 c.requires.1.end (omega arith) (omega arith) c.window_end-hi.ensures.1.ns in (
      adding-resolves _ _ _ _ _ _ _ c.loop-s.invariant.0 h _ e c.in_default.ensures _ _ (c.from_nanoseconds-time.ensures.0 ∙ c.total.ensures ∙ total-is _ _ _ _ c.working_into-blocks.ensures.0.0) c.sum-sum-in_default.ensures.0 _ (keeps-time _ _ _ c.then_some-kept.ensures _ c.is_week.ensures _ refl),
      k,
      c.sum-sum-in_default.ensures.1,
      keeps-exact _ _ _ c.then_some-kept.ensures c.from_nanoseconds-time.ensures.1,
      c.on-1.given ∙ c.loop-s.invariant.4,
      c.off-1.given ∙ c.loop-s.invariant.5,
      c.out-1.given ∙ c.loop-s.invariant.6,
    )

pub returns : goal.returns
returns c =
    let h = ltb-false (nanos c.loop-s.lo) (nanos c.args.b) (sym c.precedes.ensures ∙ c.loop-s-test.false) in
    (adding-time _ c.requires.0.well _ _ _ _ _ _ c.loop-s.invariant.0 h c.requires.1.order, adding-count _ c.requires.0.well _ _ _ _ _ _ c.loop-s.invariant.0 h c.requires.1.order, c.loop-s.invariant.2)
