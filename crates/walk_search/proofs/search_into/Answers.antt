use mathlib.Core.Path.{refl, sym, ◌∙◌, ap}
use Prim.Native.Nat.{◌-◌}
use native.Mathlib.Omega.{arith}
use borrow.Author.Tests.{ltb-true, ltb-false}
use Rattle.std.proofs.lemmas.Result.{err_from_is_err_and}
use Rattle.laws_skip.specs.Schedules.{ahead-inside}
use Rattle.instant.specs.Instant.{nanos}
use Rattle.walk_distance.specs.Distances.{way_of}
use Rattle.walk_distance.proofs.Borders.{ahead_of}
use Rattle.walk_search.specs.Searches.{previous_is}
use Rattle.walk_search.specs.Steps.{step_is, ExactStep}
use Rattle.walk_search.proofs.Searching.{searching-runs, searching-finds, searching-gap, searching-left, searching-ends, found-answer, found-count}
use Rattle.walk_search.proofs.Skipping.{kept-rest, kept-exact}
use Rattle.walk_search.proofs.search_into.Goals as goal

pub loop-s-preserved-in-Some : goal.loop-s-preserved-in-Some
loop-s-preserved-in-Some g c =
    let r = c.in-Some.ensures.1.inside in
    let u = c.reach-end.ensures.1.sec in
    let v = c.reach-end.ensures.1.ns in
    let n = c.loop-s.invariant.1.ns in
    let i = c.loop-s.invariant.2 in
    let e = c.weeks_on-x.ensures.0 in
    let f = c.weeks_on-x.ensures.1 in
    let q = c.weeks_on-last.ensures.1 in (
      searching-runs _ _ _ _ _ _ _ _ _ _ _ c.loop-s.invariant.0 _ _ (ap (λ o. previous_is o (nanos c.loop-s.x - nanos c.loop-s.last)) c.in-Some.ensures.0) c.in-Some.ensures.1.some r c.in-Some.ensures.1.each c.in-Some.ensures.1.less _ _ _ e c.weeks_on-last.ensures.0 (c.difference-left.ensures.0 ∙ ap (λ w. nanos c.loop-s.left - w) c.times.ensures.0) _ refl _ (ap (λ o. previous_is o (nanos c.weeks_on-x.result - nanos c.weeks_on-last.result)) c.in-Some.ensures.0),
      record { sec = omega arith; ns = omega arith },
      omega arith,
      c.difference-left.ensures.1,
      c.loop-s.invariant.4,
    )

pub returns-in_err-step : goal.returns-in_err-step
returns-in_err-step g c =
    let p = err_from_is_err_and c.from_residual.result c.from_residual.ensures.1 in
    let h = ltb-true (nanos c.loop-s.x) (nanos c.reach-end.result) (sym c.precedes.ensures ∙ c.loop-s-test.true) in
    rw (p.1, p.2, c.in_err-step.ensures.0) (found-answer _ c.requires.0.well _ _ _ _ _ refl c.reach-end.ensures.0 c.requires.1.1 _ _ (searching-gap _ _ _ _ _ _ _ _ _ _ _ c.loop-s.invariant.0 h _ c.window_end-y.ensures.0 (c.in_default.ensures _) c.in_err-step.ensures.1), tt)

pub returns-in-Found : goal.returns-in-Found
returns-in-Found g c =
    let h = ltb-true (nanos c.loop-s.x) (nanos c.reach-end.result) (sym c.precedes.ensures ∙ c.loop-s-test.true) in
    let s = rw c.in-Found.is at c.in_ok-step.ensures in
    let f = searching-finds _ _ _ _ _ _ _ _ _ _ _ c.loop-s.invariant.0 h _ c.window_end-y.ensures.0 (c.in_default.ensures _) _ s.0 in
    (found-answer _ c.requires.0.well _ _ _ _ _ refl c.reach-end.ensures.0 c.requires.1.1 _ _ f, (s.1, found-count _ c.requires.0.well _ _ _ _ _ refl c.reach-end.ensures.0 c.requires.1.1 _ _ f))

pub loop-s-preserved : goal.loop-s-preserved
loop-s-preserved g c =
    let h = ltb-true (nanos c.loop-s.x) (nanos c.reach-end.result) (sym c.precedes.ensures ∙ c.loop-s-test.true) in
    let s = rw c.in-Left.is at c.in_ok-step.ensures in
    let a = ahead_of (way_of c.args.back) (nanos c.args.t) _ _ c.reach-end.result c.loop-s.invariant.1 c.window_end-y.ensures.1 c.reach-end.ensures.0 c.loop-s.invariant.0.upto c.window_end-y.ensures.0 in (
      searching-left _ _ _ _ _ _ _ _ _ _ _ c.loop-s.invariant.0 h _ c.window_end-y.ensures.0 (c.in_default.ensures _) (ahead-inside _ _ _ _ _ a.order a.near) _ _ s.0 _ (kept-rest _ _ _ _ _ c.keep-kept.ensures c.difference.ensures.0) _ refl,
      c.window_end-y.ensures.1,
      s.1.1,
      s.1.0,
      kept-exact _ _ _ c.keep-kept.ensures c.difference.ensures.1,
    )

pub returns : goal.returns
returns g c = let h = ltb-false (nanos c.loop-s.x) (nanos c.reach-end.result) (sym c.precedes.ensures ∙ c.loop-s-test.false) in (found-answer _ c.requires.0.well _ _ _ _ _ refl c.reach-end.ensures.0 c.requires.1.1 _ _ (searching-ends _ _ _ _ _ _ _ _ _ _ _ c.loop-s.invariant.0 h), tt)
