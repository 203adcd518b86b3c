-- `schedule::search` meets its contract.
use mathlib.Core.Path.{ap, ◌∙◌}
use native.Mathlib.Omega.{arith}
use Rattle.std.proofs.lemmas.Result.{err_from_is_err_and}
use Rattle.model.specs.Answer.{gives}
use Rattle.instant.specs.Instant.{nanos}
use Rattle.walk_distance.specs.Distances.{way_of}
use Rattle.schedule.proofs.Replies.{search-within, reach-most, search-refused, search-found}
use Rattle.schedule.proofs.search.Goals as goal

pub returns-in_err-found : goal.returns-in_err-found
returns-in_err-found c =
    let p = err_from_is_err_and c.from_residual.result c.from_residual.ensures.1 in
    rw (p.1, p.2) (search-refused _ _ _ _ c.in_err-found.field-0.0 c.in_err-found.ensures.0)

pub moved_to-requires : goal.moved_to-requires
moved_to-requires c =
    let w = search-within _ c.requires.0.well _ _ _ _ c.in_ok-found.ensures.0 in
    let k = c.in_ok-found.ensures.1.0 in
    let h = c.requires.1.high in
    let n = c.requires.1.ns in
    let r = reach-most (way_of c.args.back) (nanos c.args.t) (omega arith) in
    (c.requires.1, record { sec = omega arith; ns = k }, w)

pub returns : goal.returns
returns c = search-found _ _ _ _ _ c.in_ok-found.ensures.0 (ap gives c.moved_to.ensures.0) (c.moved_to.ensures.1 ∙ c.in_ok-found.ensures.1.1)
