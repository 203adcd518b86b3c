-- `instant_signed::negate` meets its contract.
use Rattle.std.proofs.Common.{sym, ◌∙◌, rules, SFits}
use Rattle.std.proofs.lemmas.Int.{to_z-of_z}
use Rattle.std.specs.Int.{w64}
use Rattle.instant_signed.specs.DurationLaws.{negate-no, negate-yes}
use Rattle.instant_signed.proofs.negate.Goals as goal

pub returns-in_default : goal.returns-in_default
returns-in_default c =
    let f : SFits w64 c.args.d.secs = search rules in
    let g : SFits w64 c.args.d.nanos = search rules in
    let e = simp to_z-of_z at c.duration_of.ensures in
    negate-no c.args.d.secs c.args.d.nanos (sym e ∙ c.in_default.is)

pub returns : goal.returns
returns c =
    let f : SFits w64 c.args.d.secs = search rules in
    let g : SFits w64 c.args.d.nanos = search rules in
    let e = simp to_z-of_z at c.duration_of.ensures in
    negate-yes c.args.d.secs c.args.d.nanos _ f (sym e ∙ c.in-Some.is) c.duration_from.ensures
