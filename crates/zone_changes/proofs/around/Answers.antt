use native.Mathlib.Omega.{arith}
use mathlib.Core.Path.{◌∙◌, ap}
use Rattle.zone_footer.specs.Parsed.{change_rule_is}
use Rattle.model.specs.Footer.{change_in}
use Rattle.zone_changes.specs.MeaningLaws.{near-fourth, near_none}
use Rattle.zone_changes.proofs.Years.{near-at}
use Rattle.zone_changes.proofs.around.Goals as goal

pub returns-then-fourth-u : goal.returns-then-fourth-u
returns-then-fourth-u c = near-fourth _ _ c.requires.1 c.requires.0 _ c.first_year-first.ensures.0 c.change_in-fourth.ensures c.change_in.ensures (omega arith)

pub returns-then-last-u : goal.returns-then-last-u
returns-then-last-u c = near-at _ _ c.requires.1 c.requires.0 _ c.first_year-first.ensures.0 (omega arith) (omega arith) c.loop-year.invariant c.change_in-last.ensures (omega arith)

pub returns : goal.returns
returns c = near_none _ _ c.requires.1 c.requires.0 _ c.first_year-first.ensures.0 (c.loop-year.invariant.next-is ∙ ap (change_in c.args.offset (change_rule_is c.args.rule)) (omega (arith, c.loop-year.invariant.from))) (c.loop-year.invariant.past (omega arith))
