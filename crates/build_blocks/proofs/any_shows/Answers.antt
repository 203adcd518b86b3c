use mathlib.Core.Path.{◌≡◌, sym, ◌∙◌}
use native.Mathlib.Omega.{arith}
use lib.ListN.{length}
use Rattle.laws_base.specs.Every.{every_front}
use Rattle.rule.specs.Rules.{RuleFits}
use Rattle.build_blocks.proofs.Any.{rules-start, rule-shows-any, rule-passed, rules-passed}
use Rattle.build_blocks.proofs.any_shows.Goals as goal

pub loop-i-init : goal.loop-i-init
loop-i-init c = let k : length c.args.rules ≡ 16 = c.well_formed.0.1.0.1 in rules-start _ _ _ _ _ (omega (arith, c.requires.0))

pub bounds-rules-i : goal.bounds-rules-i
bounds-rules-i c = omega (arith, c.requires.0, c.loop-i-test.true)

pub shows-requires : goal.shows-requires
shows-requires c = (every_front (RuleFits _) _ _ _ _ c.loop-i-test.true c.loop-i.invariant.fits c.requires.1, c.requires.2)

pub returns-then-shows : goal.returns-then-shows
returns-then-shows c = rule-shows-any _ _ _ _ _ _ c.loop-i.invariant c.loop-i-test.true _ (sym c.shows.ensures ∙ c.if-shows.true)

pub loop-i-preserved : goal.loop-i-preserved
loop-i-preserved c = rule-passed _ _ _ _ _ _ c.loop-i.invariant c.loop-i-test.true _ (sym c.shows.ensures ∙ c.if-shows.false)

pub returns : goal.returns
returns c = rules-passed _ _ _ _ _ _ c.loop-i.invariant c.loop-i-test.false
