use Rattle.std.proofs.Common.{length, ◌≡◌, arith}
use Rattle.laws_base.specs.Every.{every_front}
use Rattle.rule.specs.Rules.{RuleFits}
use Rattle.build_blocks.proofs.Filling.{ruling-starts, ruling-room, ruling-turn, ruling-done}
use Rattle.build_blocks.proofs.shift_blocks.Goals as goal

pub loop-i-init : goal.loop-i-init
loop-i-init c = let k : length c.args.rules ≡ 16 = omega (arith, c.well_formed) in ruling-starts _ _ _ _ _ _ _ c.empty-out.ensures.0 c.empty-out.ensures.1 (omega (arith, c.requires.0)) (omega (arith, c.empty-out.type_inv))

pub rule_into-requires : goal.rule_into-requires
rule_into-requires c = (every_front (RuleFits _) _ _ _ _ c.loop-i-test.true c.loop-i.invariant.fits c.requires.1, c.requires.2, ruling-room _ _ _ _ _ _ _ _ c.loop-i.invariant c.requires.0 c.loop-i-test.true, c.loop-i.invariant.long)

pub loop-i-preserved : goal.loop-i-preserved
loop-i-preserved c = ruling-turn _ _ _ _ _ _ _ _ c.loop-i.invariant c.loop-i-test.true _ _ _ c.rule_into.ensures.same c.rule_into.ensures.few c.rule_into.ensures.long

pub returns : goal.returns
returns c = let q = ruling-done _ _ _ _ _ _ _ _ c.loop-i.invariant c.requires.0 c.loop-i-test.false in record { same = q.0; few = q.1 }
