-- `test_replay_lists::stored_to`: one number decides, or those behind it do.
use Rattle.big_endian.proofs.Walk.{all-no, all_yes, all_end}
use Rattle.test_replay_lists.specs.Compared.{is_stored}
use Rattle.test_replay_lists.proofs.stored_to.Goals as goal

pub returns-then-not-stored_at : goal.returns-then-not-stored_at
returns-then-not-stored_at c = all-no (is_stored c.args.out.now c.args.q.now) c.loop-i-test.true c.loop-i.invariant c.stored_at.ensures c.if-not-stored_at.true

pub loop-i-preserved : goal.loop-i-preserved
loop-i-preserved c = all_yes (is_stored c.args.out.now c.args.q.now) c.loop-i-test.true c.loop-i.invariant c.stored_at.ensures c.if-not-stored_at.false

pub returns : goal.returns
returns c = all_end (is_stored c.args.out.now c.args.q.now) c.loop-i-test.false c.loop-i.invariant
