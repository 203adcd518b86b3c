-- `test_replay_lists::marked_from`: one number decides, or those behind it do.
use Rattle.big_endian.proofs.Walk.{all-no, all_yes, all_end}
use Rattle.test_replay_lists.specs.Compared.{is_mark}
use Rattle.test_replay_lists.proofs.marked_from.Goals as goal

pub returns-then-not-marked_at : goal.returns-then-not-marked_at
returns-then-not-marked_at c = all-no (is_mark c.args.out.now) c.loop-i-test.true c.loop-i.invariant c.marked_at.ensures c.if-not-marked_at.true

pub loop-i-preserved : goal.loop-i-preserved
loop-i-preserved c = all_yes (is_mark c.args.out.now) c.loop-i-test.true c.loop-i.invariant c.marked_at.ensures c.if-not-marked_at.false

pub returns : goal.returns
returns c = all_end (is_mark c.args.out.now) c.loop-i-test.false c.loop-i.invariant
