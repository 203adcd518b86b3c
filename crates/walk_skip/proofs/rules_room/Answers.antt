use native.Mathlib.Omega.{arith}
use lib.ListN.{get_or}
use Rattle.walk_skip.proofs.Rooms.{open_more, all_no, all_end, no_rule, rule-room}
use Rattle.walk_skip.proofs.rules_room.Goals as goal

pub returns-then-m-eq0 : goal.returns-then-m-eq0
returns-then-m-eq0 c = all_no _ _ _ c.loop-r.invariant no_rule c.loop-r-test.true (rule-room c.args.back c.args.pack.now (get_or c.args.rules.now c.loop-r.r-index no_rule) c.args.a c.args.b c.part-f.ensures c.requires.1.ns c.requires.2.ns c.room-m.ensures) c.if-m-eq0.true

pub loop-r-preserved : goal.loop-r-preserved
loop-r-preserved c = open_more _ _ _ _ c.loop-r.invariant no_rule c.loop-r-test.true (omega arith) (rule-room c.args.back c.args.pack.now (get_or c.args.rules.now c.loop-r.r-index no_rule) c.args.a c.args.b c.part-f.ensures c.requires.1.ns c.requires.2.ns c.room-m.ensures) c.if-m-eq0.false c.min-room.ensures

pub returns : goal.returns
returns c = all_end _ _ _ c.loop-r.invariant (omega arith) c.loop-r-test.false
