-- `walk_skip::rules_room` meets its contract: the loop keeps the room and what is left of the rules. Assumes nothing.
use Rattle.instant.specs.Instant.{nanos}
use Rattle.rule.specs.Rules.{rule_is}
use Rattle.walk_skip.specs.Repeating.{steady_within}
use lib.ListN.{length}
use Rattle.walk_skip.proofs.Rooms.{Open}
use Rattle.walk_skip.proofs.rules_room.Given as goal

abbrev pub invariant-loop-r : goal.invariant-loop-r
invariant-loop-r l = Open (rule_is l.pack) (steady_within l.back (nanos l.a) (nanos l.b)) (length l.rules) l.rules l.r-index l.room
