-- `walk_skip::holidays_room` meets its contract: the loop keeps the room and what is left of the records. Assumes nothing.
use Rattle.instant.specs.Instant.{nanos}
use Rattle.rule.specs.Rules.{holidays_is}
use Rattle.walk_skip.specs.Repeating.{none_within}
use lib.ListN.{length}
use Rattle.walk_skip.proofs.Rooms.{Open}
use Rattle.walk_skip.proofs.holidays_room.Given as goal

abbrev pub invariant-loop-h : goal.invariant-loop-h
invariant-loop-h l = Open (holidays_is l.book l.pack) (none_within l.back (nanos l.a) (nanos l.b)) (length l.closed) l.closed l.h-index l.room
