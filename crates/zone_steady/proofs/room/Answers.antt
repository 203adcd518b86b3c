-- `zone_steady::room` meets its contract: by its two ways.
use Rattle.zone_steady.proofs.Steps.{room_back, room-on}
use Rattle.zone_steady.proofs.room.Goals as goal

pub returns-then-back : goal.returns-then-back
returns-then-back c = room_back _ _ _ (c.if-back.true) (c.room_back.ensures)

pub returns : goal.returns
returns c = room-on _ _ _ (c.if-back.false) (c.room_on.ensures)
