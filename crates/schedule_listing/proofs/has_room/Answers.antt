-- `schedule_listing::has_room` meets its contract.
use Rattle.schedule_listing.proofs.Bound.{listing-few, room-sure, room-counted}
use Rattle.laws_base.specs.Test.{clash}
use mathlib.Core.Path.{refl}
use mathlib.Core.Bool.{false}
use Rattle.schedule_listing.proofs.has_room.Goals as goal

pub returns-then-at_most-room : goal.returns-then-at_most-room
returns-then-at_most-room c = (room-sure _ _ _ (listing-few _ _ _ c.requires.0 _ _ _ c.at_most.ensures) c.if-at_most-room.true, refl)

pub walk-requires : goal.walk-requires
walk-requires c = record { fits = c.requires.0; start = c.requires.1; end = c.requires.2; space = λ f. clash false f refl }

pub returns : goal.returns
returns c = room-counted _ _ _ c.walk.ensures.0 c.walk.ensures.1
