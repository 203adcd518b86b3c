-- `zone_calls::day_given` meets its contract.
use mir.Facts.{to_z-of_z}
use Rattle.zone_calls.specs.CallLaws.{day-is}
use Rattle.zone_calls.proofs.day_given.Goals as goal

pub returns : goal.returns
returns c =
    let y = rw (to_z-of_z c.ranges.year) at c.year_from.ensures in
    let m = rw (to_z-of_z c.ranges.month) at c.capped.ensures in
    let d = rw (to_z-of_z c.ranges.day) at c.capped-2.ensures in
    day-is _ _ _ y m d c.day_of.ensures
