-- `schedule_listing::list` meets its contract: what `build` refuses comes first.
use Rattle.std.proofs.Common.{refl, to_z-of_z}
use Rattle.schedule_listing.proofs.Answers.{build-refused, build-gives}
use Rattle.schedule_listing.proofs.list.Goals as goal

pub returns-in-Err : goal.returns-in-Err
returns-in-Err c = build-refused _ _ _ _ _ _ _ c.in-Err.ensures.means refl

pub list_in-requires : goal.list_in-requires
list_in-requires c = c.in-Ok.ensures.fits

pub returns-in-Ok : goal.returns-in-Ok
returns-in-Ok c = build-gives _ _ _ _ _ _ _ c.in-Ok.ensures.means refl (rw (to_z-of_z c.ranges.a_sec, to_z-of_z c.ranges.a_ns, to_z-of_z c.ranges.b_sec, to_z-of_z c.ranges.b_ns) at c.list_in.ensures)
