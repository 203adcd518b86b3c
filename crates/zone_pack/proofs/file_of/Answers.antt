-- `zone_pack::file_of` meets its contract.
use mathlib.Core.Path.{refl}
use Rattle.zone_pack.proofs.Ends.{is-file}
use Rattle.zone_pack.proofs.file_of.Goals as goal

pub returns : goal.returns
returns c = is-file c.args.p.now c.args.i c.start_at-start.ensures.0 c.small_at.ensures.0 c.len_at.ensures.0 refl (rw (← c.saturating_sub.ensures) c.part-file.ensures)
