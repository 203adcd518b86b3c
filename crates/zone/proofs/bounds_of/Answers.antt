-- `zone::bounds_of` meets its contract.
use mathlib.Core.Path.{ap}
use Rattle.zone_footer.specs.Parsed.{the_footer}
use Rattle.zone.proofs.Steps.{bounds-plain, bounds-fixed, bounds-rules}
use Rattle.zone.proofs.bounds_of.Goals as goal

pub returns-in-Empty : goal.returns-in-Empty
returns-in-Empty c = bounds-plain c.requires.table c.table_bounds-bounds.ensures c.args.z.footer (ap the_footer c.in-Empty.is)

pub returns-in-Fixed : goal.returns-in-Fixed
returns-in-Fixed c = bounds-fixed c.requires.table c.table_bounds-bounds.ensures c.in-Fixed.is c.requires.fits.footer-fits c.widened.ensures

pub returns-in-Rules : goal.returns-in-Rules
returns-in-Rules c = bounds-rules c.requires.table c.table_bounds-bounds.ensures c.in-Rules.is c.requires.fits.footer-fits c.widened-with.ensures c.widened-in-Rules.ensures
