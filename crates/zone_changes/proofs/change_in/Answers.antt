-- `zone_changes::change_in` meets its contract. Assumes nothing.
use native.Mathlib.Omega.{arith}
use Rattle.zone_footer.specs.Parsed.{change_rule_is}
use Rattle.laws_calendar.specs.Numbers.{bits-day, bits_is}
use Rattle.zone_changes.proofs.Days.{change-is, day-small}
use Rattle.zone_changes.proofs.change_in.Goals as goal

pub midnight-requires : goal.midnight-requires
midnight-requires c = bits_is c.day_in.ensures (day-small _ _ c.requires.0.day-fits c.requires.1)

pub overflow_add-midnight : goal.overflow_add-midnight
overflow_add-midnight c = let s = day-small _ _ c.requires.0.day-fits c.requires.1 in omega (arith, bits-day c.day_in.ensures s)

pub overflow_add-midnight-2 : goal.overflow_add-midnight-2
overflow_add-midnight-2 c = let s = day-small _ _ c.requires.0.day-fits c.requires.1 in omega (arith, bits-day c.day_in.ensures s)

pub returns : goal.returns
returns c = let s = day-small _ _ c.requires.0.day-fits c.requires.1 in
    change-is c.args.offset c.args.year (change_rule_is c.args.rule) (bits-day c.day_in.ensures s) (omega (arith, c.saturating_sub.ensures, c.midnight.ensures))
