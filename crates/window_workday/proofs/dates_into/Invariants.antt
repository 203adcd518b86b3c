-- `window_workday::dates_into` meets its contract. Assumes nothing.
use Rattle.model.specs.DayNumber.{day_of}
use Rattle.instant.specs.Instant.{nanos}
use Rattle.rule.specs.Rules.{rule_is}
use Rattle.zone_local.specs.Dates.{piece_of}
use Rattle.window_piece.proofs.Fills.{Dating}
use Rattle.window_workday.proofs.dates_into.Given as goal

abbrev pub invariant-loop-i : goal.invariant-loop-i
invariant-loop-i l = Dating (nanos l.lo) (rule_is l.pack l.r).on (piece_of (rule_is l.pack l.r) (nanos l.lo) (nanos l.hi)) (day_of l.first) l.count l.initial.out l.w l.out l.n l.i
