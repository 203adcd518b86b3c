use Rattle.std.proofs.Common.{◌≡◌, ◌∙◌, sym, true, false, refl}
use Rattle.model.specs.DayNumber.{day_of}
use Rattle.model.specs.Walk.{onward}
use Rattle.rule.specs.Rules.{rule_is}
use mir.Facts.{to_z-of_z}
use Rattle.zone_local.proofs.Facts.{day-number}
use Rattle.window_dates.proofs.Fill.{local-date-in}
use Rattle.build_blocks.proofs.piece_on.Goals as goal

pub applies-requires : goal.applies-requires
applies-requires c = rw (to_z-of_z c.ranges.day) (day-number (local-date-in _ _ _ _ _ c.requires.2.dates c.requires.3 c.requires.4))

pub returns-then-applies : goal.returns-then-applies
returns-then-applies c =
    let t : (rule_is c.args.pack.now c.args.r).on (day_of c.args.day) ≡ true = sym (rw (to_z-of_z c.ranges.day) at c.applies.ensures) ∙ c.if-applies.true in
    rw t (rw (to_z-of_z c.ranges.day) at c.piece_at.ensures)

pub returns-else-applies : goal.returns-else-applies
unfolding onward
returns-else-applies c =
    let t : (rule_is c.args.pack.now c.args.r).on (day_of c.args.day) ≡ false = sym (rw (to_z-of_z c.ranges.day) at c.applies.ensures) ∙ c.if-applies.false in
    rw t refl
