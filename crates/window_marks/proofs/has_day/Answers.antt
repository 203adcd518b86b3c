use Rattle.std.proofs.Common.{arith, refl, ◌+◌, ◌≡◌, ◌-◌}
use mir.Facts.{to_z-of_z}
use Rattle.window_marks.proofs.Taken.{date-is, date-other, dates-end, dates-next}
use Rattle.model.specs.DayNumber.{day_of}
use Rattle.window_marks.proofs.has_day.Goals as goal

pub loop-i-init : goal.loop-i-init
loop-i-init c = let e : c.args.p + 0 ≡ c.args.p = omega arith in let f : c.args.n - 0 ≡ c.args.n = omega arith in rw (e, f) refl

pub is_day_at-requires : goal.is_day_at-requires
is_day_at-requires c = rw (to_z-of_z c.ranges.day) (omega arith, c.requires.1)

pub returns-then-is_day_at : goal.returns-then-is_day_at
returns-then-is_day_at c = date-is _ _ (day_of c.args.day) (omega arith) (rw (to_z-of_z c.ranges.day) at c.loop-i.invariant) (rw (to_z-of_z c.ranges.day) at c.is_day_at.ensures) c.if-is_day_at.true

pub loop-i-preserved : goal.loop-i-preserved
loop-i-preserved c = dates-next _ _ _ _ _ _ (date-other _ _ _ (omega arith) c.loop-i.invariant c.is_day_at.ensures c.if-is_day_at.false)

pub returns : goal.returns
returns c = dates-end _ _ (day_of c.args.day) (omega arith) (rw (to_z-of_z c.ranges.day) at c.loop-i.invariant)
