-- `bench_week_times` fills in the schedule that the book is.
use Rattle.bench_week.proofs.Steps.{weeks-all, weeks-none}
use Rattle.bench_week.proofs.bench_week_times.Goals as goal

pub returns-in_default : goal.returns-in_default
returns-in_default c = weeks-none c.args.book.now c.args.pack.now c.in_default.field-0 c.in_default.ensures.means _

pub returns : goal.returns
returns c = weeks-all _ _ _ c.in-Ok.ensures.means c.weeks.ensures
