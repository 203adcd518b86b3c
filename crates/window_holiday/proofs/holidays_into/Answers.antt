use Rattle.std.proofs.Common.{List, [], ap, arith, to_z-of_z, ◌≡◌, ◌∙◌, ◌+◌, ◌-◌, ◌*◌, if◌then◌else◌}
use Rattle.book.specs.Meaning.{day_at}
use Rattle.model.specs.Basic.{is_in}
use Rattle.model.specs.Blocks.{Block}
use Rattle.model.specs.Working.{holiday_rule}
use Rattle.laws_calendar.specs.Numbers.{is-fits, day-bits}
use Rattle.instant.specs.Instant.{nanos}
use Rattle.rule.specs.Rules.{holidays_is}
use Rattle.window_dates.specs.Windows.{from_day, upto_day}
use Rattle.window_dates.proofs.Whole.{window-longer}
use Rattle.window_piece.proofs.Fills.{filled-same}
use Rattle.window_piece.proofs.Frames.{few-dates, offset-small, piece-any, piece-apart, piece-short}
use Rattle.window_holiday.specs.Ranks.{day_of_rank}
use Rattle.window_holiday.proofs.Closings.{closing-starts, closing-ready, closing-turn, closing-off, closing-done, closed-shows}
use Rattle.window_holiday.proofs.Order.{rank-not}
use Rattle.window_holiday.proofs.holidays_into.Goals as goal

pub local_dates-days-requires : goal.local_dates-days-requires
local_dates-days-requires c = (c.requires.0.opened, window-longer _ _ c.requires.1)

pub frame_of-f-requires : goal.frame_of-f-requires
frame_of-f-requires c = (window-longer _ _ c.requires.1, offset-small _ _ _ _ _ c.requires.0.opened (window-longer _ _ c.requires.1) c.local_dates-days.ensures, c.local_dates-days.ensures.first-number)

pub rank_of-from-requires : goal.rank_of-from-requires
rank_of-from-requires c = let q = c.local_dates-days.ensures in rw (to_z-of_z (is-fits q.first-number)) (record { number = q.first-number; below = q.first_below })

pub rank_of-requires : goal.rank_of-requires
rank_of-requires c = let q = c.local_dates-days.ensures in rw (to_z-of_z (is-fits q.last-number)) (record { number = q.last-number; below = omega (arith, q.high) })

pub overflow_add-rank_of : goal.overflow_add-rank_of
overflow_add-rank_of c = omega (arith, c.rank_of.ensures.1)

pub loop-i-init : goal.loop-i-init
loop-i-init c = closing-starts _ _ _ _ _ _ _ _ _ c.requires.2.normal

pub rank_at-k-requires : goal.rank_at-k-requires
rank_at-k-requires c = omega (arith, c.loop-i-test.true, c.loop-i.invariant.place, c.loop-i.invariant.upto, c.requires.0.inside)

pub in_ranks-requires : goal.in_ranks-requires
in_ranks-requires c = omega (arith, c.rank_of-from.ensures.1, c.rank_of.ensures.1, c.saturating_sub-count.ensures)

pub rank_into-n-requires : goal.rank_into-n-requires
rank_into-n-requires c = ((c.requires.0.opened, window-longer _ _ c.requires.1, c.local_dates-days.ensures, c.frame_of-f.ensures), closing-ready _ _ _ _ _ (piece-apart (holiday_rule (holidays_is c.args.book.now c.args.pack.now c.args.c)) (nanos c.args.lo) (nanos c.args.hi)) _ _ _ _ c.requires.2.normal _ _ _ _ c.loop-i.invariant (piece-short (holiday_rule (holidays_is c.args.book.now c.args.pack.now c.args.c)) (nanos c.args.lo) (nanos c.args.hi)) (few-dates _ _ _ _ _ c.requires.0.opened c.requires.1 c.local_dates-days.ensures) c.requires.2.room)

pub loop-i-preserved-then-in_ranks : goal.loop-i-preserved-then-in_ranks
loop-i-preserved-then-in_ranks c =
    let e : c.args.c.dates + 4 * (c.loop-i.i - 1) ≡ c.args.c.dates + 4 * c.loop-i.i - 4 = omega arith in
    rw e (closing-turn _ _ _ _ _ (piece-apart (holiday_rule (holidays_is c.args.book.now c.args.pack.now c.args.c)) (nanos c.args.lo) (nanos c.args.hi)) _ _ _ _ c.requires.2.normal _ _ _ _ c.loop-i.invariant (omega (arith, c.loop-i-test.true)) (day_of_rank c.rank_at-k.result) (c.rank_at-k.ensures.1 ∙ ap (day_at c.args.book.now) e) _ _ (filled-same _ _ _ _ _ _ _ _ (ap (λ (l : List Block). if is_in (from_day c.local_dates-days.result) (upto_day c.local_dates-days.result) (day_of_rank c.rank_at-k.result) then l else []) (piece-any (holiday_rule (holidays_is c.args.book.now c.args.pack.now c.args.c)) _ _ _)) c.rank_into-n.ensures))

pub loop-i-preserved : goal.loop-i-preserved
loop-i-preserved c = let q = c.local_dates-days.ensures in
    let e : c.args.c.dates + 4 * (c.loop-i.i - 1) ≡ c.args.c.dates + 4 * c.loop-i.i - 4 = omega arith in
    rw e (closing-off _ _ _ _ _ (piece-apart (holiday_rule (holidays_is c.args.book.now c.args.pack.now c.args.c)) (nanos c.args.lo) (nanos c.args.hi)) _ _ _ _ c.requires.2.normal _ _ _ _ c.loop-i.invariant (omega (arith, c.loop-i-test.true)) _ (ap (day_at c.args.book.now) e) (rank-not _ _ _ _ _ _ _ _ (omega (arith, q.low)) (rw (day-bits (is-fits q.first-number)) at c.rank_of-from.ensures.0) (rw (rw (day-bits (is-fits q.last-number)) at c.rank_of.ensures.0) at c.saturating_sub-count.ensures) c.rank_at-k.ensures.0 c.in_ranks.ensures c.if-in_ranks.false))

pub returns : goal.returns
returns c = let q = c.local_dates-days.ensures in
    filled-same _ _ _ _ _ _ _ _ (closed-shows c.args.book.now c.args.pack.now c.args.c _ _ _ _ q.first-is q.last-is) (closing-done _ _ _ _ _ (piece-apart (holiday_rule (holidays_is c.args.book.now c.args.pack.now c.args.c)) (nanos c.args.lo) (nanos c.args.hi)) _ _ _ _ c.requires.2.normal _ _ _ _ c.loop-i.invariant c.loop-i-test.false (piece-short (holiday_rule (holidays_is c.args.book.now c.args.pack.now c.args.c)) (nanos c.args.lo) (nanos c.args.hi)) (few-dates _ _ _ _ _ c.requires.0.opened c.requires.1 c.local_dates-days.ensures))
