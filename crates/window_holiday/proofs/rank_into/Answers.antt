-- `window_holiday::rank_into` meets its contract. Assumes nothing.
use Rattle.std.proofs.Common.{arith, to_z-of_z}
use Rattle.laws_calendar.specs.Numbers.{is-fits, day-bits, told-before, told-not}
use Rattle.window_dates.specs.Windows.{from_day, upto_day}
use Rattle.window_piece.proofs.Fills.{filled_none, filled-same}
use Rattle.window_holiday.specs.Ranks.{day_of_rank}
use Rattle.window_holiday.specs.Holiday.{whole_date}
use Rattle.window_holiday.proofs.Order.{rank-none, rank-day, rank-number, piece-before, piece-behind, piece_inside}
use Rattle.window_holiday.proofs.rank_into.Goals as goal

pub returns-in_default : goal.returns-in_default
returns-in_default c = let e = rank-none _ c.day_of_rank.ensures c.in_default.is in
    filled_none _ _ _ _ _ (piece-before (from_day c.args.days) (upto_day c.args.days) (day_of_rank c.args.k) (whole_date c.args.pack.now c.args.c c.args.lo c.args.hi (day_of_rank c.args.k)) (omega (arith, c.requires.0.2.low))) c.requires.1.normal

pub precedes-requires : goal.precedes-requires
precedes-requires c = let n = rank-number _ c.day_of_rank.ensures c.in-Some.is in let q = c.requires.0.2.first-number in rw (to_z-of_z (is-fits n), to_z-of_z (is-fits q)) (n, q)

pub returns-then-precedes : goal.returns-then-precedes
returns-then-precedes c = let n = day-bits (is-fits (rank-number _ c.day_of_rank.ensures c.in-Some.is)) in let e = rank-day _ c.day_of_rank.ensures c.in-Some.is in
    let a = day-bits (is-fits c.requires.0.2.first-number) in let b = day-bits (is-fits c.requires.0.2.last-number) in
    filled_none _ _ _ _ _ (piece-before (from_day c.args.days) (upto_day c.args.days) (day_of_rank c.args.k) (whole_date c.args.pack.now c.args.c c.args.lo c.args.hi (day_of_rank c.args.k)) (omega (arith, told-before _ _ c.precedes.ensures c.if-precedes.true))) c.requires.1.normal

pub precedes-requires-2 : goal.precedes-requires-2
precedes-requires-2 c = let n = rank-number _ c.day_of_rank.ensures c.in-Some.is in let q = c.requires.0.2.last-number in rw (to_z-of_z (is-fits n), to_z-of_z (is-fits q)) (q, n)

pub returns-then-precedes-2 : goal.returns-then-precedes-2
returns-then-precedes-2 c = let n = day-bits (is-fits (rank-number _ c.day_of_rank.ensures c.in-Some.is)) in let e = rank-day _ c.day_of_rank.ensures c.in-Some.is in
    let a = day-bits (is-fits c.requires.0.2.first-number) in let b = day-bits (is-fits c.requires.0.2.last-number) in
    filled_none _ _ _ _ _ (piece-behind (from_day c.args.days) (upto_day c.args.days) (day_of_rank c.args.k) (whole_date c.args.pack.now c.args.c c.args.lo c.args.hi (day_of_rank c.args.k)) (omega (arith, told-not _ _ c.precedes.ensures c.if-precedes.false)) (omega (arith, told-before _ _ c.precedes-2.ensures c.if-precedes-2.true))) c.requires.1.normal

pub free_into-requires : goal.free_into-requires
free_into-requires c = let z = is-fits (rank-number _ c.day_of_rank.ensures c.in-Some.is) in let n = day-bits z in let a = day-bits (is-fits c.requires.0.2.first-number) in let b = day-bits (is-fits c.requires.0.2.last-number) in
    rw (to_z-of_z z) ((c.requires.0.0, c.requires.0.1, c.requires.0.2, c.requires.0.3, omega (arith, told-not _ _ c.precedes.ensures c.if-precedes.false), omega (arith, told-not _ _ c.precedes-2.ensures c.if-precedes-2.false)), c.requires.1)

pub returns : goal.returns
returns c = let n = day-bits (is-fits (rank-number _ c.day_of_rank.ensures c.in-Some.is)) in let e = rank-day _ c.day_of_rank.ensures c.in-Some.is in
    let a = day-bits (is-fits c.requires.0.2.first-number) in let b = day-bits (is-fits c.requires.0.2.last-number) in
    filled-same _ _ _ _ _ _ _ _ (piece_inside (from_day c.args.days) (upto_day c.args.days) (day_of_rank c.args.k) (whole_date c.args.pack.now c.args.c c.args.lo c.args.hi (day_of_rank c.args.k)) (omega (arith, told-not _ _ c.precedes.ensures c.if-precedes.false)) (omega (arith, told-not _ _ c.precedes-2.ensures c.if-precedes-2.false))) (rw (n, ← e) at c.free_into.ensures)
