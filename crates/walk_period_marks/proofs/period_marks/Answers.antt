-- `walk_period_marks::period_marks` meets its contract. Assumes nothing.
use Rattle.walk_period_marks.proofs.Edges.{start-from, start-upto, end-from, end-upto, borders-wanted, borders-told}
use Rattle.walk_period.specs.Found.{near-short, far-short}
use Rattle.instant.specs.Instant.{nanos}
use native.Mathlib.Omega.{arith}
use Rattle.walk_period_marks.proofs.period_marks.Goals as goal

pub window_of_start-requires : goal.window_of_start-requires
window_of_start-requires c = near-short _ c.requires.1 c.requires.2

pub border_at-near-requires : goal.border_at-near-requires
border_at-near-requires c = let w = c.window_of_start.ensures.0 in record { given = c.requires.1; begins = c.window_of_start.ensures.1; place = near-short _ c.requires.1 c.requires.2; from = let k = start-from (nanos c.args.f) in omega arith; upto = let k = start-upto (nanos c.args.f) in omega arith; near = let n = c.requires.2.near in let o = c.requires.2.order in omega arith }

pub window_of_end-requires : goal.window_of_end-requires
window_of_end-requires c = far-short _ c.requires.1 c.requires.2

pub border_at-far-requires : goal.border_at-far-requires
border_at-far-requires c = let w = c.window_of_end.ensures.0 in record { given = c.requires.1; begins = c.window_of_end.ensures.1; place = far-short _ c.requires.1 c.requires.2; from = let k = end-from (nanos c.args.e) in omega arith; upto = let k = end-upto (nanos c.args.e) in omega arith; near = c.requires.2.near }

pub edge_marks-requires : goal.edge_marks-requires
edge_marks-requires c = (c.requires.0, borders-wanted c.args.back c.border_at-near.ensures c.border_at-far.ensures c.second_if-start.ensures c.second_if-end.ensures c.requires.2.order c.requires.2.near)

pub returns : goal.returns
returns c = borders-told c.args.back c.border_at-near.ensures c.border_at-far.ensures c.second_if-start.ensures c.second_if-end.ensures _ c.edge_marks.result c.window_of_start.ensures.0 c.window_of_end.ensures.0 c.edge_marks.ensures
