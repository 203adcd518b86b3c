-- `window_marks::rule_sides` meets its contract. Assumes nothing.
use Rattle.window_marks.proofs.Looked.{one_list, own-list}
use native.Mathlib.Omega.{arith}
use Rattle.window_marks.proofs.rule_sides.Goals as goal

pub blocks_near-l-requires : goal.blocks_near-l-requires
blocks_near-l-requires c = (c.requires.0, record { window = c.requires.1.start-window; from_in = c.requires.1.start-in; upto-in = c.requires.1.end-in; order = c.requires.1.order })

pub returns-then-same_window : goal.returns-then-same_window
returns-then-same_window c = one_list _ c.args.a c.args.b _ _ c.requires.1.order (c.same_window.ensures c.if-same_window.true) c.blocks_near-l.ensures c.shown_at.ensures

pub blocks_near-l-requires-2 : goal.blocks_near-l-requires-2
blocks_near-l-requires-2 c = (c.requires.0, record { window = c.requires.1.start-window; from_in = c.requires.1.start-in; upto-in = c.requires.1.start-in; order = omega arith })

pub blocks_near-m-requires : goal.blocks_near-m-requires
blocks_near-m-requires c = (c.requires.0, record { window = c.requires.1.end-window; from_in = c.requires.1.end-in; upto-in = c.requires.1.end-in; order = omega arith })

pub returns : goal.returns
returns c = (own-list _ c.args.a _ c.blocks_near-l-2.ensures c.shown_around-start.ensures, own-list _ c.args.b _ c.blocks_near-m.ensures c.shown_around-end.ensures)
