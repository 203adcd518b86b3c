use Rattle.std.proofs.Common.{ltb-true, ltb-false, sym, ◌∙◌}
use Rattle.window_marks.proofs.Taken.{held_whole, held_none}
use Rattle.zone_local.proofs.Facts.{start_is}
use mir.Facts.{to_z-of_z}
use Rattle.window_marks.proofs.whole_on.Goals as goal

pub returns-then-precedes : goal.returns-then-precedes
returns-then-precedes c = let f = c.ranges.day in let s = rw (to_z-of_z f) at c.resolve_marked-start.ensures in let e = rw (to_z-of_z f) at c.end_marked-end.ensures in
    held_whole _ _ _ (start_is _ _ _ _ _ s.0) s.2 e.0 e.1 (ltb-true _ _ (sym c.precedes.ensures ∙ c.if-precedes.true))

pub returns-else-precedes : goal.returns-else-precedes
returns-else-precedes c = let f = c.ranges.day in let s = rw (to_z-of_z f) at c.resolve_marked-start.ensures in let e = rw (to_z-of_z f) at c.end_marked-end.ensures in
    held_none _ _ _ _ (start_is _ _ _ _ _ s.0) e.0 (ltb-false _ _ (sym c.precedes.ensures ∙ c.if-precedes.false))
