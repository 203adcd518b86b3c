-- `walk_period_week::period_in_window` meets its contract: by its tests, of proofs/Finding.antt. Assumes nothing.
use mathlib.Core.Path.{refl}
use Rattle.walk_distance.specs.Distances.{way_of}
use Rattle.walk_period_week.proofs.Finding.{window-grows, window-nothing, window-ended, window-far, window-open, window-closed}
use Rattle.walk_period_week.proofs.period_in_window.Goals as goal

pub returns-in-Some : goal.returns-in-Some
returns-in-Some c = (window-grows (way_of c.args.back) c.args.w c.args.n _ _ _ _ c.if-n-eq0.true _ c.in-Some.is, rw c.in-Some.is at c.requires.2)

pub returns-in-None : goal.returns-in-None
returns-in-None c = (window-nothing (way_of c.args.back) c.args.w c.args.n _ _ _ _ c.if-n-eq0.true c.in-None.is, tt)

pub returns-in-Some-known : goal.returns-in-Some-known
returns-in-Some-known c = (window-ended _ _ _ _ _ _ _ _ _ c.nearest-first.ensures _ c.further-from.ensures.0 c.stops.ensures c.if-stops.true _ c.in-Some-known.is, rw c.in-Some-known.is at c.requires.2)

pub returns-in-None-known : goal.returns-in-None-known
returns-in-None-known c = (refl, window-far _ _ _ _ _ _ _ _ _ c.nearest-first.ensures _ c.further-from.ensures.0 c.stops.ensures c.if-stops.true c.in-None-known.is)

pub returns-in-Open : goal.returns-in-Open
returns-in-Open c = (window-open _ _ _ _ _ _ _ _ _ c.nearest-first.ensures _ c.further-from.ensures.0 c.stops.ensures c.if-stops.false _ c.start_of-near.ensures.0 _ _ c.further.ensures.0 c.in-Open.ensures, (c.start_of-near.ensures.1, c.further.ensures.1))

pub returns-in-Closed : goal.returns-in-Closed
returns-in-Closed c = (window-closed _ _ _ _ _ _ _ _ _ c.nearest-first.ensures _ c.further-from.ensures.0 c.stops.ensures c.if-stops.false _ c.start_of-near.ensures.0 _ _ c.further-in-Closed.ensures.0 c.in-Closed.ensures, (c.start_of-near.ensures.1, c.further-in-Closed.ensures.1))
