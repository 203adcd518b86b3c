-- `window_piece::frame_of` meets its contract. Assumes nothing.
use native.Mathlib.Omega.{arith}
use Rattle.laws_calendar.specs.Numbers.{is-fits, day-bits}
use Rattle.window_piece.proofs.frame_of.Goals as goal

pub overflow_add-t : goal.overflow_add-t
overflow_add-t c = omega (arith, c.midnight-t.ensures, day-bits (is-fits c.requires.2), c.requires.2.small)

pub returns : goal.returns
returns c = let d = day-bits (is-fits c.requires.2) in let m = c.midnight-t.ensures in let w = c.requires.0 in let s = c.since.ensures in
    record { lo-is = omega arith; hi-is = omega (arith, w.order); known = λ h. omega arith; first-is = λ h. omega arith; close = omega arith }
