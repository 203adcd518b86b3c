-- `zone_local::piece_by` meets its contract.
use Prim.Native.Nat.{◌<◌}
use native.Mathlib.Omega.{arith}
use Rattle.laws_calendar.specs.Numbers.{day-bits}
use Rattle.zone_local.proofs.Facts.{kept_small, plain-piece}
use Rattle.zone_local.proofs.piece_by.Goals as goal

pub plain_block-requires : goal.plain_block-requires
plain_block-requires c = let h : 0 < c.args.o = omega (arith, c.if-o-eq0.false) in (kept_small _ _ _ _ _ (c.requires.0) (c.requires.4) (c.requires.5.order) h, rw (day-bits c.ranges.day) c.requires.1, c.requires.2, c.requires.3)

pub returns : goal.returns
returns c = let f = c.ranges.day in let h : 0 < c.args.o = omega (arith, c.if-o-eq0.false) in plain-piece (c.args.f.now) (c.args.z) (c.args.from) (c.args.to) (c.args.lo) (c.args.hi) _ _ _ _ _ (c.requires.0) (c.requires.2) (c.requires.3) (c.requires.4) (c.requires.5) h (rw (day-bits f) at c.plain_block.ensures.0) (rw (day-bits f) at c.plain_block.ensures.1) (c.clip.ensures)
