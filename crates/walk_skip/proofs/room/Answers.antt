-- `walk_skip::room` meets its contract: by its parts, in order. Assumes nothing.
use Rattle.instant.specs.Instant.{nanos}
use Rattle.model.specs.Instant.{day}
use mathlib.Core.Path.{refl}
use Prim.Native.Nat.{◌+◌, ◌-◌, ◌*◌}
use native.Mathlib.Omega.{arith}
use Rattle.walk_skip.proofs.Rooms.{room-range, room-work, room-breaks, room-all}
use Rattle.walk_skip.proofs.room.Goals as goal

pub returns-then-m-eq0 : goal.returns-then-m-eq0
returns-then-m-eq0 c = (room-range _ _ _ (nanos (c.args.t) - 11 * day) (nanos (c.args.t) + 11 * day) refl refl (c.in_range-m.ensures.0) (c.if-m-eq0.true), omega arith)

pub overflow_sub-a : goal.overflow_sub-a
overflow_sub-a c = omega (arith, c.requires.1.low)

pub overflow_add-b : goal.overflow_add-b
overflow_add-b c = omega (arith, c.requires.1.high)

pub rules_room-w-requires : goal.rules_room-w-requires
rules_room-w-requires c = let h = c.in_range-m.ensures.1 (omega (arith, c.if-m-eq0.false)) in let n = c.requires.1.ns in let h0 = h.0 in let h1 = h.1 in (c.requires.0.work-fits, record { low = omega arith; high = omega arith; ns = n }, record { low = omega arith; high = omega arith; ns = n }, omega arith)

pub returns-then-w-eq0 : goal.returns-then-w-eq0
returns-then-w-eq0 c = let h = c.in_range-m.ensures.1 (omega (arith, c.if-m-eq0.false)) in let n = c.requires.1.ns in let h0 = h.0 in let h1 = h.1 in (room-work _ _ _ ((c.args.t.sec - 950400) * 1000000000 + c.args.t.ns) ((c.args.t.sec + 950400) * 1000000000 + c.args.t.ns) (omega arith) (omega arith) (c.in_range-m.ensures.0) (c.if-m-eq0.false) (c.rules_room-w.ensures) (c.if-w-eq0.true), omega arith)

pub rules_room-p-requires : goal.rules_room-p-requires
rules_room-p-requires c = let h = c.in_range-m.ensures.1 (omega (arith, c.if-m-eq0.false)) in let n = c.requires.1.ns in let h0 = h.0 in let h1 = h.1 in (c.requires.0.breaks-fit, record { low = omega arith; high = omega arith; ns = n }, record { low = omega arith; high = omega arith; ns = n }, omega arith)

pub returns-then-p-eq0 : goal.returns-then-p-eq0
returns-then-p-eq0 c = let h = c.in_range-m.ensures.1 (omega (arith, c.if-m-eq0.false)) in let n = c.requires.1.ns in let h0 = h.0 in let h1 = h.1 in (room-breaks _ _ _ ((c.args.t.sec - 950400) * 1000000000 + c.args.t.ns) ((c.args.t.sec + 950400) * 1000000000 + c.args.t.ns) (omega arith) (omega arith) (c.in_range-m.ensures.0) (c.if-m-eq0.false) (c.rules_room-w.ensures) (c.if-w-eq0.false) (c.rules_room-p.ensures) (c.if-p-eq0.true), omega arith)

pub holidays_room-c-requires : goal.holidays_room-c-requires
holidays_room-c-requires c = let h = c.in_range-m.ensures.1 (omega (arith, c.if-m-eq0.false)) in let n = c.requires.1.ns in let h0 = h.0 in let h1 = h.1 in (c.requires.0.closed-fits, record { low = omega arith; high = omega arith; ns = n }, record { low = omega arith; high = omega arith; ns = n })

pub returns : goal.returns
returns c = let h = c.in_range-m.ensures.1 (omega (arith, c.if-m-eq0.false)) in let n = c.requires.1.ns in let h0 = h.0 in let h1 = h.1 in (room-all _ _ _ ((c.args.t.sec - 950400) * 1000000000 + c.args.t.ns) ((c.args.t.sec + 950400) * 1000000000 + c.args.t.ns) (omega arith) (omega arith) (c.in_range-m.ensures.0) (c.if-m-eq0.false) (c.rules_room-w.ensures) (c.if-w-eq0.false) (c.rules_room-p.ensures) (c.if-p-eq0.false) (c.holidays_room-c.ensures) (c.min.ensures) (c.min-2.ensures) (c.min-3.ensures), omega (arith, c.min.ensures, c.min-3.ensures, c.in_range-m.ensures.2))
