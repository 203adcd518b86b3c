-- `build::read_rules` meets its contract.
use native.Mathlib.Omega.{arith}
use mathlib.Core.Path.{refl}
use Rattle.std.proofs.lemmas.Result.{err_from_is_err_and}
use Rattle.build.proofs.Loop.{reading-start, reading-end, room-is, step-more, step-knows, step-refused}
use Rattle.build.proofs.read_rules.Goals as goal

pub loop-i-init : goal.loop-i-init
loop-i-init c = (reading-start _ _ _ c.requires.0.1 c.requires.2.0, c.requires.2.1, tt)

pub returns-in_err-o : goal.returns-in_err-o
returns-in_err-o c =
    let p = err_from_is_err_and c.from_residual.result c.from_residual.ensures.1 in
    rw (p.1, p.2) (step-refused _ _ _ _ _ c.loop-i.invariant.0 (omega (arith, c.count-i-end.ensures)) _ c.entry_at-e.ensures _ refl c.in_err-o.ensures)

pub add_record-requires : goal.add_record-requires
add_record-requires c = (room-is _ _ _ _ _ c.loop-i.invariant.0 (omega (arith, c.count-i-end.ensures)) _ c.entry_at-e.ensures, c.loop-i.invariant.1)

pub loop-i-preserved : goal.loop-i-preserved
loop-i-preserved c =
    let h = c.count-i-end.ensures in (
      step-more _ _ _ _ _ c.loop-i.invariant.0 (omega (arith, h)) _ c.entry_at-e.ensures _ refl c.in_ok-o.ensures (c.add_record.ensures.0 _),
      c.add_record.ensures.1,
      step-knows _ _ _ _ _ c.loop-i.invariant.0 (omega (arith, h)) _ c.entry_at-e.ensures _ refl c.in_ok-o.ensures _ c.loop-i.invariant.2 c.lookup_after-k.ensures,
    )

pub returns : goal.returns
returns c = reading-end _ _ _ _ _ c.loop-i.invariant.0 (omega (arith, c.count-i-end.ensures))
