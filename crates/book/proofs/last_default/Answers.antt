use native.Mathlib.Omega.{arith}
use Rattle.book.specs.Meaning.{records_of}
use Rattle.book.proofs.Tally.{last-start, last_end, last-yes, last-no}
use Rattle.book.proofs.last_default.Goals as goal
use Rattle.book.proofs.last_default.Goals.{then-kind_at-eq-DEFAULT_ZONE, else-kind_at-eq-DEFAULT_ZONE}

pub loop-i-init : goal.loop-i-init
loop-i-init c = (omega arith, last-start _ c.count-n.ensures.0)

pub loop-i-preserved : goal.loop-i-preserved
loop-i-preserved c =
    elim c.if-kind_at-eq-DEFAULT_ZONE.branch [
      | then-kind_at-eq-DEFAULT_ZONE w ↦ rw w.found-is (omega arith, last-yes _ _ c.kind_at.ensures (omega (arith, c.count-n.ensures)) _ c.loop-i.invariant.1 w.if-kind_at-eq-DEFAULT_ZONE.true)
      | else-kind_at-eq-DEFAULT_ZONE w ↦ rw w.found-is (c.loop-i.invariant.0, last-no _ _ c.kind_at.ensures (omega (arith, c.count-n.ensures)) _ c.loop-i.invariant.1 w.if-kind_at-eq-DEFAULT_ZONE.false)
    ]

pub returns : goal.returns
returns c = (last_end (records_of c.args.book.now) c.loop-i.i c.loop-i.found (omega (arith, c.count-n.ensures)) c.loop-i.invariant.1, omega (arith, c.count-n.ensures))
