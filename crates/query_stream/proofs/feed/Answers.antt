use mathlib.Core.Path.{refl}
use native.Mathlib.Omega.{arith}
use Rattle.query_stream.proofs.Feeding.{bytes-at, going_on_lem, going-line}
use Rattle.query_stream.proofs.feed.Goals.{then-input-i-eq-NEWLINE, else-input-i-eq-NEWLINE}
use Rattle.query_stream.proofs.feed.Goals as goal

pub loop-i-preserved : goal.loop-i-preserved
loop-i-preserved c =
    let g = c.loop-i.invariant in
    elim c.if-input-i-eq-NEWLINE.branch [
      | then-input-i-eq-NEWLINE w ↦
          rw (w.out-is, w.r-is)
          (going-line _ _ _ _ _ _ _ _ _ c.requires.1.0
          (bytes-at c.args.input.now (λ k. (c.type_inv.input k).fits))
          (omega arith)
          (omega (arith, c.if-out-r-lt-LONGEST.false, g.used, g.kept))
          g
          w.if-input-i-eq-NEWLINE.true
          w.end_line-r.ensures
          w.end_line-r.auto.out)
      | else-input-i-eq-NEWLINE w ↦
          rw (w.out-is, w.r-is)
          (going_on_lem _ _ _ _ _ _ _ _ _ c.requires.1.0
          (bytes-at c.args.input.now (λ k. (c.type_inv.input k).fits))
          (omega arith)
          (omega (arith, c.if-out-r-lt-LONGEST.false, g.used, g.kept))
          g
          (w.read_byte-r.ensures _ _)
          refl)
    ]
