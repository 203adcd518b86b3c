use native.Mathlib.Omega.{arith}
use Rattle.book.proofs.Tally.{summing-work, summing-break, summing-holidays, summing-other, summing-end}
use Rattle.book.proofs.tallies_of.Goals as goal
use Rattle.book.proofs.tallies_of.Goals.{in-1, in-2, in-3, in_default}

pub loop-i-preserved : goal.loop-i-preserved
loop-i-preserved c =
    elim c.match-kind_at.branch [
      | in-1 w ↦ rw (w.work-is, w.breaks-is, w.holidays-is, w.dates-is) (summing-work _ _ c.loop-i.invariant (omega arith) c.kind_at.ensures w.in-1.is)
      | in-2 w ↦ rw (w.work-is, w.breaks-is, w.holidays-is, w.dates-is) (summing-break _ _ c.loop-i.invariant (omega arith) c.kind_at.ensures w.in-2.is)
      | in-3 w ↦ rw (w.work-is, w.breaks-is, w.holidays-is, w.dates-is) (summing-holidays _ _ c.loop-i.invariant (omega arith) c.kind_at.ensures w.in-3.is w.dates_in-dates.ensures.0 w.dates_in-dates.ensures.1)
      | in_default w ↦ rw (w.work-is, w.breaks-is, w.holidays-is, w.dates-is) (summing-other _ _ c.loop-i.invariant (omega arith) c.kind_at.ensures (λ z. omega arith) (λ z. omega arith) (λ z. omega arith))
    ]

pub returns : goal.returns
returns c = summing-end _ _ _ _ _ _ c.loop-i.invariant (omega arith)
