-- `book::limits_ok` meets its contract.
use mathlib.Core.Path.{refl}
use mathlib.Core.Bool.{true}
use lib.Dec.{leb}
use native.Mathlib.Omega.{arith}
use borrow.Author.Tests.{leb-true, leb-false, lt-leb}
use Rattle.laws_base.specs.Test.{clash}
use Rattle.book.specs.Limits.{most_work, most_breaks, most_holidays}
use Rattle.book.proofs.Tally.{many-records, many-work, many-breaks, many-holidays, dates-within}
use Rattle.book.proofs.limits_ok.Goals as goal
use Rattle.book.proofs.limits_ok.Goals.{then-t-le-MOST_WORK, else-t-le-MOST_WORK, then-t-le-MOST_BREAKS, else-t-le-MOST_BREAKS}

pub returns-then-n-gt-MOST_RECORDS : goal.returns-then-n-gt-MOST_RECORDS
returns-then-n-gt-MOST_RECORDS c = many-records _ c.count-n.ensures.0 (omega arith)

pub returns-then-t-le-MOST_HOLIDAYS : goal.returns-then-t-le-MOST_HOLIDAYS
returns-then-t-le-MOST_HOLIDAYS c =
    let t = c.tallies_of-t.result in
    elim c.if-t-le-MOST_BREAKS.branch [
      | then-t-le-MOST_BREAKS w ↦ elim c.if-t-le-MOST_WORK.branch [
        | then-t-le-MOST_WORK v ↦ dates-within _ c.count-n.ensures.0 (omega arith) c.tallies_of-t.ensures v.if-t-le-MOST_WORK.true (leb-true t.breaks most_breaks (cc)) (leb-true t.holidays most_holidays (cc))
        | else-t-le-MOST_WORK v ↦ clash (leb t.work most_work) (cc) (lt-leb t.work most_work v.if-t-le-MOST_WORK.false)
      ]
      | else-t-le-MOST_BREAKS w ↦ clash true refl (cc)
    ]

pub returns-else-t-le-MOST_HOLIDAYS : goal.returns-else-t-le-MOST_HOLIDAYS
returns-else-t-le-MOST_HOLIDAYS c =
    let t = c.tallies_of-t.result in
    elim c.if-t-le-MOST_BREAKS.branch [
      | then-t-le-MOST_BREAKS w ↦ elim c.if-t-le-MOST_WORK.branch [
        | then-t-le-MOST_WORK v ↦ cc (many-holidays _ c.count-n.ensures.0 (omega arith) c.tallies_of-t.ensures v.if-t-le-MOST_WORK.true (leb-true t.breaks most_breaks (cc)) (leb-false t.holidays most_holidays (cc)))
        | else-t-le-MOST_WORK v ↦ clash (leb t.work most_work) (cc) (lt-leb t.work most_work v.if-t-le-MOST_WORK.false)
      ]
      | else-t-le-MOST_BREAKS w ↦ elim c.if-t-le-MOST_WORK.branch [
        | then-t-le-MOST_WORK v ↦ cc (many-breaks _ c.count-n.ensures.0 (omega arith) c.tallies_of-t.ensures v.if-t-le-MOST_WORK.true (leb-false t.breaks most_breaks (cc)))
        | else-t-le-MOST_WORK v ↦ cc (many-work _ c.count-n.ensures.0 (omega arith) c.tallies_of-t.ensures v.if-t-le-MOST_WORK.false)
      ]
    ]
