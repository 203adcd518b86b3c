-- `book::record_ok` meets its contract.
use mathlib.Core.Path.{sym, ◌∙◌}
use borrow.Author.Tests.{leb-true, leb-false, lt-leb}
use Rattle.laws_base.specs.Test.{clash}
use Rattle.directory.specs.Directory.{longest_name}
use Rattle.book.proofs.Bytes.{record-long, record-short, record-body}
use Rattle.book.proofs.record_ok.Goals as goal
use Rattle.book.proofs.record_ok.Goals.{then-n-le-LONGEST_NAME, else-n-le-LONGEST_NAME}

pub returns-then-n-l : goal.returns-then-n-l
returns-then-n-l c =
    elim c.if-n-le-LONGEST_NAME.branch [
      | then-n-le-LONGEST_NAME w ↦ record-body _ c.small_at-n.ensures.0 w.if-n-le-LONGEST_NAME.true (leb-true _ _ (sym w.value-is ∙ c.if-n-l.true)) c.byte_at.ensures c.body_ok.ensures
      | else-n-le-LONGEST_NAME w ↦ clash _ c.if-n-l.true (w.value-is ∙ lt-leb _ longest_name w.if-n-le-LONGEST_NAME.false)
    ]

pub returns-else-n-l : goal.returns-else-n-l
returns-else-n-l c =
    c.if-n-l.false
    ∙ elim c.if-n-le-LONGEST_NAME.branch [
      | then-n-le-LONGEST_NAME w ↦ record-short _ c.small_at-n.ensures.0 w.if-n-le-LONGEST_NAME.true (leb-false _ _ (sym w.value-is ∙ c.if-n-l.false))
      | else-n-le-LONGEST_NAME w ↦ record-long _ c.small_at-n.ensures.0 w.if-n-le-LONGEST_NAME.false
    ]
