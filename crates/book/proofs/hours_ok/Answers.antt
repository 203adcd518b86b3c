-- `book::hours_ok` meets its contract.
use mathlib.Core.Path.{sym, ◌∙◌}
use native.Mathlib.Omega.{arith}
use borrow.Author.Tests.{ltb-true, ltb-false, ne_eqb}
use Rattle.laws_base.specs.Test.{clash}
use Rattle.book.proofs.Times.{hours-length, hours-days, hours-start, hours-end}
use Rattle.book.proofs.hours_ok.Goals as goal
use Rattle.book.proofs.hours_ok.Goals.{then-l-p, else-l-p, then-byte_at-lt-WEEKDAY_SETS, else-byte_at-lt-WEEKDAY_SETS}

pub returns-then-time_ok : goal.returns-then-time_ok
returns-then-time_ok c =
    elim c.if-byte_at-lt-WEEKDAY_SETS.branch [
      | then-byte_at-lt-WEEKDAY_SETS w ↦ elim c.if-l-p.branch [
        | then-l-p v ↦ hours-end _ _ (omega arith) v.if-l-p.true v.byte_at.ensures (ltb-true _ _ (sym v.value-is ∙ w.if-byte_at-lt-WEEKDAY_SETS.true)) w.time_ok.ensures (sym w.value-is ∙ c.if-time_ok.true) c.time_ok-then-time_ok.ensures
        | else-l-p v ↦ clash _ w.if-byte_at-lt-WEEKDAY_SETS.true (v.value-is ∙ ne_eqb _ _ v.if-l-p.false)
      ]
      | else-byte_at-lt-WEEKDAY_SETS w ↦ clash _ (sym w.value-is ∙ c.if-time_ok.true) w.if-byte_at-lt-WEEKDAY_SETS.false
    ]

pub returns-else-time_ok : goal.returns-else-time_ok
returns-else-time_ok c =
    c.if-time_ok.false
    ∙ elim c.if-byte_at-lt-WEEKDAY_SETS.branch [
      | then-byte_at-lt-WEEKDAY_SETS w ↦ elim c.if-l-p.branch [
        | then-l-p v ↦ hours-start _ _ (omega arith) v.if-l-p.true v.byte_at.ensures (ltb-true _ _ (sym v.value-is ∙ w.if-byte_at-lt-WEEKDAY_SETS.true)) w.time_ok.ensures (sym w.value-is ∙ c.if-time_ok.false)
        | else-l-p v ↦ clash _ w.if-byte_at-lt-WEEKDAY_SETS.true (v.value-is ∙ ne_eqb _ _ v.if-l-p.false)
      ]
      | else-byte_at-lt-WEEKDAY_SETS w ↦ elim c.if-l-p.branch [
        | then-l-p v ↦ hours-days _ _ (omega arith) v.if-l-p.true v.byte_at.ensures (ltb-false _ _ (sym v.value-is ∙ w.if-byte_at-lt-WEEKDAY_SETS.false))
        | else-l-p v ↦ hours-length _ _ (omega arith) v.if-l-p.false
      ]
    ]
