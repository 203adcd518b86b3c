-- `answer` meets its contract.
use Rattle.model.specs.Answer.{gives}
use Rattle.rule.specs.Rules.{schedule_is}
use mir.Facts.{to_z-of_z}
use mathlib.Core.Path.{sym, ◌∙◌}
use Rattle.query_numbers.proofs.Answering as A
use Rattle.query_numbers.proofs.answer.Goals as goal

pub returns-then-kind-eq-BETWEEN : goal.returns-then-kind-eq-BETWEEN
returns-then-kind-eq-BETWEEN c = A.as-between _ _ _ _ _ _ c.ranges.kind c.if-kind-eq-BETWEEN.true (rw (to_z-of_z c.ranges.a, to_z-of_z c.ranges.b, to_z-of_z c.ranges.c, to_z-of_z c.ranges.d) at c.time.ensures)

pub returns-then-is_move : goal.returns-then-is_move
returns-then-is_move c = A.as-move _ _ _ _ _ _ (sym c.if-is_move.true ∙ (rw (to_z-of_z c.ranges.kind) at c.is_move.ensures)) (rw (to_z-of_z c.ranges.a, to_z-of_z c.ranges.b, to_z-of_z c.ranges.c, to_z-of_z c.ranges.d) at c.moved.ensures)

pub returns-then-is_period : goal.returns-then-is_period
returns-then-is_period c = A.as-period _ _ _ _ _ _ (sym c.if-is_period.true ∙ (rw (to_z-of_z c.ranges.kind) at c.is_period.ensures)) (rw (to_z-of_z c.ranges.a, to_z-of_z c.ranges.b) at c.period.ensures)

pub returns : goal.returns
returns c = A.as_none (gives (schedule_is c.args.book.now c.args.pack.now c.args.s)) _ _ _ _ _ c.if-kind-eq-BETWEEN.false (sym c.if-is_move.false ∙ (rw (to_z-of_z c.ranges.kind) at c.is_move.ensures)) (sym c.if-is_period.false ∙ (rw (to_z-of_z c.ranges.kind) at c.is_period.ensures))
