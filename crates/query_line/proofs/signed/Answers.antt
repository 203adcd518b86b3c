-- `query_line::signed` meets its contract.
use mathlib.Core.Path.{sym, ◌∙◌}
use Rattle.query_line.proofs.Feeding.{sign-again, sign-late, sign-first}
use Rattle.query_line.proofs.signed.Goals.{then-f-via-then-f, then-f-via-else-f+then-is_some}
use Rattle.query_line.proofs.signed.Goals as goal

pub returns-then-f : goal.returns-then-f
returns-then-f c = λ s. elim c.then-f.branch [
  | then-f-via-then-f w ↦ sign-again c.args.f s w.if-f.true
  | then-f-via-else-f+then-is_some w ↦ sign-late c.args.f s (sym w.is_some.ensures ∙ w.if-is_some.true)
]

pub returns : goal.returns
returns c = λ s. sign-first c.args.f s c.if-f.false (sym c.is_some.ensures ∙ c.if-is_some.false)
