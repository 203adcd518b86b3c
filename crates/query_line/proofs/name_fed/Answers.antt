-- `query_line::name_fed` meets its contract.
use mathlib.Core.Path.{refl}
use native.Mathlib.Omega.{arith}
use Rattle.query_line.proofs.Feeding.{name-ended, name-other, name-goes-on, name-too-long}
use Rattle.query_line.proofs.name_fed.Goals as goal

pub returns-in_err-word : goal.returns-in_err-word
returns-in_err-word c = λ s. rw (c.from_residual.ensures, c.if-byte-eq32.true) (name-other c.args.name s c.in_err-word.ensures)

pub returns-then-byte-eq32 : goal.returns-then-byte-eq32
returns-then-byte-eq32 c = λ s. rw c.if-byte-eq32.true (name-ended c.args.name s c.in_ok-word.ensures)

pub returns-then-name-ge-LONGEST_WORD : goal.returns-then-name-ge-LONGEST_WORD
returns-then-name-ge-LONGEST_WORD c = λ s. name-too-long c.args.name s c.args.byte c.if-byte-eq32.false (omega arith) (omega arith)

pub returns : goal.returns
returns c = λ s. name-goes-on c.args.name s c.args.byte _ c.if-byte-eq32.false (omega arith) refl refl
