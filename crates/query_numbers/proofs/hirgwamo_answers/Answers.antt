-- `hirgwamo_answers` meets its contract.
use native.Mathlib.Omega.{arith}
use mathlib.Core.Path.{refl}
use Rattle.query_numbers.proofs.Answering as A
use Rattle.query_numbers.proofs.hirgwamo_answers.Goals as goal

pub returns-then-queries-ne0 : goal.returns-then-queries-ne0
returns-then-queries-ne0 c = A.not-whole _ _ _ c.if-queries-ne0.true

pub returns-then-answers-queries : goal.returns-then-answers-queries
returns-then-answers-queries c = A.too_few _ _ _ c.if-queries-ne0.false c.if-answers-queries.true

pub answer_all-requires : goal.answer_all-requires
answer_all-requires c = (c.build.ensures, let k = c.if-answers-queries.false in omega arith)

pub returns : goal.returns
returns c = A.all_done _ _ _ c.if-queries-ne0.false c.if-answers-queries.false refl c.answer_all.ensures
