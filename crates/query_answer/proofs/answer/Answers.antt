-- `query_answer::answer` meets its contract.
use Rattle.model.specs.Build.{build}
use Rattle.query_line.specs.Reading.{query_is}
use Rattle.query_answer.proofs.Counting.{line-bad, built-line, unbuilt-line}
use Rattle.query_answer.proofs.answer.Goals as goal

pub returns-in_default : goal.returns-in_default
returns-in_default c = rw c.in_default.is (line-bad (build c.args.book.now c.args.pack.now) c.put_bad.ensures.0, c.put_bad.ensures.1)

pub put_answer-requires : goal.put_answer-requires
put_answer-requires c = let w = rw c.in-Ok.is at c.requires.0 in (w.fits, c.requires.1)

pub returns-in-Ok : goal.returns-in-Ok
returns-in-Ok c = rw c.in-Some.is (built-line c.args.book.now c.args.pack.now (query_is c.in-Some.q) (rw c.in-Ok.is at c.requires.0) c.put_answer.ensures.0, c.put_answer.ensures.1)

pub returns-in-Err : goal.returns-in-Err
returns-in-Err c = rw c.in-Some.is (unbuilt-line c.args.book.now c.args.pack.now (query_is c.in-Some.q) (rw c.in-Err.is at c.requires.0) c.put_refused.ensures.0, c.put_refused.ensures.1)
