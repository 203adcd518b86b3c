-- What was read is answered, but for what is still to come.
use Rattle.model.specs.Build.{build}
use Rattle.clock_run.proofs.Running.{Running}
use Rattle.clock_run.proofs.answer_all.Given as goal

abbrev pub invariant-loop : goal.invariant-loop
invariant-loop g l =
    Running (build l.book l.pack) (g.R.Read.remaining l.initial.input) (g.R.Read.remaining l.input) (g.W.Write.contents l.initial.output) (g.W.Write.contents l.output) l.p
