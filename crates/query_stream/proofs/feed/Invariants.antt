-- `query_stream::feed` meets its contract.
use Rattle.model.specs.Build.{build}
use Rattle.query_stream.proofs.Feeding.{Going}
use Rattle.query_stream.proofs.feed.Given as goal

abbrev pub invariant-loop-i : goal.invariant-loop-i
invariant-loop-i l = Going (build l.book l.pack) l.input l.initial.out l.out l.initial.r l.r l.i
