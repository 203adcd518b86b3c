-- `schedule_hardest::stretch_given` meets its contract.
use Rattle.schedule_hardest.proofs.Answers.{stretch-written}
use Rattle.schedule_hardest.proofs.stretch_given.Goals as goal

pub returns : goal.returns
returns c = stretch-written c.args.t c.args.h.start c.from_nanoseconds-time.result c.pair.result c.signed_instant.result c.from_nanoseconds-time.ensures.1 c.from_nanoseconds-time.ensures.0 c.pair.ensures c.signed_instant.ensures
