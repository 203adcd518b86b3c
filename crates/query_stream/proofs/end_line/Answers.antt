-- `query_stream::end_line` meets its contract.
use mathlib.Core.Path.{refl}
use Rattle.query_stream.proofs.Lines.{line-ended}
use Rattle.query_stream.proofs.end_line.Goals as goal

pub returns : goal.returns
returns c =
    record {
      text = _;
      placed = c.answer-used.ensures.0;
      same = line-ended _ _ _ c.args.p.begun _ (λ s g. c.start.ensures s) c.query_of.ensures;
      used = c.answer-used.ensures.1;
      next = refl;
    }
