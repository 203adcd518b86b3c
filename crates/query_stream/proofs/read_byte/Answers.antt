-- `query_stream::read_byte` meets its contract.
use mathlib.Core.List.{[]}
use mathlib.Core.Path.{refl}
use Rattle.query_stream.proofs.Lines.{goes_on, placed-none}
use native.Mathlib.Omega.{arith}
use Rattle.query_stream.proofs.read_byte.Goals as goal

pub returns : goal.returns
returns c =
    λ a out.
    record {
      text = [];
      placed = placed-none _ _;
      same = λ t g. goes_on a c.args.p.line _ c.args.p.begun c.args.byte c.requires.0 c.fed.ensures t;
      used = omega arith;
      next = refl;
    }
