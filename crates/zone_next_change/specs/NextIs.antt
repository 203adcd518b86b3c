-- What the code answers.
use Rattle.std.proofs.Math.Option.{none, some}
use Rattle.std.proofs.Math.Option as math
use Rattle.std.specs.Prelude.{ℕ, Option, None, Some}

-- the second of a change, or that there is none
abbrev pub the_next : Option ℕ → math.Option ℕ
the_next (Some v) = some v
the_next None = none
