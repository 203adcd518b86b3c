-- The numbers of the marks, by which the definitions name them.
use Rattle.std.specs.Prelude.{ℕ}
use Rattle.mark.specs.declared.Mark.{Mark}
use Rattle.mark.specs.declared.Mark.TheVariants.{Plain, Repeated, Skipped, Beyond}

abbrev pub mark_number : Mark → ℕ
mark_number Plain = 0
mark_number Repeated = 1
mark_number Skipped = 2
mark_number Beyond = 3
