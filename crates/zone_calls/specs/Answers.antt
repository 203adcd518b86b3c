-- The numbers of what the calls give: document 01's, as the definitions' answers list them.
use Rattle.std.proofs.Math.Option as found
use Rattle.std.specs.Prelude.{List, [], ◌∷◌, ◌++◌, ℤ, pos, Option, Some, None}
use Rattle.instant_signed.specs.Reads.{instant_numbers}
use Rattle.instant_signed.specs.declared.SignedInstant.{SignedInstant}
use Rattle.mark.specs.Marks.{mark_number}
use Rattle.zone_calls.specs.declared.ResolvedTime.{ResolvedTime}

-- the offset
abbrev pub offset_number : ℤ → ℤ
offset_number o = o

-- the instant of the change, or that there is none
abbrev pub change_numbers : Option SignedInstant → found.Option (List ℤ)
change_numbers (Some i) = found.some (instant_numbers i)
change_numbers None = found.none

-- the instant and the local time's mark
abbrev pub resolved_numbers : ResolvedTime → List ℤ
resolved_numbers r = instant_numbers r.at ++ pos (mark_number r.mark) ∷ []
