-- Answers that may be missing, as the code gives them: whether there is one, and a list that is empty where there is none.
use Rattle.std.specs.Prelude.{Bool, true, false, List, []}
use Rattle.std.proofs.Math.Option.{Option, none, some}

abbrev pub is_some : {A : Type 0} → Option A → Bool
is_some none = false
is_some (some a) = true

abbrev pub or_empty : {A : Type 0} → Option (List A) → List A
or_empty none = []
or_empty (some l) = l
