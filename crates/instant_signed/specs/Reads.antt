-- What the code's instants mean: numbers of nanoseconds as the definitions count them, as whole seconds and the rest.
use Rattle.std.specs.Prelude.{List, [], ◌∷◌, ℕ, ◌-◌, ◌/◌, ◌%◌, leb, ℤ, pos, neg_ℤ, if◌then◌else◌, Option, Some, None}
use Rattle.model.specs.Answer.{Answer, gives, refuses}
use Rattle.model.specs.Instant.{epoch, second}
use Rattle.instant.specs.declared.Instant.{Instant}
use Rattle.instant_signed.specs.declared.SignedInstant.{SignedInstant}

-- n nanoseconds as seconds and the rest
abbrev pub of_nanos : ℕ → Instant
of_nanos n = record { sec = n / second; ns = n % second }

-- what the definitions give, or refuse
unfoldable pub instant_read : Answer ℕ → Option Instant
instant_read (gives n) = Some (of_nanos n)
instant_read (refuses n p) = None

-- a second from -10400 as one from 1970
unfoldable pub seconds_from : ℕ → ℤ
seconds_from s = if leb epoch s then pos (s - epoch) else neg_ℤ (pos (epoch - s))

-- the numbers of an instant as the calls give it
abbrev pub instant_numbers : SignedInstant → List ℤ
instant_numbers i = i.sec ∷ i.ns ∷ []
