-- What the code's durations mean: a sign and a number of nanoseconds, as the definitions have them. Refusal 7 is out of range.
use Rattle.std.specs.Prelude.{Bool, ℕ, ◌/◌, ◌%◌, ◌^◌, leb, ltb, eqb, ℤ, if◌then◌else◌, Option, Some, None, Result, Ok, Err}
use Rattle.model.specs.Answer.{Answer, gives, refuses, ◌>>=◌}
use Rattle.model.specs.Instant as M
use Rattle.model.specs.Instant.{second, signed, duration_of, negated}
use Rattle.instant_signed.specs.Reads.{of_nanos}
use Rattle.instant_signed.specs.declared.Duration.{Duration}
use Rattle.instant_signed.specs.declared.SignedLength.{SignedLength}
use Rattle.instant_signed.specs.declared.DurationError.{DurationError}
use Rattle.instant_signed.specs.declared.DurationError.TheVariants.{OutOfRange, Malformed}

-- seconds and nanoseconds of one sign
abbrev pub signed_pair : Bool → ℕ → ℕ → Duration
signed_pair minus s n = record { secs = signed minus s; nanos = signed minus n }

-- the sign and the size of a duration
unfoldable pub duration_read : Answer M.Duration → Option SignedLength
duration_read (gives d) = Some (record { minus = d.minus; length = of_nanos d.size })
duration_read (refuses n p) = None

-- the pair of a sign, seconds and nanoseconds, where both fit
unfoldable pub fitting_pair : Bool → ℕ → ℕ → Result Duration DurationError
fitting_pair minus s n =
    if ltb n second then (if (if minus then leb s (2 ^ 63) else ltb s (2 ^ 63)) then Ok (signed_pair minus s n) else Err OutOfRange) else Err Malformed

unfoldable pub negated_read : Answer M.Duration → Result Duration DurationError
negated_read (gives d) = Ok (signed_pair d.minus (d.size / second) (d.size % second))
negated_read (refuses n p) = if eqb n 7 then Err OutOfRange else Err Malformed

-- the negation of a pair
unfoldable pub negation : ℤ → ℤ → Result Duration DurationError
negation s n = negated_read (duration_of s n >>= negated)
