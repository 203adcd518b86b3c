-- Instants and durations. Document 01, "Instant, duration, date, time of day". Outside they are pairs of signed numbers, seconds and nanoseconds.
-- Inside, an instant is the number of nanoseconds from -10400-01-01T00:00:00Z, and a duration a sign and a number of nanoseconds.
use Rattle.std.specs.Prelude.{◌≡◌, refl, Bool, true, false, not, ◌&&◌, ◌||◌, List, [], ◌∷◌, ℕ, suc, ◌+◌, ◌*◌, ◌-◌, ◌/◌, ◌%◌, ◌^◌, leb, ltb, eqb, ℤ, pos, negsuc, neg_ℤ, nat_abs, if◌then◌else◌}
use Rattle.model.specs.Basic.{given, is_in}
use Rattle.model.specs.Answer.{Answer, or_refuse}

-- the second of 1970-01-01T00:00:00Z
abbrev pub epoch : ℕ
epoch = 390359520000

-- in nanoseconds
abbrev pub second : ℕ
second = 1000000000

-- "Time of day: second 0 to 86,399"
abbrev pub day_seconds : ℕ
day_seconds = 86400

-- of a window
abbrev pub week_seconds : ℕ
week_seconds = 604800

-- in nanoseconds
abbrev pub day : ℕ
day = 86400000000000

abbrev pub week : ℕ
week = 604800000000000

-- "First: -377,705,023,201 s, 0 ns. Last: 253,402,207,200 s, 999,999,999 ns."
abbrev pub first_second : ℕ
first_second = 12654496799

abbrev pub last_second : ℕ
last_second = 643761727200

range-seconds : (first_second + 377705023201 ≡ epoch) × (last_second ≡ epoch + 253402207200)
range-seconds = (refl, refl)

abbrev pub first_instant : ℕ
first_instant = first_second * second

abbrev pub last_instant : ℕ
last_instant = last_second * second + 999999999

-- ---- signed numbers

abbrev pub is_below_0 : ℤ → Bool
is_below_0 (pos n) = false
is_below_0 (negsuc n) = true

-- n, or -n
abbrev pub signed : Bool → ℕ → ℤ
signed minus n = if minus then neg_ℤ (pos n) else pos n

-- ---- instants

-- a second counted from 1970 as one counted from -10400, 0 for all before
abbrev pub second_from : ℤ → ℕ
second_from (pos n) = epoch + n
second_from (negsuc n) = epoch - suc n

-- "Instant: whole seconds from 1970-01-01T00:00:00Z, rounded down, with 0 to 999,999,999 nanoseconds."
-- Refusal 8: "instant or its nanoseconds out of range"
unfoldable pub instant_of : ℤ → ℤ → Answer ℕ
instant_of s n =
    or_refuse 8 0 (given (is_in first_second last_second (second_from s) && (not (is_below_0 n) && ltb (nat_abs n) second))
    (second_from s * second + nat_abs n))

-- the seconds, counted from 1970, and the nanoseconds of an instant
unfoldable pub instant : ℕ → List ℤ
instant t = let s = t / second in (if leb epoch s then pos (s - epoch) else neg_ℤ (pos (epoch - s))) ∷ pos (t % second) ∷ []

-- ---- durations

pub record Duration : Type 0 where
  pub minus : Bool
  pub size : ℕ

-- one of the two is below zero and the other above
abbrev pub are_opposite : ℤ → ℤ → Bool
are_opposite s n = not (eqb (nat_abs s) 0) && (not (eqb (nat_abs n) 0) && (if is_below_0 s then not (is_below_0 n) else is_below_0 n))

-- "Duration: signed 64-bit seconds and nanoseconds below 10^9 in size; the two never have opposite signs." Refusal 9: "duration malformed"
unfoldable pub duration_of : ℤ → ℤ → Answer Duration
duration_of s n =
    or_refuse 9 0 (given (ltb (nat_abs n) second && not (are_opposite s n))
    (record { minus = is_below_0 s || is_below_0 n; size = nat_abs s * second + nat_abs n }))

-- the seconds and nanoseconds of a duration
unfoldable pub duration : Duration → List ℤ
duration d = signed d.minus (d.size / second) ∷ signed d.minus (d.size % second) ∷ []

-- "negation that fails at -2^63 seconds"; "Negating a duration of -2^63 seconds, with any nanoseconds, gives 7."
unfoldable pub negated : Duration → Answer Duration
negated d =
    or_refuse 7 0 (given (not d.minus || ltb d.size (2 ^ 63 * second))
    (record { minus = not d.minus && ltb 0 d.size; size = d.size }))

unfoldable pub instants : Unit {0}
unfolding instant_of instant duration_of duration negated
instants = tt
