-- The calls on a zone file, over signed numbers. Document 01, "Zone pack and zone": "Offset at an instant", "`resolve`". Each asks the file first, then
-- its numbers. There is no book: the place of every refusal is 0.
use Rattle.std.specs.Prelude.{not, ◌&&◌, ◌||◌, List, ℕ, suc, ◌+◌, ◌*◌, ◌-◌, ◌/◌, ltb, ℤ, pos, negsuc, ◌-ℤ◌, nat_abs}
use Rattle.std.proofs.Math.Option.{Option, map}
use Rattle.model.specs.Basic.{given}
use Rattle.model.specs.Calendar.{is_date, day_number}
use Rattle.model.specs.Instant.{second, day_seconds, is_below_0, instant_of, instant}
use Rattle.model.specs.Offset.{offset_bias}
use Rattle.model.specs.Tzif.{Zone, zone_of}
use Rattle.model.specs.Zone.{offset_at, resolve}
use Rattle.model.specs.Answer.{Answer, gives, ◌>>=◌, or_refuse}
use Rattle.model.specs.NextChange.{next_change}

-- Refusal 5: "zone file unusable"
abbrev pub zone_in : List ℕ → Answer Zone
zone_in file = or_refuse 5 0 (zone_of file)

-- ---- the offset at an instant

-- seconds east of Greenwich, of an offset that is kept with 93,600 added
unfoldable pub east : ℕ → ℤ
east o = pos o -ℤ pos offset_bias

-- "Offset at an instant: type 0 before the first transition; .."
unfoldable pub offset_call : List ℕ → ℤ → ℤ → Answer ℤ
offset_call file s n =
    zone_in file >>= λ z.
    instant_of s n >>= λ t.
    gives (east (offset_at z (t / second)))

-- ---- the next change of the offset after an instant

-- the instant of the change, whose nanoseconds are 0; none where the offset stays to the range's end
unfoldable pub change_call : List ℕ → ℤ → ℤ → Answer (Option (List ℤ))
change_call file s n =
    zone_in file >>= λ z.
    instant_of s n >>= λ t.
    gives (map (λ v. instant (v * second)) (next_change z (t / second)))

-- ---- the instant of a local time

-- a year as one counted from -10400, 0 for all before
abbrev pub year_from : ℤ → ℕ
year_from (pos y) = 10400 + y
year_from (negsuc y) = 10400 - suc y

-- the number of a date's day. "Date: proleptic Gregorian, -9999-01-01 to 9999-12-31."
unfoldable pub day_given : ℤ → ℤ → ℤ → Answer ℕ
day_given y m d =
    or_refuse 8 0 (given (not (is_below_0 m || is_below_0 d) && is_date (year_from y) (nat_abs m) (nat_abs d)) (day_number (year_from y) (nat_abs m) (nat_abs d)))

-- a time of day in nanoseconds. "Time of day: second 0 to 86,399 and nanoseconds."
unfoldable pub time_given : ℤ → ℤ → Answer ℕ
time_given s n =
    or_refuse 8 0 (given (not (is_below_0 s || is_below_0 n) && (ltb (nat_abs s) day_seconds && ltb (nat_abs n) second)) (nat_abs s * second + nat_abs n))

-- "`resolve`: a local time takes the earliest instant that reads so, .."
unfoldable pub resolve_call : List ℕ → ℤ → ℤ → ℤ → ℤ → ℤ → Answer (List ℤ)
resolve_call file year month day s n =
    zone_in file >>= λ z.
    day_given year month day >>= λ d.
    time_given s n >>= λ time.
    gives (instant (resolve z d time))

unfoldable pub zone_calls : Unit {0}
unfolding east offset_call change_call day_given time_given resolve_call
zone_calls = tt
