-- Dates as numbers in the order of their days, so that it is told by these whether a date lies from one day to another.
use Rattle.std.specs.Prelude.{ℕ, ◌+◌, ◌-◌, ◌*◌, ◌/◌, ◌%◌, Bool, ◌&&◌, List, nat_le, nat_lt, slice_index, if◌then◌else◌}
use Rattle.big_endian.specs.Be.{be16}
use Rattle.model.specs.Calendar.{date_of, is_date, day_number}
use Rattle.civil.specs.Dates.{year_bias, day_read}
use Rattle.std.specs.Prelude.{Option, Some, None, ℤ}

-- the rank of a date: year, month and day as one number, the year counted from -32768, which is the first that two bytes say
abbrev pub rank : ℕ → ℕ → ℕ → ℕ
rank y m d = y * 65536 + m * 256 + d

-- that of a day's date
unfoldable pub rank_of : ℕ → ℕ
rank_of n = rank ((date_of n).year + year_bias) (date_of n).month (date_of n).day

-- a bound above all ranks
abbrev pub ranks_end : ℕ
ranks_end = 1125899906842624

-- k is one of so many ranks from `from` on
unfoldable pub in_ranks : ℕ → ℕ → ℕ → Bool
in_ranks from count k = nat_le from k && nat_lt k (from + count)

-- that of what is written at p
unfoldable pub rank_at : List ℕ → ℕ → ℕ
rank_at b p = rank ((be16 b p + 32768) % 65536) (slice_index b (p + 2)) (slice_index b (p + 3))

-- the date that has the rank k, if there is one
unfoldable pub date_of_rank : ℕ → Option ℤ
date_of_rank k = day_read (record { year = k / 65536 - year_bias; month = k / 256 % 256; day = k % 256 })

-- the day of the date that has the rank k, 0 where it is no date's
unfoldable pub day_of_rank : ℕ → ℕ
day_of_rank k =
    let y = k / 65536 - year_bias in let m = k / 256 % 256 in let d = k % 256 in
    if is_date y m d then day_number y m d else 0
