-- The numbers of days as the code keeps them. Document 02, request 3: "Inside date arithmetic keep day numbers so [signed 32-bit]; those of dates lie
-- between -4,371,587 and 2,932,896": they count from 1970-01-01. The definitions count days from -10400-01-01.
use Rattle.std.specs.Prelude.{ℕ, suc, ◌+◌, ◌-◌, ℤ, pos, negsuc, ◌-ℤ◌}

-- 1970-01-01 as a day of the definitions
abbrev pub epoch_day : ℕ
epoch_day = 4518050

-- the number of a day
unfoldable pub signed_day : ℕ → ℤ
signed_day n = pos n -ℤ pos epoch_day

-- the day that has a number; numbers below that of -10400-01-01 have none, and are given that day
unfoldable pub day_of : ℤ → ℕ
day_of (pos n) = epoch_day + n
day_of (negsuc n) = epoch_day - suc n
