-- Offsets from Greenwich: seconds east of it, with 26 hours added, so that none is negative.
use Rattle.std.specs.Prelude.{ℕ}

-- what is added
abbrev pub offset_bias : ℕ
offset_bias = 93600

-- "offsets from -93,599 to 93,599 s": the greatest, with the 26 hours added; the least is 1
abbrev pub greatest_offset : ℕ
greatest_offset = 187199
