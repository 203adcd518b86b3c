-- Document 01's limits of a book: records, records of each kind but the default zone's, and dates as written.
use Rattle.std.specs.Prelude.{ℕ}

abbrev pub most_records : ℕ
most_records = 64

abbrev pub most_work : ℕ
most_work = 16

abbrev pub most_breaks : ℕ
most_breaks = 16

abbrev pub most_holidays : ℕ
most_holidays = 8

abbrev pub most_dates : ℕ
most_dates = 512
