-- What the code's tests say of a record's bytes l, from the place p on: that the crate `model` reads there what the test is named after.
use Rattle.std.specs.Prelude.{Bool, List, ℕ, drop}
use Rattle.model.specs.Book.{time_of, hours_of, dates_of, body_of, entry_of, entries_of}
use Rattle.big_endian.specs.Maybe.{is_some}
unfoldable pub use Rattle.book_dates.specs.Days.{is_day, are_days}
use Rattle.book.specs.Meaning.{bytes_at}

unfoldable pub is_time : List ℕ → ℕ → Bool
is_time l p = is_some (time_of (drop p l))

unfoldable pub is_hours : List ℕ → ℕ → Bool
is_hours l p = is_some (hours_of (drop p l))

-- a count and as many dates
unfoldable pub is_dates : List ℕ → ℕ → Bool
is_dates l p = is_some (dates_of (drop p l))

unfoldable pub is_body : ℕ → List ℕ → ℕ → Bool
is_body kind l p = is_some (body_of kind (drop p l))

-- the whole of l is a record, wherever it stands
unfoldable pub is_record : List ℕ → Bool
is_record l = is_some (entry_of (record { place = 0; bytes = l }))

-- so are the bytes of record i of the book b
abbrev pub is_record_at : List ℕ → ℕ → Bool
is_record_at b i = is_record (bytes_at b i)

unfoldable pub is_book : List ℕ → Bool
is_book b = is_some (entries_of b)
