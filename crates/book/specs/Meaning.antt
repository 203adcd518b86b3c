-- What the code's records stand for: from an `Entry` of the code and the bytes of the book to an `Entry` of the crate `model`.
use Rattle.std.specs.Prelude.{◌≡◌, List, [], ℕ, ◌+◌, ◌≤◌, ◌<◌, eqb, length, get_or, take, drop, if◌then◌else◌}
use Rattle.std.proofs.Math.Option.{none}
use Rattle.std.proofs.Math.ListN.{get_elem?}
use Rattle.big_endian.specs.Be.{two_bytes, four_bytes, be16, be32}
use Rattle.big_endian.specs.Maybe.{or_empty}
use Rattle.directory.specs.Directory.{start_at, len_at}
use Rattle.model.specs.Instant.{second, day_seconds}
unfoldable pub use Rattle.book_dates.specs.Days.{written_year, day_at, dates_at}
use Rattle.book_dates.specs.Days.{HasDates}
use Rattle.model.specs.Book as model
use Rattle.model.specs.Book.{Hours, Body, default, work, pause, holidays, entries_of, last_default, dates, tally}
use Rattle.civil.specs.Dates.{time_in}
use Rattle.civil.specs.declared.Time.{Time}
use Rattle.book.specs.declared.Entry.{Entry}
use Rattle.book.specs.declared.Tallies.{Tallies}

-- how many sets of weekdays there are
abbrev pub weekday_sets : ℕ
weekday_sets = 128

-- the book's records; none where its layout does not hold
abbrev pub records_of : List ℕ → List model.Entry
records_of b = or_empty (entries_of b)

-- ---- records

-- the numbers that the book writes for the four kinds
abbrev pub default_kind : ℕ
default_kind = 0

abbrev pub work_kind : ℕ
work_kind = 1

abbrev pub break_kind : ℕ
break_kind = 2

abbrev pub holidays_kind : ℕ
holidays_kind = 3

abbrev pub hours_in : Entry → Hours
hours_in e = record { days = e.days; from = time_in e.start; to = time_in e.end }

abbrev pub body_in : List ℕ → Entry → Body
body_in b e =
    if eqb e.kind default_kind then default else
    if eqb e.kind work_kind then work (hours_in e) else
    if eqb e.kind break_kind then pause (hours_in e) else
    holidays (dates_at b e.dates e.count)

unfoldable pub meaning : List ℕ → Entry → model.Entry
meaning b e = record { place = e.place; name = take e.letters (drop e.name b); body = body_in b e }

-- the kind of a body, and 1 for a body of kind k
abbrev pub kind_of : Body → ℕ
kind_of default = default_kind
kind_of (work h) = work_kind
kind_of (pause h) = break_kind
kind_of (holidays l) = holidays_kind

unfoldable pub of_kind : ℕ → Body → ℕ
of_kind k x = if eqb (kind_of x) k then 1 else 0

-- ---- an entry as the code reads it

-- the time of day written at p
unfoldable pub time_written : List ℕ → ℕ → Time
time_written l p = record { seconds = be32 l p; nanos = be32 l (p + 4) }

-- the record whose bytes are l and which stands at o in the book
unfoldable pub entry_from : ℕ → List ℕ → Entry
entry_from o l =
    let n = get_or l 1 0 in
    record {
      kind = get_or l 0 0;
      place = o;
      name = o + 2;
      letters = n;
      days = get_or l (2 + n) 0;
      start = time_written l (2 + n + 1);
      end = time_written l (2 + n + 9);
      dates = o + (2 + n + 2);
      count = be16 l (2 + n);
    }

-- the bytes of record i of the book
unfoldable pub bytes_at : List ℕ → ℕ → List ℕ
bytes_at b i = take (len_at b i) (drop (start_at b i) b)

-- what stands for a record that is not there
abbrev pub no_entry : model.Entry
no_entry = record { place = 0; name = []; body = default }

-- the book has a record i
abbrev pub HasRecord : List ℕ → ℕ → Type 0
HasRecord b i = (i < length (records_of b)) × (i < four_bytes)

-- record i is that of the default zone that wins; i is the number of records where there is none
abbrev pub IsLastDefault : List ℕ → ℕ → Type 0
IsLastDefault b i = (get_elem? (records_of b) i ≡ last_default none (records_of b)) × (i ≤ length (records_of b))

-- the weekdays and the times of day of a work or break record are such
pub record IsTimed (e : Entry) : Type 0 where
  pub days : e.days < weekday_sets
  pub start-seconds : e.start.seconds < day_seconds
  pub start-nanos : e.start.nanos < second
  pub end-seconds : e.end.seconds < day_seconds
  pub end-nanos : e.end.nanos < second

-- the record's name lies in the book
abbrev pub NameIn : List ℕ → Entry → Type 0
NameIn b e = e.name + e.letters ≤ length b

-- e is record i of the book b, and its name and its dates lie in the book
pub record IsEntry (b : List ℕ) (i : ℕ) (e : Entry) : Type 0 where
  pub means : meaning b e ≡ get_or (records_of b) i no_entry
  pub kind : e.kind ≤ holidays_kind
  pub name : NameIn b e
  pub dates : e.kind ≡ holidays_kind → HasDates b e.dates e.count
  pub few : e.count < two_bytes
  pub timed : work_kind ≤ e.kind → e.kind ≤ break_kind → IsTimed e

-- ---- what is counted of the records

-- the kind of record i, and how many dates it has
unfoldable pub kind_at : List ℕ → ℕ → ℕ
kind_at b i = kind_of (get_or (records_of b) i no_entry).body

unfoldable pub dates_in : List ℕ → ℕ → ℕ
dates_in b i = dates (get_or (records_of b) i no_entry).body

-- how many there are of each kind, and how many dates
unfoldable pub tallies_of : List model.Entry → Tallies
tallies_of l = record { work = tally (of_kind work_kind) l; breaks = tally (of_kind break_kind) l; holidays = tally (of_kind holidays_kind) l; dates = tally dates l }
