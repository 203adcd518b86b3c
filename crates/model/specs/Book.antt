-- The rule book. Document 01, "Rule book": "A record is: kind byte, zone name length (0 to 64), name, body, nothing more."
-- Times of day are in nanoseconds, dates are day numbers.
use Rattle.std.specs.Prelude.{Bool, true, false, ◌&&◌, List, [], ◌∷◌, map, ℕ, ◌+◌, ◌*◌, ◌-◌, leb, ltb, eqb, length, get_or, take, drop, if◌then◌else◌}
use Rattle.std.proofs.Math.Option.{Option, none, some}
use Rattle.model.specs.Basic.{◌>>=◌, given, need, each, sum}
use Rattle.model.specs.Bytes.{be, pieces, lifted}
use Rattle.model.specs.Calendar.{is_date, day_number, is_set}
use Rattle.model.specs.Instant.{second, day_seconds}
use Rattle.model.specs.Directory.{Part, parts_of}

pub record Hours : Type 0 where
  pub days : ℕ
  pub from : ℕ
  pub to : ℕ

-- the four kinds: default zone, work, break, holidays
pub data Body : Type 0 where
  default : Body
  work : Hours → Body
  pause : Hours → Body
  holidays : List ℕ → Body

pub record Entry : Type 0 where
  pub place : ℕ
  pub name : List ℕ
  pub body : Body

-- "4 bytes seconds and 4 bytes nanoseconds": "Time of day: second 0 to 86,399 and nanoseconds"
unfoldable pub time_of : List ℕ → Option ℕ
time_of l = given (ltb (be 4 l) day_seconds && ltb (be 4 (drop 4 l)) second) (be 4 l * second + be 4 (drop 4 l))

-- "weekday byte, then start and end, each 4 bytes seconds and 4 bytes nanoseconds"
unfoldable pub hours_of : List ℕ → Option Hours
hours_of [] = none
hours_of (d ∷ l) =
    need (is_set d && eqb (length l) 16) >>= λ _.
    time_of l >>= λ a.
    time_of (drop 8 l) >>= λ b.
    some (record { days = d; from = a; to = b })

-- "2-byte signed year, month, day"; the year is counted from -10400
unfoldable pub date_in : List ℕ → Option ℕ
date_in l =
    let y = lifted 2 (be 2 l) - (32768 - 10400) in
    let m = get_or l 2 0 in
    let d = get_or l 3 0 in
    given (is_date y m d) (day_number y m d)

-- "2-byte count, then dates"
unfoldable pub dates_of : List ℕ → Option (List ℕ)
dates_of l = need (leb 2 (length l) && eqb (length l) (2 + 4 * be 2 l)) >>= λ _. each date_in (pieces 4 (be 2 l) (drop 2 l))

unfoldable pub body_of : ℕ → List ℕ → Option Body
body_of kind l =
    if eqb kind 0 then given (eqb (length l) 0) default else
    if eqb kind 1 then (hours_of l >>= λ h. some (work h)) else
    if eqb kind 2 then (hours_of l >>= λ h. some (pause h)) else
    if eqb kind 3 then (dates_of l >>= λ d. some (holidays d)) else none

unfoldable pub entry_of : Part → Option Entry
entry_of p =
    let kind = get_or p.bytes 0 0 in
    let n = get_or p.bytes 1 0 in
    need (leb n 64 && leb (2 + n) (length p.bytes)) >>= λ _.
    body_of kind (drop (2 + n) p.bytes) >>= λ b.
    some (record { place = p.place; name = take n (drop 2 p.bytes); body = b })

-- the book's records, where its layout holds (else refusal 1)
unfoldable pub entries_of : List ℕ → Option (List Entry)
entries_of b = parts_of b >>= each entry_of

-- ---- limits

abbrev pub works : Body → ℕ
works default = 0
works (work h) = 1
works (pause h) = 0
works (holidays l) = 0

abbrev pub pauses : Body → ℕ
pauses default = 0
pauses (work h) = 0
pauses (pause h) = 1
pauses (holidays l) = 0

abbrev pub holiday_records : Body → ℕ
holiday_records default = 0
holiday_records (work h) = 0
holiday_records (pause h) = 0
holiday_records (holidays l) = 1

abbrev pub dates : Body → ℕ
dates default = 0
dates (work h) = 0
dates (pause h) = 0
dates (holidays l) = length l

-- the sum over the book's records
abbrev pub tally : (Body → ℕ) → List Entry → ℕ
tally f l = sum (map (λ (e : Entry). f e.body) l)

-- "Limits: 64 records, 16 work, 16 break, 8 holiday records, 512 dates as written in the whole book" (else refusal 2)
unfoldable pub within_limits : List Entry → Bool
within_limits l =
    leb (length l) 64
    && (leb (tally works l) 16 && (leb (tally pauses l) 16 && (leb (tally holiday_records l) 8 && leb (tally dates l) 512)))

-- ---- the default zone

abbrev pub is_default : Body → Bool
is_default default = true
is_default (work h) = false
is_default (pause h) = false
is_default (holidays l) = false

-- "Kind 0, default zone: .. The last one wins"; d is the one before
unfoldable pub last_default : Option Entry → List Entry → Option Entry
last_default d [] = d
last_default d (e ∷ l) = last_default (if is_default e.body then some e else d) l

unfoldable pub books : Unit {0}
unfolding time_of hours_of date_in dates_of body_of entry_of entries_of within_limits last_default
books = tt
