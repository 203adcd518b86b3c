-- Examples of marks, by computing. Dates of 2026 unless they are told.
use Rattle.std.specs.Prelude.{◌≡◌, refl, List, [], ◌∷◌, ℕ, ◌+◌, ◌*◌, ℤ, pos, neg_ℤ}
use Rattle.std.proofs.Math.Option.{Option, none, some}
use Rattle.model.specs.Bytes.{text}
use Rattle.model.specs.Instant.{epoch, second}
use Rattle.model.specs.Offset.{offset_bias}
use Rattle.model.specs.Footer.{empty}
use Rattle.model.specs.Tzif.{Zone, zone_of}
use Rattle.model.specs.Zone.{utc, resolve}
use Rattle.model.specs.Answer.{Answer, gives, refuses}
use Rattle.model.specs.Working.{Rule, Schedule, shift_rule}
use Rattle.model.specs.Walk.{on, back}
use Rattle.model.specs.Label.{ruled_by}
use Rattle.model.specs.Marks.{plain, repeated, skipped, beyond, resolve_mark, marked_period_call, resolve_marked_call}
use Rattle.model.specs.All.{everything}

-- ---- a local time in Central Europe

abbrev cet_file : List ℕ
cet_file = ruled_by (text "2") (text "CET-1CEST,M3.5.0,M10.5.0/3")

abbrev local : ℕ → ℕ → ℕ → Answer (List ℤ)
local month day seconds = resolve_marked_call cet_file (pos 2026) (pos month) (pos day) (pos seconds) (pos 0)

-- second 1774747800 is 29 March 01:30Z, 1792888200 is 25 October 00:30Z
pub record LocalTimes : Type 0 where
  pub march : local 3 29 9000 ≡ gives (pos 1774747800 ∷ pos 0 ∷ pos skipped ∷ [])
  pub october : local 10 25 9000 ≡ gives (pos 1792888200 ∷ pos 0 ∷ pos repeated ∷ [])
  pub just-before : local 3 29 7199 ≡ gives (pos 1774745999 ∷ pos 0 ∷ pos plain ∷ [])
  pub just-after : local 3 29 10800 ≡ gives (pos 1774746000 ∷ pos 0 ∷ pos plain ∷ [])
  pub first-repeated : local 10 25 7200 ≡ gives (pos 1792886400 ∷ pos 0 ∷ pos repeated ∷ [])
  pub last-repeated : local 10 25 10799 ≡ gives (pos 1792889999 ∷ pos 0 ∷ pos repeated ∷ [])
  pub behind-repeated : local 10 25 10800 ≡ gives (pos 1792893600 ∷ pos 0 ∷ pos plain ∷ [])
  pub past_the_end : resolve_marked_call cet_file (pos 9999) (pos 12) (pos 31) (pos 0) (pos 0) ≡ gives (pos 253402207200 ∷ pos 999999999 ∷ pos beyond ∷ [])
  pub before-the-start : resolve_marked_call cet_file (neg_ℤ (pos 9999)) (pos 1) (pos 1) (pos 0) (pos 0) ≡ gives (neg_ℤ (pos 377705023201) ∷ pos 0 ∷ pos beyond ∷ [])
  pub no-such-day : local 2 29 0 ≡ refuses 8 0

pub local-times : LocalTimes
unfolding everything
local-times = record {
  march = refl;
  october = refl;
  just-before = refl;
  just-after = refl;
  first-repeated = refl;
  last-repeated = refl;
  behind-repeated = refl;
  past_the_end = refl;
  before-the-start = refl;
  no-such-day = refl;
}

-- a zone that jumps over 02:30 on 29 March and reads it once, ten minutes later: 01:00Z an hour on, 01:10Z an hour back
abbrev jumps_and_reads : Zone
jumps_and_reads = record {
  initial = offset_bias + 3600;
  changes = record { time = epoch + 1774746000; offset = offset_bias + 7200 } ∷ record { time = epoch + 1774746600; offset = offset_bias + 3600 } ∷ [];
  footer = empty;
}

-- the day of 29 March
abbrev march29 : ℕ
march29 = 4518050 + 20541

pub read-once : (resolve jumps_and_reads march29 (9000 * second) ≡ (epoch + 1774747800) * second) × (resolve_mark jumps_and_reads march29 (9000 * second) ≡ plain)
unfolding everything
read-once = (refl, refl)

-- ---- periods

abbrev zone_or : Option Zone → Zone
zone_or (some z) = z
zone_or none = utc

abbrev cet : Zone
cet = zone_or (zone_of cet_file)

-- on these weekdays, from a second of the day to a second of the day
abbrev shift : Zone → ℕ → ℕ → ℕ → Rule
shift z days from to = shift_rule z (record { days = days; from = from * second; to = to * second })

abbrev book : List Rule → List Rule → Schedule
book work breaks = record { work = work; breaks = breaks; holidays = []; limit = 31622400 * second }

abbrev period : ℤ → ℤ → ℕ → ℕ → Answer (List ℤ)
period a b m n = gives (a ∷ pos 0 ∷ b ∷ pos 0 ∷ pos m ∷ pos n ∷ [])

-- all days from 00:00 to 00:00, on Sundays a break from 02:30 to 04:00
abbrev sundays : Schedule
sundays = book (shift cet 127 0 0 ∷ []) (shift cet 64 9000 14400 ∷ [])

-- two shifts on Sundays, from 02:30 and from 03:30 to 06:00: on 29 March both start at 01:30Z
abbrev coinciding : Schedule
coinciding = book (shift cet 64 12600 21600 ∷ shift cet 64 9000 21600 ∷ []) []

-- all days from 00:00 to 00:00 in UTC
abbrev always : Schedule
always = book (shift utc 127 0 0 ∷ []) []

pub record Periods : Type 0 where
  -- from Saturday 28 March 12:00Z; the start is the instant given
  pub before-break : marked_period_call on sundays (pos 1774699200) (pos 0) ≡ period (pos 1774699200) (pos 1774747800) plain skipped
  -- the break ends at 04:00, which is 02:00Z and plain; the next one on 5 April at 02:30, 00:30Z
  pub behind-break : marked_period_call on sundays (pos 1774747800) (pos 0) ≡ period (pos 1774749600) (pos 1775349000) plain plain
  -- from Sunday 22 March 01:30Z, when a break begins: the first window's border is the end that was skipped
  pub at-a-border : marked_period_call on sundays (pos 1774143000) (pos 0) ≡ period (pos 1774148400) (pos 1774747800) plain skipped
  -- back from it and back from behind it
  pub back-from-it : marked_period_call back sundays (pos 1774747800) (pos 0) ≡ period (pos 1774148400) (pos 1774747800) plain skipped
  pub back-from-behind : marked_period_call back sundays (pos 1774748000) (pos 0) ≡ period (pos 1774148400) (pos 1774747800) plain skipped
  -- back from an instant inside
  pub back-from-inside : marked_period_call back sundays (pos 1774747799) (pos 0) ≡ period (pos 1774148400) (pos 1774747799) plain plain
  -- 25 October 02:30, which comes twice
  pub twice : marked_period_call on sundays (pos 1792872000) (pos 0) ≡ period (pos 1792872000) (pos 1792888200) plain repeated
  -- of two starts that coincide, one skipped and one plain
  pub both-start : marked_period_call on coinciding (pos 1774699200) (pos 0) ≡ period (pos 1774747800) (pos 1774756800) skipped plain
  -- the instant given is the start: it moves nothing
  pub given-at-start : marked_period_call on coinciding (pos 1774747800) (pos 0) ≡ period (pos 1774747800) (pos 1774756800) skipped plain
  pub given-behind-start : marked_period_call on coinciding (pos 1774747801) (pos 0) ≡ period (pos 1774747801) (pos 1774756800) plain plain
  -- the last shift ends beyond the range; it starts a day before the last instant
  pub at-the-end : marked_period_call on always (pos 253402120800) (pos 0) ≡ gives (pos 253402120800 ∷ pos 0 ∷ pos 253402207200 ∷ pos 999999999 ∷ pos plain ∷ pos beyond ∷ [])

pub periods : Periods
unfolding everything
periods = record {
  before-break = refl;
  behind-break = refl;
  at-a-border = refl;
  back-from-it = refl;
  back-from-behind = refl;
  back-from-inside = refl;
  twice = refl;
  both-start = refl;
  given-at-start = refl;
  given-behind-start = refl;
  at-the-end = refl;
}
