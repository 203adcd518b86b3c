-- A footer: empty or a POSIX TZ string. RFC 8536 section 3.3 and POSIX.1 section 8.3 (TZ); document 01: "A daylight name needs both its
-- rules. Hours in offsets and rule times go from 0 to 24." Document 02: "For version '3' RFC 8536 lets the hours of rule times run from -167 to 167,
-- signed. Take that range, in one to three digits; version '2' and all offsets stay at 0 to 24."
-- Offsets are seconds east of Greenwich plus 93,600. The version is the byte of the file's header.
use Rattle.std.specs.Prelude.{Bool, true, false, not, ◌&&◌, ◌||◌, List, [], ◌∷◌, ℕ, zero, suc, ◌+◌, ◌*◌, ◌-◌, ◌%◌, leb, ltb, eqb, if◌then◌else◌}
use Rattle.std.proofs.Math.Option.{Option, none, some}
use Rattle.model.specs.Basic.{is_in}
use Rattle.model.specs.Instant.{day_seconds, week_seconds}
use Rattle.model.specs.Offset.{offset_bias}
use Rattle.model.specs.Calendar.{is_leap, days_before_year, days_in_month, day_number, weekday}
use Prim.Native.Char.{code}

infixl 1 ◌>>=◌
-- a day of the year: Mm.w.d, Jn and n
pub data Day : Type 0 where
  month : ℕ → ℕ → ℕ → Day
  julian : ℕ → Day
  plain : ℕ → Day

-- what is added to the time of a change, which may lie before its day: a week
abbrev pub time_bias : ℕ
time_bias = week_seconds

-- a change: its day, and its second of that day by the clock that it ends, with a week added
pub record ChangeRule : Type 0 where
  pub day : Day
  pub time : ℕ

pub data Footer : Type 0 where
  empty : Footer
  fixed : ℕ → Footer
  -- standard offset, daylight offset, start and end of daylight time
  rules : ℕ → ℕ → ChangeRule → ChangeRule → Footer

-- "version '2' and all offsets stay at 0 to 24"
abbrev pub most_hours : ℕ
most_hours = 24

-- "For version '3' .. from -167 to 167"
abbrev pub most_rule_hours : ℕ
most_rule_hours = 167

-- the latest time of the hour h, 59 minutes and 59 seconds later
abbrev pub latest_clock : ℕ → ℕ
latest_clock h = h * 3600 + 3599

-- the latest time of a change, 167:59:59 with a week added
abbrev pub latest_time : ℕ
latest_time = time_bias + latest_clock most_rule_hours

-- ---- the grammar. A parser takes what it reads from the front of the text and hands on the rest

abbrev pub Parser : Type 0 → Type 0
Parser A = List ℕ → Option (A × List ℕ)

abbrev pub after : {A B : Type 0} → Option (A × List ℕ) → (A → Parser B) → Option (B × List ℕ)
after none f = none
after (some r) f = f r.0 r.1

abbrev pub ◌>>=◌ : {A B : Type 0} → Parser A → (A → Parser B) → Parser B
◌>>=◌ p f = λ s. after (p s) f

abbrev pub pure : {A : Type 0} → A → Parser A
pure a = λ s. some (a, s)

-- a, where the test passes
abbrev pub only : {A : Type 0} → Bool → A → Parser A
only c a = λ s. if c then some (a, s) else none

-- whether the next byte is c; it is taken if so
abbrev pub has : ℕ → Parser Bool
has c [] = some (false, [])
has c (x ∷ s) = if eqb x c then some (true, s) else some (false, x ∷ s)

-- the byte c
abbrev pub byte : ℕ → Parser Bool
byte c = has c >>= λ yes. only yes yes

abbrev pub at_end : Parser Bool
at_end [] = some (true, [])
at_end (x ∷ s) = some (false, x ∷ s)

abbrev pub is_digit : ℕ → Bool
is_digit c = is_in (code "0") (code "9") c

abbrev pub is_letter : ℕ → Bool
is_letter c = is_in (code "A") (code "Z") c || is_in (code "a") (code "z") c

-- how many bytes from the front pass, and what is behind them
unfoldable pub spanned : (ℕ → Bool) → List ℕ → ℕ × List ℕ
spanned t [] = (0, [])
spanned t (c ∷ s) = let r = spanned t s in if t c then (suc r.0, r.1) else (0, c ∷ s)

-- up to k more digits behind v
unfoldable pub digits : ℕ → ℕ → Parser ℕ
digits zero v s = some (v, s)
digits (suc k) v [] = some (v, [])
digits (suc k) v (c ∷ s) = let r = digits k (v * 10 + (c - code "0")) s in if is_digit c then r else some (v, c ∷ s)

-- a number of 1 to k digits, from lo to hi
unfoldable pub number : ℕ → ℕ → ℕ → Parser ℕ
number k lo hi [] = none
number k lo hi (c ∷ s) = if is_digit c then ((digits k 0 >>= λ n. only (is_in lo hi n) n) (c ∷ s)) else none

-- two digits, up to 59
unfoldable pub sixty : Parser ℕ
sixty = number 1 0 5 >>= λ a. number 1 0 9 >>= λ b. pure (a * 10 + b)

-- hh, hh:mm or hh:mm:ss, in seconds: hours of 1 to k digits, up to hi
unfoldable pub clock : ℕ → ℕ → Parser ℕ
clock k hi = do
  h ← number k 0 hi
  m ← has (code ":")
  if not m then pure (h * 3600) else (do
    n ← sixty
    s ← has (code ":")
    if not s then pure (h * 3600 + n * 60) else (do
      x ← sixty
      pure (h * 3600 + n * 60 + x)))

-- a byte of a name: a letter; between < and > also a digit, + or -
unfoldable pub is_name_byte : Bool → ℕ → Bool
is_name_byte quoted c = is_letter c || (quoted && (is_digit c || (eqb c (code "+") || eqb c (code "-"))))

-- three bytes or more, plain or between < and >
unfoldable pub name : Parser Bool
name = do
  quoted ← has (code "<")
  n ← (λ s. some (spanned (is_name_byte quoted) s))
  ok ← only (leb 3 n) true
  if quoted then byte (code ">") else pure ok

-- a sign, which may be missing: whether it is a -
unfoldable pub sign : Parser Bool
sign = do
  minus ← has (code "-")
  plus ← (if minus then pure false else has (code "+"))
  pure minus

-- a clock behind a sign, which covers it whole, by the value that they have together
unfoldable pub signed_clock : (Bool → ℕ → ℕ) → ℕ → ℕ → Parser ℕ
signed_clock value k hi = do
  minus ← sign
  t ← clock k hi
  pure (value minus t)

-- an offset: POSIX counts west of Greenwich
abbrev pub offset_by : Bool → ℕ → ℕ
offset_by minus t = if minus then offset_bias + t else offset_bias - t

unfoldable pub offset : Parser ℕ
offset = signed_clock offset_by 2 most_hours

-- "from -167 to 167, signed .. in one to three digits"
abbrev pub time_by : Bool → ℕ → ℕ
time_by minus t = if minus then time_bias - t else time_bias + t

unfoldable pub signed_time : Parser ℕ
signed_time = signed_clock time_by 3 most_rule_hours

-- the time of a change: "For version '3' .. signed"; POSIX.1 allows no sign, and "version '2' .. stay[s] at 0 to 24"
unfoldable pub rule_time : ℕ → Parser ℕ
rule_time version = if eqb version (code "3") then signed_time else (clock 2 most_hours >>= λ t. pure (time_bias + t))

-- behind the M: month, week and weekday
unfoldable pub month_text : Parser Day
month_text = do
  m ← number 2 1 12
  _ ← byte (code ".")
  w ← number 1 1 5
  _ ← byte (code ".")
  d ← number 1 0 6
  pure (month m w d)

unfoldable pub day_text : Parser Day
day_text = do
  m ← has (code "M")
  if m then month_text else (do
    j ← has (code "J")
    if j then (number 3 1 365 >>= λ n. pure (julian n)) else (number 3 0 365 >>= λ n. pure (plain n)))

-- "/time" is 02:00:00 where it isn't written
unfoldable pub change_rule_text : ℕ → Parser ChangeRule
change_rule_text version = do
  d ← day_text
  timed ← has (code "/")
  t ← (if timed then rule_time version else pure (time_bias + 7200))
  pure (record { day = d; time = t })

-- behind the standard offset. The daylight offset is one hour ahead where it isn't written
unfoldable pub daylight_text : ℕ → ℕ → Parser Footer
daylight_text version std = do
  _ ← name
  short ← has (code ",")
  dst ← (if short then pure (std + 3600) else (offset >>= λ o. byte (code ",") >>= λ _. pure o))
  start ← change_rule_text version
  _ ← byte (code ",")
  end ← change_rule_text version
  done ← at_end
  only done (rules std dst start end)

unfoldable pub footer_text : ℕ → Parser Footer
footer_text version = do
  _ ← name
  std ← offset
  done ← at_end
  if done then pure (fixed std) else daylight_text version std

abbrev pub parsed : {A : Type 0} → Option (A × List ℕ) → Option A
parsed none = none
parsed (some r) = some r.0

unfoldable pub footer_of : ℕ → List ℕ → Option Footer
footer_of version [] = some empty
footer_of version (c ∷ s) = parsed (footer_text version (c ∷ s))

-- ---- the changes of a year

-- the day in the year y. Week 5 is the last of the month; weekday 0 is Sunday; Jn never counts 29 February
unfoldable pub day_in : ℕ → Day → ℕ
day_in y (month m w d) =
    let first = day_number y m 1 in
    let n = first + (d + 13 - weekday first) % 7 + 7 * (w - 1) in
    if ltb n (first + days_in_month (is_leap y) m) then n else n - 7
day_in y (julian n) = days_before_year y + (n - 1) + (if is_leap y && leb 60 n then 1 else 0)
day_in y (plain n) = days_before_year y + n

-- the second at which the change comes in the year y, by a clock that shows the given offset
unfoldable pub change_in : ℕ → ChangeRule → ℕ → ℕ
change_in o r y = day_in y r.day * day_seconds + r.time + offset_bias - (time_bias + o)

unfoldable pub footers : Unit {0}
unfolding spanned digits number sixty clock is_name_byte name sign signed_clock offset signed_time rule_time month_text day_text change_rule_text daylight_text footer_text footer_of day_in change_in
footers = tt
