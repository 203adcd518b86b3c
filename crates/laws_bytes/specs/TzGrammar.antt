-- The grammar of footers, production by production, each with its value. Document 01: "A footer is empty or a POSIX TZ string. A daylight name
-- needs both its rules. Hours in offsets and rule times go from 0 to 24." Document 02: "For version '3' RFC 8536 lets the hours of rule times run from
-- -167 to 167, signed. Take that range, in one to three digits; version '2' and all offsets stay at 0 to 24." The sentences in quotes below are those of
-- POSIX.1 section 8.3 (TZ), of these two and of docs/DECISIONS.md. `footer_of` accepts exactly these texts, with these values (`tz-sound` of TzSound.antt,
-- `tz-complete` of TzComplete.antt). Offsets are seconds east of Greenwich plus 93,600, rule times seconds plus a week.
use Rattle.std.specs.Prelude.{◌≡◌, Bool, true, false, List, [], ◌∷◌, ◌++◌, ℕ, ◌+◌, ◌*◌, ◌-◌, ◌≤◌, length}
use Prim.Native.Char.{code}
use Rattle.model.specs.Footer.{Day, month, julian, plain, ChangeRule, Footer, empty, fixed, rules, time_bias, most_hours, most_rule_hours}
use Rattle.model.specs.Offset.{offset_bias}

-- ---- numbers

-- a digit; or a number and a digit behind it
pub data Decimal : List ℕ → ℕ → Type 0 where
  digit : (d : ℕ) → d ≤ 9 → Decimal ((code "0" + d) ∷ []) d
  more : {s : List ℕ} {n : ℕ} → Decimal s n → (d : ℕ) → d ≤ 9 → Decimal (s ++ (code "0" + d) ∷ []) (n * 10 + d)

-- a number of at most k digits, from lo to hi
pub data Number (k lo hi : ℕ) : List ℕ → ℕ → Type 0 where
  number : {s : List ℕ} {n : ℕ} → Decimal s n → length s ≤ k → lo ≤ n → n ≤ hi → Number k lo hi s n

-- "minutes and seconds exactly two [digits], at most 59"
pub data Sixty : List ℕ → ℕ → Type 0 where
  sixty : {s : List ℕ} {n : ℕ} → Decimal s n → length s ≡ 2 → n ≤ 59 → Sixty s n

-- "hh[:mm[:ss]]", in seconds. "The hour (hh) shall be required and may be a single digit." It has at most k digits and is at most hi
pub data Clock (k hi : ℕ) : List ℕ → ℕ → Type 0 where
  -- hh
  hours : {s : List ℕ} {h : ℕ} → Number k 0 hi s h → Clock k hi s (h * 3600)
  -- hh:mm
  minutes : {s t : List ℕ} {h m : ℕ} → Number k 0 hi s h → Sixty t m → Clock k hi (s ++ code ":" ∷ t) (h * 3600 + m * 60)
  -- hh:mm:ss
  seconds : {s t u : List ℕ} {h m x : ℕ} → Number k 0 hi s h → Sixty t m → Sixty u x →
      Clock k hi (s ++ code ":" ∷ t ++ code ":" ∷ u) (h * 3600 + m * 60 + x)

-- a sign that may be missing: whether it is a -
pub data Sign : List ℕ → Bool → Type 0 where
  unsigned : Sign [] false
  positive : Sign (code "+" ∷ []) false
  negative : Sign (code "-" ∷ []) true

-- ---- names

pub data Letter : ℕ → Type 0 where
  upper : {c : ℕ} → code "A" ≤ c → c ≤ code "Z" → Letter c
  lower : {c : ℕ} → code "a" ≤ c → c ≤ code "z" → Letter c

-- "between `<` and `>` .. letters, digits, `+` and `-`"
pub data Quoted : ℕ → Type 0 where
  letter : {c : ℕ} → Letter c → Quoted c
  digit : {c : ℕ} → code "0" ≤ c → c ≤ code "9" → Quoted c
  plus : Quoted (code "+")
  minus : Quoted (code "-")

-- "no less than three .. bytes"
pub data Word (P : ℕ → Type 0) : List ℕ → Type 0 where
  three : {a b c : ℕ} → P a → P b → P c → Word P (a ∷ b ∷ c ∷ [])
  longer : {a : ℕ} {s : List ℕ} → P a → Word P s → Word P (a ∷ s)

-- "At least three letters; or between `<` and `>` at least three of letters, digits, `+` and `-`." A name has no value
pub data Name : List ℕ → Type 0 where
  bare : {s : List ℕ} → Word Letter s → Name s
  quoted : {s : List ℕ} → Word Quoted s → Name (code "<" ∷ s ++ code ">" ∷ [])

-- ---- offsets, dates and times

-- "the value added to the local time to arrive at Coordinated Universal Time". "If preceded by a '-', the timezone shall be east of the Prime
-- Meridian; otherwise, it shall be west (which may be indicated by an optional preceding '+')." "all offsets stay at 0 to 24"
pub data Offset : List ℕ → ℕ → Type 0 where
  west : {a s : List ℕ} {t : ℕ} → Sign a false → Clock 2 most_hours s t → Offset (a ++ s) (offset_bias - t)
  east : {a s : List ℕ} {t : ℕ} → Sign a true → Clock 2 most_hours s t → Offset (a ++ s) (offset_bias + t)

pub data DateText : List ℕ → Day → Type 0 where
  -- "Jn The Julian day n (1 <= n <= 365). Leap days shall not be counted."
  date_j : {s : List ℕ} {n : ℕ} → Number 3 1 365 s n → DateText (code "J" ∷ s) (julian n)
  -- "n The zero-based Julian day (0 <= n <= 365). Leap days shall be counted"
  date_n : {s : List ℕ} {n : ℕ} → Number 3 0 365 s n → DateText s (plain n)
  -- "Mm.w.d The d'th day (0 <= d <= 6) of week w of month m of the year (1 <= w <= 5, 1 <= m <= 12 ..)"
  date_m : {s t u : List ℕ} {m w d : ℕ} → Number 2 1 12 s m → Number 1 1 5 t w → Number 1 0 6 u d →
      DateText (code "M" ∷ s ++ code "." ∷ t ++ code "." ∷ u) (month m w d)

pub data TimeText (version : ℕ) : List ℕ → ℕ → Type 0 where
  -- "The time has the same format as offset except that no leading sign (..) is allowed."
  posix : {s : List ℕ} {t : ℕ} → ¬ (version ≡ code "3") → Clock 2 most_hours s t → TimeText version s (time_bias + t)
  -- "For version '3' .. from -167 to 167, signed .. in one to three digits". "The sign covers the whole time"
  later : {a s : List ℕ} {t : ℕ} → version ≡ code "3" → Sign a false → Clock 3 most_rule_hours s t → TimeText version (a ++ s) (time_bias + t)
  earlier : {a s : List ℕ} {t : ℕ} → version ≡ code "3" → Sign a true → Clock 3 most_rule_hours s t → TimeText version (a ++ s) (time_bias - t)

-- "date[/time]". "The default, if time is not given, shall be 02:00:00."
pub data RuleText (version : ℕ) : List ℕ → ChangeRule → Type 0 where
  untimed : {s : List ℕ} {d : Day} → DateText s d → RuleText version s (record { day = d; time = time_bias + 7200 })
  timed : {s t : List ℕ} {d : Day} {n : ℕ} → DateText s d → TimeText version t n → RuleText version (s ++ code "/" ∷ t) (record { day = d; time = n })

-- ---- footers

-- behind a daylight name: "If no offset follows dst, the alternative time is assumed to be one hour ahead of standard time."
pub data DaylightText (std : ℕ) : List ℕ → ℕ → Type 0 where
  hour : DaylightText std [] (std + 3600)
  written : {s : List ℕ} {dst : ℕ} → Offset s dst → DaylightText std s dst

-- "stdoffset[dst[offset][,start[/time],end[/time]]]", and "A daylight name needs both its rules."
pub data TzString (version : ℕ) : List ℕ → Footer → Type 0 where
  -- "A footer is empty"
  nothing : TzString version [] empty
  -- stdoffset
  standard : {a s : List ℕ} {std : ℕ} → Name a → Offset s std → TzString version (a ++ s) (fixed std)
  -- stdoffsetdst[offset],start[/time],end[/time]
  daylight : {a s b t x y : List ℕ} {std dst : ℕ} {start end : ChangeRule} → Name a → Offset s std → Name b → DaylightText std t dst → RuleText version x start → RuleText version y end →
      TzString version (a ++ s ++ b ++ t ++ code "," ∷ x ++ code "," ∷ y) (rules std dst start end)
