-- The footer that a parsed text is, and what is known of the changes around a second.
use Rattle.std.specs.Prelude.{◌≡◌, ℕ, ◌+◌, ◌≤◌, ◌<◌}
use Rattle.model.specs.Zone.{latest}
use Rattle.laws_zone.specs.Runs.{Run}
pub use Rattle.zone_footer.specs.Parsed.{footer_rules, the_footer}
use Rattle.zone_changes.specs.declared.OffsetUntil.{OffsetUntil}

-- a mean year of the calendar, four weeks, and the least time from a change to the next of its kind, 349 days, in seconds
abbrev pub mean_year : ℕ
mean_year = 31556952

abbrev pub four_weeks : ℕ
four_weeks = 2419200

abbrev pub least_year : ℕ
least_year = 30153600

-- the last year whose changes are looked at, and a bound above the seconds of all of them
abbrev pub last_year : ℕ
last_year = 20801

abbrev pub changes_end : ℕ
changes_end = 1099511627776

-- `last` is the latest change at or before u, and `next` the first behind it
pub record Near (change : ℕ → ℕ) (u last next : ℕ) : Type 0 where
  pub last-is : last ≡ latest change u
  pub on : u < next
  pub none_before : (y : ℕ) → u < change y → next ≤ change y

-- r has the offset at u, and a second up to which it stays
abbrev pub IsOffset : (ℕ → ℕ) → ℕ → OffsetUntil → Type 0
IsOffset offset u r = (r.offset ≡ offset u) × Run offset u r.until

-- where n lies behind u, o is the offset at u and up to n
abbrev pub Sure : (ℕ → ℕ) → ℕ → ℕ → ℕ → Type 0
Sure offset u o n = u < n → (o ≡ offset u) × Run offset u n

-- what follows for u from two changes of one year, the first at p and the second at q: the offset o up to n. Between the two it is `inner`,
-- before and behind them `outer`, as far as 349 days show it
pub data ByTwoChanges (inner outer p q u o n : ℕ) : Type 0 where
  between : o ≡ inner → p ≤ u → n ≤ q → q < p + least_year → ByTwoChanges inner outer p q u o n
  ahead : o ≡ outer → n ≤ p → q ≤ u + least_year → ByTwoChanges inner outer p q u o n
  behind : o ≡ outer → q ≤ u → n ≤ p + least_year → ByTwoChanges inner outer p q u o n
