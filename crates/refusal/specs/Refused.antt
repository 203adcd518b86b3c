-- The refusals' numbers, as document 01 and document 02 give them, and what is refused where a search does not reach an answer.
use Rattle.std.specs.Prelude.{ℕ, ◌≡◌}
use Rattle.refusal.specs.declared.Refusal.{Refusal}
use Rattle.refusal.specs.declared.Refused.{Refused}
use Rattle.refusal.specs.declared.SearchError.{SearchError}

-- The number of a refusal.
abbrev pub number_of : Refusal → ℕ
number_of Refusal.BookLayout = 1
number_of Refusal.BookLimit = 2
number_of Refusal.PackLayout = 3
number_of Refusal.UnknownZone = 4
number_of Refusal.ZoneUnusable = 5
number_of Refusal.NoWorkingTime = 6
number_of Refusal.OutOfRange = 7
number_of Refusal.InstantOutOfRange = 8
number_of Refusal.DurationMalformed = 9
number_of Refusal.TooFewNumbers = 10
number_of Refusal.LogMalformed = 11
number_of Refusal.WidthOutOfRange = 12
number_of Refusal.EarlierInstant = 13
number_of Refusal.NotAllowed = 14

-- A refusal alone has the place 0.
abbrev pub at_0 : Refusal → Refused
at_0 r = record { refusal = r; place = 0 }

abbrev pub place_0 : Refusal → Refused → Type 0
place_0 r x = x ≡ at_0 r

-- What is refused where a search does not reach an answer.
abbrev pub search_refused : SearchError → Refused
search_refused SearchError.NoWork = at_0 Refusal.NoWorkingTime
search_refused SearchError.RangeEnds = at_0 Refusal.OutOfRange

abbrev pub refusal_of : SearchError → Refused → Type 0
refusal_of e x = x ≡ search_refused e
