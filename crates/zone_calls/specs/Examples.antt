-- Examples of the calls on a zone file, closed by computing: cases 11 and 12 of document 01's label table, and each refusal. All dates 2026.
use Rattle.std.specs.Prelude.{◌≡◌, refl, List, [], ◌∷◌, ℕ, pos, neg_ℤ}
use Rattle.std.proofs.Math.Option.{none, some}
use Rattle.model.specs.Answer.{gives, refuses}
use Rattle.model.specs.Bytes.{text}
use Rattle.model.specs.All.{everything}
use Rattle.model.specs.Label.{ruled_by}
use Rattle.model.specs.NextChange.{first_of, next_change}
use Rattle.model.specs.ZoneCalls.{offset_call, change_call, zone_calls}
use Rattle.model.specs.Marks.{plain, repeated, skipped, beyond, resolve_marked_call}

abbrev cet : List ℕ
cet = ruled_by (text "2") (text "CET-1CEST,M3.5.0,M10.5.0/3")

-- 29 March 01:00Z and 25 October 01:00Z, when daylight time starts and ends
abbrev starts : ℕ
starts = 1774746000

abbrev ends : ℕ
ends = 1792890000

pub record Examples : Type 0 where
  pub winter : offset_call cet (pos 1774745999) (pos 999999999) ≡ gives (pos 3600)
  pub summer : offset_call cet (pos starts) (pos 0) ≡ gives (pos 7200)
  pub west : offset_call (ruled_by (text "2") (text "EST5")) (pos 0) (pos 0) ≡ gives (neg_ℤ (pos 18000))
  -- the change at an instant is not after it
  pub spring : change_call cet (pos 1774745999) (pos 999999999) ≡ gives (some (pos starts ∷ pos 0 ∷ []))
  pub autumn : change_call cet (pos 1792889998) (pos 0) ≡ gives (some (pos ends ∷ pos 0 ∷ []))
  pub range-end : change_call cet (pos 253402207199) (pos 0) ≡ gives none
  -- "29 March 02:30 is 01:30Z", "25 October 02:30 is 00:30Z": skipped, and repeated
  pub case11 : resolve_marked_call cet (pos 2026) (pos 3) (pos 29) (pos 9000) (pos 0) ≡ gives (pos 1774747800 ∷ pos 0 ∷ pos skipped ∷ [])
  pub case12 : resolve_marked_call cet (pos 2026) (pos 10) (pos 25) (pos 9000) (pos 5) ≡ gives (pos 1792888200 ∷ pos 5 ∷ pos repeated ∷ [])
  -- 29 March 03:00 is 01:00Z, and no other instant reads so
  pub read-after-jump : resolve_marked_call cet (pos 2026) (pos 3) (pos 29) (pos 10800) (pos 0) ≡ gives (pos starts ∷ pos 0 ∷ pos plain ∷ [])
  -- "Beyond the range it becomes the first instant for negative years, else the last."
  pub first-date : resolve_marked_call cet (neg_ℤ (pos 9999)) (pos 1) (pos 1) (pos 0) (pos 7) ≡ gives (neg_ℤ (pos 377705023201) ∷ pos 0 ∷ pos beyond ∷ [])
  pub last-date : resolve_marked_call (ruled_by (text "2") (text "EST5")) (pos 9999) (pos 12) (pos 31) (pos 86399) (pos 0) ≡ gives (pos 253402207200 ∷ pos 999999999 ∷ pos beyond ∷ [])

-- the file is asked first
pub record Refusals : Type 0 where
  pub file : offset_call (text "TZif") (pos 253402207201) (pos 0) ≡ refuses 5 0
  pub change-file : change_call (text "TZif") (pos 253402207201) (pos 0) ≡ refuses 5 0
  pub resolve-file : resolve_marked_call (text "TZif") (pos 2026) (pos 13) (pos 1) (pos 0) (pos 0) ≡ refuses 5 0
  pub second : offset_call cet (pos 253402207201) (pos 0) ≡ refuses 8 0
  pub nanoseconds : change_call cet (pos 0) (neg_ℤ (pos 1)) ≡ refuses 8 0
  pub date : resolve_marked_call cet (pos 2026) (pos 2) (pos 29) (pos 0) (pos 0) ≡ refuses 8 0
  pub below : resolve_marked_call cet (pos 2026) (neg_ℤ (pos 3)) (pos 29) (pos 0) (pos 0) ≡ refuses 8 0
  pub year : resolve_marked_call cet (neg_ℤ (pos 10000)) (pos 12) (pos 31) (pos 86399) (pos 0) ≡ refuses 8 0
  pub time : resolve_marked_call cet (pos 2026) (pos 3) (pos 29) (pos 86400) (pos 0) ≡ refuses 8 0

pub examples : Examples
unfolding everything first_of next_change zone_calls
examples = record {
  winter = refl;
  summer = refl;
  west = refl;
  spring = refl;
  autumn = refl;
  range-end = refl;
  case11 = refl;
  case12 = refl;
  read-after-jump = refl;
  first-date = refl;
  last-date = refl;
}

pub refusals : Refusals
unfolding everything first_of next_change zone_calls
refusals = record {
  file = refl;
  change-file = refl;
  resolve-file = refl;
  second = refl;
  nanoseconds = refl;
  date = refl;
  below = refl;
  year = refl;
  time = refl;
}
