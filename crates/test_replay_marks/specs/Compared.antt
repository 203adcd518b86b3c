-- What is asked of an answer: it is the one that the question has.
use Rattle.std.specs.Prelude.{Bool, List, ℕ, ◌+◌, eqb, ℤ, pos, Result, Ok, Err}
use Rattle.model.specs.Bytes.{lifted}
use Rattle.big_endian.specs.Be.{be32, be64}
use Rattle.big_endian.specs.Walk.{both}
use Rattle.instant.specs.declared.Instant.{Instant}
use Rattle.instant_signed.specs.Signed.{biased}
use Rattle.instant_signed.specs.Reads.{seconds_from}
use Rattle.test_cases.specs.Cases.{is_refusal_at}
use Rattle.mark.specs.Marks.{mark_number}
use Rattle.refusal.specs.declared.Refused.{Refused}
use Rattle.refusal.specs.Refused.{number_of}
use Rattle.zone_calls.specs.declared.ResolvedTime.{ResolvedTime}
use Rattle.schedule_periods.specs.declared.MarkedPeriod.{MarkedPeriod}

-- where the answer's numbers stand in a question: the refusal; an instant and its mark; a period's start, its end and their marks
abbrev pub refusal_place : ℕ
refusal_place = 8

abbrev pub resolved_place : ℕ
resolved_place = 56

abbrev pub resolved_mark_place : ℕ
resolved_mark_place = 72

abbrev pub period_start_place : ℕ
period_start_place = 32

abbrev pub period_end_place : ℕ
period_end_place = 48

abbrev pub start_mark_place : ℕ
start_mark_place = 64

abbrev pub end_mark_place : ℕ
end_mark_place = 72

-- the signed number is the one that a question has in eight bytes at a place
unfoldable pub is_signed_at : List ℕ → ℕ → ℤ → Bool
is_signed_at q at x = eqb (biased x) (lifted 8 (be64 q at))

-- the mark is the one that a question has in eight bytes at a place
unfoldable pub is_mark_at : List ℕ → ℕ → ℕ → Bool
is_mark_at q at m = eqb m (be64 q at)

-- the seconds and the nanoseconds are those that a question has at a place
unfoldable pub is_pair_at : List ℕ → ℕ → ℤ → ℤ → Bool
is_pair_at q at s n = both (is_signed_at q at s) (is_signed_at q (at + 8) n)

-- the instant, as seconds from 1970 and nanoseconds, and the mark are those that a question has at a place
unfoldable pub is_edge_at : List ℕ → ℕ → Instant → ℕ → Bool
is_edge_at q at u m = both (is_pair_at q at (seconds_from u.sec) (pos u.ns)) (is_mark_at q (at + 16) m)

-- no refusal is expected
abbrev pub is_given : List ℕ → Bool
is_given q = eqb (be32 q refusal_place) 0

-- no refusal is expected, and the instant of a local time and its mark are those that the question has
unfoldable pub is_resolved : List ℕ → ResolvedTime → Bool
is_resolved q r = both (is_given q) (both (is_pair_at q resolved_place r.at.sec r.at.ns) (is_mark_at q resolved_mark_place (mark_number r.mark)))

-- no refusal is expected, and a period's start, its end and the marks of both are those that the question has
unfoldable pub is_marked_period : List ℕ → MarkedPeriod → Bool
is_marked_period q p =
    both (is_given q)
    (both (is_pair_at q period_start_place p.period.start.sec p.period.start.ns) (both (is_pair_at q period_end_place p.period.end.sec p.period.end.ns) (both (is_mark_at q start_mark_place (mark_number p.marks.start)) (is_mark_at q end_mark_place (mark_number p.marks.end)))))

-- the answer of `resolve_in` is the one that the question has
unfoldable pub is_resolve_answer : List ℕ → Result ResolvedTime Refused → Bool
is_resolve_answer q (Ok r) = is_resolved q r
is_resolve_answer q (Err r) = is_refusal_at q refusal_place (number_of r.refusal) r.place

-- the answer of `next_period` or `previous_period` is the one that the question has
unfoldable pub is_period_answer : List ℕ → Result MarkedPeriod Refused → Bool
is_period_answer q (Ok p) = is_marked_period q p
is_period_answer q (Err r) = is_refusal_at q refusal_place (number_of r.refusal) r.place
