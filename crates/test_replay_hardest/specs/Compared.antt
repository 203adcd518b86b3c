-- What is asked of an answer: it is the one that the question has.
use Rattle.std.specs.Prelude.{Bool, List, ℕ, eqb, Result, Ok, Err}
use Rattle.big_endian.specs.Be.{be32}
use Rattle.big_endian.specs.Walk.{both}
use Rattle.test_cases.specs.Cases.{is_number_at, is_refusal_at}
use Rattle.refusal.specs.declared.Refused.{Refused}
use Rattle.refusal.specs.Refused.{number_of}
use Rattle.schedule_hardest.specs.declared.HardestStretch.{HardestStretch}

-- where the answer's numbers stand in a question
abbrev pub refusal_at : ℕ
refusal_at = 24

abbrev pub duration_sec_place : ℕ
duration_sec_place = 32

abbrev pub duration_ns_place : ℕ
duration_ns_place = 40

abbrev pub start_sec_place : ℕ
start_sec_place = 48

abbrev pub start_ns_place : ℕ
start_ns_place = 56

-- no refusal is expected, and the duration and the start are those that the question has
unfoldable pub is_stretch : List ℕ → HardestStretch → Bool
is_stretch q h =
    both (eqb (be32 q refusal_at) 0)
    (both (is_number_at q duration_sec_place h.time.secs) (both (is_number_at q duration_ns_place h.time.nanos) (both (is_number_at q start_sec_place h.start.sec) (is_number_at q start_ns_place h.start.ns))))

-- the answer is the one that the question has
unfoldable pub is_expected : List ℕ → Result HardestStretch Refused → Bool
is_expected q (Ok h) = is_stretch q h
is_expected q (Err r) = is_refusal_at q refusal_at (number_of r.refusal) r.place
