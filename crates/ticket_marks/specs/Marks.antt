-- What the marks of a ticket mean, and which marks a ticket may have.
use Rattle.std.specs.Prelude.{Bool, true, false, not, ◌&&◌, List, [], ◌∷◌, ℕ, zero, suc, ◌+◌, ◌-◌, leb, ltb, eqb, get_or, if◌then◌else◌, Option, Some, None}
use Rattle.model.specs.Basic.{any}
use Rattle.model.specs.Instant.{second, first_instant}
use Rattle.instant.specs.Instant.{nanos}
use Rattle.instant.specs.declared.Instant.{Instant}
use Rattle.model_ticket.specs.History.{names}
use Rattle.model_ticket.specs.Ticket as model
use Rattle.ticket_marks.specs.declared.Mark.{Mark}
use Rattle.ticket_marks.specs.declared.Marks.{Marks}

-- how many there are
abbrev pub capacity : ℕ
capacity = 8

-- what the code reads past the end of an array
abbrev pub nil : Mark
nil = record { name = 0; running = false; time = record { sec = 0; ns = 0 } }

-- the first n of an array, latest first
unfoldable pub latest : ℕ → List Mark → List Mark
latest zero a = []
latest (suc n) a = get_or a n nil ∷ latest n a

-- how many marks there are up to the one at a place, and none where there is no place
abbrev pub count_to : Option ℕ → ℕ
count_to None = 0
count_to (Some i) = i + 1

-- the marks that are set, latest first
abbrev pub marks_in : Marks → List Mark
marks_in m = latest m.len m.items

abbrev pub mark_is : Mark → model.Mark
mark_is m = record { name = m.name; running = m.running; time = nanos m.time }

abbrev pub has_name : ℕ → Mark → Bool
has_name n m = eqb m.name n

-- with m, unless that has the name
unfoldable pub kept : ℕ → Mark → List Mark → List Mark
kept n m l = if has_name n m then l else m ∷ l

-- those of other names
unfoldable pub others : ℕ → List Mark → List Mark
others n [] = []
others n (m ∷ l) = kept n m (others n l)

-- ---- which marks a ticket may have

-- a length with less than a second of nanoseconds, and no longer than the time from the first instant to t
unfoldable pub is_within : Instant → ℕ → Bool
is_within d t = ltb d.ns second && leb (nanos d) (t - first_instant)

-- one of the eight names, and a time that is within
unfoldable pub is_mark_at : ℕ → Mark → Bool
is_mark_at t m = ltb m.name names && is_within m.time t

-- the marks of a ticket whose last command was at t: each name once
unfoldable pub are_marks : ℕ → List Mark → Bool
are_marks t [] = true
are_marks t (m ∷ l) = is_mark_at t m && (not (any (has_name m.name) l) && are_marks t l)
