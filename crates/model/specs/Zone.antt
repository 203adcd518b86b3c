-- Local time. Document 01, "Zone pack and zone": "Offset at an instant: ..", "`resolve`: ..".
-- A local second is kept with 93,600 added: it is the sum of a second and an offset.
use Rattle.std.specs.Prelude.{Bool, not, ◌&&◌, List, [], ◌∷◌, ◌++◌, map, ℕ, ◌+◌, ◌*◌, ◌-◌, ◌/◌, ◌%◌, leb, ltb, eqb, if◌then◌else◌}
use Rattle.model.specs.Basic.{any, filter, maximum, least_or, run}
use Rattle.model.specs.Calendar.{year_of, day_of_year_zero}
use Rattle.model.specs.Instant.{second, day_seconds, first_instant, last_instant}
use Rattle.model.specs.Offset.{offset_bias, greatest_offset}
use Rattle.model.specs.Footer.{Footer, empty, fixed, rules, change_in}
use Rattle.model.specs.Tzif.{Zone, Change}

-- Without a default zone record "it is UTC"
abbrev pub utc : Zone
utc = record { initial = offset_bias; changes = []; footer = empty }

-- ---- the offset at an instant

abbrev pub year_at : ℕ → ℕ
year_at u = year_of (u / day_seconds)

-- the latest change of any year at or before u: those of u's year, of two years before it and of one after it are enough
unfoldable pub latest : (ℕ → ℕ) → ℕ → ℕ
latest change u = maximum (filter (λ c. leb c u) (map change (run (year_at u - 2) 4)))

-- "the latest of all years' changes counts; on a tie daylight time starts"; o is the table's last offset, which an empty footer leaves
unfoldable pub ruled_at : Footer → ℕ → ℕ → ℕ
ruled_at empty o u = o
ruled_at (fixed f) o u = f
ruled_at (rules std dst start end) o u = if leb (latest (change_in dst end) u) (latest (change_in std start) u) then dst else std

-- "type 0 before the first transition; then the latest transition's type; from the last one on the footer"
unfoldable pub offset_from : ℕ → List Change → Footer → ℕ → ℕ
offset_from o [] f u = ruled_at f o u
offset_from o (c ∷ l) f u = let r = offset_from c.offset l f u in if leb c.time u then r else o

-- the offset at the second u
unfoldable pub offset_at : Zone → ℕ → ℕ
offset_at z u = offset_from z.initial z.changes z.footer u

-- ---- where it may change

-- the footer's changes of the n years from y on
abbrev pub footer_changes : Footer → ℕ → ℕ → List ℕ
footer_changes empty y n = []
footer_changes (fixed o) y n = []
footer_changes (rules std dst start end) y n = map (change_in std start) (run y n) ++ map (change_in dst end) (run y n)

-- the seconds behind a and up to b at which the offset may change: it changes at no other
unfoldable pub changes_in : Zone → ℕ → ℕ → List ℕ
changes_in z a b =
    filter (λ e. ltb a e && leb e b)
    (map (λ (c : Change). c.time) z.changes ++ footer_changes z.footer (year_at a - 2) (year_at b + 5 - year_at a))

abbrev pub is_change : Zone → ℕ → Bool
is_change z e = not (eqb (offset_at z (e - 1)) (offset_at z e))

-- no change of offset behind the second a, up to b
unfoldable pub steady : Zone → ℕ → ℕ → Bool
steady z a b = not (any (is_change z) (changes_in z a b))

-- ---- the instant of a local time

-- the second u reads l
abbrev pub reads : Zone → ℕ → ℕ → Bool
reads z l u = eqb (u + offset_at z u) l

-- the change at e jumps over l
abbrev pub jumps : Zone → ℕ → ℕ → Bool
jumps z l e = leb (e + offset_at z (e - 1)) l && ltb l (e + offset_at z e)

-- "a local time takes the earliest instant that reads so .. If none does, take the earliest change that jumps over it and use the offset
-- before it." Such instants and changes lie in the 187,199 s before l; the offsets there are the one at the start and those at the changes
unfoldable pub second_of : Zone → ℕ → ℕ
second_of z l =
    let a = l - (greatest_offset + 1) in
    let es = changes_in z a l in
    least_or (l - offset_at z (least_or 0 (filter (jumps z l) es) - 1))
    (filter (reads z l) (map (λ e. l - offset_at z e) (a ∷ es)))

-- the instant of a time of day (in nanoseconds) on a day. "Beyond the range it becomes the first instant for negative years, else the last."
unfoldable pub resolve : Zone → ℕ → ℕ → ℕ
resolve z d time =
    let t = second_of z (d * day_seconds + time / second + offset_bias) * second + time % second in
    if leb first_instant t && leb t last_instant then t else (if ltb d day_of_year_zero then first_instant else last_instant)

unfoldable pub zones : Unit {0}
unfolding latest ruled_at offset_from offset_at changes_in steady second_of resolve
zones = tt
