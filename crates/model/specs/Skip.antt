-- Which windows may be skipped, and the two bounds on the number of windows resolved. Document 01, "Schedule and its answers"; schedule.rs
-- `repeats`.
use Rattle.std.specs.Prelude.{Bool, true, not, ◌&&◌, List, ◌++◌, ℕ, zero, suc, ◌+◌, ◌*◌, ◌-◌, ◌/◌, min, leb, ltb, eqb, if◌then◌else◌}
use Rattle.model.specs.Basic.{is_in, all, any}
use Rattle.model.specs.Instant.{second, day, week, first_instant, last_instant}
use Rattle.model.specs.Zone.{steady}
use Rattle.model.specs.Blocks.{Block, total}
use Rattle.model.specs.Working.{Rule, Holidays, Schedule, first_date, last_date}
use Rattle.model.specs.Walk.{Way, on, at, reach, ahead, begun}

-- "no work or break zone changes offset in it (a change at its very start doesn't count, at its end it does)"
abbrev pub rule_steady : ℕ → ℕ → Rule → Bool
rule_steady a b r = steady r.zone (a / second) (b / second)

-- "no holiday lies among its `local_dates`", by the holiday's own zone
abbrev pub none_near : ℕ → ℕ → Holidays → Bool
none_near a b h =
    let first = first_date h.zone a in
    let last = last_date h.zone b in
    not (any (is_in first last) h.dates)

-- the two windows at the border t hold the same, a week apart: "the span from 11 days before their border to 11 days after lies in the range, .."
unfoldable pub repeats : Schedule → ℕ → Bool
repeats s t =
    let a = t - 11 * day in
    let b = t + 11 * day in
    (leb (first_instant + 11 * day) t && leb b last_instant)
    && (all (rule_steady a b) (s.work ++ s.breaks) && all (none_near a b) s.holidays)

-- How many of the n windows from the distance x on may not be skipped, in a walk whose last window ends at the distance z. The window before
-- took `time`, and `may time d` says whether that allows skipping, where d is left to find. "One may be skipped if it and the window walked
-- before it are whole": the one before always is
unfoldable pub needed_from : ℕ → (ℕ → ℕ → Bool) → (ℕ → ℕ → List Block) → (ℕ → Bool) → ℕ → ℕ → ℕ → ℕ → ℕ
needed_from zero may look rep z x time d = 0
needed_from (suc n) may look rep z x time d =
    let y = min (x + week) z in
    let now = total (look x y) in
    (if ltb 0 x && (eqb (y - x) week && (may time d && rep x)) then 0 else 1) + needed_from n may look rep z y now (d - now)

-- "`between` reuses the time"
abbrev pub any_time : ℕ → ℕ → Bool
any_time time d = true

-- "`add` and `sub` skip only if that time is positive and less than what is left"
abbrev pub some_time : ℕ → ℕ → Bool
some_time time d = ltb 0 time && ltb time d

-- the least number of windows: "at least one for each window that may not be skipped". The most is `begun`
abbrev pub needed_between : Schedule → ℕ → ℕ → ℕ
needed_between s a b = needed_from (begun (b - a)) any_time (ahead on s a) (λ x. repeats s (a + x)) (b - a) 0 0 0

-- the same of a search for d whose answer lies at the distance x
abbrev pub needed_search : Way → Schedule → ℕ → ℕ → ℕ → ℕ
needed_search w s t d x = needed_from (begun x) some_time (ahead w s t) (λ y. repeats s (at w t y)) (reach w t) 0 0 d

unfoldable pub skips : Unit {0}
unfolding repeats needed_from
skips = tt
