-- `zone_local::resolve_marked` meets its contract. Assumes nothing.
use mathlib.Core.Logic.{◌⊎◌, inl, inr}
use mathlib.Core.Path.{◌≡◌, ◌∙◌, ap}
use Prim.Native.Nat.{ℕ, ◌+◌, ◌*◌, ◌<◌}
use mir.Facts.{to_z-of_z}
use Rattle.model.specs.DayNumber.{day_of}
use Rattle.model.specs.Instant.{day_seconds, first_second, last_second}
use Rattle.model.specs.Offset.{offset_bias}
use Rattle.model.specs.Zone.{second_of}
use Rattle.model.specs.Marks.{mark_of, readings}
use Rattle.mark.specs.Marks.{mark_number}
use Rattle.zone.specs.Zones.{zone_is}
use Rattle.laws_calendar.specs.Numbers.{day-bits}
use Rattle.zone_local.proofs.Facts.{day-number, resolve-kept, resolve-out, mark-kept, mark-out}
use Rattle.zone_local.proofs.resolve_marked.Goals.{After-mark_of-m, After-second_of-second}
use Rattle.zone_local.proofs.resolve_marked.Goals.{then-second-lt-FIRST-via-then-second-lt-FIRST, then-second-lt-FIRST-via-else-second-lt-FIRST+then-second-gt-LAST}
use Rattle.zone_local.proofs.resolve_marked.Goals as goal

-- the second that is looked up, and its mark
second_is : (c : After-second_of-second) → c.second_of-second.result ≡ second_of (zone_is c.args.f.now c.args.z) (day_of c.args.day * day_seconds + c.args.time.seconds + offset_bias)
second_is c = rw (c.midnight.ensures ∙ ap (λ (x : ℕ). x * day_seconds) (day-bits c.ranges.day)) at c.second_of-second.ensures

mark-is : (c : After-mark_of-m) → mark_number c.mark_of-m.result ≡ mark_of (readings (zone_is c.args.f.now c.args.z) (day_of c.args.day * day_seconds + c.args.time.seconds + offset_bias))
mark-is c = rw (c.midnight.ensures ∙ ap (λ (x : ℕ). x * day_seconds) (day-bits c.ranges.day)) at c.mark_of-m.ensures

pub midnight-requires : goal.midnight-requires
midnight-requires c = rw (to_z-of_z c.ranges.day) (day-number c.requires.1)

pub range_end-requires : goal.range_end-requires
range_end-requires c = rw (to_z-of_z c.ranges.day) (day-number c.requires.1)

pub returns-then-second-lt-FIRST : goal.returns-then-second-lt-FIRST
returns-then-second-lt-FIRST c =
    let o : (c.second_of-second.result < first_second) ⊎ (last_second < c.second_of-second.result) = elim c.then-second-lt-FIRST.branch [ then-second-lt-FIRST-via-then-second-lt-FIRST w ↦ inl w.if-second-lt-FIRST.true | then-second-lt-FIRST-via-else-second-lt-FIRST+then-second-gt-LAST w ↦ inr w.if-second-gt-LAST.true ] in
    let s = second_is (goal.at.returns-then-second-lt-FIRST c).After-second_of-second in
    (rw (to_z-of_z c.ranges.day) at c.range_end.ensures.0 ∙ resolve-out _ _ _ _ _ c.requires.2.nanos s o, c.range_end.ensures.1, mark-out _ _ _ _ _ c.requires.2.nanos s o)

pub returns : goal.returns
returns c = let n = c.requires.2.nanos in let s = second_is (goal.at.returns c).After-second_of-second in (resolve-kept _ _ _ _ _ n s c.if-second-lt-FIRST.false c.if-second-gt-LAST.false, record { low = c.if-second-lt-FIRST.false; high = c.if-second-gt-LAST.false; ns = n }, mark-kept _ _ _ _ _ n s c.if-second-lt-FIRST.false c.if-second-gt-LAST.false (mark-is (goal.at.returns c).After-mark_of-m))
