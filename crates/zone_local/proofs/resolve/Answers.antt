-- `zone_local::resolve` meets its contract. Assumes nothing.
use mathlib.Core.Logic.{◌⊎◌, inl, inr}
use mathlib.Core.Path.{◌≡◌, ◌∙◌, ap}
use Prim.Native.Nat.{ℕ, ◌+◌, ◌*◌, ◌<◌}
use mir.Facts.{to_z-of_z}
use Rattle.model.specs.DayNumber.{day_of}
use Rattle.model.specs.Instant.{day_seconds, first_second, last_second}
use Rattle.model.specs.Offset.{offset_bias}
use Rattle.model.specs.Zone.{second_of}
use Rattle.zone.specs.Zones.{zone_is}
use Rattle.laws_calendar.specs.Numbers.{day-bits}
use Rattle.zone_local.proofs.Facts.{day-number, resolve-kept, resolve-out}
use Rattle.zone_local.proofs.resolve.Goals.{After-second_of-s}
use Rattle.zone_local.proofs.resolve.Goals.{then-s-lt-FIRST-via-then-s-lt-FIRST, then-s-lt-FIRST-via-else-s-lt-FIRST+then-s-gt-LAST}
use Rattle.zone_local.proofs.resolve.Goals as goal

-- the second that is looked up
second_is : (c : After-second_of-s) → c.second_of-s.result ≡ second_of (zone_is c.args.f.now c.args.z) (day_of c.args.day * day_seconds + c.args.time.seconds + offset_bias)
second_is c = rw (c.midnight.ensures ∙ ap (λ (x : ℕ). x * day_seconds) (day-bits c.ranges.day)) at c.second_of-s.ensures

pub midnight-requires : goal.midnight-requires
midnight-requires c = rw (to_z-of_z c.ranges.day) (day-number c.requires.1)

pub range_end-requires : goal.range_end-requires
range_end-requires c = rw (to_z-of_z c.ranges.day) (day-number c.requires.1)

pub returns-then-s-lt-FIRST : goal.returns-then-s-lt-FIRST
returns-then-s-lt-FIRST c =
    let o : (c.second_of-s.result < first_second) ⊎ (last_second < c.second_of-s.result) = elim c.then-s-lt-FIRST.branch [ then-s-lt-FIRST-via-then-s-lt-FIRST w ↦ inl w.if-s-lt-FIRST.true | then-s-lt-FIRST-via-else-s-lt-FIRST+then-s-gt-LAST w ↦ inr w.if-s-gt-LAST.true ] in
    let s = second_is (goal.at.returns-then-s-lt-FIRST c).After-second_of-s in
    (rw (to_z-of_z c.ranges.day) at c.range_end.ensures.0 ∙ resolve-out _ _ _ _ _ c.requires.2.nanos s o, c.range_end.ensures.1)

pub returns : goal.returns
returns c = (resolve-kept _ _ _ _ _ c.requires.2.nanos (second_is (goal.at.returns c).After-second_of-s) c.if-s-lt-FIRST.false c.if-s-gt-LAST.false, record { low = c.if-s-lt-FIRST.false; high = c.if-s-gt-LAST.false; ns = c.requires.2.nanos })
