-- What a window is resolved to.
use Rattle.std.specs.Prelude.{◌≡◌, List, ℕ, ◌*◌, ◌≤◌, length}
use Rattle.model.specs.Walk.{onward}
use Rattle.model.specs.Working.{working}
use Rattle.instant.specs.Instant.{nanos}
use Rattle.instant.specs.declared.Instant.{Instant}
use Rattle.rule.specs.Rules.{schedule_is}
use Rattle.rule.specs.declared.Schedule.{Schedule}
use Rattle.block_pairs.specs.Pairs.{pairs}
use Rattle.window_week.specs.Room.{records}

-- the first n blocks of `out` are the working time from lo to hi, as distances from lo; a record gives at most 14
abbrev pub Resolved : List ℕ → List ℕ → Schedule → Instant → Instant → ℕ → List ℕ → Type 0
Resolved book pack s lo hi n out =
    (pairs n out ≡ onward (nanos lo) (working (schedule_is book pack s) (nanos lo) (nanos hi))) × (n ≤ 14 * records s)

-- the same, where `out` is a lent slice as long as before
abbrev pub ResolvedInto : List ℕ → List ℕ → Schedule → Instant → Instant → ℕ → List ℕ → List ℕ → Type 0
ResolvedInto book pack s lo hi n out' out = Resolved book pack s lo hi n out × (length out ≡ length out')
