-- What whole marked blocks show around an instant, and the mark of a window's block that begins or ends there, by that alone. No list is sorted or
-- merged: an end is seen from the instant u and from the one before it.
use Rattle.std.specs.Prelude.{Bool, not, ◌&&◌, List, map, ℕ, leb, ltb, eqb, if◌then◌else◌}
use Rattle.model.specs.Basic.{any, maximum}
use Rattle.model.specs.Marks.{MarkedBlock, plain}

-- the instant u lies in b, and the instant before u does
abbrev pub holds_at : ℕ → MarkedBlock → Bool
holds_at u b = leb b.start.at u && ltb u b.end.at

abbrev pub holds_before : ℕ → MarkedBlock → Bool
holds_before u b = ltb b.start.at u && leb u b.end.at

unfoldable pub covered_at : ℕ → List MarkedBlock → Bool
covered_at u l = any (holds_at u) l

unfoldable pub covered_before : ℕ → List MarkedBlock → Bool
covered_before u l = any (holds_before u) l

-- the mark of b's start, if that is u
abbrev pub starts_with : ℕ → MarkedBlock → ℕ
starts_with u b = if eqb b.start.at u then b.start.mark else plain

abbrev pub ends_with : ℕ → MarkedBlock → ℕ
ends_with u b = if eqb b.end.at u then b.end.mark else plain

-- the best mark of the blocks' starts at u, and of their ends there
unfoldable pub best_start : ℕ → List MarkedBlock → ℕ
best_start u l = maximum (map (starts_with u) l)

unfoldable pub best_end : ℕ → List MarkedBlock → ℕ
best_end u l = maximum (map (ends_with u) l)

-- whole blocks around an instant
pub record Around : Type 0 where
  pub before : Bool
  pub here : Bool
  pub starts : ℕ
  pub ends : ℕ

abbrev pub around_of : ℕ → List MarkedBlock → Around
around_of u l = record { before = covered_before u l; here = covered_at u l; starts = best_start u l; ends = best_end u l }

-- the mark of a start at u: of the work's starts there, if the instant before is not work; else of the gaps' ends there, if that instant is off;
-- else the window cut it, and it is plain
abbrev pub start_by : Around → Around → ℕ
start_by work off =
    if work.here && not off.here then (if work.before then (if off.before then off.ends else plain) else work.starts) else plain

-- the mark of an end at u, its mirror image: of the work's ends there, if the instant u is not work; else of the gaps' starts there, if it is off
abbrev pub end_by : Around → Around → ℕ
end_by work off =
    if work.before && not off.before then (if work.here then (if off.here then off.starts else plain) else work.ends) else plain
