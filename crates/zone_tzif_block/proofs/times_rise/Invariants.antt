-- `zone_tzif_block::times_rise` meets its contract. The loop goes along `all_from`, one index a step.
use Rattle.std.proofs.Common.{◌≡◌, ◌-◌}
use Rattle.zone_tzif_block.specs.Parts.{key_at}
use Rattle.big_endian.specs.Walk.{all_from, rises_at}
use Rattle.zone_tzif_block.proofs.times_rise.Given as goal

abbrev pub invariant-loop-i : goal.invariant-loop-i
invariant-loop-i l =
    (l.last ≡ key_at l.f l.b l.i) × (all_from (rises_at (key_at l.f l.b)) l.i (l.n - 1 - l.i) ≡ all_from (rises_at (key_at l.f l.b)) 0 (l.n - 1))
