-- The numbers that are left decide.
use Rattle.std.proofs.Common.{◌≡◌, ◌-◌, length}
use Rattle.big_endian.specs.Walk.{all_from}
use Rattle.test_replay_lists.specs.Compared.{is_mark}
use Rattle.test_replay_lists.proofs.marked_from.Given as goal

abbrev pub invariant-loop-i : goal.invariant-loop-i
invariant-loop-i l = all_from (is_mark l.out) l.i (length l.out - l.i) ≡ all_from (is_mark l.out) l.from (length l.out - l.from)
