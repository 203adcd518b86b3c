-- The numbers that are left decide.
use Rattle.std.proofs.Common.{◌≡◌, ◌-◌}
use Rattle.big_endian.specs.Walk.{all_from}
use Rattle.test_replay_lists.specs.Compared.{is_stored}
use Rattle.test_replay_lists.proofs.stored_to.Given as goal

abbrev pub invariant-loop-i : goal.invariant-loop-i
invariant-loop-i l = all_from (is_stored l.out l.q) l.i (l.n - l.i) ≡ all_from (is_stored l.out l.q) 0 l.n
