-- `zone_footer_numbers::digits` meets its contract.
use Rattle.zone_footer_numbers.proofs.Counting.{Counting}
use Rattle.zone_footer_numbers.proofs.digits.Given as goal

abbrev pub invariant-loop-i : goal.invariant-loop-i
invariant-loop-i l = Counting l.s l.at l.k l.n l.i
