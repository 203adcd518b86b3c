use mathlib.Core.Path.{sym, ◌∙◌, refl}
use native.Mathlib.Omega.{arith}
use Rattle.zone_footer_numbers.proofs.Counting.{count_small, count-end, count-stop, count-on}
use Rattle.zone_footer_numbers.proofs.digits.Goals as goal

pub returns-then-not-is_ascii_digit : goal.returns-then-not-is_ascii_digit
returns-then-not-is_ascii_digit c = (count-stop c.loop-i.invariant (omega arith) refl (sym c.is_ascii_digit.ensures.value ∙ c.if-not-is_ascii_digit.true), count_small c.loop-i.invariant)

pub loop-i-preserved : goal.loop-i-preserved
loop-i-preserved c = let d = c.if-not-is_ascii_digit.ensures.cases in count-on c.loop-i.invariant (omega arith) refl (omega arith) d.0 d.1 c.from.ensures

pub returns : goal.returns
returns c = (count-end c.loop-i.invariant (omega arith) (omega arith) (omega arith) (omega arith), count_small c.loop-i.invariant)
