-- `answer_line::Writer::digits` meets its contract.
use Rattle.answer_line.proofs.Placing.{last-digit, next-digit}
use Rattle.answer_line.proofs.Writer.+digits.Goals as goal

pub returns-then-n-lt10-clause-text : goal.returns-then-n-lt10-clause-text
returns-then-n-lt10-clause-text t c = last-digit _ _ _ _ _ _ c.requires c.if-n-lt10.true c.digit.ensures c.byte.ensures.text

pub returns-clause-text : goal.returns-clause-text
returns-clause-text t c = next-digit _ _ _ _ _ _ c.requires _ _ c.if-n-lt10.false c.ranges.n.fits c.digit-2.ensures c.digits.ensures.text.0 c.byte-2.ensures.text
