-- `window_week::working_into` meets its contract. Assumes nothing.
use lib.ListN.{take}
use Rattle.instant.specs.Instant.{nanos}
use Rattle.window_week.proofs.Whole.{rule_blocks, rule-from, closed_blocks, closed-from}
use Rattle.window_piece.proofs.Fills.{Ruling}
use Rattle.window_week.proofs.working_into.Given as goal

abbrev pub invariant-loop-r : goal.invariant-loop-r
invariant-loop-r l = Ruling (nanos l.lo) (rule_blocks l.pack (nanos l.lo) (nanos l.hi)) (rule-from l.pack (nanos l.lo) (nanos l.hi)) 14 l.fn.s.works (take l.fn.s.works l.fn.s.work) l.initial.on 0 l.on l.n l.r-index

abbrev pub invariant-loop-r-2 : goal.invariant-loop-r-2
invariant-loop-r-2 l = Ruling (nanos l.lo) (rule_blocks l.pack (nanos l.lo) (nanos l.hi)) (rule-from l.pack (nanos l.lo) (nanos l.hi)) 14 l.fn.s.pauses (take l.fn.s.pauses l.fn.s.breaks) l.initial.off 0 l.off l.m l.r-index

abbrev pub invariant-loop-c : goal.invariant-loop-c
invariant-loop-c l = Ruling (nanos l.lo) (closed_blocks l.book l.pack (nanos l.lo) (nanos l.hi)) (closed-from l.book l.pack (nanos l.lo) (nanos l.hi)) 14 l.fn.s.closings (take l.fn.s.closings l.fn.s.closed) l.initial.off l.initial.m l.off l.m l.c-index
