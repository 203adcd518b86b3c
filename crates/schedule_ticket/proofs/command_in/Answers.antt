-- `schedule_ticket::command_in` meets its contract. Assumes nothing.
use Rattle.schedule_ticket.proofs.Answers.{begun-by, goes_by}
use Rattle.schedule_ticket.proofs.Answers.{command-no-instant, command-first, command-none, command-earlier, command-not-allowed, command-follows}
use Rattle.instant_signed.specs.InstantLaws.{instant-no, instant-yes}
use borrow.Author.Tests.{not-true, not-false}
use mathlib.Core.Path.{sym, ◌∙◌}
use Rattle.std.proofs.Common.{rules}
use Rattle.schedule_ticket.proofs.command_in.Goals as goal

-- src/lib.rt:135:9
pub returns-in_default : goal.returns-in_default
returns-in_default c = command-no-instant _ c.args.k c.args.a _ _ _ (instant-no _ _ (c.ranges.sec) (c.ranges.ns) (c.instant_of.ensures) c.in_default.is) (c.refused.ensures)

-- src/lib.rt:138:9
pub first-requires : goal.first-requires
first-requires c = (instant-yes _ _ (c.ranges.sec) (c.ranges.ns) (c.instant_of.ensures) c.in-Some.is).in-range

-- src/lib.rt:138:9
pub returns-then-eq : goal.returns-then-eq
returns-then-eq c = command-first _ c.args.k c.args.a _ _ _ _ (instant-yes _ _ (c.ranges.sec) (c.ranges.ns) (c.instant_of.ensures) c.in-Some.is).means (search rules) (c.first.ensures)

-- src/lib.rt:141:9
pub returns-then-not-is_ticket : goal.returns-then-not-is_ticket
returns-then-not-is_ticket c = command-none _ c.args.k c.args.a _ _ _ _ (instant-yes _ _ (c.ranges.sec) (c.ranges.ns) (c.instant_of.ensures) c.in-Some.is).means (search rules) (sym (c.is_ticket.ensures) ∙ not-true _ (c.if-not-is_ticket.true-raw)) (c.refused-then-not-is_ticket.ensures)

-- src/lib.rt:145:9
pub returns-then-precedes : goal.returns-then-precedes
returns-then-precedes c = command-earlier _ c.args.k c.args.a _ _ _ _ (instant-yes _ _ (c.ranges.sec) (c.ranges.ns) (c.instant_of.ensures) c.in-Some.is).means (begun-by c.args.k (search rules) (sym (c.is_ticket.ensures) ∙ not-false _ (c.if-not-is_ticket.false-raw))) (sym (c.precedes.ensures) ∙ c.if-precedes.true) (c.refused-then-precedes.ensures)

-- src/lib.rt:147:9
pub may_follow-requires : goal.may_follow-requires
may_follow-requires c = (begun-by c.args.k (search rules) (sym (c.is_ticket.ensures) ∙ not-false _ (c.if-not-is_ticket.false-raw)))

-- src/lib.rt:148:9
pub returns-then-not-may_follow : goal.returns-then-not-may_follow
returns-then-not-may_follow c = command-not-allowed _ c.args.k c.args.a _ _ _ _ (instant-yes _ _ (c.ranges.sec) (c.ranges.ns) (c.instant_of.ensures) c.in-Some.is).means (begun-by c.args.k (search rules) (sym (c.is_ticket.ensures) ∙ not-false _ (c.if-not-is_ticket.false-raw))) (sym (c.precedes.ensures) ∙ c.if-precedes.false) (sym (c.may_follow.ensures) ∙ not-true _ (c.if-not-may_follow.true-raw)) (c.refused-then-not-may_follow.ensures)

-- src/lib.rt:150:5
pub follow-requires : goal.follow-requires
follow-requires c = (c.requires, goes_by _ _ (begun-by c.args.k (search rules) (sym (c.is_ticket.ensures) ∙ not-false _ (c.if-not-is_ticket.false-raw))) (instant-yes _ _ (c.ranges.sec) (c.ranges.ns) (c.instant_of.ensures) c.in-Some.is).in-range (sym (c.precedes.ensures) ∙ c.if-precedes.false), sym (c.may_follow.ensures) ∙ not-false _ (c.if-not-may_follow.false-raw))

-- src/lib.rt:122:1
pub returns : goal.returns
returns c = command-follows _ c.args.k c.args.a _ _ _ _ (instant-yes _ _ (c.ranges.sec) (c.ranges.ns) (c.instant_of.ensures) c.in-Some.is).means (begun-by c.args.k (search rules) (sym (c.is_ticket.ensures) ∙ not-false _ (c.if-not-is_ticket.false-raw))) (sym (c.precedes.ensures) ∙ c.if-precedes.false) (sym (c.may_follow.ensures) ∙ not-false _ (c.if-not-may_follow.false-raw)) (c.follow.ensures)
