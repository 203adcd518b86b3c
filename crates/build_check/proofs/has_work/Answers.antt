-- `build_check::has_work` meets its contract. Assumes nothing.
use Rattle.rule.specs.Rules.{rule_is, schedule_is}
use lib.ListN.{take}
use mathlib.Core.List.{map}
use mathlib.Core.Path.{refl, ap}
use Rattle.build_check.proofs.Lefts.{works-left, works-bare}
use Rattle.build_check.proofs.has_work.Goals as goal

pub returns-then-s-eq0 : goal.returns-then-s-eq0
returns-then-s-eq0 c = works-bare (schedule_is c.args.book.now c.args.pack.now c.args.s) _ refl (ap (λ k. map (rule_is c.args.pack.now) (take k c.args.s.breaks)) c.if-s-eq0.true) _ c.any_shows.ensures

pub returns : goal.returns
returns c = works-left (schedule_is c.args.book.now c.args.pack.now c.args.s) _ refl _ c.union_of-on.ensures.same _ c.union_of-off.ensures.same _ c.any_left.ensures
