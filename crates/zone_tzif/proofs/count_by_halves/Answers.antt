use borrow.Author.Rules.{rules}
use Rattle.zone_tzif.proofs.Laws.{past-time, before-time, count_most}
use native.Mathlib.Omega.{arith}
use Rattle.zone_tzif.proofs.count_by_halves.Goals as goal

pub loop-n-init : goal.loop-n-init
loop-n-init c = let m = count_most _ c.args.l c.requires.0 c.args.u in (omega arith, omega (arith, m), omega arith, search rules)

pub loop-n-preserved-then-time_at-u : goal.loop-n-preserved-then-time_at-u
loop-n-preserved-then-time_at-u c = let p = past-time {u = c.args.u} c.requires.0 (omega arith) c.time_at.ensures (omega arith) in (omega (arith, p), search rules, search rules, search rules)

pub loop-n-preserved : goal.loop-n-preserved
loop-n-preserved c = let p = before-time {u = c.args.u} c.requires.0 (omega arith) c.time_at.ensures (omega arith) in (search rules, omega (arith, p), search rules, search rules)

pub returns-then-time_at-u-2 : goal.returns-then-time_at-u-2
returns-then-time_at-u-2 c = let p = past-time {u = c.args.u} c.requires.0 (omega arith) c.time_at-2.ensures (omega arith) in (omega (arith, p), omega arith)

pub returns : goal.returns
returns c = let p = before-time {u = c.args.u} c.requires.0 (omega arith) c.time_at-2.ensures (omega arith) in (omega (arith, p), omega arith)
