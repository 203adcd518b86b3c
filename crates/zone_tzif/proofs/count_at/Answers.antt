-- `zone_tzif::count_at` meets its contract.
use Rattle.zone_tzif.proofs.Laws.{past-time, count_most}
use native.Mathlib.Omega.{arith}
use Rattle.zone_tzif.proofs.count_at.Goals as goal

pub returns-then-n-eq0 : goal.returns-then-n-eq0
returns-then-n-eq0 c = let m = count_most _ c.args.l c.requires c.args.u in (omega (arith, m), omega arith)

pub returns-then-time_at-u : goal.returns-then-time_at-u
returns-then-time_at-u c = let m = count_most _ c.args.l c.requires c.args.u in let p = past-time {u = c.args.u} c.requires (omega arith) c.time_at.ensures (omega arith) in (omega (arith, m, p), omega arith)
