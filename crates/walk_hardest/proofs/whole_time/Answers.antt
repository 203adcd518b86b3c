-- `walk_hardest::whole_time` meets its contract.
use mathlib.Core.Path.{sym, ◌∙◌, ap₂}
use native.Mathlib.Omega.{arith}
use Rattle.laws_hardest.specs.Windows.{log_time}
use Rattle.laws_hardest.specs.Logs.{log-anywhere}
use Rattle.walk_hardest.proofs.Parts.{whole_part}
use Rattle.walk_hardest.proofs.Holding.{whole-short, whole_long}
use Rattle.walk_hardest.proofs.whole_time.Goals as goal

pub run_at-run-requires : goal.run_at-run-requires
run_at-run-requires c = (log-anywhere _ _ c.requires.0.1.fits, c.requires.1)

pub overflow_sub-run : goal.overflow_sub-run
overflow_sub-run c = let r = c.requires.0.1.fits.each _ c.requires.1 in let y = r.lasts in let a = c.run_at-run.ensures.0 in let b = c.run_at-run.ensures.1 in omega arith

pub returns-then-width-run : goal.returns-then-width-run
returns-then-width-run c = sym (whole_long _ _ c.args.log.now c.args.width c.args.j (let h = c.if-width-run.true in let a = c.run_at-run.ensures.0 in let b = c.run_at-run.ensures.1 in omega arith))

pub time_of-requires : goal.time_of-requires
time_of-requires c = (c.requires.0.0, whole_part c.requires.0.1 c.requires.1 c.run_at-run.ensures.0 c.run_at-run.ensures.1 (let h = c.if-width-run.false in omega arith))

pub returns : goal.returns
returns c = c.time_of.ensures ∙ ap₂ (log_time _ _) c.run_at-run.ensures.0 c.run_at-run.ensures.1 ∙ sym (whole-short _ _ c.args.log.now c.args.width c.args.j (let h = c.if-width-run.false in let a = c.run_at-run.ensures.0 in let b = c.run_at-run.ensures.1 in omega arith))
