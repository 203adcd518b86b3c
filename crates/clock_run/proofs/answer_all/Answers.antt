use Rattle.std.proofs.Common.{◌≡◌, ℕ, List, [], Option, rules, take, subst}
use Rattle.std.specs.Io.KnownBytes.{Consumes}
use Rattle.clock_run.proofs.Running.{running-first, running-front, running-next, running-fails, running-all, running-cut}
use Rattle.clock_run.proofs.answer_all.Goals as goal

none-read : (a b : Option (List ℕ)) (n : ℕ) (s : List ℕ) → n ≡ 0 → Consumes a b (take n s) → Consumes a b []
none-read a b n s e h = subst (λ k. Consumes a b (take k s)) e h

pub loop-init : goal.loop-init
loop-init g c = running-first _ _ _ _ c.begin-p.ensures

pub returns-in-Err-clause-err : goal.returns-in-Err-clause-err
returns-in-Err-clause-err g c = let front = running-front _ _ _ _ _ _ c.loop.invariant in search (rules, front)

pub returns-in-Ok-write_all-clause-ok : goal.returns-in-Ok-write_all-clause-ok
returns-in-Ok-write_all-clause-ok g c =
    let none = none-read (g.R.Read.remaining c.loop.input) (g.R.Read.remaining c.read_some.new.input) c.in-Ok.n c.read_some.new.buf c.if-n-eq0.true c.in-Ok.ensures.bytes.0 in
    let end = c.in-Ok.ensures.bytes.1 c.if-n-eq0.true (search rules) in
    running-all _ _ _ _ _ _ c.loop.invariant _ none end _ _ _ _ c.end-k.ensures.0 c.in-Ok-write_all.ensures

pub returns-in-Err-write_all-clause-err : goal.returns-in-Err-write_all-clause-err
returns-in-Err-write_all-clause-err g c =
    let none = none-read (g.R.Read.remaining c.loop.input) (g.R.Read.remaining c.read_some.new.input) c.in-Ok.n c.read_some.new.buf c.if-n-eq0.true c.in-Ok.ensures.bytes.0 in
    let end = c.in-Ok.ensures.bytes.1 c.if-n-eq0.true (search rules) in
    let (n, w) = c.in-Err-write_all.ensures in
    running-cut _ _ _ _ _ _ c.loop.invariant _ none end _ _ _ _ c.end-k.ensures.0 n w

pub returns-in-Err-pass-clause-err : goal.returns-in-Err-pass-clause-err
returns-in-Err-pass-clause-err g c = running-fails _ _ _ _ _ _ c.loop.invariant _ _ c.in-Ok.ensures.bytes.0 _ c.in-Err-pass.ensures.err

pub loop-preserved : goal.loop-preserved
loop-preserved g c = running-next _ _ _ _ _ _ c.loop.invariant _ _ c.in-Ok.ensures.bytes.0 _ _ c.in-Ok-pass.ensures.ok

pub returns-clause-err : goal.returns-clause-err
returns-clause-err g c = running-front _ _ _ _ _ _ c.loop.invariant
