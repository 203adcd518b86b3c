use Rattle.std.proofs.Common.{◌≤◌, ◌++◌, arith, length, take, drop, sym, ap, ◌∙◌, subst, length-drop}
use Rattle.std.proofs.lemmas.List.{take_rest}
use Rattle.std.proofs.Math.Seq.{take-add}
use Rattle.std.specs.Io.KnownBytes.{Appends}
use Rattle.std.proofs.KnownBytes.{Appends-trans}
use Rattle.pieces.proofs.write_all.Goals as goal

pub loop-done-preserved : goal.loop-done-preserved
loop-done-preserved g c =
    let done = c.loop-done.done in
    let buf = c.args.buf.now in
    let n = c.in_ok-n.n in
    let e = take_rest buf done in
    let fits : n ≤ length (drop done buf) = subst (λ l. n ≤ length l) e c.in_ok-n.ensures.bound in
    let joined = ap (λ l. take done buf ++ take n l) e ∙ sym (take-add done n buf) in
    (omega (arith, fits, length-drop done buf), subst (Appends _ _) joined (Appends-trans _ _ _ _ _ c.loop-done.invariant.1 c.in_ok-n.ensures.bytes))
