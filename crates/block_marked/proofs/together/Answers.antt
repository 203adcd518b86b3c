use Rattle.std.proofs.Common.{◌≡◌, ◌||◌, refl}
use Rattle.laws_marks.specs.AroundLaws.{same-around}
use Rattle.block_marked.proofs.together.Goals.{then-a, else-a, then-a-2, else-a-2}
use Rattle.block_marked.proofs.together.Goals as goal

pub returns : goal.returns
returns c =
    let p : c.if-a.result ≡ (c.args.a.before || c.args.b.before) = elim c.if-a.branch [ then-a w ↦ rw (w.result-is, w.if-a.true) refl | else-a w ↦ rw (w.result-is, w.if-a.false) refl ] in
    let q : c.if-a-2.result ≡ (c.args.a.here || c.args.b.here) = elim c.if-a-2.branch [ then-a-2 w ↦ rw (w.result-is, w.if-a-2.true) refl | else-a-2 w ↦ rw (w.result-is, w.if-a-2.false) refl ] in
    same-around _ _ p q c.greater_mark.ensures c.greater_mark-2.ensures
