-- `instant_signed::duration_of` meets its contract.
use Rattle.std.proofs.Common.{◌≡◌, sym, ◌∙◌, inl, inr, arith}
use Rattle.std.proofs.lemmas.Int.{ints, to_z-of_z}
use Rattle.laws_base.specs.Test.{clash}
use Rattle.instant_signed.specs.DurationLaws.{has_minus, minus-first, minus-second, too_long, opposed, is-span}
use Rattle.instant_signed.proofs.duration_of.Goals as goal
use Rattle.instant_signed.proofs.duration_of.Goals.{then-secs-lt0, else-secs-lt0, then-secs-gt0, else-secs-gt0, else-minus-via-then-minus+else-nanos-gt0, else-minus-via-else-minus}

pub returns-then-unsigned_abs-ge-SECOND : goal.returns-then-unsigned_abs-ge-SECOND
returns-then-unsigned_abs-ge-SECOND c =
    let g = c.ranges.nanos in
    let h = simp to_z-of_z at c.unsigned_abs.ensures.value in
    too_long c.args.secs c.args.nanos (omega arith)

pub returns-then-nanos-gt0 : goal.returns-then-nanos-gt0
returns-then-nanos-gt0 c =
    let f = c.ranges.secs in
    let g = c.ranges.nanos in
    let h = simp to_z-of_z at c.unsigned_abs.ensures.value in
    let e : c.if-secs-lt0.minus ≡ has_minus c.args.secs c.args.nanos =
    elim c.if-secs-lt0.branch [
      | then-secs-lt0 w ↦ minus-first c.args.secs c.args.nanos (simp to_z-of_z at w.minus-is) (simp to_z-of_z at w.if-secs-lt0.true)
      | else-secs-lt0 w ↦ minus-second c.args.secs c.args.nanos (simp to_z-of_z at w.minus-is) (simp to_z-of_z at w.if-secs-lt0.false)
    ] in
    opposed c.args.secs c.args.nanos (omega arith) (sym e ∙ c.if-minus.true)
    (elim c.if-secs-gt0.branch [
      | then-secs-gt0 w ↦ inl (omega (arith, ints))
      | else-secs-gt0 w ↦ let k = sym w.value-is ∙ c.if-nanos-gt0.true in inr (omega (arith, ints))
    ])

pub returns : goal.returns
returns c =
    let f = c.ranges.secs in
    let g = c.ranges.nanos in
    let h = simp to_z-of_z at c.unsigned_abs.ensures.value in
    let p = simp to_z-of_z at c.unsigned_abs-2.ensures.value in
    let q = simp to_z-of_z at c.unsigned_abs-3.ensures.value in
    let e : c.if-secs-lt0.minus ≡ has_minus c.args.secs c.args.nanos =
    elim c.if-secs-lt0.branch [
      | then-secs-lt0 w ↦ minus-first c.args.secs c.args.nanos (simp to_z-of_z at w.minus-is) (simp to_z-of_z at w.if-secs-lt0.true)
      | else-secs-lt0 w ↦ minus-second c.args.secs c.args.nanos (simp to_z-of_z at w.minus-is) (simp to_z-of_z at w.if-secs-lt0.false)
    ] in
    is-span c.args.secs c.args.nanos (omega arith) e
    (λ m. elim c.else-minus.branch [
      | else-minus-via-then-minus+else-nanos-gt0 w ↦
          (elim w.if-secs-gt0.branch [
            | then-secs-gt0 w' ↦ let k = sym w'.value-is ∙ w.if-nanos-gt0.false in absurd (omega (arith, ints))
            | else-secs-gt0 w' ↦ let k = sym w'.value-is ∙ w.if-nanos-gt0.false in (omega (arith, ints), omega (arith, ints))
          ])
      | else-minus-via-else-minus w ↦ clash _ m w.if-minus.false
    ])
    p q
