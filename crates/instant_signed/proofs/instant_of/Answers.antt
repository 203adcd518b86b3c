-- `instant_signed::instant_of` meets its contract.
use Rattle.std.proofs.Common.{arith}
use Rattle.std.proofs.lemmas.Int.{ints}
use Rattle.instant_signed.specs.ReadLaws.{IsInstant, read-no, read-yes}
use Rattle.instant_signed.proofs.instant_of.Goals as goal
use Rattle.instant_signed.proofs.instant_of.Goals.{then-sec-lt-EARLIEST-via-then-sec-lt-EARLIEST, then-sec-lt-EARLIEST-via-else-sec-lt-EARLIEST+then-sec-gt-LATEST, then-sec-lt-EARLIEST-via-else-sec-lt-EARLIEST+else-sec-gt-LATEST+then-ns-lt0, then-sec-lt-EARLIEST-via-else-sec-lt-EARLIEST+else-sec-gt-LATEST+else-ns-lt0+then-ns}

pub returns-then-sec-lt-EARLIEST : goal.returns-then-sec-lt-EARLIEST
returns-then-sec-lt-EARLIEST c =
    read-no c.args.sec c.args.ns
    (λ v. elim c.then-sec-lt-EARLIEST.branch [
      | then-sec-lt-EARLIEST-via-then-sec-lt-EARLIEST w ↦ omega (arith, ints)
      | then-sec-lt-EARLIEST-via-else-sec-lt-EARLIEST+then-sec-gt-LATEST w ↦ omega (arith, ints)
      | then-sec-lt-EARLIEST-via-else-sec-lt-EARLIEST+else-sec-gt-LATEST+then-ns-lt0 w ↦ omega (arith, ints)
      | then-sec-lt-EARLIEST-via-else-sec-lt-EARLIEST+else-sec-gt-LATEST+else-ns-lt0+then-ns w ↦ omega (arith, ints)
    ])

pub returns : goal.returns
returns c =
    let v : IsInstant c.args.sec c.args.ns = record { from = omega (arith, ints); to = omega (arith, ints); least = omega (arith, ints); most = omega (arith, ints) } in
    read-yes c.args.sec c.args.ns _ _ v (omega (arith, ints)) (omega (arith, ints))
