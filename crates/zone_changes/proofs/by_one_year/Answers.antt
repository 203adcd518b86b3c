-- `zone_changes::by_one_year` meets its contract.
use Rattle.zone_changes.proofs.Offsets.{change-small}
use Rattle.zone_changes.specs.OneYear.{north, south}
use native.Mathlib.Omega.{arith}
use Rattle.std.proofs.lemmas.Option.{IfSome_then}
use Prim.Native.Nat.{◌/◌}
use Rattle.zone_changes.specs.Meaning.{mean_year}
use Rattle.zone_changes.proofs.by_one_year.Goals as goal

pub overflow_add-a : goal.overflow_add-a
overflow_add-a c = let k = change-small _ (c.args.u / mean_year) _ c.requires.0.2 (omega arith) c.change_in-a.ensures in omega (arith, k)

pub by_two_changes-requires : goal.by_two_changes-requires
by_two_changes-requires c = (change-small _ (c.args.u / mean_year) _ c.requires.0.2 (omega arith) c.change_in-a.ensures, c.requires.1)

pub returns-then-a-b : goal.returns-then-a-b
returns-then-a-b c = IfSome_then c.by_two_changes.result c.by_two_changes.ensures (λ r h. λ last. north _ _ _ _ c.requires.0 last (c.args.u / mean_year) (omega arith) c.change_in-a.ensures c.change_in-b.ensures (omega arith) h.0 h.1)

pub overflow_add-b : goal.overflow_add-b
overflow_add-b c = let k = change-small _ (c.args.u / mean_year) _ c.requires.0.3 (omega arith) c.change_in-b.ensures in omega (arith, k)

pub by_two_changes-requires-then-b-a : goal.by_two_changes-requires-then-b-a
by_two_changes-requires-then-b-a c = (change-small _ (c.args.u / mean_year) _ c.requires.0.3 (omega arith) c.change_in-b.ensures, c.requires.1)

pub returns-then-b-a : goal.returns-then-b-a
returns-then-b-a c = IfSome_then c.by_two_changes-then-b-a.result c.by_two_changes-then-b-a.ensures (λ r h. λ last. south _ _ _ _ c.requires.0 last (c.args.u / mean_year) (omega arith) c.change_in-a.ensures c.change_in-b.ensures (omega arith) h.0 h.1)
