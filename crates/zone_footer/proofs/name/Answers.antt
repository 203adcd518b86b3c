-- `zone_footer::name` meets its contract.
use mathlib.Core.Bool.{true, false}
use native.Mathlib.Omega.{arith}
use borrow.Author.Tests.{le-leb, lt-leb}
use Rattle.std.proofs.lemmas.List.{drop-drop}
use Rattle.model.specs.Footer.{is_name_byte, name}
use Rattle.zone_footer.proofs.Names.{spanned-prefix, within, must_be}
use Rattle.zone_footer.proofs.name.Goals as goal

pub returns-then-n-lt-SHORTEST_NAME : goal.returns-then-n-lt-SHORTEST_NAME
unfolding name
returns-then-n-lt-SHORTEST_NAME c = rw (← c.mark.ensures, c.in_default.is, spanned-prefix (is_name_byte _) _, ← c.name_length-n.ensures, lt-leb 3 _ c.if-n-lt-SHORTEST_NAME.true)

pub overflow_add-result : goal.overflow_add-result
overflow_add-result c = omega (arith, c.name_length-n.ensures, within (is_name_byte false) c.args.s.now c.args.at)

pub returns-in_default : goal.returns-in_default
unfolding name
returns-in_default c = rw (← c.mark.ensures, c.in_default.is, spanned-prefix (is_name_byte _) _, ← c.name_length-n.ensures, le-leb 3 _ c.if-n-lt-SHORTEST_NAME.false, drop-drop)

pub returns-then-n-lt-SHORTEST_NAME-2 : goal.returns-then-n-lt-SHORTEST_NAME-2
unfolding name
returns-then-n-lt-SHORTEST_NAME-2 c = rw (← c.in-Some.ensures, spanned-prefix (is_name_byte _) _, ← c.name_length-n-2.ensures, lt-leb 3 _ c.if-n-lt-SHORTEST_NAME-2.true)

pub overflow_add-a : goal.overflow_add-a
overflow_add-a c = omega (arith, c.name_length-n-2.ensures, within (is_name_byte true) c.args.s.now c.in-Some.a)

pub returns : goal.returns
unfolding name
returns c = rw (← c.in-Some.ensures, spanned-prefix (is_name_byte _) _, ← c.name_length-n-2.ensures, le-leb 3 _ c.if-n-lt-SHORTEST_NAME-2.false, drop-drop) (must_be _ _ _ _ c.mark-2.ensures)
