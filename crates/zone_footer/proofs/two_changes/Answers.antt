use Rattle.zone_footer.specs.Parsed.{rules_text}
use Rattle.zone_footer.proofs.Names.{not-at-end}
use Rattle.zone_footer.proofs.two_changes.Goals as goal

pub returns-then-c-s : goal.returns-then-c-s
unfolding rules_text
returns-then-c-s c = rw (← c.in_ok-start.ensures, ← c.in_ok-b.ensures, ← c.in_ok-end.ensures, not-at-end _ _ c.if-c-s.true)
