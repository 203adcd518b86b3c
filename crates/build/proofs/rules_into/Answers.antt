-- `build::rules_into` meets its contract.
use mathlib.Core.Path.{sym, ◌∙◌}
use Rattle.std.proofs.lemmas.Result.{err_from_is_err_and}
use Rattle.build.proofs.Refusals.{no-book, no-limits, no-pack, no_default, reads_all}
use Rattle.build.proofs.rules_into.Goals as goal

pub returns-then-not-book_ok : goal.returns-then-not-book_ok
returns-then-not-book_ok c = no-book _ _ c.book_ok.ensures c.if-not-book_ok.true c.into.ensures

pub returns-then-not-limits_ok : goal.returns-then-not-limits_ok
returns-then-not-limits_ok c = no-limits _ _ (sym c.book_ok.ensures ∙ c.if-not-book_ok.false) c.limits_ok.ensures c.if-not-limits_ok.true c.into-then-not-limits_ok.ensures

pub returns-then-not-pack_ok : goal.returns-then-not-pack_ok
returns-then-not-pack_ok c = no-pack _ _ (sym c.book_ok.ensures ∙ c.if-not-book_ok.false) (sym c.limits_ok.ensures ∙ c.if-not-limits_ok.false) c.pack_ok.ensures c.if-not-pack_ok.true c.into-then-not-pack_ok.ensures

pub returns-in_err-default_zone : goal.returns-in_err-default_zone
returns-in_err-default_zone c =
    let p = err_from_is_err_and c.from_residual.result c.from_residual.ensures.1 in
    rw (p.1, p.2) (no_default _ _ (sym c.book_ok.ensures ∙ c.if-not-book_ok.false) (sym c.limits_ok.ensures ∙ c.if-not-limits_ok.false) (sym c.pack_ok.ensures ∙ c.if-not-pack_ok.false) c.in_err-default_zone.ensures)

pub returns : goal.returns
returns c =
    reads_all _ _ (sym c.book_ok.ensures ∙ c.if-not-book_ok.false) (sym c.limits_ok.ensures ∙ c.if-not-limits_ok.false) (sym c.pack_ok.ensures ∙ c.if-not-pack_ok.false) c.in_ok-default_zone.ensures _ c.read_rules.ensures
