-- `walk_search::search_window` meets its contract: the blocks of the window, and the search through them. Assumes nothing.
use Rattle.instant.specs.Instant.{nanos}
use mathlib.Core.Path.{◌∙◌}
use Prim.Native.Nat.{◌-◌}
use native.Mathlib.Omega.{arith}
use Rattle.std.proofs.lemmas.Result.{err_from_is_err_and}
use Rattle.walk_search_week.proofs.Moved.{taken-rest}
use Rattle.walk_search.proofs.Windows.{inside-full, inside-ends, limit_is, window_at}
use Rattle.walk_search.proofs.search_window.Goals as goal

pub search-requires : goal.search-requires
search-requires g c =
    let a = c.nanoseconds-g.ensures ∙ c.difference.ensures.0 in
    let w = c.nanoseconds-w.ensures ∙ c.difference-2.ensures.0 in
    let h = c.requires.0.1.1.short in
    let k = c.requires.0.6 in
    let l = c.requires.0.0.limit in
    (omega (arith, c.window_into-n.ensures.2, c.requires.1), omega arith, λ z. (inside-full (nanos c.args.y - nanos c.args.x) _ _ c.window_into-n.ensures.1, inside-ends _ (nanos c.args.y - nanos c.args.x) _ _ w c.window_into-n.ensures.1))

pub returns-in_err-r : goal.returns-in_err-r
returns-in_err-r g c =
    let p = err_from_is_err_and c.from_residual.result c.from_residual.ensures.1 in
    rw (p.1, p.2) (c.in_err-r.ensures.0, window_at _ _ _ _ _ _ _ _ _ _ c.requires.0.1.1.order c.requires.0.1.1.short c.requires.0.5 (c.nanoseconds-g.ensures ∙ c.difference.ensures.0) (c.nanoseconds-w.ensures ∙ c.difference-2.ensures.0) c.wanted-d.ensures _ _ c.args.back c.requires.0.1.1.near c.window_into-n.ensures.0 c.in_err-r.ensures.1 ∙ limit_is _ _ _ _ c.requires.0.7)

pub further-requires : goal.further-requires
further-requires g c =
    (record { sec = (let i = c.requires.0.5 in let j = c.requires.0.1.1.start.sec in let k = c.requires.0.1.1.start.ns in omega arith); ns = c.requires.0.2 }, c.requires.0.3, c.requires.0.4, (let e = c.wanted-d.ensures in omega arith), taken-rest _ _ _ _ _ c.in_ok-r.r c.in_ok-r.ensures)

pub returns : goal.returns
returns g c = (c.further.ensures.0 ∙ window_at _ _ _ _ _ _ _ _ _ _ c.requires.0.1.1.order c.requires.0.1.1.short c.requires.0.5 (c.nanoseconds-g.ensures ∙ c.difference.ensures.0) (c.nanoseconds-w.ensures ∙ c.difference-2.ensures.0) c.wanted-d.ensures _ _ c.args.back c.requires.0.1.1.near c.window_into-n.ensures.0 c.in_ok-r.ensures ∙ limit_is _ _ _ _ c.requires.0.7, c.further.ensures.1)
