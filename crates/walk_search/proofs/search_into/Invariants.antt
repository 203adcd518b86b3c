-- `walk_search::search_into` meets its contract: the loop keeps `Searching`, of proofs/Searching.antt. Assumes nothing.
use Prim.Native.Nat.{◌*◌, ◌-◌}
use Rattle.model.specs.Instant.{second}
use Rattle.model.specs.Skip.{repeats}
use Rattle.model.specs.Walk.{ahead}
use Rattle.model.specs.Walk as way
use Rattle.instant.specs.Instant.{nanos, Exact}
use Rattle.rule.specs.Rules.{schedule_is}
use Rattle.walk_distance.specs.Distances.{way_of, Short}
use Rattle.walk_search.specs.Searches.{KeptExact, previous_is}
use Rattle.walk_search.proofs.Searching.{Searching}
use Rattle.walk_search.proofs.search_into.Given as goal

abbrev pub invariant-loop-s : goal.invariant-loop-s
invariant-loop-s g l =
    Searching (ahead (way_of l.back) (schedule_is l.book l.pack l.s) (nanos l.t)) (λ y. repeats (schedule_is l.book l.pack l.s) (way.at (way_of l.back) (nanos l.t) y)) (l.s.limit * second) (nanos l.end) (nanos l.initial.left) (nanos l.x) (nanos l.last) (nanos l.left) l.windows (nanos l.x - nanos l.last) (previous_is l.kept (nanos l.x - nanos l.last))
    × Short l.x × Exact l.last × Exact l.left × KeptExact l.kept

abbrev pub decreases-loop-s : goal.decreases-loop-s
decreases-loop-s g l =
    nanos l.end - nanos l.x
