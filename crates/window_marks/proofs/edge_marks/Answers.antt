use Rattle.std.proofs.Common.{map}
use Rattle.instant.specs.Instant.{nanos}
use Rattle.model.specs.Working.{holiday_rule}
use Rattle.rule.specs.Rules.{schedule_is}
use Rattle.window_marks.proofs.Looked.{off-shown, start-told, end-told}
use Rattle.window_marks.proofs.edge_marks.Goals as goal

pub returns : goal.returns
returns c =
    let m = schedule_is c.args.book.now c.args.pack.now c.args.s in
    let w = c.shift_sides-work.ensures in
    let p = c.shift_sides-pauses.ensures in
    let h = c.holiday_sides-closed.ensures in
    let t = c.both_sides-off.ensures in (
      start-told m (nanos c.args.a.lo) (nanos c.args.a.hi) (nanos c.args.a.at) w.0 (off-shown (nanos c.args.a.lo) (nanos c.args.a.hi) (nanos c.args.a.at) m.breaks (map holiday_rule m.holidays) t.0 p.0 h.0) c.requires.1.from c.start_within.ensures,
      end-told m (nanos c.args.b.lo) (nanos c.args.b.hi) (nanos c.args.b.at) w.1 (off-shown (nanos c.args.b.lo) (nanos c.args.b.hi) (nanos c.args.b.at) m.breaks (map holiday_rule m.holidays) t.1 p.1 h.1) c.requires.1.upto c.end_within.ensures,
    )
