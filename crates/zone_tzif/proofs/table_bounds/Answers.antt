-- `zone_tzif::table_bounds` meets its contract.
use Rattle.std.proofs.Common.{◌≡◌, ◌+◌, ◌*◌, ap, arith}
use Rattle.zone_tzif_block.specs.Parts.{type_offset, types_at}
use Rattle.big_endian.specs.Be.{be32}
use Rattle.zone_tzif.proofs.Laws.{widens-first, widens, first-most, type-most, bounds-none, bounds-all}
use Rattle.zone_tzif.proofs.table_bounds.Goals as goal

pub returns-then-l-eq0 : goal.returns-then-l-eq0
returns-then-l-eq0 c = bounds-none _ _ c.requires (omega arith) (omega arith) (omega arith)

pub loop-i-init : goal.loop-i-init
loop-i-init c = widens-first _ _ (first-most _ _ c.requires (omega arith))

pub loop-i-preserved : goal.loop-i-preserved
loop-i-preserved c =
    let o : c.from.result ≡ type_offset (be32 c.args.f.now (types_at c.args.l.times c.args.l.count + 6 * c.loop-i.i)) = omega (arith, ap type_offset c.be32_at.ensures) in
    widens c.loop-i.invariant o (type-most _ _ c.requires (omega arith) c.size_at-n.ensures.0 (omega arith) o) c.widened-bounds.ensures

pub returns : goal.returns
returns c = bounds-all _ _ c.requires (omega arith) (omega arith) (omega (arith, c.size_at-n.ensures.0)) c.loop-i.invariant
