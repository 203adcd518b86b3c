-- `ticket::set_back` meets its contract. Assumes nothing.
use Rattle.std.proofs.Common.{ap, arith, refl}
use Rattle.ticket_marks.specs.Marks.{count_to}
use Rattle.ticket.specs.Sound.{sound-facts, place_found, place-there, back-becomes}
use Rattle.ticket.proofs.set_back.Goals as goal

pub find-requires : goal.find-requires
find-requires c = (sound-facts _ c.requires.0.begun.sound).count

pub unwrap-j-requires : goal.unwrap-j-requires
unwrap-j-requires c = place-there c.find.result (place_found _ _ _ c.find.ensures.0 c.requires.1)

pub offset_bounds-all-j : goal.offset_bounds-all-j
offset_bounds-all-j c = let e = ap count_to c.unwrap-j.ensures in let q = (sound-facts _ c.requires.0.begun.sound).count in omega (arith, c.find.ensures.1)

pub bounds-all-j : goal.bounds-all-j
bounds-all-j c = let e = ap count_to c.unwrap-j.ensures in let q = (sound-facts _ c.requires.0.begun.sound).count in omega (arith, c.find.ensures.1)

pub overflow_add-j : goal.overflow_add-j
overflow_add-j c = let e = ap count_to c.unwrap-j.ensures in let q = (sound-facts _ c.requires.0.begun.sound).count in omega (arith, c.find.ensures.1)

pub returns : goal.returns
returns c =
    let e = ap count_to c.unwrap-j.ensures in
    let q = (sound-facts _ c.requires.0.begun.sound).count in
    let f = rw e at c.find.ensures.0 in
    (back-becomes _ _ c.requires.0 _ _ _ _ _ f refl c.state_at.ensures c.first-marks.ensures.0 (omega (arith, c.find.ensures.1, c.first-marks.ensures.1)), refl)
