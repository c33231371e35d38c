-- `page::slots::Slots::remove` meets its contract: the part from the place that was found to the last record's end is
-- lent, and the count follows; else nothing changes. Assumes nothing.
use Rattle.std.proofs.Common.{sym, refl, arith}
use Rattle.page.proofs.RecordsPut.{take_done}
use Rattle.page.proofs.RowLaws.{removed_off, removed_none, removed_done}
use Rattle.page.proofs.slots.Slots.remove.Goals as goal

pub returns-then-not-is_sound : goal.returns-then-not-is_sound
returns-then-not-is_sound g c = λ p h. removed_off c.args.self p c.args.page.now (sym c.if-not-is_sound.ensures.value)

pub returns-in-Some : goal.returns-in-Some
returns-in-Some g c = λ p h.
    let s = c.args.self in
    let page = c.args.page.now in
    let q = sym c.if-not-is_sound.ensures.value in
    let whole = c.if-not-is_sound.ensures.sound refl in
    let inside = c.in-Some.ensures.inside c.in-Some.i refl in
    removed_done s p page q _ c.in-Some.i (c.in-Some.ensures.value p h)
    (take_done page c.close_up.new.part s.head s.from c.in-Some.i c.from-n.result c.from-n.ensures (omega (arith, inside, c.from-n.ensures)) (omega (arith, whole, c.from-n.ensures, c.requires.fits)) c.close_up.ensures)

pub returns-in_default : goal.returns-in_default
returns-in_default g c = λ p h. removed_none c.args.self p c.args.page.now (sym c.if-not-is_sound.ensures.value) (c.in_default.ensures.value p h)
