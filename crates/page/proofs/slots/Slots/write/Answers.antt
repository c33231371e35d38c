-- `page::slots::Slots::write` meets its contract: the record is written over where one is found, else nothing changes.
-- Assumes nothing.
use Rattle.std.proofs.Common.{◌+◌, ◌*◌, ◌≡◌, sym, length, rules}
use Rattle.page.proofs.RecordsPut.{written_over}
use Rattle.page.proofs.RowLaws.{written_off, written_none, written_done}
use Rattle.page.proofs.slots.Slots.write.Goals as goal

pub returns-then-not-is_sound : goal.returns-then-not-is_sound
returns-then-not-is_sound g c = λ p h. written_off c.args.self p c.args.page.now c.args.new (sym c.if-not-is_sound.ensures.value)

pub returns-in-Some : goal.returns-in-Some
returns-in-Some g c = λ p h.
    let s = c.args.self in
    let sixteen : length c.args.new ≡ 16 = search rules in
    written_done s p c.args.page.now (sym c.if-not-is_sound.ensures.value) c.args.new _ c.in-Some.i (c.in-Some.ensures.value p h)
    (written_over c.args.page.now c.args.new c.copy_from_slice.new.self (s.from + 16 * c.in-Some.i) sixteen c.copy_from_slice.ensures.after)

pub returns-in_default : goal.returns-in_default
returns-in_default g c = λ p h. written_none c.args.self p c.args.page.now (sym c.if-not-is_sound.ensures.value) c.args.new (c.in_default.ensures.value p h)
