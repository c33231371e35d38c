-- `page::lose_train` meets its contract: the relations are written anew into zeros, and copied in with their count.
-- Assumes nothing.
use Rattle.std.proofs.Common.{sym, refl, ◌-◌, length, take, drop, arith}
use Rattle.page.proofs.AnewLaws.{rest_few, lose_done, lose_off}
use Rattle.page.proofs.lose_train.Goals as goal

pub returns-then-not-is_sound : goal.returns-then-not-is_sound
returns-then-not-is_sound c = lose_off c.args.train c.args.page.now (sym c.if-not-is_sound.ensures.value)

pub overflow_cast-page : goal.overflow_cast-page
overflow_cast-page c =
    let page = c.args.page.now in
    let few = c.if-not-is_sound.ensures.sound refl in
    omega (arith, c.slot_rest-m.ensures.0, rest_few c.args.train (take (length page - 416) (drop 416 page)) c.from.result 0, c.from.ensures, few)

pub returns : goal.returns
returns c =
    let f = c.slot_rest-m in
    let few = c.if-not-is_sound.ensures.sound refl in
    lose_done c.args.train c.args.page.now f.new.part c.copy_from_slice.new.self c.from.result f.result few.0 c.from.ensures (omega (arith, c.from.ensures, few)) f.ensures.0 f.ensures.1
    c.copy_from_slice.ensures.after
