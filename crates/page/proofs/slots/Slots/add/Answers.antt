-- `page::slots::Slots::add` meets its contract: where there is room the part from the place that was found to one
-- record behind the last is lent, and the count follows. Assumes nothing.
use Rattle.std.proofs.Common.{◌+◌, ◌*◌, ◌-◌, ◌≡◌, length, take, drop, arith}
use lib.ListN.{length-drop}
use lib.Seq.{length-take-le}
use Rattle.page.proofs.RecordsPut.{put_done}
use Rattle.page.proofs.RowLaws.{added_short, added_over, added_done}
use Rattle.page.proofs.slots.Slots.add.Goals as goal

pub returns-then-page-ne512 : goal.returns-then-page-ne512
returns-then-page-ne512 g c = λ p h. added_short c.args.self p c.args.page.now c.args.new c.if-page-ne512.true

pub returns-then-self-n : goal.returns-then-self-n
returns-then-self-n g c = λ p h.
    added_over c.args.self p c.args.page.now c.args.new c.from-n.result c.if-page-ne512.false c.from-n.ensures (omega arith)

pub returns : goal.returns
returns g c = λ p h.
    let f = c.put_front-moved in
    let s = c.args.self in
    let page = c.args.page.now in
    let n = c.from-n.result in
    let i = c.position-i.result in
    let at = s.from + 16 * i in
    let k = s.from + 16 * n + 16 - at in
    let part : length (take k (drop at page)) ≡ k = length-take-le k (drop at page) (omega (arith, length-drop at page)) in
    added_done s p page c.args.new _ i n f.result c.if-page-ne512.false c.from-n.ensures (omega arith) (c.position-i.ensures.index p h) (omega (arith, f.ensures.0))
    (put_done page c.args.new f.new.part s.head s.from i n c.from-n.ensures (omega arith) (omega arith) (omega arith) f.ensures.1)
