-- `page::slot_rest` meets its contract: a turn puts what is left of the relation at index k. Assumes nothing.
use Rattle.std.proofs.Common.{length, sym, ap, ◌∙◌, arith}
use Rattle.timetable.specs.Tables.{lose}
use Rattle.records.specs.Records.{encode_relation, decode_relation}
use Rattle.page.specs.Pages.{slots}
use Rattle.page.proofs.AnewLaws.{rest_few, rest_none, anew_list, anew_many, empty_slots}
use Rattle.page.proofs.slot_rest.Goals as goal

pub loop-k-init : goal.loop-k-init
loop-k-init c =
    let a = c.args in
    let none = rest_none a.train a.from.now a.n in
    (omega arith, c.requires.0 ∙ empty_slots ∙ ap (slots encode_relation 6) (sym none), ap length (sym none), ap length c.requires.0)

pub slot_left-m-requires : goal.slot_left-m-requires
slot_left-m-requires c =
    let l = c.loop-k in
    let a = c.args in
    (l.invariant.3, omega (arith, rest_few a.train a.from.now a.n l.k))

pub loop-k-preserved : goal.loop-k-preserved
loop-k-preserved c =
    let put = c.slot_left-m in
    let l = c.loop-k in
    let a = c.args in
    let rest = c.lose.ensures ∙ ap (lose a.train) (c.relation_in-relation.ensures ∙ ap decode_relation c.record_at.ensures) in
    let up = c.loop-k-test.true in (
      omega arith,
      put.ensures.1 ∙ anew_list a.train a.from.now a.n l.k up l.invariant.0 (omega arith) c.lose.result l.part l.m l.invariant.1 l.invariant.2 rest,
      put.ensures.0 ∙ anew_many a.train a.from.now a.n l.k up l.invariant.0 (omega arith) c.lose.result l.part l.m l.invariant.1 l.invariant.2 rest,
      omega (arith, put.auto.part),
    )
