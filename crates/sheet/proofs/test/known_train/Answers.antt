-- `sheet::test::known_train` meets its contract: where the visit fits, the record's train passes. Assumes nothing.
use mathlib.Core.Path.{◌∙◌}
use Rattle.sheet.proofs.PassLaws.{train_passing}
use Rattle.sheet.proofs.LinkRows.{in_row, out_row}
use borrow.Author.Rules.{rules}
use Rattle.sheet.proofs.test.known_train.Goals as goal

pub visit_in-v-requires : goal.visit_in-v-requires
visit_in-v-requires c = search rules

pub known_visit-requires : goal.known_visit-requires
known_visit-requires c =
    let s = c.args in
    let p = c.requires in
    let v = c.visit_in-v in
    (p.0, p.1, rw v.ensures (in_row s.network.now s.r.now s.a p.2), rw v.ensures (out_row s.network.now s.r.now s.b p.3))

pub own_train-requires : goal.own_train-requires
own_train-requires c = search rules

pub returns : goal.returns
returns c =
    let s = c.args in
    let v = c.visit_in-v in
    let k = c.known_visit in
    c.own_train.ensures ∙ train_passing s.network.now s.s s.r.now v.result v.ensures k.result k.ensures
