-- `sheet::test::any_train` meets its contract: where the visit fits, the record's train passes. Assumes nothing.
use mathlib.Core.Path.{◌∙◌}
use Rattle.sheet.proofs.PassLaws.{train_passing}
use borrow.Author.Rules.{rules}
use Rattle.sheet.proofs.test.any_train.Goals as goal

pub visit_in-v-requires : goal.visit_in-v-requires
visit_in-v-requires c = search rules

pub any_visit-requires : goal.any_visit-requires
any_visit-requires c = search rules

pub own_train-requires : goal.own_train-requires
own_train-requires c = search rules

pub returns : goal.returns
returns c =
    let s = c.args in
    let v = c.visit_in-v in
    let k = c.any_visit in
    c.own_train.ensures ∙ train_passing s.network.now s.s s.r.now v.result v.ensures k.result k.ensures
