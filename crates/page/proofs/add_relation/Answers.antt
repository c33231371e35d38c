-- `page::add_relation` meets its contract: the record is put in before the first that comes after it. Assumes nothing.
use Rattle.std.proofs.Common.{rules, List, ℕ, ap, ◌∙◌}
use Rattle.page.specs.between.Slots.{added}
use Rattle.page.proofs.FindLaws.{relations, comes_behind, add_relation_is, moved_relation_is}
use Rattle.page.proofs.add_relation.Goals as goal

pub returns : goal.returns
returns c =
    let r = c.args.relation in
    let page = c.args.page.now in
    let put = c.add.ensures (comes_behind r page) (λ x b q. search (rules, q)) in
    (put.0 ∙ moved_relation_is r page, put.1 ∙ ap (λ (z : List ℕ). added relations (comes_behind r page) z page) c.relation_record.ensures ∙ add_relation_is r page)
