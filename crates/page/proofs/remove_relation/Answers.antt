-- `page::remove_relation` meets its contract: the record that is the relation's is taken out. Assumes nothing.
use Rattle.std.proofs.Common.{rules, ◌∙◌}
use Rattle.page.proofs.FindLaws.{is_it, remove_relation_is}
use Rattle.page.proofs.remove_relation.Goals as goal

pub returns : goal.returns
returns c =
    let r = c.args.relation in
    let page = c.args.page.now in
    c.remove.ensures (is_it r page) (λ x b q. search (rules, q)) ∙ remove_relation_is r page
