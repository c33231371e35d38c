-- `page::has_relation` meets its contract: a record is the relation's by what it is read as. Assumes nothing.
use Rattle.std.proofs.Common.{rules, ap, ◌∙◌}
use Rattle.std.specs.Option.{is_some}
use Rattle.page.proofs.FindLaws.{is_it, relation_known}
use Rattle.page.proofs.has_relation.Goals as goal

pub returns : goal.returns
returns c =
    let r = c.args.relation in
    let page = c.args.page.now in
    c.is_some.ensures ∙ ap is_some (c.find.ensures.value (is_it r page) (λ x b q. search (rules, q))) ∙ relation_known r page
