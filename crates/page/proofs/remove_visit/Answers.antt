-- `page::remove_visit` meets its contract: the record that is the train's is taken out. Assumes nothing.
use Rattle.std.proofs.Common.{rules, ◌∙◌}
use Rattle.records.specs.Records.{decode_train}
use Rattle.page.proofs.FindLaws.{is_of, remove_visit_is}
use Rattle.page.proofs.remove_visit.Goals as goal

pub returns : goal.returns
unfolding decode_train
returns c =
    let t = c.args.train in
    let page = c.args.page.now in
    c.remove.ensures (is_of t page) (λ x b q. search (rules, q)) ∙ remove_visit_is t page
