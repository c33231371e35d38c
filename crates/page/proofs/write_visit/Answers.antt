-- `page::write_visit` meets its contract: the record is written over that of the train. Assumes nothing.
use Rattle.std.proofs.Common.{rules, List, ℕ, ap, ◌∙◌}
use Rattle.page.specs.between.Slots.{written}
use Rattle.records.specs.Records.{decode_train}
use Rattle.page.proofs.FindLaws.{visits, is_of, write_visit_is}
use Rattle.page.proofs.write_visit.Goals as goal

pub returns : goal.returns
unfolding decode_train
returns c =
    let t = c.args.train in
    let page = c.args.page.now in
    c.write.ensures (is_of t page) (λ x b q. search (rules, q))
    ∙ ap (λ (r : List ℕ). written visits (is_of t page) r page) c.visit_record.ensures ∙ write_visit_is t page c.args.visit
