-- `page::add_visit` meets its contract: the record is put in before the first of a train above this one. Assumes
-- nothing.
use Rattle.std.proofs.Common.{rules, List, ℕ, ap, ◌∙◌}
use Rattle.page.specs.between.Slots.{added}
use Rattle.records.specs.Records.{decode_train}
use Rattle.page.proofs.FindLaws.{visits, is_behind, add_visit_is, moved_visit_is}
use Rattle.page.proofs.add_visit.Goals as goal

pub returns : goal.returns
unfolding decode_train
returns c =
    let t = c.args.train in
    let page = c.args.page.now in
    let put = c.add.ensures (is_behind t page) (λ x b q. search (rules, q)) in
    (put.0 ∙ moved_visit_is t page, put.1 ∙ ap (λ (r : List ℕ). added visits (is_behind t page) r page) c.visit_record.ensures ∙ add_visit_is t page c.args.visit)
