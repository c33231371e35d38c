-- `page::find_train` meets its contract: a visit's record is the train's by its first two bytes. Assumes nothing.
use Rattle.std.proofs.Common.{rules, ◌∙◌}
use Rattle.records.specs.Records.{decode_train}
use Rattle.page.proofs.FindLaws.{is_of, train_found_is}
use Rattle.page.proofs.find_train.Goals as goal

pub returns : goal.returns
unfolding decode_train
returns c =
    let t = c.args.train in
    let page = c.args.page.now in
    c.find.ensures.value (is_of t page) (λ x b q. search (rules, q)) ∙ train_found_is t page
