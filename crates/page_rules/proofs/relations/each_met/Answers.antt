-- `page_rules::relations::each_met` meets its contract: what `all` gives of the places. Assumes nothing.
use Rattle.std.proofs.Common.{rules, tests, ◌∙◌, ◌∷◌, []}
use Rattle.std.proofs.lemmas.Iterator.{YieldsList-from_slice}
use Rattle.std.proofs.lemmas.Iterator.Search.{all_from_yields_List}
use Rattle.railway.specs.declared.sorts.Train.{Train}
use Rattle.page.specs.between.Changes.{table_in}
use Rattle.page_rules.specs.between.Parts.{one_met}
use Rattle.page_rules.proofs.RuleLaws.{each_place}
use Rattle.page_rules.proofs.relations.each_met.Goals as goal

pub returns : goal.returns
returns g c = λ f h.
    let ts = c.args.ts in
    let tab = table_in c.args.page.now in
    all_from_yields_List (λ (t : Train). one_met f tab t) _ _ c.all.result c.all.ensures.ran
    (YieldsList-from_slice (ts.a ∷ ts.b ∷ ts.c ∷ ts.d ∷ []) c.iter.ensures.rest) (λ x b q k. search (rules, tests))
    ∙ each_place tab ts f
