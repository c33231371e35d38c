-- `page_rules::relations::pairs_met` meets its contract: what `all` gives of the pairs of places. Assumes nothing.
use Rattle.std.proofs.Common.{rules, tests, ◌∙◌, ◌∷◌, []}
use Rattle.std.proofs.lemmas.Iterator.{YieldsList-from_slice}
use Rattle.std.proofs.lemmas.Iterator.Search.{all_from_yields_List}
use Rattle.railway.specs.declared.sorts.Train.{Train}
use Rattle.page.specs.between.Changes.{table_in}
use Rattle.page_rules.specs.between.Parts.{two_met}
use Rattle.page_rules.proofs.RuleLaws.{each_two_places}
use Rattle.page_rules.proofs.relations.pairs_met.Goals as goal

pub returns : goal.returns
returns g c = λ f h.
    let ts = c.args.ts in
    let tab = table_in c.args.page.now in
    all_from_yields_List (λ (x : Train × Train). two_met f tab x.0 x.1) _ _ c.all.result c.all.ensures.ran
    (YieldsList-from_slice ((ts.a, ts.b) ∷ (ts.a, ts.c) ∷ (ts.a, ts.d) ∷ (ts.b, ts.c) ∷ (ts.b, ts.d) ∷ (ts.c, ts.d) ∷ []) (cc)) (λ x b q k. search (rules, tests))
    ∙ each_two_places tab ts f
