-- `page_rules::lines::any_caught` meets its contract: what `any` gives of the indices. Assumes nothing.
use Rattle.std.proofs.Common.{rules, tests, ◌∙◌, arith, ℕ, refl}
use Rattle.std.proofs.lemmas.Iterator.{YieldsList-from_range}
use Rattle.std.proofs.lemmas.Iterator.Search.{any_from_yields_List}
use Rattle.page.specs.between.Entries.{entry_at}
use Rattle.rules.specs.between.Parts.{catches}
use Rattle.page_rules.proofs.RuleLaws.{caught_from}
use Rattle.page_rules.proofs.lines.any_caught.Goals as goal

pub returns : goal.returns
returns c =
    let s = c.args in
    let n = c.visit_count.result in
    any_from_yields_List (λ (i : ℕ). catches s.t.train s.t.visit s.o (entry_at i s.page.now)) _ _ c.any.result c.any.ensures.ran
    (YieldsList-from_range 0 n n refl (omega arith)) (λ x b q k. search (rules, tests))
    ∙ caught_from s.t.train s.t.visit s.o s.page.now 0 n (omega arith)
