-- `page_rules::lines::count_ahead` meets its contract: how many indices pass. Assumes nothing.
use Rattle.std.proofs.Common.{rules, tests, ◌∙◌, arith, ℕ}
use Rattle.std.proofs.lemmas.Iterator.{YieldsList-from_range}
use Rattle.std.proofs.lemmas.Iterator.Consumers.{YieldsList-from_filter, count_from_yields_List}
use Rattle.page.specs.between.Entries.{entry_at}
use Rattle.rules.specs.between.Parts.{leads}
use Rattle.page_rules.proofs.RuleLaws.{ahead_from}
use Rattle.page_rules.proofs.lines.count_ahead.Goals as goal

pub returns : goal.returns
returns c =
    let s = c.args in
    let n = c.visit_count.result in
    count_from_yields_List c.filter.result c.count.result c.count.ensures.ran
    (YieldsList-from_filter _ (λ (i : ℕ). leads s.t.train s.t.visit s.o (entry_at i s.page.now)) (YieldsList-from_range 0 n n c.filter.ensures.source (omega arith)) c.filter.ensures.closure (λ x b q k. search (rules, tests)))
    ∙ ahead_from s.t.train s.t.visit s.o s.page.now 0 n (omega arith)
