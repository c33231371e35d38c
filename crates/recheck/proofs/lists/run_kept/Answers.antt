-- `recheck::lists::run_kept` meets its contract: by the level of the station all, none, or what is counted one by one.
-- Assumes nothing.
use mathlib.Core.Path.{sym, ◌∙◌}
use Rattle.recheck.proofs.RunLaws.{run_goes, run_stays}
use Rattle.recheck.proofs.lists.run_kept.Goals as goal

pub returns-then-level-eq0 : goal.returns-then-level-eq0
returns-then-level-eq0 c =
    let a = c.args in
    run_stays a.marks a.list.now a.i a.end c.requires (sym c.level-level.ensures ∙ c.if-level-eq0.true)

pub returns-then-level-eq2 : goal.returns-then-level-eq2
returns-then-level-eq2 c =
    let a = c.args in
    run_goes a.marks a.list.now a.i a.end c.requires (sym c.level-level.ensures ∙ c.if-level-eq2.true)
