-- `recheck::lists::is_before` meets its contract: the numbers before those that decide are equal. Assumes nothing.
use mathlib.Core.Path.{sym, ◌∙◌}
use Rattle.recheck.specs.between.Kept.{four_at, before_at}
use Rattle.recheck.proofs.RisingLaws.{below_apart, below_on, below_last}
use Rattle.recheck.proofs.lists.is_before.Goals as goal

pub returns-then-station-other_station : goal.returns-then-station-other_station
unfolding before_at four_at
returns-then-station-other_station c = sym (below_apart _ _ _ _ c.if-station-other_station.true)

pub returns-then-rule-other_rule : goal.returns-then-rule-other_rule
unfolding before_at four_at
returns-then-rule-other_rule c = sym (below_on _ _ _ _ c.if-station-other_station.false ∙ below_apart _ _ _ _ c.if-rule-other_rule.true)

pub returns-then-first-other_first : goal.returns-then-first-other_first
unfolding before_at four_at
returns-then-first-other_first c = sym (below_on _ _ _ _ c.if-station-other_station.false ∙ below_on _ _ _ _ c.if-rule-other_rule.false ∙ below_apart _ _ _ _ c.if-first-other_first.true)

pub returns : goal.returns
unfolding before_at four_at
returns c = sym (below_on _ _ _ _ c.if-station-other_station.false ∙ below_on _ _ _ _ c.if-rule-other_rule.false ∙ below_on _ _ _ _ c.if-first-other_first.false ∙ below_last _ _)
