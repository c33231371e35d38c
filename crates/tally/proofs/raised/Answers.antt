-- `tally::raised` meets its contract: the sums are small where the tests passed, and each return rewrites with the
-- tests that led there. Assumes nothing.
use mathlib.Core.Path.{sym, ◌∙◌}
use native.Mathlib.Omega.{arith}
use Rattle.tally.proofs.TallyLaws.{small, when_overfull, when_unlikely, when-accepted, when-five, when-refused}
use Rattle.tally.proofs.raised.Goals as goal

pub returns-then-is_overfull : goal.returns-then-is_overfull
returns-then-is_overfull c = when_overfull _ _ _ (sym c.is_overfull.ensures ∙ c.if-is_overfull.true)

pub returns-then-is_unlikely : goal.returns-then-is_unlikely
returns-then-is_unlikely c = when_unlikely _ _ _ (sym c.is_overfull.ensures ∙ c.if-is_overfull.false) (sym c.is_unlikely.ensures ∙ c.if-is_unlikely.true)

pub overflow_add-result : goal.overflow_add-result
overflow_add-result c = omega (arith, (small _ (sym c.is_overfull.ensures ∙ c.if-is_overfull.false)).accepted)

pub overflow_add-result-in-0 : goal.overflow_add-result-in-0
overflow_add-result-in-0 c = omega (arith, (small _ (sym c.is_overfull.ensures ∙ c.if-is_overfull.false)).added)

pub overflow_add-result-in-0-2 : goal.overflow_add-result-in-0-2
overflow_add-result-in-0-2 c = omega (arith, (small _ (sym c.is_overfull.ensures ∙ c.if-is_overfull.false)).removed)

pub overflow_add-result-in_default : goal.overflow_add-result-in_default
overflow_add-result-in_default c = omega (arith, (small _ (sym c.is_overfull.ensures ∙ c.if-is_overfull.false)).refused)

pub returns-in-0 : goal.returns-in-0
returns-in-0 c =
    rw (c.from.ensures, c.from-in-0.ensures) (when-accepted _ _ _ (sym c.is_overfull.ensures ∙ c.if-is_overfull.false) (sym c.is_unlikely.ensures ∙ c.if-is_unlikely.false) _ c.added_by.ensures c.in-0.is)

pub returns-in-5 : goal.returns-in-5
returns-in-5 c = when-five _ _ _ (sym c.is_overfull.ensures ∙ c.if-is_overfull.false) (sym c.is_unlikely.ensures ∙ c.if-is_unlikely.false) c.in-5.is

pub returns-in_default : goal.returns-in_default
returns-in_default c = when-refused _ _ _ (sym c.is_overfull.ensures ∙ c.if-is_overfull.false) (sym c.is_unlikely.ensures ∙ c.if-is_unlikely.false) (λ z. omega (arith, z)) (λ f. omega (arith, f))
