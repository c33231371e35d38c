-- `page::slots::Slots::find` meets its contract: the place that the search gives is below the count where a record
-- passes the test. Assumes nothing.
use Rattle.std.proofs.Common.{true, sym, ◌∙◌}
use Rattle.page.proofs.RowLaws.{then_found, sought_short, sought, sought_inside}
use Rattle.page.proofs.slots.Slots.find.Goals as goal

pub returns-then-page-ne512-clause-value : goal.returns-then-page-ne512-clause-value
returns-then-page-ne512-clause-value g c = λ p h. sought_short c.args.self p c.args.page.now c.if-page-ne512.true

pub returns-clause-value : goal.returns-clause-value
returns-clause-value g c = λ p h.
    c.then_some.ensures ∙ then_found _ _ ∙ sought c.args.self p c.args.page.now c.position-i.result c.count-n.result c.if-page-ne512.false c.count-n.ensures.value (c.position-i.ensures.index p h)

pub returns-clause-inside : goal.returns-clause-inside
returns-clause-inside g c = λ k w.
    sought_inside c.args.self (λ r. true) c.args.page.now c.position-i.result c.count-n.result k c.if-page-ne512.false c.count-n.ensures.value (sym (then_found _ _) ∙ sym c.then_some.ensures ∙ w)
