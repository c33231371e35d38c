-- `page::slots::position` meets its contract: a turn looks at one record. Assumes nothing.
use Rattle.std.proofs.Common.{sym, ◌∙◌, ap}
use Rattle.page.proofs.SlotLaws.{search_start, search_hit, search_on, search_end}
use Rattle.page.proofs.slots.position.Goals as goal

pub loop-i-init : goal.loop-i-init
loop-i-init g c = λ p h. search_start p c.args.n c.args.slots.now

pub returns-then-test-clause-index : goal.returns-then-test-clause-index
returns-then-test-clause-index g c = λ p h.
    let a = c.args in
    search_hit p a.n a.slots.now c.loop-i.i (c.loop-i.invariant p h) c.loop-i-test.true (sym (ap p c.record_at.ensures) ∙ sym (h _ _ c.test.ensures) ∙ c.if-test.true)

pub loop-i-preserved : goal.loop-i-preserved
loop-i-preserved g c = λ p h.
    let a = c.args in
    search_on p a.n a.slots.now c.loop-i.i (c.loop-i.invariant p h) c.loop-i-test.true (sym (ap p c.record_at.ensures) ∙ sym (h _ _ c.test.ensures) ∙ c.if-test.false)

pub returns-clause-index : goal.returns-clause-index
returns-clause-index g c = λ p h.
    search_end p c.args.n c.args.slots.now c.loop-i.i (c.loop-i.invariant p h) c.loop-i-test.false
