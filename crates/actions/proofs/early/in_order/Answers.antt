-- `actions::early::in_order` meets its contract: 3 of the network comes first, then the three in turn. Assumes nothing.
use mathlib.Core.Path.{sym, ◌∙◌}
use borrow.Author.Tests.{eqb-true}
use Rattle.base.specs.RefusalNumbers.{refusal_number}
use Rattle.timetable.proofs.RefusalLaws.{early_network_range}
use Rattle.actions.proofs.OrderLaws.{only_three, told_in_turn}
use Rattle.actions.proofs.early.in_order.Goals as goal

pub returns-then-eq : goal.returns-then-eq
returns-then-eq c =
    let s = c.args in
    let three = eqb-true (refusal_number s.network) 3 (sym (only_three _ s.network) ∙ sym c.if-eq.ensures) in
    three ∙ sym (early_network_range (refusal_number s.own) (refusal_number s.network) (refusal_number s.both) three)

pub returns : goal.returns
returns c =
    let s = c.args in
    rw (c.and-2.ensures, c.and.ensures) (told_in_turn s.own s.network s.both (sym (only_three _ s.network) ∙ sym c.if-eq.ensures))
