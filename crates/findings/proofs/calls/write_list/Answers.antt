-- `findings::calls::write_list` meets its contract: there is room for any list, or it is drafted. Assumes nothing.
use native.Mathlib.Omega.{arith}
use Rattle.rule_tests.specs.between.Tests.{held}
use Rattle.rule_tests.proofs.HeldLaws.{held_is}
use Rattle.builder.specs.between.Builder.{all_numbers}
use Rattle.findings.proofs.ListCalls.{written}
use Rattle.findings.proofs.calls.write_list.Goals as goal

pub returns-then-out-ge-MOST : goal.returns-then-out-ge-MOST
returns-then-out-ge-MOST c =
    let s = c.args in
    let w = c.list_all in
    rw (← held_is s.sheet.now c.requires)
    (written (all_numbers s.n.now s.scope (held s.sheet.now)) s.out.now w.result _ w.ensures.0 (omega (arith, w.ensures.2, c.if-out-ge-MOST.true)) w.ensures.1)
