-- `recheck::update::fill` meets its contract: the draft begins with the numbers, or they fill the part that they are
-- put into. Assumes nothing.
use Rattle.std.proofs.Common.{arith, ◌∙◌}
use Rattle.rule_tests.specs.between.Tests.{held}
use Rattle.builder.specs.between.Builder.{redone_numbers}
use Rattle.recheck.proofs.UpdateLaws.{put_just}
use Rattle.recheck.proofs.update.fill.Goals as goal

pub returns-then-k-draft : goal.returns-then-k-draft
returns-then-k-draft c = c.copy_from_slice.ensures.after ∙ c.requires.1 (omega arith)

pub returns : goal.returns
returns c =
    let s = c.args in
    c.list_redone.ensures.1
    ∙ put_just (redone_numbers s.n.now s.scope s.marks (held s.sheet.now)) s.part.now c.requires.0
