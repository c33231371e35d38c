-- `findings::joint::join_page` meets its contract: each arm fills the page at once. Assumes nothing.
use Rattle.std.proofs.Common.{◌∙◌, ap, eq-eqb, ne_eqb}
use Rattle.records.specs.Bytes.{zeros}
use Rattle.findings.specs.between.Joined.{joined_page}
use Rattle.findings.proofs.joint.join_page.Goals as goal

pub returns-then-g-a : goal.returns-then-g-a
unfolding joined_page
returns-then-g-a c = rw (← c.group_of-g.ensures, eq-eqb _ _ c.if-g-a.true) c.copy_from_slice.ensures.after

pub returns-then-g-b : goal.returns-then-g-b
unfolding joined_page
returns-then-g-b c = rw (← c.group_of-g.ensures, ne_eqb _ _ c.if-g-a.false, eq-eqb _ _ c.if-g-b.true) c.copy_from_slice-then-g-b.ensures.after

pub returns-else-g-b : goal.returns-else-g-b
unfolding joined_page
returns-else-g-b c = rw (← c.group_of-g.ensures, ne_eqb _ _ c.if-g-a.false, ne_eqb _ _ c.if-g-b.false) (c.fill.ensures.after (λ y e. e) ∙ ap zeros c.requires.0)
