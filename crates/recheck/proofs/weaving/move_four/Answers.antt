-- `recheck::weaving::move_four` meets its contract: four numbers are moved at once. Assumes nothing.
use Rattle.std.proofs.Common.{◌∙◌}
use Rattle.recheck.proofs.WeaveLaws.{moved}
use Rattle.recheck.proofs.weaving.move_four.Goals as goal

pub returns : goal.returns
returns c = let s = c.args in c.copy_within.ensures.after ∙ moved s.to s.from s.out.now c.requires.0 c.requires.1
