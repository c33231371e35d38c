-- `shift_lines::answers::answer_at` meets its contract: the two bytes that it reads are there. Assumes nothing.
use mathlib.Core.Path.{refl}
use Rattle.shift_lines.specs.between.Listing.{answer_at}
use Rattle.shift_lines.proofs.answers.answer_at.Goals as goal

pub returns : goal.returns
unfolding answer_at
returns c = refl
