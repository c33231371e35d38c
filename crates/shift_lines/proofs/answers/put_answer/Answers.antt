-- `shift_lines::answers::put_answer` meets its contract: one line of three numbers. Assumes nothing.
use native.Mathlib.Omega.{arith}
use Rattle.text.proofs.PutParts.{puts_as}
use Rattle.text.proofs.WithinBounds.{line_there}
use Rattle.shift_lines.proofs.answers.put_answer.Goals as goal

pub returns : goal.returns
returns c =
    rw (← c.from-refusal.ensures, ← c.from-removed.ensures) (puts_as _ _ _ _ _ _ _ (line_there c.args.at c.requires 69 _ (omega arith)) c.put_line.ensures)
