-- `inspect_lines::written::put_written` meets its contract: one line for each answer. Assumes nothing.
use native.Mathlib.Omega.{arith}
use Rattle.inspect_lines.proofs.WrittenLine.{line_is, as_number}
use Rattle.text.proofs.PutParts.{puts_as}
use Rattle.text.proofs.WithinBounds.{line_there}
use Rattle.inspect_lines.proofs.written.put_written.Goals as goal

pub returns : goal.returns
returns c =
    let s = c.args in
    let i = c.is_written in
    rw (← line_is s.n.now s.sheet.now s.bytes.now i.result i.ensures) (puts_as 0 _ _ _ _ _ 68 (line_there 0 (omega arith) 87 _ (omega arith)) (rw (c.from.ensures, as_number i.result) at c.put_line.ensures))
