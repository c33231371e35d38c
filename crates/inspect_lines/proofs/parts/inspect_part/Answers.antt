-- `inspect_lines::parts::inspect_part` meets its contract: refused by the tests, or the part of a good sheet. Assumes
-- nothing.
use mathlib.Core.Path.{sym}
use Rattle.std.proofs.lemmas.Result.{err_from_is_err_and}
use Rattle.inspect_lines.specs.Parts.{part_text}
use Rattle.inspect_lines.proofs.InputPrinted.{too_long_part, sheet_part, answers_as}
use Rattle.inspect_lines.proofs.parts.inspect_part.Goals as goal

pub returns-then-bytes-gt16384 : goal.returns-then-bytes-gt16384
returns-then-bytes-gt16384 c =
    let s = c.args in
    too_long_part s.n.now s.sheet.now s.bytes.now c.if-bytes-gt16384.true _ s.out.now

pub returns-in_err-sheet_refusal : goal.returns-in_err-sheet_refusal
returns-in_err-sheet_refusal c =
    let s = c.args in
    let e = c.in_err-sheet_refusal in
    let p = err_from_is_err_and c.from_residual.result c.from_residual.ensures.1 in
    rw (p.1, p.2) (sheet_part s.n.now s.sheet.now s.bytes.now c.if-bytes-gt16384.false e.field-0.0 e.ensures _ s.out.now)

pub returns : goal.returns
unfolding part_text
returns c =
    let s = c.args in
    answers_as s.n.now s.sheet.now s.bytes.now c.if-bytes-gt16384.false (sym c.in_ok-sheet_refusal.ensures) _ s.out.now _ _ (c.write_text.ensures.answer, c.write_text.ensures.after)
