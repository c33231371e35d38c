-- `page::visit_of` meets its contract: the record where the train was found is read as its visit. Assumes nothing.
use Rattle.std.proofs.Common.{arith, sym, ap, ◌∙◌, Some}
use Rattle.records.specs.Records.{decode_visit}
use Rattle.page.specs.Types.{Visit}
use Rattle.page.proofs.FindLaws.{at_found, visit_there, visit_nowhere}
use Rattle.page.proofs.visit_of.Goals as goal

pub returns-in_err-i : goal.returns-in_err-i
returns-in_err-i c = c.from_residual.ensures ∙ visit_nowhere c.args.train c.args.page.now (sym c.in_err-i.ensures)

pub overflow_mul-i : goal.overflow_mul-i
overflow_mul-i c = omega (arith, at_found c.args.train c.args.page.now c.in_ok-i.i (sym c.in_ok-i.ensures))

pub overflow_add-i : goal.overflow_add-i
overflow_add-i c = omega (arith, at_found c.args.train c.args.page.now c.in_ok-i.i (sym c.in_ok-i.ensures))

pub returns : goal.returns
returns c =
    ap (λ (v : Visit). Some v) (c.visit_in.ensures ∙ ap decode_visit c.record_at.ensures)
    ∙ visit_there c.args.train c.args.page.now c.in_ok-i.i (sym c.in_ok-i.ensures)
