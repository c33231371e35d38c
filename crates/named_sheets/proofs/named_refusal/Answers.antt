-- `named_sheets::named_refusal` meets its contract: what is asked of all sheets is asked of those from i on, and once a
-- sheet was tested the network is good. Assumes nothing.
use Prim.Native.Nat.{◌+◌}
use mathlib.Core.Path.{refl, sym, ◌∙◌, ap}
use native.Mathlib.Omega.{arith}
use borrow.Author.Tests.{eqb-false}
use Rattle.std.proofs.lemmas.Result.{err_from_is_err_and}
use Rattle.base.specs.RefusalNumbers.{number_of}
use Rattle.network.specs.Networks.{network_refusal}
use Rattle.timetable.specs.Refusals.{or_else}
use Rattle.sheet.specs.Sheets.{sheet_at}
use Rattle.actions.proofs.OrderLaws.{not_nought, first_told}
use Rattle.named_sheets.specs.between.Named.{reach_passes}
use Rattle.named_sheets.proofs.NamedSteps.{named_by, sheets_not, sheets_on, sheets_end, reached_passes, unreached_passes}
use Rattle.named_sheets.proofs.NamedSteps.{both_passed, refused_unfit, refused_at, refused_none}
use Rattle.named_sheets.proofs.named_refusal.Goals as goal
use Rattle.named_sheets.proofs.named_refusal.Goals.{then-is_reached+in_ok-sheet_refusal, else-is_reached}

pub returns-then-division-ne49152 : goal.returns-then-division-ne49152
returns-then-division-ne49152 c =
    let s = c.args in
    rw c.and.ensures (first_told c.check.result _)
    ∙ ap (λ k. or_else k 6) c.check.ensures
    ∙ sym (refused_unfit s.n.now s.e s.division.now c.if-division-ne49152.true)

pub returns-in_err-sheet_refusal : goal.returns-in_err-sheet_refusal
returns-in_err-sheet_refusal c =
    let l = c.loop-i in
    let x = c.reach_of-x in
    let s = c.args in
    let here = sym c.is_reached.ensures ∙ c.if-is_reached.true in
    let r = c.in_err-sheet_refusal in
    let p = err_from_is_err_and c.from_residual.result c.from_residual.ensures.1 in
    let told = rw c.from-at.ensures at r.ensures in
    rw (p.1, p.2)
    (refused_at s.n.now s.e s.division.now _ (number_of r.field-0.0) told (eqb-false (number_of r.field-0.0) 0 (not_nought r.field-0.0))
    (λ bad. named_by s.n.now s.e x.result x.ensures s.division.now c.if-division-ne49152.false
    ∙ l.invariant.rest
    ∙ sheets_not s.n.now x.result s.division.now l.i (l.i + 1) refl (omega arith) (reached_passes s.n.now x.result (l.i + 1) _ here ∙ bad)))

pub loop-i-preserved : goal.loop-i-preserved
loop-i-preserved c =
    let l = c.loop-i in
    let x = c.reach_of-x in
    let s = c.args in
    let asked = c.is_reached.ensures in
    let on = sheets_on s.n.now x.result s.division.now l.i (l.i + 1) refl (omega arith) in
    elim c.if-is_reached.branch [
      | then-is_reached+in_ok-sheet_refusal w ↦
          let told = rw w.from-at.ensures at w.in_ok-sheet_refusal.ensures in
          let p = both_passed (network_refusal s.n.now) _ 0 told refl in
          record {
            rest = l.invariant.rest ∙ on (reached_passes s.n.now x.result (l.i + 1) _ (sym asked ∙ w.if-is_reached.true) ∙ p.1);
            good = λ e. p.0;
          }
      | else-is_reached w ↦
          record {
            rest = l.invariant.rest ∙ on (unreached_passes s.n.now x.result (l.i + 1) _ (sym asked ∙ w.if-is_reached.false));
            good = λ e. l.invariant.good (sym w.tested-is ∙ e);
          }
    ]

pub returns-then-tested : goal.returns-then-tested
returns-then-tested c =
    let l = c.loop-i in
    let x = c.reach_of-x in
    let s = c.args in
    let all = named_by s.n.now s.e x.result x.ensures s.division.now c.if-division-ne49152.false ∙ l.invariant.rest
    ∙ sheets_end (λ a. reach_passes s.n.now x.result a (sheet_at s.division.now a)) l.i (omega arith) in
    sym (refused_none s.n.now s.e s.division.now all ∙ l.invariant.good c.if-tested.true)

pub returns : goal.returns
returns c =
    let l = c.loop-i in
    let x = c.reach_of-x in
    let s = c.args in
    let all = named_by s.n.now s.e x.result x.ensures s.division.now c.if-division-ne49152.false ∙ l.invariant.rest
    ∙ sheets_end (λ a. reach_passes s.n.now x.result a (sheet_at s.division.now a)) l.i (omega arith) in
    c.check-2.ensures ∙ sym (refused_none s.n.now s.e s.division.now all)
