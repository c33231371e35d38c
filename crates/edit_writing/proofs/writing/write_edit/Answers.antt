-- `edit_writing::writing::write_edit` meets its contract: a pass over a spare byte counts, and the same pass writes.
-- Assumes nothing.
use mathlib.Core.Path.{refl, sym, ◌∙◌}
use native.Mathlib.Omega.{arith}
use Rattle.fields.proofs.NumbersPut.{near}
use Rattle.edit_writing.proofs.WritingLaws.{edit_bad, edit_short, edit_fits}
use Rattle.edit_writing.proofs.writing.write_edit.Goals as goal

pub returns-then-not-valid : goal.returns-then-not-valid
returns-then-not-valid c =
    let x = edit_bad c.args.e c.args.out.now (sym c.valid.ensures ∙ c.if-not-valid.true) in
    record { answer = x.0; after = x.1; err = refl }

pub returns-then-out-needed : goal.returns-then-out-needed
returns-then-out-needed c =
    let s = c.args in
    let p = c.put_edit-needed in
    let w = near _ _ _ _ _ 39 (omega arith) p.ensures in
    let x = edit_short s.e s.out.now (sym c.valid.ensures ∙ c.if-not-valid.false) p.result (omega (arith, w.0)) c.if-out-needed.true in
    record { answer = x.0; after = x.1; err = refl }

pub returns : goal.returns
returns c =
    let s = c.args in
    let p = c.put_edit-needed in
    let w = near _ _ _ _ _ 39 (omega arith) p.ensures in
    let v = near _ _ _ _ _ 39 (omega arith) c.put_edit.ensures in
    let x = edit_fits s.e s.out.now (sym c.valid.ensures ∙ c.if-not-valid.false) p.result (omega (arith, w.0)) c.if-out-needed.false in
    record { answer = x.0; after = v.1 ∙ x.1; err = tt }
