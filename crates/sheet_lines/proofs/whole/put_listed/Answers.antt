-- `sheet_lines::whole::put_listed` meets its contract: the call writes the numbers of all findings, and their lines are
-- put; or it is refused, and there are none; or the array is too short for them. Assumes nothing.
use mathlib.Core.Path.{refl, ◌∙◌, ap}
use Rattle.std.specs.Prelude.{Err}
use native.Mathlib.Omega.{arith}
use Rattle.timetable.specs.Outputs.{put}
use Rattle.text.proofs.PutParts.{puts_as}
use Rattle.sheet_lines.specs.between.Sheets.{Lists}
use Rattle.sheet_lines.proofs.FindingLines.{refused_none, short_left, counted, few_found, found-fit, found-text}
use Rattle.sheet_lines.proofs.whole.put_listed.Goals as goal

pub put_lines-next-requires : goal.put_lines-next-requires
put_lines-next-requires c =
    let s = c.args in
    let f = c.sheet_findings in
    let e = c.in-Ok.is in
    let few = few_found s.n.now s.sheet.now _ s.at c.requires f.result f.ensures.0 _ e in
    (c.requires, omega (arith, few), found-fit s.n.now s.sheet.now _ s.at c.requires f.result f.ensures.0 _ e _ f.ensures.1)

pub overflow_cast-result : goal.overflow_cast-result
overflow_cast-result c =
    let s = c.args in
    let f = c.sheet_findings in
    let e = c.in-Ok.is in
    omega (arith, few_found s.n.now s.sheet.now _ s.at c.requires f.result f.ensures.0 _ e)

pub returns-in-Ok : goal.returns-in-Ok
unfolding Lists
returns-in-Ok c =
    let s = c.args in
    let f = c.sheet_findings in
    let e = c.in-Ok.is in
    let w = c.put_lines-next in
    let few = few_found s.n.now s.sheet.now _ s.at c.requires f.result f.ensures.0 _ e in
    let text = found-text s.n.now s.sheet.now _ s.at c.requires f.result f.ensures.0 _ e _ f.ensures.1 in
    let laid = puts_as s.at w.result _ _ _ _ _ text w.ensures in
    ((laid.0, laid.1, omega (arith, w.ensures.2, few)), counted s.n.now s.sheet.now _ s.at c.requires f.result f.ensures.0 _ e)

pub returns-in-Err-Refused : goal.returns-in-Err-Refused
unfolding Lists put
returns-in-Err-Refused c =
    let s = c.args in
    let f = c.sheet_findings in
    let e = c.in-Err-Refused.is ∙ ap (λ x. Err x) c.in-Err-Refused.field-0-is in
    let none = refused_none s.n.now s.sheet.now _ s.at c.requires f.result f.ensures.0 _ e in
    rw (none.0, none.1) ((omega arith, refl, omega arith), refl)

pub returns-in-Err-TooShort : goal.returns-in-Err-TooShort
unfolding Lists
returns-in-Err-TooShort c =
    let s = c.args in
    let f = c.sheet_findings in
    let e = c.in-Err-TooShort.is ∙ ap (λ x. Err x) c.in-Err-TooShort.field-0-is in
    let left = short_left s.n.now s.sheet.now _ s.at c.requires f.result f.ensures.0 _ e in
    (left.0, left.1, refl)
