-- `network_files::draft::line_row` meets its contract: in each form the row of numbers decides, and an accepted one is
-- the line of its numbers, which all fit bytes. Assumes nothing.
use Prim.Native.Nat.{ℕ, ◌+◌}
use mathlib.Core.Path.{◌≡◌, refl, sym, ◌∙◌, ap}
use mathlib.Core.List.{List, [], ◌∷◌}
use Rattle.base.specs.RefusalNumbers.{number_of}
use Rattle.timetable.specs.declared.NetworkForm.{NetworkForm}
use Rattle.timetable.specs.Formats.{Range, ◌to◌}
use Rattle.timetable.specs.NetworkFile.{line_ranges, line_of, line_fields}
use Rattle.fields.proofs.ReadLaws.{refused_told}
use Rattle.network_files.specs.between.Rows.{above, as_bytes}
use Rattle.network_files.proofs.DraftLaws.{line_low, line_small, row_made, row_unmade, one_time, two_times}
use Rattle.network_files.proofs.draft.line_row.Goals as goal

abbrev ranges : ℕ → List Range → List Range
ranges b rs = (b + 1) to 32 ∷ 1 to 16 ∷ 1 to 16 ∷ 1 to 3 ∷ 1 to 240 ∷ rs

in_one : (a b : ℕ) (form : NetworkForm) → a ≡ b → form ≡ NetworkForm.OneTime → ranges a (1 to 9 ∷ []) ≡ above b (line_ranges form)
unfolding above line_ranges
in_one a b form e f = rw (f, e)

in_two : (a b : ℕ) (form : NetworkForm) → a ≡ b → form ≡ NetworkForm.TwoTimes → ranges a (1 to 240 ∷ 1 to 9 ∷ []) ≡ above b (line_ranges form)
unfolding above line_ranges
in_two a b form e f = rw (f, e)

pub returns-in_err-l-in-OneTime : goal.returns-in_err-l-in-OneTime
unfolding line_fields
returns-in_err-l-in-OneTime c =
    let s = c.args in
    let e = c.in_err-l-in-OneTime.field-0.0 in
    let is = in_one c.from.result s.before s.form c.from.ensures c.in-OneTime.is in
    refused_told c.from_residual.result e c.from_residual.ensures.1
    ∙ row_unmade (line_of s.form) (line_ranges s.form) (line_low s.form) (line_small s.form) s.before s.file.now s.at _ is (number_of e.refusal) e.place (sym (c.in_err-l-in-OneTime.ensures.whole refl))

pub returns-in_err-numbers-in-TwoTimes : goal.returns-in_err-numbers-in-TwoTimes
unfolding line_fields
returns-in_err-numbers-in-TwoTimes c =
    let s = c.args in
    let e = c.in_err-numbers-in-TwoTimes.field-0.0 in
    let is = in_two c.from.result s.before s.form c.from.ensures c.in-TwoTimes.is in
    refused_told c.from_residual-in_err-numbers-in-TwoTimes.result e c.from_residual-in_err-numbers-in-TwoTimes.ensures.1
    ∙ row_unmade (line_of s.form) (line_ranges s.form) (line_low s.form) (line_small s.form) s.before s.file.now s.at _ is (number_of e.refusal) e.place (sym (c.in_err-numbers-in-TwoTimes.ensures.whole refl))

pub returns-in_ok-l-in-OneTime : goal.returns-in_ok-l-in-OneTime
unfolding line_fields
returns-in_ok-l-in-OneTime c =
    let s = c.args in
    let r = c.in_ok-l-in-OneTime in
    let is = in_one c.from.result s.before s.form c.from.ensures c.in-OneTime.is in
    row_made (line_of s.form) (line_ranges s.form) (line_low s.form) (line_small s.form) s.before s.file.now s.at _ is r.field-0-0 r.place (sym (r.ensures.whole refl))
    _ (c.line_from.ensures ∙ one_time r.field-0-0 ∙ ap (λ (f : NetworkForm). line_of f (as_bytes r.field-0-0)) (sym c.in-OneTime.is))

pub returns-in_ok-numbers-in-TwoTimes : goal.returns-in_ok-numbers-in-TwoTimes
unfolding line_fields
returns-in_ok-numbers-in-TwoTimes c =
    let s = c.args in
    let r = c.in_ok-numbers-in-TwoTimes in
    let is = in_two c.from.result s.before s.form c.from.ensures c.in-TwoTimes.is in
    row_made (line_of s.form) (line_ranges s.form) (line_low s.form) (line_small s.form) s.before s.file.now s.at _ is r.numbers r.place (sym (r.ensures.whole refl))
    _ (c.line_from-in-TwoTimes.ensures ∙ two_times r.numbers ∙ ap (λ (f : NetworkForm). line_of f (as_bytes r.numbers)) (sym c.in-TwoTimes.is))
