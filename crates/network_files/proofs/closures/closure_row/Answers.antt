-- `network_files::closures::closure_row` meets its contract: line and start are compared with those before, and the end
-- stands behind them. Assumes nothing.
use Prim.Native.Nat.{ℕ}
use mathlib.Core.Path.{sym, ◌∙◌, ap}
use mathlib.Core.List.{List, [], ◌∷◌}
use Rattle.railway.specs.Ranges.{last_minute}
use Rattle.base.specs.RefusalNumbers.{number_of}
use Rattle.timetable.specs.Formats.{field_at, least, floor_after}
use Rattle.fields.proofs.ReadLaws.{refused_told}
use Rattle.fields.proofs.EntryLaws.{field_bounded}
use Rattle.network_files.proofs.ClosureLaws.{line_stop, start_stop, end-stop, closure-some}
use Rattle.network_files.proofs.closures.closure_row.Goals as goal

pub returns-in_err-line : goal.returns-in_err-line
returns-in_err-line c =
    let s = c.args in
    let e = c.in_err-line.field-0.0 in
    let o = sym (c.in_err-line.ensures ∙ ap (λ (l : ℕ). field_at (least 1 (l ∷ s.before.start.0 ∷ [])) 32 s.file.now s.at) c.from.ensures) in
    refused_told c.from_residual.result e c.from_residual.ensures.1 ∙ sym (line_stop s.before.line.0 s.before.start.0 s.file.now s.at (number_of e.refusal) e.place o)

pub returns-in_err-start : goal.returns-in_err-start
returns-in_err-start c =
    let s = c.args in
    let l = c.in_ok-line in
    let e = c.in_err-start.field-0.0 in
    let o = sym (l.ensures ∙ ap (λ (l : ℕ). field_at (least 1 (l ∷ s.before.start.0 ∷ [])) 32 s.file.now s.at) c.from.ensures) in
    let left = c.floor_after-left.ensures ∙ ap (λ (m : ℕ). floor_after l.line (m ∷ s.before.start.0 ∷ [])) c.from.ensures in
    let q = sym (c.in_err-start.ensures ∙ ap (λ (f : List ℕ). field_at (least 0 f) last_minute s.file.now l.place) left) in
    refused_told c.from_residual-in_err-start.result e c.from_residual-in_err-start.ensures.1
    ∙ sym (start_stop s.before.line.0 s.before.start.0 s.file.now s.at l.line l.place o (number_of e.refusal) e.place q)

pub returns-in_err-end : goal.returns-in_err-end
returns-in_err-end c =
    let s = c.args in
    let l = c.in_ok-line in
    let m = c.in_ok-start in
    let e = c.in_err-end.field-0.0 in
    let o = sym (l.ensures ∙ ap (λ (l : ℕ). field_at (least 1 (l ∷ s.before.start.0 ∷ [])) 32 s.file.now s.at) c.from.ensures) in
    let left = c.floor_after-left.ensures ∙ ap (λ (m : ℕ). floor_after l.line (m ∷ s.before.start.0 ∷ [])) c.from.ensures in
    let q = sym (m.ensures ∙ ap (λ (f : List ℕ). field_at (least 0 f) last_minute s.file.now l.place) left) in
    refused_told c.from_residual-in_err-end.result e c.from_residual-in_err-end.ensures.1
    ∙ sym (end-stop s.before.line.0 s.before.start.0 s.file.now s.at l.line l.place o m.start m.place q (number_of e.refusal) e.place (sym c.in_err-end.ensures))

pub returns : goal.returns
returns c =
    let s = c.args in
    let l = c.in_ok-line in
    let m = c.in_ok-start in
    let n = c.in_ok-end in
    let o = sym (l.ensures ∙ ap (λ (l : ℕ). field_at (least 1 (l ∷ s.before.start.0 ∷ [])) 32 s.file.now s.at) c.from.ensures) in
    let left = c.floor_after-left.ensures ∙ ap (λ (m : ℕ). floor_after l.line (m ∷ s.before.start.0 ∷ [])) c.from.ensures in
    let q = sym (m.ensures ∙ ap (λ (f : List ℕ). field_at (least 0 f) last_minute s.file.now l.place) left) in
    let b = (field_bounded _ 32 s.file.now s.at l.line l.place o).1 in
    closure-some s.before.line.0 s.before.start.0 s.file.now s.at l.line l.place o m.start m.place q n.end n.place (sym n.ensures) b c.narrow.result c.narrow.ensures
