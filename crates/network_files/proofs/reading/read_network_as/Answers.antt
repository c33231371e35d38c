-- `network_files::reading::read_network_as` meets its contract: each return is one law of the draft. Assumes nothing.
use mathlib.Core.Path.{sym, ◌∙◌, ap}
use Rattle.base.specs.RefusalNumbers.{number_of}
use Rattle.base.specs.declared.refusal.FileError.{FileError}
use Rattle.timetable.specs.Formats.{refused}
use Rattle.fields.proofs.ReadLaws.{refused_told}
use Rattle.network_files.proofs.ReadingLaws.{network_goes_on, network_at_fault, network_stands, network_faulty}
use Rattle.network_files.proofs.reading.read_network_as.Goals as goal

pub returns-in_err-draft : goal.returns-in_err-draft
returns-in_err-draft c =
    let s = c.args in
    let e = c.in_err-draft.field-0.0 in
    refused_told c.from_residual.result e c.from_residual.ensures.1 ∙ sym (network_faulty s.form s.file.now (number_of e.refusal) e.place c.in_err-draft.ensures)

pub returns-in_err-ended : goal.returns-in_err-ended
returns-in_err-ended c =
    let s = c.args in
    let d = c.in_ok-draft in
    let e = c.in_err-ended.field-0.0 in
    refused_told c.from_residual-in_err-ended.result e c.from_residual-in_err-ended.ensures.1 ∙ ap (λ (x : FileError). refused (number_of x.refusal) x.place) c.in_err-ended.ensures.1
    ∙ sym (network_goes_on s.form s.file.now d.ensures.0 d.place d.ensures.1 c.in_err-ended.ensures.0)

pub returns-in-Some : goal.returns-in-Some
returns-in-Some c =
    let s = c.args in
    let d = c.in_ok-draft in
    sym (network_at_fault s.form s.file.now d.ensures.0 d.place d.ensures.1 c.in_ok-ended.ensures d.draft d.ensures.2 c.in-Some.fault c.in-Some.is)

pub returns-in-None : goal.returns-in-None
returns-in-None c =
    let s = c.args in
    let d = c.in_ok-draft in
    sym (network_stands s.form s.file.now d.ensures.0 d.place d.ensures.1 c.in_ok-ended.ensures d.draft d.ensures.2 c.in-None.is)
