-- `edit_files::input::read_shift` meets its contract: the draft, the edits, the end and then the network's fault decide
-- in this order. Assumes nothing.
use mathlib.Core.Path.{sym, ap}
use Rattle.std.proofs.lemmas.Result.{err_from_is_err_and}
use Rattle.base.specs.RefusalNumbers.{number_of}
use Rattle.edit_files.specs.Answers.{shift_listed}
use Rattle.edit_files.proofs.EditsParts.{listed_on, listed_stop}
use Rattle.edit_files.proofs.ShiftLaws.{shift_network_faulty, shift_edits_faulty, shift-goes-on, shift-at-fault, shift-stands}
use Rattle.edit_files.proofs.input.read_shift.Goals as goal

pub returns-in_err-draft : goal.returns-in_err-draft
unfolding shift_listed
returns-in_err-draft c =
    let e = c.in_err-draft.field-0.0 in
    let p = err_from_is_err_and c.from_residual.result c.from_residual.ensures.1 in
    rw (p.1, p.2) (sym (ap shift_listed (shift_network_faulty c.args.file.now (number_of e.refusal) e.place c.in_err-draft.ensures)))

pub returns-in_err-edits : goal.returns-in_err-edits
unfolding shift_listed
returns-in_err-edits c =
    let d = c.in_ok-draft in
    let e = c.in_err-edits.field-0.0 in
    let p = err_from_is_err_and c.from_residual-in_err-edits.result c.from_residual-in_err-edits.ensures.1 in
    let q = listed_stop _ (number_of e.refusal) e.place c.in_err-edits.ensures in
    rw (p.1, p.2) (sym (ap shift_listed (shift_edits_faulty c.args.file.now d.ensures.0 d.place d.ensures.1 (number_of e.refusal) e.place q)))

pub returns-in_err-ended : goal.returns-in_err-ended
unfolding shift_listed
returns-in_err-ended c =
    let d = c.in_ok-draft in
    let l = c.in_ok-edits in
    let p = err_from_is_err_and c.from_residual-in_err-ended.result c.from_residual-in_err-ended.ensures.1 in
    let (es, o, q) = listed_on _ l.edits l.end l.ensures in
    let x = c.in_err-ended.ensures in
    rw (p.1, p.2, x.1) (sym (ap shift_listed (shift-goes-on c.args.file.now d.ensures.0 d.place d.ensures.1 es l.end o x.0)))

pub returns-in-Some : goal.returns-in-Some
unfolding shift_listed
returns-in-Some c =
    let d = c.in_ok-draft in
    let l = c.in_ok-edits in
    let (es, o, q) = listed_on _ l.edits l.end l.ensures in
    sym (ap shift_listed (shift-at-fault c.args.file.now d.ensures.0 d.place d.ensures.1 es l.end o c.in_ok-ended.ensures d.draft d.ensures.2 c.in-Some.fault c.in-Some.is))

pub returns-in-None : goal.returns-in-None
unfolding shift_listed
returns-in-None c =
    let f = c.args.file.now in
    let d = c.in_ok-draft in
    let l = c.in_ok-edits in
    let (es, o, q) = listed_on _ l.edits l.end l.ensures in
    rw q (sym (ap shift_listed (shift-stands f d.ensures.0 d.place d.ensures.1 es l.end o c.in_ok-ended.ensures d.draft d.ensures.2 c.in-None.is)))
