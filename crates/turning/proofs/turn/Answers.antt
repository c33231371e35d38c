-- `turning::turn` meets its contract: a refused file is told with its place; a file that is held is written, and what
-- writing answers is told. Assumes nothing.
use native.Mathlib.Omega.{arith}
use mathlib.Core.Path.{◌∙◌}
use Rattle.std.proofs.lemmas.Result.{err_from_is_err_and}
use Rattle.base.specs.RefusalNumbers.{number_of}
use Rattle.timetable.specs.Outputs as outputs
use Rattle.roundtrips.specs.RoundTrips.{Bytes}
use Rattle.turning.specs.Answers as answers
use Rattle.turning.proofs.TurnLaws.{turn_refused, turn_held, told_alike}
use Rattle.turning.proofs.turn.Goals as goal

pub returns-in_err-network : goal.returns-in_err-network
unfolding answers.reply
returns-in_err-network c =
    let s = c.args in
    let e = c.in_err-network.field-0.0 in
    let p = err_from_is_err_and c.from_residual.result c.from_residual.ensures.1 in
    rw (p.1, p.2) (turn_refused s.form s.file.now s.out.now (number_of e.refusal) e.place c.in_err-network.ensures)

pub returns-in_err-write_network : goal.returns-in_err-write_network
returns-in_err-write_network c =
    let s = c.args in
    let n = c.in_ok-network in
    let w = c.in_err-write_network in
    let p = err_from_is_err_and c.from_residual-in_err-write_network.result c.from_residual-in_err-write_network.ensures.1 in
    let bytes : Bytes s.file.now = λ i. omega (arith, c.type_inv.file i) in
    let h = turn_held s.form s.file.now s.out.now n.network n.field-0-1 bytes n.ensures in
    rw (p.1, p.2) (told_alike s.form s.file.now s.out.now n.network n.field-0-1 bytes n.ensures w.field-0.0 w.ensures.0 ∙ h.0, w.ensures.1 ∙ h.1)

pub returns : goal.returns
unfolding answers.reply outputs.reply_of
returns c =
    let s = c.args in
    let n = c.in_ok-network in
    let w = c.in_ok-write_network in
    let h = turn_held s.form s.file.now s.out.now n.network n.field-0-1 (λ i. omega (arith, c.type_inv.file i)) n.ensures in
    (w.ensures.0 ∙ h.0, w.ensures.1 ∙ h.1)
