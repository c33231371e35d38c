-- `strakewhip::changes::run_as` meets its contract: it is stopped where it enters, or the call is reached. Assumes
-- nothing.
use mathlib.Core.Path.{◌∙◌, ap}
use Rattle.timetable.specs.NetworkFile.{read_network}
use Rattle.edit_calls.specs.Lists.{run_answer, run_division, run_answers}
use Rattle.replies.specs.Replies.{of_reply}
use Rattle.strakewhip.specs.Calls.{is_division, run_reply, run_left, answers_left}
use Rattle.strakewhip.proofs.FileLaws.{stopped, reached}
use Rattle.strakewhip.proofs.changes.run_as.Goals as goal

pub returns-in-Ok : goal.returns-in-Ok
unfolding run_reply run_left answers_left
returns-in-Ok c =
    let s = c.args in
    let fits = is_division s.division.now in
    let o = read_network s.network.now in
    let x = c.run_list.ensures.told in
    let told = c.of_run.ensures ∙ ap of_reply x.0 in
    let one = reached fits o s.division.now (λ n. of_reply (run_answer s.form n s.edits.now s.division.now s.answers.now)) (λ n. run_division s.form n s.edits.now s.division.now s.answers.now) _ _ c.is_division.ensures c.entered.ensures _ c.in-Ok.is _ _ told x.1 in
    let other = reached fits o s.answers.now (λ n. of_reply (run_answer s.form n s.edits.now s.division.now s.answers.now)) (λ n. run_answers s.form n s.edits.now s.division.now s.answers.now) _ _ c.is_division.ensures c.entered.ensures _ c.in-Ok.is _ _ told x.2 in
    (one.0, one.1, other.1)

pub returns-in-Err : goal.returns-in-Err
unfolding run_reply run_left answers_left
returns-in-Err c =
    let s = c.args in
    let fits = is_division s.division.now in
    let o = read_network s.network.now in
    let one = stopped fits o s.division.now (λ n. of_reply (run_answer s.form n s.edits.now s.division.now s.answers.now)) (λ n. run_division s.form n s.edits.now s.division.now s.answers.now) _ _ c.is_division.ensures c.entered.ensures _ c.in-Err.is in
    let other = stopped fits o s.answers.now (λ n. of_reply (run_answer s.form n s.edits.now s.division.now s.answers.now)) (λ n. run_answers s.form n s.edits.now s.division.now s.answers.now) _ _ c.is_division.ensures c.entered.ensures _ c.in-Err.is in
    (one.0, one.1, other.1)
