-- `shift_lines::answers::count_next` meets its contract: the edit is read and counted, or neither. Assumes nothing.
use mathlib.Core.Path.{refl, sym, ◌∙◌, ap}
use Rattle.edit_files.specs.Answers.{next_outcome}
use Rattle.shift_lines.specs.between.Listing.{next_tally, next_place}
use Rattle.shift_lines.proofs.answers.count_next.Goals as goal

pub returns-in-Ok : goal.returns-in-Ok
unfolding next_tally next_place
returns-in-Ok c =
    let x = sym c.next_edit.ensures ∙ ap next_outcome c.in-Ok.is in
    rw x (c.unwrap_or.ensures ∙ c.raise_own.ensures.1, refl)

pub returns-in-Err : goal.returns-in-Err
unfolding next_tally next_place
returns-in-Err c =
    let x = sym c.next_edit.ensures ∙ ap next_outcome c.in-Err.is in
    rw x (refl, refl)
