-- `page::slot_left` meets its contract, case by case. Assumes nothing.
use Rattle.std.proofs.Common.{sym, ◌∙◌}
use Rattle.page.specs.between.Changes.{slotted_left, left_count}
use Rattle.page.proofs.slot_left.Goals as goal

pub returns-in-Some : goal.returns-in-Some
unfolding slotted_left left_count
returns-in-Some c =
    let put = c.slot in
    (put.ensures.0 ∙ sym (rw c.in-Some.is), put.ensures.1 ∙ sym (rw c.in-Some.is))

pub returns-in-None : goal.returns-in-None
unfolding slotted_left left_count
returns-in-None c = (sym (rw c.in-None.is), sym (rw c.in-None.is))
