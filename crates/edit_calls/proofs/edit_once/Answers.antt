-- `edit_calls::edit_once` meets its contract: on a division that is known to be good the edit that tests no sheet is
-- the single call. Assumes nothing.
use Rattle.edit_calls.proofs.KnownGood.{known_kept}
use Rattle.edit_calls.proofs.edit_once.Goals as goal

pub returns-then-tested : goal.returns-then-tested
returns-then-tested c =
    let s = c.args in
    let k = c.requires c.if-tested.true in
    let r = c.edit_untested.ensures in
    (r.0, r.1, λ t. rw r.1 (known_kept s.n.now s.division.now k s.e))
