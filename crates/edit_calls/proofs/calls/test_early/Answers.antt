-- `edit_calls::calls::test_early` meets its contract: what refuses the edit so is told in the documents' order. Assumes
-- nothing.
use Rattle.edit_calls.proofs.CallTests.{told_early}
use Rattle.edit_calls.proofs.calls.test_early.Goals as goal

pub returns-in-Err : goal.returns-in-Err
returns-in-Err c =
    let s = c.args in
    told_early s.n.now s.e _ _ c.in-Err.is c.refusal_under.ensures c.early_refusal.result c.early_refusal.ensures
