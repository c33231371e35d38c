-- `builder::put::finding` meets its contract: four numbers one behind the other, or none. Assumes nothing.
use Rattle.builder.proofs.FindingsPut.{told_so, told_not}
use Rattle.builder.proofs.put.finding.Goals as goal

pub returns-then-found : goal.returns-then-found
returns-then-found c =
    let s = c.args in
    told_so s.at s.s _ s.first s.second s.out.now _ _ _ _ (rw c.from.ensures at c.put_one.ensures) (rw c.from-then-found.ensures at c.put_one-then-found.ensures) c.put_one-then-found-2.ensures c.put_one-then-found-3.ensures s.found c.if-found.true

pub returns : goal.returns
returns c = let s = c.args in told_not s.at s.found s.s _ s.first s.second s.out.now c.if-found.false
