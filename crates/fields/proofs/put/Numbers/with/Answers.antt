-- `fields::put::Numbers::with` meets its contract: the number stands in the first place that was free. Assumes nothing.
use native.Mathlib.Omega.{arith}
use borrow.Author.Tests.{lt-ltb, le-ltb}
use Rattle.fields.proofs.RowHolds.{row_with, row_full}
use Rattle.fields.proofs.put.Numbers.with.Goals as goal

pub returns-then-row-lt13 : goal.returns-then-row-lt13
returns-then-row-lt13 c = let s = c.args in record { whole = rw (lt-ltb s.self.count 13 c.if-row-lt13.true); row = row_with s.self s.x }

pub returns-else-row-lt13 : goal.returns-else-row-lt13
returns-else-row-lt13 c =
    let s = c.args in
    record {
      whole = rw (le-ltb s.self.count 13 c.if-row-lt13.false);
      row = λ ns e h. let room = row_full s.self ns e h in absurd (omega arith);
    }
