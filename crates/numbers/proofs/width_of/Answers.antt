-- `numbers::width_of` meets its contract: the number has one, two or three groups. Assumes nothing.
use mathlib.Core.Path.{sym}
use native.Mathlib.Omega.{arith}
use Rattle.numbers.proofs.GroupLaws.{width_one, width_two, width_three}
use Rattle.numbers.proofs.width_of.Goals as goal

pub returns-then-n-lt128 : goal.returns-then-n-lt128
returns-then-n-lt128 c = sym (width_one _ c.if-n-lt128.true)

pub returns-then-n-lt128-2 : goal.returns-then-n-lt128-2
returns-then-n-lt128-2 c = sym (width_two _ c.if-n-lt128.false c.if-n-lt128-2.true)

pub returns : goal.returns
returns c = sym (width_three _ c.if-n-lt128.false c.if-n-lt128-2.false (omega arith))
