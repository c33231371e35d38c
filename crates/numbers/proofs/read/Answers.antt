-- `numbers::read` meets its contract: three groups are permitted. Assumes nothing.
use borrow.Author.Rules.{rules}
use Rattle.numbers.specs.Numbers.{read_number}
use Rattle.numbers.proofs.read.Goals as goal

pub read_groups-requires : goal.read_groups-requires
read_groups-requires c = search rules

pub returns : goal.returns
unfolding read_number
returns c = simp (← c.read_groups.ensures)
