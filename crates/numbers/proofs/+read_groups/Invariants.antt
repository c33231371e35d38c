-- The measure is the number of groups still permitted.
use Rattle.numbers.proofs.+read_groups.Given as goal

abbrev pub decreases-read_groups : goal.decreases-read_groups
decreases-read_groups l = l.left
