-- Each further try is one less.
use Rattle.shift.proofs.+print_long.Given as goal

abbrev pub decreases-print_long : goal.decreases-print_long
decreases-print_long g l = l.tries
