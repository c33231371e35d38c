-- A list is never too long for an array that has room for any: no call is followed by another.
use Rattle.sheet_lines.proofs.whole.+put_any.Given as goal

abbrev pub decreases-put_any : goal.decreases-put_any
decreases-put_any l = 0
