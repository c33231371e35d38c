-- The measure is the number of digits still permitted.
use Rattle.text.proofs.words.+put_digits.Given as goal

abbrev pub decreases-put_digits : goal.decreases-put_digits
decreases-put_digits l = l.left
