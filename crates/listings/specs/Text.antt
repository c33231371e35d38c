-- The lines that the programs print, as bytes. Document 01, "A run of the program `shift`": a line is a letter and
-- numbers in decimal, with a blank before each number, and ends in a newline. Assumes nothing.
use Rattle.std.specs.Prelude.{ℕ, zero, suc, ◌+◌, ◌/◌, ◌%◌, ltb}
use mathlib.Core.List.{List, [], ◌∷◌, ◌++◌, flat_map}
use Rattle.std.specs.Prelude.{if◌then◌else◌}

-- decimal digits in ASCII, the highest first; at most k of them
unfoldable pub digits : ℕ → ℕ → List ℕ
digits zero x = []
digits (suc k) x = if ltb x 10 then (48 + x) ∷ [] else (digits k (x / 10) ++ ((48 + x % 10) ∷ []))

-- numbers below ten milliards
unfoldable pub decimal : ℕ → List ℕ
decimal x = digits 10 x

-- with a blank before it
unfoldable pub word : ℕ → List ℕ
word x = 32 ∷ decimal x

-- a letter's code, then numbers
unfoldable pub head : ℕ → List ℕ → List ℕ
head letter xs = letter ∷ flat_map word xs

unfoldable pub line : ℕ → List ℕ → List ℕ
line letter xs = head letter xs ++ (10 ∷ [])

-- The key ring of this module: `unfolding opened` opens every definition above.
unfoldable pub opened : Unit {0}
unfolding flat_map digits decimal word head line
opened = tt
