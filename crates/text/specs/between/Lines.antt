-- What the functions put: lines of numbers and of findings. A place that is further than any text, and numbers that are
-- not there, put nothing. Assumes nothing.
use Rattle.std.specs.Prelude.{ℕ, ◌+◌, ◌*◌, ◌&&◌, List, [], ◌∷◌, ◌++◌, eqb, leb, length, get_or, take}
use Rattle.std.specs.Prelude.{if◌then◌else◌}
use Rattle.listings.specs.Text.{line}
use Rattle.listings.specs.Shift.{refusal_text}

-- further than any text
abbrev pub far : ℕ
far = 800000000

-- a line of at most six numbers
unfoldable pub line_at : ℕ → ℕ → List ℕ → List ℕ
line_at at letter xs = if leb at far && leb (length xs) 6 then line letter xs else []

-- the line of a refusal, whose place is one of an input
unfoldable pub refusal_at : ℕ → ℕ → List ℕ
refusal_at number place = if leb place 16384 then refusal_text number place else []

-- the areas that a list is of: none, one or two; 0 stands for none
unfoldable pub of_areas : ℕ → ℕ → List ℕ
of_areas a b = if eqb a 0 then [] else if eqb b 0 then a ∷ [] else (a ∷ b ∷ [])

-- four numbers from a place on
unfoldable pub four_at : List ℕ → ℕ → List ℕ
four_at xs i = get_or xs i 0 ∷ get_or xs (i + 1) 0 ∷ get_or xs (i + 2) 0 ∷ get_or xs (i + 3) 0 ∷ []

-- the lines of a list of findings, from its numbers, four by four
unfoldable pub findings_text : ℕ → List ℕ → List ℕ → List ℕ
findings_text letter areas [] = []
findings_text letter areas (s ∷ []) = []
findings_text letter areas (s ∷ r ∷ []) = []
findings_text letter areas (s ∷ r ∷ a ∷ []) = []
findings_text letter areas (s ∷ r ∷ a ∷ b ∷ rest) = line letter (areas ++ (s ∷ r ∷ a ∷ b ∷ [])) ++ findings_text letter areas rest

-- the first `count` of them, at most two hundred thousand
unfoldable pub findings_at : ℕ → ℕ → List ℕ → ℕ → List ℕ → List ℕ
findings_at at letter areas count xs =
    if leb at far && (leb count 200000 && leb (4 * count) (length xs)) then findings_text letter areas (take (4 * count) xs) else []

-- The key ring of this module: `unfolding opened` opens every definition above.
unfoldable pub opened : Unit {0}
unfolding line_at refusal_at of_areas four_at findings_text findings_at
opened = tt
