-- What stays of a lent list, and the list together with what is redone, over the numbers in their buffers. Assumes
-- nothing.
use Rattle.std.specs.Prelude.{ℕ, ◌+◌, ◌*◌, ◌-◌, ◌%◌, ◌<◌, ◌≤◌, ◌≡◌, Bool, not, ◌&&◌, ◌||◌, List, [], ◌∷◌, ◌++◌, eqb, leb, ltb, length, take, drop, get_or}
use Rattle.base.specs.Lists.{keep, below}
use Rattle.timetable.specs.Findings.{numbers_of, findings_in}
use Rattle.timetable.specs.Recheck.{together}
use Rattle.scope.specs.Redone.{is_redone}
use Rattle.recheck.specs.Types.{Finding, Marks}

-- the four numbers at a place
unfoldable pub four_at : ℕ → List ℕ → List ℕ
four_at i xs = get_or xs i 0 ∷ get_or xs (i + 1) 0 ∷ get_or xs (i + 2) 0 ∷ get_or xs (i + 3) 0 ∷ []

-- the numbers from one place up to another
abbrev pub part : ℕ → ℕ → List ℕ → List ℕ
part i end xs = take (end - i) (drop i xs)

unfoldable pub before_at : ℕ → List ℕ → ℕ → List ℕ → Bool
before_at i a j b = below (four_at i a) (four_at j b)

unfoldable pub kept : Marks → List Finding → List Finding
kept marks fs = keep (λ f. not (is_redone marks f.station.0 f.rule)) fs

unfoldable pub kept_numbers : Marks → List ℕ → List ℕ
kept_numbers marks list = numbers_of (kept marks (findings_in list))

-- the stations of a list's findings do not fall, as in one that rises
abbrev pub Ordered : List ℕ → Type 0
Ordered list = (i j : ℕ) → i ≤ j → i % 4 ≡ 0 → j % 4 ≡ 0 → j + 4 ≤ length list → get_or list i 0 ≤ get_or list j 0

-- the findings from one place up to another are of a station
abbrev pub Alike : ℕ → List ℕ → ℕ → ℕ → Type 0
Alike station list i end = (j : ℕ) → i + 4 * j < end → get_or list (i + 4 * j) 0 ≡ station

-- whole findings from one place up to another, at least one, and all of the station of the first
abbrev pub Run : List ℕ → ℕ → ℕ → Type 0
Run list i end = (i + 4 ≤ end) × (end ≤ length list) × ((end - i) % 4 ≡ 0) × Alike (get_or list i 0) list i end

-- of the findings from one place up to another so many numbers stay
abbrev pub Stay : Marks → List ℕ → ℕ → ℕ → ℕ → Type 0
Stay marks list i end n = (n ≤ end - i) × (length (kept_numbers marks (drop i list)) ≡ n + length (kept_numbers marks (drop end list)))

-- a redone finding is left from a place to the end, and it is before the list's
unfoldable pub comes_first : ℕ → ℕ → List ℕ → ℕ → List ℕ → Bool
comes_first from end out i list = leb (from + 4) end && before_at from out i list

-- nothing is redone at a station, and no redone finding is left from a place to the end, or its station is greater
unfoldable pub run_first : ℕ → ℕ → List ℕ → ℕ → ℕ → Bool
run_first from end out station level = eqb level 0 && (ltb end (from + 4) || ltb station (get_or out from 0))

-- the list's numbers together with the redone ones
unfoldable pub list_with : Marks → List ℕ → List ℕ → List ℕ
list_with marks list redone = numbers_of (together (kept marks (findings_in list)) (findings_in redone))

-- the redone numbers stand from k to the end, in whole findings, and the gap before them has room for what stays
abbrev pub CanWeave : Marks → List ℕ → ℕ → ℕ → List ℕ → Type 0
CanWeave marks list k end out = (length (kept_numbers marks list) ≡ k) × (k ≤ end) × (end ≤ length out) × ((end - k) % 4 ≡ 0)

unfoldable pub woven : Marks → List ℕ → ℕ → ℕ → List ℕ → List ℕ
woven marks list k end out = list_with marks list (part k end out) ++ drop end out

-- a part has just the room for these numbers, and a draft that is no shorter begins with them
abbrev pub Drafted : List ℕ → List ℕ → List ℕ → Type 0
Drafted xs draft part = (length part ≡ length xs) × (length part ≤ length draft → take (length part) draft ≡ xs)

-- The key ring of this module: `unfolding opened` opens every definition above.
unfoldable pub opened : Unit {0}
unfolding four_at before_at kept kept_numbers comes_first run_first list_with woven
opened = tt
