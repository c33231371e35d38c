-- Histories: what the order in which edits reach the centre can change, of the bytes of any division. The history of an
-- area is the edits that name it, in their order. Document 01, "Sheets and division": "It reads and changes only the
-- sheets of those areas"; "each edit works on what the one before left, under one network, and nothing else writes
-- there meanwhile." So lists of edits that give every area the same history are the same to every area: they leave the
-- same bytes, and each area's edits get the same answers. By the definitions that the contract of the edit on a
-- division cites; networks and sheets may be good or not. Nothing here is proved. Assumes nothing.
use Rattle.std.specs.Prelude.{ℕ, ◌≡◌, Bool, not, ◌&&◌, ◌||◌, T, length}
use mathlib.Core.List.{List, [], ◌∷◌, map, flat_map}
use Rattle.std.specs.Prelude.{if◌then◌else◌}
use Rattle.base.specs.Lists.{every}
use Rattle.base.specs.Runs.{run, answers}
use Rattle.railway.specs.Ranges.{area_ok}
use Rattle.network.specs.Networks.{area_of}
use Rattle.timetable.specs.Groups.{six, names_group}
use Rattle.theory.specs.Reordering.{along, history, Reordering}
use Rattle.theory.specs.Serial.{Work, Serial, numbered}
use Rattle.sheet.specs.Sheets.{sheet_at}
use Rattle.machine.specs.Calls.{division_answer, division_after}
use Rattle.demands.specs.Types.{Area, Edit, Network, Answer}

-- the edits of a list that name the area, in their order
abbrev pub history_of : Network → ℕ → List Edit → List Edit
history_of n a es = history (names_group n (area_of n)) a es

-- what they answer, each on what the one before it in the whole list left
unfoldable pub told : Network → ℕ → List Edit → List ℕ → List Answer
told n a [] d = []
told n a (e ∷ es) d =
    if names_group n (area_of n) e a then division_answer n e d ∷ told n a es (division_after n e d) else told n a es (division_after n e d)

-- 1. Any order of which demand 3 speaks, from any division, good or not: the same answers, and the same bytes in the
-- end.
pub record SameBytes (n : Network) (d : List ℕ) (es : List Edit) (ps : List ℕ) : Type 0 where
  pub same_answers : answers (division_after n) (division_answer n) (along es ps) d ≡ along (answers (division_after n) (division_answer n) es d) ps
  pub same_division : run (division_after n) (along es ps) d ≡ run (division_after n) es d

abbrev pub AnyOrderOfBytes : Type 0
AnyOrderOfBytes = (n : Network) (d : List ℕ) → length d ≡ 49152 → (es : List Edit) (ps : List ℕ) → Reordering (names_group n (area_of n)) es ps → SameBytes n d es ps

-- 2. Two lists of edits, of whatever lengths, in which every area has the same history. An edit that names no area
-- stands in no history: it changes nothing. A reordering that demand 3 allows is such a list: it keeps every area's
-- history.
abbrev pub ReorderingsKeepHistories : Type 0
ReorderingsKeepHistories = (n : Network) (es : List Edit) (ps : List ℕ) → Reordering (names_group n (area_of n)) es ps
    → (a : ℕ) → history_of n a (along es ps) ≡ history_of n a es

pub record SameHistory (n : Network) (d : List ℕ) (es es' : List Edit) : Type 0 where
  pub same_division : run (division_after n) es d ≡ run (division_after n) es' d
  pub same_told : (a : Area) → T (area_ok a) → told n a.0 es d ≡ told n a.0 es' d

abbrev pub HistoriesDecide : Type 0
HistoriesDecide = (n : Network) (d : List ℕ) → length d ≡ 49152 → (es es' : List Edit)
    → ((a : Area) → T (area_ok a) → history_of n a.0 es ≡ history_of n a.0 es') → SameHistory n d es es'

-- 3. Some areas by themselves: where no edit names both an area of a set and one outside it, the sheets of the set, and
-- what its edits answer, depend on the sheets and the histories of the set alone. The two divisions and the two lists
-- may differ in everything else.
unfoldable pub keeps_to : Network → (ℕ → Bool) → Edit → Bool
keeps_to n own e = every (λ a. not (names_group n (area_of n) e a) || own a) six

unfoldable pub keeps_off : Network → (ℕ → Bool) → Edit → Bool
keeps_off n own e = every (λ a. not (names_group n (area_of n) e a && own a)) six

abbrev pub takes_sides : Network → (ℕ → Bool) → Edit → Bool
takes_sides n own e = keeps_to n own e || keeps_off n own e

pub record SameWithin (n : Network) (own : ℕ → Bool) (d d' : List ℕ) (es es' : List Edit) : Type 0 where
  pub same_sheets : (a : Area) → T (area_ok a) → T (own a.0) → sheet_at (run (division_after n) es d) a.0 ≡ sheet_at (run (division_after n) es' d') a.0
  pub same_told : (a : Area) → T (area_ok a) → T (own a.0) → told n a.0 es d ≡ told n a.0 es' d'

abbrev pub AreasByThemselves : Type 0
AreasByThemselves = (n : Network) (own : ℕ → Bool) (d d' : List ℕ) → length d ≡ 49152 → length d' ≡ 49152
    → ((a : Area) → T (area_ok a) → T (own a.0) → sheet_at d a.0 ≡ sheet_at d' a.0)
    → (es es' : List Edit) → T (every (takes_sides n own) es) → T (every (takes_sides n own) es')
    → ((a : Area) → T (area_ok a) → T (own a.0) → history_of n a.0 es ≡ history_of n a.0 es')
    → SameWithin n own d d' es es'

-- 4. Areas apart: each area's sheet stands in a place of its own and has versions there, and each edit reads and writes
-- the sheets that it names at once, at one position of each (theory Serial). Then answers and sheets are those of the
-- edits one after another, in any order that keeps the positions of every area.
abbrev pub names_area : Network → Edit → ℕ → Bool
names_area n e a = area_ok (record { 0 = a }) && names_group n (area_of n) e a

-- every version of an area's sheet has a sheet's length
abbrev pub Sheets : (ℕ → ℕ → List ℕ) → Type 0
Sheets versions = (a : Area) → T (area_ok a) → (t : ℕ) → length (versions a.0 t) ≡ 8192

-- the sheets that stand at the positions, as a division
unfoldable pub standing : (ℕ → ℕ → List ℕ) → (ℕ → ℕ) → List ℕ
standing versions p = flat_map (λ a. versions a (p a)) six

-- what the call makes of an area's sheet, lent the sheets that stand at the edit's positions
abbrev pub written : Network → (ℕ → ℕ → List ℕ) → Work Edit ℕ → ℕ → List ℕ
written n versions x a = sheet_at (division_after n x.edit (standing versions x.position)) a

-- from the positions `first` to the positions `last`, the edits in the order ps
pub record AsListed (n : Network) (versions : ℕ → ℕ → List ℕ) (first last : ℕ → ℕ) (xs : List (Work Edit ℕ)) (ps : List ℕ) : Type 0 where
  pub same_answers : answers (division_after n) (division_answer n) (along (map (λ x. x.edit) xs) ps) (standing versions first)
      ≡ along (map (λ x. division_answer n x.edit (standing versions x.position)) xs) ps
  pub same_division : run (division_after n) (along (map (λ x. x.edit) xs) ps) (standing versions first) ≡ standing versions last

abbrev pub PositionsDecide : Type 0
PositionsDecide = (n : Network) (versions : ℕ → ℕ → List ℕ) → Sheets versions → (first last : ℕ → ℕ) (xs : List (Work Edit ℕ))
    → Serial (names_area n) versions (written n versions) first last xs
    → (ps : List ℕ) → Reordering (names_group n (area_of n)) (map (λ x. x.edit) xs) ps → AsListed n versions first last xs ps

-- Edits one after another on a division are done so: the versions are the sheets that each edit leaves.
pub record Positioned (n : Network) (d : List ℕ) (es : List Edit) (versions : ℕ → ℕ → List ℕ) : Type 0 where
  pub sheets : Sheets versions
  pub start : standing versions (λ a. 0) ≡ d
  pub serial : Serial (names_area n) versions (written n versions) (λ a. 0) (λ a. length es) (numbered 0 es)

abbrev pub EveryRunHasPositions : Type 0
EveryRunHasPositions = (n : Network) (d : List ℕ) → length d ≡ 49152 → (es : List Edit) → (versions : ℕ → ℕ → List ℕ) × Positioned n d es versions

-- The key ring of this module: `unfolding opened` opens every definition above.
unfoldable pub opened : Unit {0}
unfolding told keeps_to keeps_off standing
opened = tt
