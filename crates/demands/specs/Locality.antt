-- An edit reads and changes only the sheets of the areas that it names, to the byte. Document 01, "Sheets and
-- division": "An edit names the areas of its stations s and p; edit 11 names every area with a station; one refused
-- with 3 or 7 names none. It reads and changes only the sheets of those areas." Document 02, W7: one refused with 15
-- "names no area". Of the edit on a division, by the definitions that its contract cites; the sheets may be good or
-- not. Nothing here is proved. Assumes nothing.
use Rattle.std.specs.Prelude.{ℕ, ◌≡◌, T, length}
use mathlib.Core.List.{List, flat_map}
use Rattle.std.specs.Prelude.{if◌then◌else◌}
use Rattle.railway.specs.Ranges.{station_ok, area_ok}
use Rattle.network.specs.Networks.{network_refusal, area_of}
use Rattle.timetable.specs.Groups.{six, names, names_group, naming_none}
use Rattle.records.specs.Bytes.{zeros}
use Rattle.sheet.specs.Sheets.{page_at, sheet_at}
use Rattle.machine.specs.Calls.{sheet_after, division_answer, division_after}
use Rattle.demands.specs.Types.{Station, Area, Edit, Network}

-- two divisions have the same sheet at every area that the edit names
abbrev pub Agree : Network → Edit → List ℕ → List ℕ → Type 0
Agree n e d d' = (a : Area) → T (area_ok a) → T (names_group n (area_of n) e a.0) → sheet_at d a.0 ≡ sheet_at d' a.0

pub record LocalBytes (n : Network) (e : Edit) : Type 0 where
  -- "It reads .. only the sheets of those areas": two divisions that agree there get the same answer
  pub same_answer : (d d' : List ℕ) → length d ≡ 49152 → length d' ≡ 49152 → Agree n e d d' → division_answer n e d ≡ division_answer n e d'
  -- and the same new sheets there, whatever stands in the others
  pub same_change : (d d' : List ℕ) → length d ≡ 49152 → length d' ≡ 49152 → Agree n e d d' → Agree n e (division_after n e d) (division_after n e d')
  -- "and changes only": every other sheet stays byte for byte, in a buffer of any length
  pub others_kept : (d : List ℕ) (a : Area) → T (area_ok a) → ¬ T (names_group n (area_of n) e a.0) → sheet_at (division_after n e d) a.0 ≡ sheet_at d a.0
  pub same_length : (d : List ℕ) → length (division_after n e d) ≡ length d
  -- "one refused with 3 or 7 names none", nor one with 15; of a good network: 3 of a network says nothing of the edit
  pub names_none : network_refusal n ≡ 0 → (d : List ℕ) → T (naming_none (division_answer n e d).refusal)
      → (a : ℕ) → ¬ T (names_group n (area_of n) e a)

-- So a centre that holds each area's sheet in a place of its own may lend the named ones alone: at the place of every
-- other sheet the division may be empty.
unfoldable pub lent : Network → Edit → List ℕ → ℕ → List ℕ
lent n e d a = if names_group n (area_of n) e a then sheet_at d a else zeros 8192

unfoldable pub named_alone : Network → Edit → List ℕ → List ℕ
named_alone n e d = flat_map (lent n e d) six

pub record LentAlone (n : Network) (e : Edit) (d : List ℕ) : Type 0 where
  pub same_answer : division_answer n e (named_alone n e d) ≡ division_answer n e d
  pub same_sheets : Agree n e (division_after n e (named_alone n e d)) (division_after n e d)
  pub others_empty : (a : Area) → T (area_ok a) → ¬ T (names_group n (area_of n) e a.0) → sheet_at (division_after n e (named_alone n e d)) a.0 ≡ zeros 8192

-- "s the station, t the train, p a second station": of a sheet, and of each sheet of a division, only the pages of the
-- stations that the edit names change
pub record LocalPages (n : Network) (e : Edit) : Type 0 where
  pub of_sheet : (sheet : List ℕ) (k : Station) → T (station_ok k) → ¬ T (names n e k) → page_at (sheet_after n e sheet) k ≡ page_at sheet k
  pub of_division : (d : List ℕ) (a : Area) → T (area_ok a) → (k : Station) → T (station_ok k) → ¬ T (names n e k)
      → page_at (sheet_at (division_after n e d) a.0) k ≡ page_at (sheet_at d a.0) k

-- every network, every edit and every division, good or not
abbrev pub PagesAreLocal : Type 0
PagesAreLocal = (n : Network) (e : Edit) → LocalPages n e

abbrev pub EditsAreLocal : Type 0
EditsAreLocal = (n : Network) (e : Edit) → LocalBytes n e

abbrev pub NamedSheetsSuffice : Type 0
NamedSheetsSuffice = (n : Network) (e : Edit) (d : List ℕ) → length d ≡ 49152 → LentAlone n e d

-- The key ring of this module: `unfolding opened` opens every definition above.
unfoldable pub opened : Unit {0}
unfolding lent named_alone
opened = tt
