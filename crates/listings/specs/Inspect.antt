-- What the program `inspect` prints, as bytes: of a network and a timetable in one file, the central findings (F), each
-- area's (D and the area) and each pair's (P and the two areas), T as `shift` has it, from each visit its projection
-- (J, the station and the train), and whether the timetable is written as it was read (W). The limit of its input and
-- the line of a refusal are those of `shift`. Document 01 does not have this program; it runs what document 01 has
-- beside `shift`. Assumes nothing.
use Rattle.std.specs.Prelude.{ℕ, ◌+◌, min, ltb, ℤ, pos, negsuc, length, drop}
use mathlib.Core.List.{List, [], ◌∷◌, ◌++◌, map, flat_map}
use Rattle.base.specs.Choice.{◌if◌else◌}
use Rattle.std.specs.Prelude.{if◌then◌else◌}
use Rattle.base.specs.Lists.{pairs, same}
use Rattle.railway.specs.Ranges.{last_minute}
use Rattle.network.specs.Networks.{stations_of, area_of}
use Rattle.timetable.specs.Visits.{arr}
use Rattle.timetable.specs.Tables.{Entry}
use Rattle.timetable.specs.Machine.{Timetable}
use Rattle.timetable.specs.Groups.{six}
use Rattle.timetable.specs.Formats.{Outcome, accepted, refused, bytes_of}
use Rattle.timetable.specs.TimetableFile.{timetable_numbers}
use Rattle.timetable.specs.InspectFile.{Inspection, read_inspect}
use Rattle.timetable.specs.Findings.{findings, group_findings, pair_findings}
use Rattle.timetable.specs.Projection.{projection}
use Rattle.timetable.specs.Count.{visit_count, relation_count}
use Rattle.listings.specs.Types.{Station, Network, Finding, Row}
use Rattle.listings.specs.Text.{decimal, head, line}
use Rattle.listings.specs.Shift.{refusal_text}

-- findings, each behind the areas whose list it stands in
unfoldable pub listed_text : ℕ → List ℕ → List Finding → List ℕ
listed_text letter areas fs = flat_map (λ f. line letter (areas ++ (f.station.0 ∷ f.rule ∷ f.first ∷ f.second ∷ []))) fs

-- a number with its sign, where it is below nought
unfoldable pub signed : ℤ → List ℕ
signed (pos k) = decimal k
signed (negsuc k) = 45 ∷ decimal (k + 1)

-- a row of the projection from s, t
unfoldable pub row_text : ℕ → ℕ → Row → List ℕ
row_text s t r = head 74 (s ∷ t ∷ r.station.0 ∷ r.arrival ∷ r.departure ∷ []) ++ (32 ∷ signed r.lateness ++ (10 ∷ []))

module _ (n : Network) (m : Timetable) where
  unfoldable pub whole_text : List ℕ
  whole_text = listed_text 70 [] (findings n m)

  unfoldable pub area_text : ℕ → List ℕ
  area_text a = listed_text 68 (a ∷ []) (group_findings n (area_of n) m a)

  unfoldable pub pair_text : ℕ × ℕ → List ℕ
  pair_text ab = listed_text 80 (ab.0 ∷ ab.1 ∷ []) (pair_findings n (area_of n) m ab.0 ab.1)

  unfoldable pub totals_text : List ℕ
  totals_text = line 84 (visit_count n m ∷ relation_count n m ∷ length (findings n m) ∷ [])

  -- the projection from a visit, with its stored arrival plus 5, at most the last minute, as the expected one
  unfoldable pub visit_text : Station → Entry → List ℕ
  visit_text s e = flat_map (row_text s.0 e.train.0) (projection m e.train s (min (arr e.visit + 5) last_minute))

  unfoldable pub journeys_text : List ℕ
  journeys_text = flat_map (λ s. flat_map (visit_text s) (m s).visits) (stations_of n)

  -- the bytes that were read as the timetable
  unfoldable pub written_text : List ℕ → List ℕ
  written_text bytes = line 87 ((1 if same (bytes_of (timetable_numbers n m)) bytes else 0) ∷ [])

-- the parts, in their order: F, six of D, fifteen of P, T, J, W
unfoldable pub parts_of : Network → Timetable → List ℕ → List (List ℕ)
parts_of n m bytes =
    whole_text n m
    ∷ (map (area_text n m) six
    ++ (map (pair_text n m) (pairs six)
    ++ (totals_text n m ∷ journeys_text n m ∷ written_text n m bytes ∷ [])))

unfoldable pub inspect_told : List ℕ → Outcome Inspection → List (List ℕ)
inspect_told input (accepted x next) = parts_of x.network x.timetable (drop x.first input)
inspect_told input (refused k p) = refusal_text k p ∷ []

unfoldable pub inspect_parts : List ℕ → List (List ℕ)
inspect_parts input = if ltb 16384 (length input) then refusal_text 5 0 ∷ [] else inspect_told input (read_inspect input)

-- all of them
unfoldable pub inspect_text : List ℕ → List ℕ
inspect_text input = flat_map (λ part. part) (inspect_parts input)

-- The key ring of this module: `unfolding opened` opens every definition above.
unfoldable pub opened : Unit {0}
unfolding listed_text signed row_text whole_text area_text pair_text totals_text visit_text journeys_text written_text parts_of inspect_told inspect_parts
    inspect_text
opened = tt
