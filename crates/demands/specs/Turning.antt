-- What is promised of a network file of W1's form, of the calls' bytes. Document 02, W3: "An old network file, its
-- closures kept, is turned into a new one by giving both times the old number; such a network must yield the old
-- findings." By the definitions that the contracts of turning and of the lists of findings cite; rule 5 as it was
-- stands in theory Freight. Nothing here is proved. Assumes nothing.
use Rattle.std.specs.Prelude.{ℕ, ◌≡◌, ◌||◌, List, map, eqb, length}
use Rattle.network.specs.Networks.{area_of}
use Rattle.timetable.specs.declared.NetworkForm.{NetworkForm}
use Rattle.timetable.specs.Formats.{accepted}
use Rattle.timetable.specs.Machine.{Timetable}
use Rattle.timetable.specs.Groups.{Grouping, gather}
use Rattle.timetable.specs.Findings.{numbers_of, picked, inside, between}
use Rattle.timetable.specs.NetworkFile.{read_network_as, read_network}
use Rattle.timetable.specs.Turning.{turned}
use Rattle.sheet.specs.Sheets.{decode_sheet}
use Rattle.findings.specs.Lists.{sheet_list, area_list, two_parts, two_list}
use Rattle.roundtrips.specs.RoundTrips.{Bytes}
use Rattle.theory.specs.Freight.{found_had, FoundAlike}
use Rattle.demands.specs.Types.{Area, Network}

-- of a network that was read from an old file: the turned file reads to it, and its lists are those of the rules as
-- they were, of every timetable and grouping; as the calls list them, of every sheet
pub record TurnedAlike (n : Network) : Type 0 where
  pub reads : read_network (turned n) ≡ accepted n (length (turned n))
  pub finds : (γ : Grouping) (m : Timetable) → FoundAlike n γ m
  pub sheet_lists : (sheet : List ℕ) → sheet_list n sheet ≡ numbers_of (map (λ x. x.found) (found_had n (decode_sheet sheet)))
  pub area_lists : (sheet : List ℕ) (a : Area) → area_list n sheet a ≡ numbers_of (picked (inside (area_of n) a.0) (found_had n (decode_sheet sheet)))
  pub pair_lists : (first second : List ℕ) (a b : Area) → two_list n first second a b
      ≡ numbers_of (picked (between (area_of n) a.0 b.0) (found_had n (gather (area_of n) (λ x. eqb x a.0 || eqb x b.0) (two_parts first second a b))))

abbrev pub TurnedFilesFindAlike : Type 0
TurnedFilesFindAlike =
    (file : List ℕ) (n : Network) (next : ℕ) → Bytes file → read_network_as NetworkForm.OneTime file ≡ accepted n next → TurnedAlike n
