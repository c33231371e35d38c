-- An accepted input of `inspect` gives a good network and a whole timetable under it, so the sheet read is good and
-- holds that timetable. Assumes nothing.
use Prim.Native.Nat.{ℕ}
use mathlib.Core.Path.{◌≡◌}
use mathlib.Core.List.{List}
use lib.ListN.{length}
use borrow.Author.Tests.{eq-eqb}
use Rattle.base.proofs.Tests.{T_true}
use Rattle.network.specs.Networks.{network_refusal, listed}
use Rattle.timetable.specs.Formats.{accepted}
use Rattle.timetable.specs.Machine.{Timetable}
use Rattle.timetable.specs.Good.{Whole}
use Rattle.timetable.specs.InspectFile.{Inspection, read_inspect}
use Rattle.roundtrips.specs.RoundTrips.{Bytes}
use Rattle.roundtrips.proofs.InspectTrips.{inspect_trip}
use Rattle.sheet.specs.Sheets.{encode_sheet, decode_sheet, good_sheet}
use Rattle.machine.proofs.WholeSheets.{whole_good, whole_back}
use Rattle.timetable.specs.Refusals.{or_else, call_refusal}
use Rattle.findings.specs.Lists.{sheet_list_refusal}
use Rattle.inspect_lines.specs.Types.{Network}

-- a good sheet under a good network that holds the timetable
pub record Holds (n : Network) (sheet : List ℕ) (m : Timetable) : Type 0 where
  pub network_good : network_refusal n ≡ 0
  pub size : length sheet ≡ 8192
  pub good : sheet_list_refusal n sheet ≡ 0
  pub held : decode_sheet sheet ≡ m

holds : (n : Network) → network_refusal n ≡ 0 → (m : Timetable) → Whole n m → Holds n (encode_sheet m) m
unfolding sheet_list_refusal call_refusal or_else
holds n g m w =
    let s = whole_good n g m w in
    record {
      network_good = g;
      size = s.size;
      good = rw (eq-eqb (length (encode_sheet m)) 8192 s.size, g, T_true (good_sheet n (listed n) (encode_sheet m)) s.fine);
      held = whole_back n g m w;
    }

pub inspected : (file : List ℕ) → Bytes file → (x : Inspection) (next : ℕ) → read_inspect file ≡ accepted x next → Holds x.network (encode_sheet x.timetable) x.timetable
inspected file bytes x next e = let r = inspect_trip.only file x next bytes e in holds x.network r.good x.timetable r.whole
