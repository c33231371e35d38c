-- An old file's network has one time a line (roundtrips `both_times`), so that it finds what the rules found (theory
-- FreightAlike); the calls' lists are numbers of those. Assumes nothing.
use mathlib.Core.Path.{ap}
use mathlib.Core.Bool.{◌||◌}
use lib.Dec.{eqb}
use Rattle.network.specs.Networks.{area_of}
use Rattle.timetable.specs.declared.NetworkForm.{NetworkForm}
use Rattle.timetable.specs.Groups.{gather}
use Rattle.timetable.specs.Findings.{numbers_of, pair_list}
use Rattle.sheet.specs.Sheets.{decode_sheet}
use Rattle.findings.specs.Lists.{sheet_list, area_list, two_parts, two_list}
use Rattle.roundtrips.proofs.TurnedTrips.{turned_trips, both_times}
use Rattle.theory.proofs.FreightAlike.{one_time_alike}
use Rattle.demands.specs.Turning.{TurnedFilesFindAlike}

pub turned_files_find_alike : TurnedFilesFindAlike
unfolding sheet_list area_list two_list pair_list
turned_files_find_alike file n next s e =
    let one = both_times file n next s e in
    record {
      reads = (turned_trips NetworkForm.OneTime).back file n next s e;
      finds = one_time_alike n one;
      sheet_lists = λ sheet. ap numbers_of (one_time_alike n one (area_of n) (decode_sheet sheet)).whole;
      area_lists = λ sheet a. ap numbers_of ((one_time_alike n one (area_of n) (decode_sheet sheet)).group a.0);
      pair_lists = λ first second a b.
          ap numbers_of ((one_time_alike n one (area_of n) (gather (area_of n) (λ x. eqb x a.0 || eqb x b.0) (two_parts first second a b))).pair a.0 b.0);
    }
