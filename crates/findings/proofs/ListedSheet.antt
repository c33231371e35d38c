-- What a sheet is whose list of findings is not refused: of the right length, of a good network, and good, so that its
-- timetable is whole. Assumes nothing.
use Prim.Native.Nat.{ℕ}
use mathlib.Core.Path.{◌≡◌}
use mathlib.Core.Bool.{true}
use mathlib.Core.List.{List}
use lib.Dec.{T, eqb}
use lib.ListN.{length}
use borrow.Author.Tests.{eqb-true}
use Rattle.base.proofs.Tests.{true_T}
use Rattle.network.specs.Networks.{network_refusal, listed}
use Rattle.timetable.specs.Good.{Whole}
use Rattle.timetable.proofs.RefusalLaws.{call_passed}
use Rattle.sheet.specs.Sheets.{decode_sheet, good_sheet}
use Rattle.network.proofs.AreaLaws.{listed_ok}
use Rattle.sheet.proofs.SheetLaws.{decoded_good}
use Rattle.findings.specs.Lists.{sheet_list_refusal}
use Rattle.findings.specs.Types.{Network}

-- what a sheet is whose list is not refused

module _ (n : Network) (sheet : List ℕ) (fine : sheet_list_refusal n sheet ≡ 0) where
  pub parts_fine : (eqb (length sheet) 8192 ≡ true) × (network_refusal n ≡ 0) × (good_sheet n (listed n) sheet ≡ true)
  unfolding sheet_list_refusal
  parts_fine = let p = call_passed (eqb (length sheet) 8192) (network_refusal n) (good_sheet n (listed n) sheet) 0 fine in (p.0, p.1, p.2)

  pub fine_size : length sheet ≡ 8192
  fine_size = eqb-true (length sheet) 8192 parts_fine.0

  pub fine_network : network_refusal n ≡ 0
  fine_network = parts_fine.1

  pub fine_sheet : T (good_sheet n (listed n) sheet)
  fine_sheet = true_T (good_sheet n (listed n) sheet) parts_fine.2

  pub sheet_whole : Whole n (decode_sheet sheet)
  sheet_whole = decoded_good n (listed n) (listed_ok n fine_network) sheet fine_size fine_sheet
