-- The tables of the pages that are found in a sheet are those that it holds. Assumes nothing.
use Prim.Native.Nat.{ℕ}
use mathlib.Core.Path.{◌≡◌, ap, fun_ext}
use mathlib.Core.List.{List}
use lib.ListN.{length}
use Rattle.page.specs.between.Changes.{table_in}
use Rattle.sheet.specs.Sheets.{decode_sheet, station_part}
use Rattle.sheet.proofs.StationLaws.{station_table}
use Rattle.rule_tests.specs.Types.{Station}
use Rattle.rule_tests.specs.between.Tests.{held}

-- the page of a station, as it is found
pub page_read : (sheet page : List ℕ) (s : Station) → page ≡ station_part sheet s → table_in page ≡ held sheet s
unfolding held
page_read sheet page s e = ap table_in e

pub held_is : (sheet : List ℕ) → length sheet ≡ 8192 → held sheet ≡ decode_sheet sheet
unfolding held
held_is sheet long = fun_ext λ s. station_table sheet s long
