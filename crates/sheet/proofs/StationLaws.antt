-- A station's page of a sheet: the bytes that are cut out, by the tests that the code makes; and the table that they
-- hold, which is the station's of the timetable that the sheet holds. Assumes nothing.
use Prim.Native.Nat.{ℕ, ◌+◌, ◌*◌, ◌-◌, ◌≤◌}
use mathlib.Core.Path.{◌≡◌, sym, ◌∙◌}
use mathlib.Core.Bool.{true, false}
use mathlib.Core.List.{List, []}
use native.Mathlib.Nat.{add-sub_cancel_left}
use native.Mathlib.Omega.{arith}
use lib.Dec.{leb, leb→le}
use lib.ListN.{length, take, drop}
use borrow.Author.Tests.{eq-eqb, ne_eqb}
use Rattle.base.proofs.Tests.{by_value, true_T, and_l, and_r}
use Rattle.base.specs.Lists.{within}
use Rattle.railway.specs.Ranges.{station_ok}
use Rattle.sheet.specs.Types.{Station}
use Rattle.page.specs.between.Changes.{table_in}
use Rattle.sheet.specs.Sheets.{page_at, decode_sheet, station_part}
use Rattle.page.proofs.SlotLaws.{table_of_page, table_of_none}
use Rattle.sheet.proofs.SheetLaws.{page_size, decoded_page, decoded_none}

pub station_bounds : (k : ℕ) → within 1 16 k ≡ true → (1 ≤ k) × (k ≤ 16)
station_bounds k e =
    let t = true_T (within 1 16 k) e in
    (leb→le 1 k (and_l (leb 1 k) (leb k 16) t), leb→le k 16 (and_r (leb 1 k) (leb k 16) t))

module _ (sheet : List ℕ) (s : Station) where
  pub station_is : (z : ℕ) → z ≡ s.0 → length sheet ≡ 8192 → station_ok s ≡ true
      → take (512 * (z - 1) + 512 - 512 * (z - 1)) (drop (512 * (z - 1)) sheet) ≡ station_part sheet s
  unfolding station_part page_at
  station_is z e long ok = rw (add-sub_cancel_left (512 * (z - 1)) 512, e, eq-eqb (length sheet) 8192 long, ok)

  pub station_none : length sheet ≡ 8192 → station_ok s ≡ false → [] ≡ station_part sheet s
  unfolding station_part
  station_none long ok = rw (eq-eqb (length sheet) 8192 long, ok)

  pub station_short : ¬ (length sheet ≡ 8192) → [] ≡ station_part sheet s
  unfolding station_part
  station_short h = rw (ne_eqb (length sheet) 8192 h)

  -- the table that it holds
  pub station_table : length sheet ≡ 8192 → table_in (station_part sheet s) ≡ decode_sheet sheet s
  unfolding station_part
  station_table long =
      by_value (station_ok s)
      (λ ok.
      let t = true_T (station_ok s) ok in
      rw (eq-eqb (length sheet) 8192 long, ok) (table_of_page (page_at sheet s) (page_size sheet s long t) ∙ sym (decoded_page sheet s t)))
      (λ ok. rw (eq-eqb (length sheet) 8192 long, ok) (table_of_none [] (λ e. omega arith) ∙ sym (decoded_none sheet s ok)))
