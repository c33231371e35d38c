-- The rows from an arrival on and from a departure on, in each case that the code tells apart, as numbers. Assumes
-- nothing.
use Prim.Native.Nat.{ℕ, zero, suc, ◌+◌, ◌*◌, ◌-◌}
use mathlib.Core.Path.{◌≡◌, refl, sym, ◌∙◌, ap}
use mathlib.Core.Bool.{true, false}
use mathlib.Core.List.{List, [], ◌∷◌, ◌++◌, flat_map}
use Rattle.std.specs.Prelude.{Option, None, Some}
use native.Mathlib.Omega.{arith}
use lib.IntN.{ℤ}
use lib.ListN.{length, take, drop, length-append}
use Rattle.std.specs.Prelude.{if◌then◌else◌}
use Rattle.railway.specs.Ranges.{station_ok}
use Rattle.timetable.specs.Tables.{Table, visit_of}
use Rattle.timetable.specs.Visits.{comes_from, with_out}
use Rattle.timetable.specs.Rules.{out_answered}
use Rattle.timetable.specs.Machine.{Timetable}
use Rattle.timetable.specs.Projection.{expected_arrival, expected_departure, row, from_departure, from_arrival}
use Rattle.sheet.specs.Sheets.{decode_sheet}
use Rattle.page.specs.between.Changes.{table_in}
use Rattle.sheet.proofs.StationLaws.{station_is, station_table}
use Rattle.projection.specs.Types.{Station, Train, Outward, OutLink, Visit, Row}
use Rattle.projection.specs.Numbers.{row_numbers, rows_numbers, arrival_numbers, departure_numbers}
use Rattle.timetable.specs.Outputs.{put}
use Rattle.timetable.proofs.BuffersFilled.{put_append}

-- the page of a station, as the part from its first byte on is read
pub page_there : (sheet : List ℕ) (s : Station) (i : ℕ) → length sheet ≡ 8192 → i ≡ s.0 → station_ok s ≡ true
    → table_in (take (512 * (i - 1) + 512 - 512 * (i - 1)) (drop (512 * (i - 1)) sheet)) ≡ decode_sheet sheet s
page_there sheet s i size e ok = ap table_in (station_is sheet s i e size ok) ∙ station_table sheet s size

-- a link whose far visit is there, or is not
module _ (s : Station) (t : Train) (o : Outward) (there : Table) where
  pub answered_by : (w : Visit) → visit_of t there ≡ Some w → comes_from s o.line w ≡ out_answered s t o there
  unfolding out_answered
  answered_by w e = sym (rw e)

  pub answered_not : visit_of t there ≡ None → false ≡ out_answered s t o there
  unfolding out_answered
  answered_not e = sym (rw e)

-- from an arrival on

abbrev from_found : ℕ → Timetable → Train → Station → ℕ → Option Visit → List Row
from_found k m t s a found =
    elim found [
      | None ↦ []
      | Some v ↦
          row s v (expected_arrival v a)
          ∷ from_departure (from_arrival k m t) m s t v (expected_departure v (expected_arrival v a))
    ]

from_step : (k : ℕ) (m : Timetable) (t : Train) (s : Station) (a : ℕ) → ¬ (k ≡ 0) → from_arrival k m t s a ≡ from_found (k - 1) m t s a (visit_of t (m s))
unfolding from_arrival
from_step zero m t s a z = absurd (z refl)
from_step (suc k) m t s a z = let e : k ≡ suc k - 1 = omega arith in ap (λ (j : ℕ). from_found j m t s a (visit_of t (m s))) e

module _ (sheet : List ℕ) (t : Train) (s : Station) (a : ℕ) where
  pub arrival_none : (k : ℕ) → k ≡ 0 → arrival_numbers k sheet t s a ≡ []
  unfolding arrival_numbers rows_numbers from_arrival flat_map
  arrival_none k e = rw e

  pub arrival_missing : (k : ℕ) → ¬ (k ≡ 0) → visit_of t (decode_sheet sheet s) ≡ None → arrival_numbers k sheet t s a ≡ []
  unfolding arrival_numbers rows_numbers flat_map
  arrival_missing k z e = ap rows_numbers (from_step k (decode_sheet sheet) t s a z ∙ ap (from_found (k - 1) (decode_sheet sheet) t s a) e)

  -- its row, and the rows from its departure on
  pub arrival_row : (k : ℕ) → ¬ (k ≡ 0) → (v : Visit) → visit_of t (decode_sheet sheet s) ≡ Some v
      → arrival_numbers k sheet t s a
      ≡ row_numbers (row s v (expected_arrival v a)) ++ departure_numbers (k - 1) sheet t s v (expected_departure v (expected_arrival v a))
  unfolding arrival_numbers departure_numbers rows_numbers flat_map
  arrival_row k z v e = ap rows_numbers (from_step k (decode_sheet sheet) t s a z ∙ ap (from_found (k - 1) (decode_sheet sheet) t s a) e)

  -- the same, as the code names the row
  pub arrival_known : (k : ℕ) → ¬ (k ≡ 0) → (v : Visit) → visit_of t (decode_sheet sheet s) ≡ Some v
      → (b : ℕ) → b ≡ expected_arrival v a → (r : Row) → r ≡ row s v b
      → arrival_numbers k sheet t s a ≡ row_numbers r ++ departure_numbers (k - 1) sheet t s v r.departure
  unfolding row
  arrival_known k z v e b p r q =
      arrival_row k z v e
      ∙ sym (ap (λ (x : Row). row_numbers x ++ departure_numbers (k - 1) sheet t s v x.departure) (q ∙ ap (row s v) p))

-- from a departure on

module _ (k : ℕ) (sheet : List ℕ) (t : Train) (s : Station) (v : Visit) (d : ℕ) where
  pub departure_last : v.outward ≡ OutLink.Nothing → departure_numbers k sheet t s v d ≡ []
  unfolding departure_numbers rows_numbers from_departure flat_map with_out
  departure_last e = ap (λ (l : OutLink). departure_numbers k sheet t s (with_out l v) d) e

  module _ (o : Outward) (link : v.outward ≡ OutLink.To o) where
    departure_link : departure_numbers k sheet t s v d
        ≡ rows_numbers (if out_answered s t o (decode_sheet sheet o.station) then from_arrival k (decode_sheet sheet) t o.station (d + o.run) else [])
    unfolding departure_numbers from_departure with_out
    departure_link = ap (λ (l : OutLink). departure_numbers k sheet t s (with_out l v) d) link

    pub departure_on : out_answered s t o (decode_sheet sheet o.station) ≡ true
        → departure_numbers k sheet t s v d ≡ arrival_numbers k sheet t o.station (d + o.run)
    unfolding arrival_numbers
    departure_on e = departure_link ∙ rw e

    pub departure_ends : out_answered s t o (decode_sheet sheet o.station) ≡ false → departure_numbers k sheet t s v d ≡ []
    unfolding rows_numbers flat_map
    departure_ends e = departure_link ∙ rw e

-- the numbers written where there are none, and a row's with those behind it

pub none_put : (at : ℕ) (xs b : List ℤ) → xs ≡ [] → (0 ≡ length xs) × (b ≡ put at xs b)
unfolding put
none_put at xs b e = (sym (rw e), sym (rw e))

pub row_put : (at : ℕ) (r : Row) (xs rest b later : List ℤ) (n : ℕ) → xs ≡ row_numbers r ++ rest → n ≡ length rest
    → later ≡ put (at + 4) rest (put at (row_numbers r) b) → (4 + n ≡ length xs) × (later ≡ put at xs b)
unfolding row_numbers
row_put at r xs rest b later n e l p =
    (sym (ap length e ∙ length-append (row_numbers r) rest ∙ omega (arith, l)), p ∙ sym (ap (λ (ys : List ℤ). put at ys b) e ∙ put_append at (row_numbers r) rest b))
