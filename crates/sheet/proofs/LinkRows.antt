-- Links and values with what the network says looked up before. In a good network a link passes just where its line
-- runs so; a row in use that has the line's number is the line's; so the row at the index of the number decides where
-- it has that number. A count of tracks of 0 stands for a station that is not listed: no track is 0. Assumes nothing.
use Prim.Native.Nat.{ℕ, ◌+◌, ◌*◌, ◌-◌, ◌<◌, ◌≤◌}
use mathlib.Core.Path.{◌≡◌, refl, sym, ◌∙◌, ap}
use mathlib.Core.Bool.{Bool, true, false, ◌&&◌}
use mathlib.Core.List.{List}
use Rattle.std.specs.Prelude.{Option, None, Some}
use native.Mathlib.Nat.{add-sub_cancel_left}
use native.Mathlib.Omega.{arith}
use lib.Dec.{T, leb, eqb, leb→le}
use lib.ListN.{length, get_or, take, drop}
use lib.Seq.{get_or-take, get_or-drop}
use borrow.Author.Tests.{le-leb, lt-leb, leb-true}
use Rattle.std.specs.Prelude.{if◌then◌else◌}
use Rattle.base.specs.Lists.{is}
use Rattle.base.proofs.Tests.{parts, and_l, and_r, both, true_T}
use Rattle.railway.specs.Ranges.{track_ok, line_ok, run_ok, minute_ok}
use Rattle.network.specs.Networks.{network_refusal, station_row, blank_line, row_runs, line_row, runs, track_known}
use Rattle.network.proofs.NetworkLaws.{network_facts}
use Rattle.network.proofs.AreaLaws.{listed_ok}
use Rattle.network.proofs.RowsByNumber.{row_at, runs_joined}
use Rattle.timetable.specs.Good.{in_good, out_good, values_good}
use Rattle.records.specs.Records.{in_link, out_link, decode_visit}
use Rattle.sheet.specs.Types.{Station, Line, InLink, OutLink, Inward, Outward, Visit, StationRow, LineRow, Network}
use Rattle.sheet.specs.between.Passes.{row_tracks, tracks_at, values_pass, row_place, row_there, RowOfByte, RowOfIn, RowOfOut}
use Rattle.sheet.proofs.PassLaws.{same_test}

-- the index is one of a network's rows
pub place_low : (l : Line) (k : ℕ) → k ≡ row_place l → k < 32
unfolding row_place
place_low l k p = rw p (go (line_ok l) refl)
  where
    go : (b : Bool) → line_ok l ≡ b → (if b then l.0 - 1 else 0) < 32
    go true e = omega (arith, leb→le l.0 32 (and_r (leb 1 l.0) (leb l.0 32) (true_T (line_ok l) e)))
    go false e = omega arith

module _ (n : Network) (good : network_refusal n ≡ 0) where
  -- the row at the index of a number that is in use, where it has the number, is the line's
  pub row_decides : length n.lines ≡ 32 → (l : Line) (row : LineRow) → row ≡ row_there n l → row.line.0 ≡ l.0 → 0 < l.0 → l.0 ≤ n.linecount
      → (from to : Station) → row_runs row from to ≡ runs n l from to
  unfolding row_there row_place runs
  row_decides many l row e number low high from to =
      let few = leb→le n.linecount 32 (network_facts n good).line_count in
      let place : row_place l ≡ l.0 - 1 = rw (le-leb 1 l.0 (omega arith), le-leb l.0 32 (omega arith)) in
      let here : row ≡ get_or n.lines (l.0 - 1) blank_line = e ∙ ap (λ (i : ℕ). get_or n.lines i blank_line) place in
      let found : line_row n l ≡ Some row =
      row_at n good l (l.0 - 1) blank_line (omega arith) (omega arith) (ap (λ (r : LineRow). r.line.0) (sym here) ∙ number) ∙ ap Some (sym here) in
      rw found

  -- a link of a line that runs names a station that is listed, and is in range
  pub in_good_runs : (s : Station) (i : Inward) → runs n i.line i.station s ≡ in_good n s i
  unfolding in_good
  in_good_runs s i = same_test (runs n i.line i.station s) (in_good n s i) sound (λ t. search parts)
    where
      sound : T (runs n i.line i.station s) → T (in_good n s i)
      sound t =
          let j = runs_joined n good i.line i.station s t in
          let line = j.0 in
          let known = j.1 in
          let station = listed_ok n good i.station known in
          search both

  pub out_good_runs : (s : Station) (o : Outward) → (run_ok o.run && runs n o.line s o.station) ≡ out_good n s o
  unfolding out_good
  out_good_runs s o = same_test (run_ok o.run && runs n o.line s o.station) (out_good n s o) sound (λ t. search (and_l, and_r, both))
    where
      sound : T (run_ok o.run && runs n o.line s o.station) → T (out_good n s o)
      sound t =
          let run : T (run_ok o.run) = search parts in
          let way : T (runs n o.line s o.station) = search parts in
          let j = runs_joined n good o.line s o.station way in
          let line = j.0 in
          let known = j.2 in
          let station = listed_ok n good o.station known in
          search both

-- the rows that were looked up by two bytes of a record are those of its links' lines
module _ (n : Network) (r : List ℕ) (row : LineRow) where
  pub in_row : RowOfByte n (get_or r 10 0) row → RowOfIn n (decode_visit r).inward row
  unfolding decode_visit in_link
  in_row e = go (eqb (get_or r 9 0) 0)
    where
      go : (b : Bool) → RowOfIn n (if b then InLink.Nothing else InLink.From (record { station = record { 0 = get_or r 9 0 }; line = record { 0 = get_or r 10 0 } })) row
      go true = tt
      go false = e

  pub out_row : RowOfByte n (get_or r 12 0) row → RowOfOut n (decode_visit r).outward row
  unfolding decode_visit out_link
  out_row e = go (eqb (get_or r 11 0) 0)
    where
      go : (b : Bool)
          → RowOfOut n (if b then OutLink.Nothing else OutLink.To (record { station = record { 0 = get_or r 11 0 }; line = record { 0 = get_or r 12 0 }; run = get_or r 13 0 })) row
      go true = tt
      go false = e

-- a byte of a record, as the code cuts it
pub byte_of : (b : List ℕ) (i j : ℕ) → j < 16 → get_or (take (16 * i + 16 - 16 * i) (drop (16 * i) b)) j 0 ≡ get_or b (16 * i + j) 0
byte_of b i j h = rw (add-sub_cancel_left (16 * i) 16, get_or-take 16 (drop (16 * i) b) j 0 h, get_or-drop)

pub row_read : (n : Network) (b : List ℕ) (i j k : ℕ) → j < 16 → k ≡ row_place (record { 0 = get_or b (16 * i + j) 0 })
    → RowOfByte n (get_or (take (16 * i + 16 - 16 * i) (drop (16 * i) b)) j 0) (get_or n.lines k blank_line)
unfolding row_there
row_read n b i j k h e = rw (byte_of b i j h, e)

-- the count of tracks decides as the network does
pub values_known : (n : Network) (s : Station) (v : Visit) (k : ℕ) → k ≡ tracks_at n s → values_pass k v ≡ values_good n s v
unfolding values_pass values_good tracks_at track_known
values_known n s v k e = rw e (ap (λ (b : Bool). b && (minute_ok v.arrival && minute_ok v.departure)) (go (station_row n s)))
  where
    nought : (b : Bool) → leb 1 v.track.0 ≡ b → ((b && leb v.track.0 8) && leb v.track.0 0) ≡ ((b && leb v.track.0 8) && false)
    nought true e = rw (lt-leb v.track.0 0 (omega (arith, leb-true 1 v.track.0 e)))
    nought false e = refl

    go : (o : Option StationRow) → (track_ok v.track && leb v.track.0 (row_tracks o)) ≡ (track_ok v.track && is (λ r. leb v.track.0 r.tracks) o)
    go None = nought (leb 1 v.track.0) refl
    go (Some r) = refl
