-- The areas of a good network: a listed station has an area of 1..6, any other has 0. Each row in use is in range, and
-- the first with the station gives its area. Assumes nothing.
use Prim.Native.Nat.{ℕ, ◌≤◌}
use mathlib.Core.Path.{◌≡◌, refl, sym}
use mathlib.Core.Bool.{Bool, true, false, ◌&&◌, ◌||◌}
use mathlib.Core.List.{List, [], ◌∷◌, map}
use Rattle.std.specs.Prelude.{Some}
use native.Mathlib.Omega.{arith}
use lib.Dec.{T, ltb, leb, leb→le, eqb→eq}
use borrow.Author.Tests.{lt-ltb}
use Rattle.base.specs.Choice.{◌if◌else◌}
use Rattle.std.specs.Prelude.{if◌then◌else◌}
use Rattle.base.specs.Lists.{any, every, first, within}
use Rattle.base.proofs.Tests.{and_l, and_r, or_cases, eqb_turned, every_head, every_tail}
use Rattle.railway.specs.Ranges.{same_station, station_ok, area_ok}
use Rattle.network.specs.Networks.{network_refusal, station_rows, station_row_ok, stations_of, row_area}
use Rattle.network.specs.Networks.{listed, station_row, area_of}
use Rattle.network.specs.declared.StationRow.{StationRow}
use Rattle.network.specs.Types.{Station, Network}
use Rattle.network.proofs.NetworkLaws.{network_facts}

abbrev Placed : Bool → ℕ → Type 0
Placed true x = T (within 1 6 x)
Placed false x = x ≡ 0

row_placed : (k : Station) (rows : List StationRow) → T (every station_row_ok rows)
    → Placed (any (same_station k) (map (λ r. r.station) rows)) (row_area (first (λ r. same_station r.station k) rows))
unfolding every any first station_row_ok
row_placed k [] ok = refl
row_placed k (r ∷ rows) ok =
    rw (eqb_turned k.0 r.station.0) (go (same_station r.station k) (row_placed k rows (and_r (station_row_ok r) (every station_row_ok rows) ok)))
  where
    go : (b : Bool) → Placed (any (same_station k) (map (λ q. q.station) rows)) (row_area (first (λ q. same_station q.station k) rows))
        → Placed (b || any (same_station k) (map (λ q. q.station) rows)) (row_area (if b then Some r else first (λ q. same_station q.station k) rows))
    go true later =
        and_l (area_ok r.area) (within 1 8 r.tracks)
        (and_r (station_ok r.station) (area_ok r.area && within 1 8 r.tracks) (and_l (station_row_ok r) (every station_row_ok rows) ok))
    go false later = later

module _ (n : Network) (good : network_refusal n ≡ 0) where
  rows_ok : T (every station_row_ok (station_rows n))
  rows_ok = (network_facts n good).station_rows_ok

  placed : (k : Station) → Placed (listed n k) (area_of n k)
  unfolding listed stations_of station_row area_of
  placed k = row_placed k (station_rows n) rows_ok

  pub area_high : (k : Station) → area_of n k ≤ 6
  area_high k = go (listed n k) (placed k)
    where
      go : (b : Bool) → Placed b (area_of n k) → area_of n k ≤ 6
      go true p = leb→le (area_of n k) 6 (and_r (leb 1 (area_of n k)) (leb (area_of n k) 6) p)
      go false p = omega arith

  -- listed is having an area
  pub listed_placed : (k : Station) → listed n k ≡ ltb 0 (area_of n k)
  listed_placed k = go (listed n k) (placed k)
    where
      go : (b : Bool) → Placed b (area_of n k) → b ≡ ltb 0 (area_of n k)
      go true p = sym (lt-ltb 0 (area_of n k) (omega (arith, leb→le 1 (area_of n k) (and_l (leb 1 (area_of n k)) (leb (area_of n k) 6) p))))
      go false p = rw p

  -- a listed station's number is in range
  pub listed_ok : (k : Station) → T (listed n k) → T (station_ok k)
  unfolding listed stations_of every any station_row_ok
  listed_ok k t = go (station_rows n) rows_ok t
    where
      go : (rows : List StationRow) → T (every station_row_ok rows) → T (any (same_station k) (map (λ r. r.station) rows)) → T (station_ok k)
      go [] ok u = absurd u
      go (r ∷ rows) ok u =
          or_cases (same_station k r.station) (any (same_station k) (map (λ q. q.station) rows)) u
          (λ e. rw (eqb→eq k.0 r.station.0 e) (and_l (station_ok r.station) (area_ok r.area && within 1 8 r.tracks) (every_head station_row_ok r rows ok)))
          (go rows (every_tail station_row_ok r rows ok))
