-- The rows of a network's stations, gone through from an index on: the next page that edit 11 changes. Assumes nothing.
use Prim.Native.Nat.{ℕ, ◌+◌, ◌<◌, ◌≤◌}
use mathlib.Core.Path.{◌≡◌, refl, ap}
use mathlib.Core.List.{List, [], ◌∷◌, map}
use native.Mathlib.Omega.{arith}
use lib.ListN.{length, get_or, drop, drop_of_length-le, length-take}
use Rattle.base.proofs.Lengths.{drop_next}
use Rattle.network.specs.Networks.{blank_station, station_rows, stations_of}
use Rattle.network.specs.declared.StationRow.{StationRow}
use Rattle.edit_changes.specs.between.EditPages.{page_without}
use Rattle.sheet.specs.between.Frames.{frame, change_frame}
use Rattle.page_edits.specs.Types.{Layout, Train, Network}
use Rattle.page_edits.specs.between.PageEdits.{place_of, places, sweep, visits_on, swept}

map_map : {A B C : Type 0} (f : B → C) (g : A → B) (xs : List A) → map f (map g xs) ≡ map (λ x. f (g x)) xs
map_map f g [] = refl
map_map f g (x ∷ xs) = ap (λ ys. f (g x) ∷ ys) (map_map f g xs)

-- the index of the page of a row's station
abbrev pub spot : Layout → Network → StationRow → ℕ
spot layout n r = place_of layout n r.station

pub places_are : (layout : Layout) (n : Network) → places layout n ≡ map (spot layout n) (station_rows n)
unfolding stations_of
places_are layout n = map_map (place_of layout n) (λ r. r.station) (station_rows n)

module _ (rows : List StationRow) (i : ℕ) (g : StationRow → ℕ) (t : Train) (b : List ℕ) where
  pub swept_on : i < length rows
      → swept t (map g (drop i rows)) b ≡ visits_on t (frame (g (get_or rows i blank_station)) b) + swept t (map g (drop (i + 1) rows)) (change_frame (g (get_or rows i blank_station)) (page_without t) b)
  unfolding swept
  swept_on h = ap (λ (l : List StationRow). swept t (map g l) b) (drop_next rows i blank_station h)

  pub sweep_on : i < length rows → sweep t (map g (drop i rows)) b ≡ sweep t (map g (drop (i + 1) rows)) (change_frame (g (get_or rows i blank_station)) (page_without t) b)
  unfolding sweep
  sweep_on h = ap (λ (l : List StationRow). sweep t (map g l) b) (drop_next rows i blank_station h)

  pub swept_over : length rows ≤ i → swept t (map g (drop i rows)) b ≡ 0
  unfolding swept
  swept_over h = rw (drop_of_length-le rows {i = i} h)

  pub sweep_over : length rows ≤ i → sweep t (map g (drop i rows)) b ≡ b
  unfolding sweep
  sweep_over h = rw (drop_of_length-le rows {i = i} h)

-- at most sixteen
pub rows_few : (n : Network) → length n.stations ≡ 16 → length (station_rows n) ≤ 16
unfolding station_rows
rows_few n h = simp length-take (omega arith)
