-- A sheet or a division as pages of 512 bytes in a row: a page is a page wherever it stands. The page of a station is
-- found by its index, counted from 0. Assumes nothing.
use Rattle.std.specs.Prelude.{ℕ, ◌+◌, ◌*◌, ◌-◌, List, [], ◌∷◌, map, eqb}
use Rattle.base.specs.Choice.{◌if◌else◌}
use Rattle.std.specs.Prelude.{if◌then◌else◌}
use Rattle.network.specs.Networks.{area_of, stations_of}
use Rattle.timetable.specs.Tables.{has_visit}
use Rattle.timetable.specs.Machine.{meaning}
use Rattle.actions.specs.between.Shapes.{shape_of}
use Rattle.page.specs.between.Changes.{table_in}
use Rattle.edit_refusals.specs.between.Refusing.{refuses_on}
use Rattle.edit_changes.specs.between.EditPages.{page_without, here_page, there_page}
use Rattle.page_edits.specs.Types.{Layout, Station, Train, Edit, Network, Answer, Shape, Local, Throughout}
use Rattle.sheet.specs.between.Frames.{frame, change_frame}

-- the index of a station's page: in a sheet by its number, in a division by its area first
unfoldable pub place_of : Layout → Network → Station → ℕ
place_of Layout.Sheet n k = k.0 - 1
place_of Layout.Division n k = 16 * (area_of n k - 1) + (k.0 - 1)

-- and how long they are: sixteen pages, and six times as many
abbrev pub bytes_of : Layout → ℕ
bytes_of Layout.Sheet = 8192
bytes_of Layout.Division = 49152

-- edit 11: pages changed alike, one after the other
unfoldable pub sweep : Train → List ℕ → List ℕ → List ℕ
sweep t [] b = b
sweep t (i ∷ is) b = sweep t is (change_frame i (page_without t) b)

-- how many of them had a visit of its train
unfoldable pub visits_on : Train → List ℕ → ℕ
visits_on t page = 1 if has_visit t (table_in page) else 0

unfoldable pub swept : Train → List ℕ → List ℕ → ℕ
swept t [] b = 0
swept t (i ∷ is) b = visits_on t (frame i b) + swept t is (change_frame i (page_without t) b)

-- an edit on the page at i, of s, and that at j, of p

unfoldable pub pair_refusal : Network → Edit → ℕ → ℕ → List ℕ → ℕ
pair_refusal n e i j b = refuses_on n (meaning e) (frame i b) (frame j b)

abbrev pub removed_in : Shape → ℕ
removed_in (Local home away adds removes) = removes
removed_in (Throughout t) = 0

unfoldable pub pair_answer : Network → Edit → ℕ → ℕ → List ℕ → Answer
pair_answer n e i j b = record {
  refusal = pair_refusal n e i j b;
  removed = if eqb (pair_refusal n e i j b) 0 then removed_in (shape_of (meaning e)) else 0;
}

-- where s and p are one, the page of s is what counts
unfoldable pub far_changed : Edit → ℕ → ℕ → List ℕ → List ℕ
far_changed e i j b = if eqb i j then b else change_frame j (there_page e) b

unfoldable pub pair_after : Network → Edit → ℕ → ℕ → List ℕ → List ℕ
pair_after n e i j b = if eqb (pair_refusal n e i j b) 0 then change_frame i (here_page e) (far_changed e i j b) else b

-- an edit on all the pages that it names, by its shape

abbrev pub places : Layout → Network → List ℕ
places layout n = map (place_of layout n) (stations_of n)

unfoldable pub pair_changed : Edit → ℕ → ℕ → List ℕ → List ℕ
pair_changed e i j b = change_frame i (here_page e) (far_changed e i j b)

module _ {A : Type 0} (layout : Layout) (n : Network) where
  -- by the places of its two pages, or by its train and the places of all
  abbrev pub by_shape : (ℕ → ℕ → A) → (Train → List ℕ → A) → Shape → A
  by_shape two all (Local home away adds removes) = two (place_of layout n home) (place_of layout n away)
  by_shape two all (Throughout t) = all t (places layout n)

-- what they refuse it with
unfoldable pub frames_refusal : Layout → Network → Edit → List ℕ → ℕ
frames_refusal layout n e b = by_shape layout n (λ i j. pair_refusal n e i j b) (λ t is. 0) (shape_of (meaning e))

-- where they do not refuse it: how many visits it removes, and what it makes of them
unfoldable pub frames_removed : Layout → Network → Edit → List ℕ → ℕ
frames_removed layout n e b = by_shape layout n (λ i j. removed_in (shape_of (meaning e))) (λ t is. swept t is b) (shape_of (meaning e))

unfoldable pub frames_changed : Layout → Network → Edit → List ℕ → List ℕ
frames_changed layout n e b = by_shape layout n (λ i j. pair_changed e i j b) (λ t is. sweep t is b) (shape_of (meaning e))

unfoldable pub frames_answer : Layout → Network → Edit → List ℕ → Answer
frames_answer layout n e b =
    by_shape layout n (λ i j. pair_answer n e i j b) (λ t is. record { refusal = 0; removed = swept t is b }) (shape_of (meaning e))

unfoldable pub frames_after : Layout → Network → Edit → List ℕ → List ℕ
frames_after layout n e b = by_shape layout n (λ i j. pair_after n e i j b) (λ t is. sweep t is b) (shape_of (meaning e))

-- The key ring of this module: `unfolding opened` opens every definition above.
unfoldable pub opened : Unit {0}
unfolding place_of sweep visits_on swept pair_refusal pair_answer far_changed pair_after
    frames_refusal frames_removed pair_changed frames_changed frames_answer frames_after
opened = tt
