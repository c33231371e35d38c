-- The rows of a projection as the functions print them, from their numbers, four by four. Assumes nothing.
use Rattle.std.specs.Prelude.{ℕ, ◌+◌, ◌*◌, ◌&&◌, leb, ℤ, pos, length, get_or, take}
use mathlib.Core.List.{List, [], ◌∷◌, ◌++◌, flat_map}
use Rattle.std.specs.Int.{w32}
use Rattle.std.proofs.Common.{to_z, of_z}
use Rattle.std.specs.Prelude.{if◌then◌else◌}
use Rattle.listings.specs.Text.{head}
use Rattle.listings.specs.Inspect.{signed}
use Rattle.text.specs.between.Lines.{far}

-- a number with its sign and a blank before it
unfoldable pub signed_word : ℤ → List ℕ
signed_word z = 32 ∷ signed z

-- a number of a lent slice, as the machine keeps it
abbrev pub kept : ℤ → ℤ
kept z = to_z w32 (of_z w32 z)

-- the four numbers of a row from a place on
unfoldable pub row_at : List ℤ → ℕ → List ℤ
row_at zs i = kept (get_or zs i (pos 0)) ∷ kept (get_or zs (i + 1) (pos 0)) ∷ kept (get_or zs (i + 2) (pos 0)) ∷ kept (get_or zs (i + 3) (pos 0)) ∷ []

-- J, the station and the train, and the numbers of a row
unfoldable pub row_line : ℕ → ℕ → List ℤ → List ℕ
row_line s t zs = head 74 (s ∷ t ∷ []) ++ (flat_map signed_word zs ++ (10 ∷ []))

-- the rows of the projection from s, t
unfoldable pub rows_text : ℕ → ℕ → List ℤ → List ℕ
rows_text s t [] = []
rows_text s t (k ∷ []) = []
rows_text s t (k ∷ a ∷ []) = []
rows_text s t (k ∷ a ∷ d ∷ []) = []
rows_text s t (k ∷ a ∷ d ∷ l ∷ rest) = row_line s t (kept k ∷ kept a ∷ kept d ∷ kept l ∷ []) ++ rows_text s t rest

-- the first `count` of them, at most sixteen
unfoldable pub rows_at : ℕ → ℕ → ℕ → ℕ → List ℤ → List ℕ
rows_at at s t count zs = if leb at far && (leb count 16 && leb (4 * count) (length zs)) then rows_text s t (take (4 * count) zs) else []

-- The key ring of this module: `unfolding opened` opens every definition above.
unfoldable pub opened : Unit {0}
unfolding flat_map signed_word row_at row_line rows_text rows_at
opened = tt
