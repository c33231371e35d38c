-- What the program `shift` prints, as bytes. Document 01, "A run of the program `shift`": "Standard input (one file of
-- at most 16,384 bytes, else 5): network, then edits, from an empty division." "A file refusal prints only R, number,
-- place." Assumes nothing.
use Rattle.std.specs.Prelude.{ℕ, ltb, length}
use mathlib.Core.List.{List, [], ◌∷◌, flat_map}
use Rattle.std.specs.Prelude.{if◌then◌else◌}
use Rattle.timetable.specs.Formats.{Outcome, accepted, refused}
use Rattle.timetable.specs.EditsFile.{Shift, read_shift}
use Rattle.timetable.specs.Listing.{listing}
use Rattle.listings.specs.Text.{line}

-- a line of the listing: its letter's code, and its numbers
unfoldable pub line_text : List ℕ → List ℕ
line_text [] = []
line_text (letter ∷ xs) = line letter xs

unfoldable pub refusal_text : ℕ → ℕ → List ℕ
refusal_text k p = line 82 (k ∷ p ∷ [])

unfoldable pub shift_told : Outcome Shift → List ℕ
shift_told (accepted x next) = flat_map line_text (listing x.network x.edits.entry)
shift_told (refused k p) = refusal_text k p

unfoldable pub shift_text : List ℕ → List ℕ
shift_text input = if ltb 16384 (length input) then refusal_text 5 0 else shift_told (read_shift input)

-- The key ring of this module: `unfolding opened` opens every definition above.
unfoldable pub opened : Unit {0}
unfolding line_text refusal_text shift_told shift_text
opened = tt
