-- The forms of timetable files and edits files, and what the earlier one is supplied with. Document 02, W6: "Old files
-- are read as before by naming the earlier form when reading, and their visits get mark 0; what is written is the new
-- form"; W7: "A report read in W6's earlier form carries 2879." Assumes nothing.
use Rattle.std.specs.Prelude.{ℕ, Bool, true, not, List, [], ◌∷◌, eqb, get_or, drop}
use Rattle.base.specs.Choice.{◌if◌else◌}
use Rattle.railway.specs.Ranges.{last_minute}
use Rattle.timetable.specs.Types.{FileForm}
use Rattle.timetable.specs.Formats.{Range, ◌to◌}

-- the form that is written
abbrev pub newest_form : FileForm
newest_form = FileForm.Newest

-- "pending (0) or occurred (1)"; "a stop mark, 0 or 1"
unfoldable pub status_number : Bool → ℕ
status_number b = 1 if b else 0

-- the mark stands behind station, train and track: its range, its number, and which marks a form can say
unfoldable pub mark_range : FileForm → List Range
mark_range FileForm.Earlier = []
mark_range FileForm.Newest = 0 to 1 ∷ []

unfoldable pub mark_numbers : FileForm → Bool → List ℕ
mark_numbers FileForm.Earlier b = []
mark_numbers FileForm.Newest b = status_number b ∷ []

unfoldable pub mark_said : FileForm → Bool → Bool
mark_said FileForm.Earlier b = not b
mark_said FileForm.Newest b = true

-- the minute of a report stands behind station, train and time: the same of it
unfoldable pub minute_range : FileForm → List Range
minute_range FileForm.Earlier = []
minute_range FileForm.Newest = 0 to last_minute ∷ []

unfoldable pub minute_numbers : FileForm → ℕ → List ℕ
minute_numbers FileForm.Earlier k = []
minute_numbers FileForm.Newest k = k ∷ []

unfoldable pub minute_said : FileForm → ℕ → Bool
minute_said FileForm.Earlier k = eqb k last_minute
minute_said FileForm.Newest k = true

-- the numbers of a form from the station on, as the newest has them, where the earlier one lacks the fourth
unfoldable pub with_fourth : FileForm → ℕ → List ℕ → List ℕ
with_fourth FileForm.Earlier x ns = get_or ns 0 0 ∷ get_or ns 1 0 ∷ get_or ns 2 0 ∷ x ∷ drop 3 ns
with_fourth FileForm.Newest x ns = ns

-- "and their visits get mark 0"
abbrev pub with_mark : FileForm → List ℕ → List ℕ
with_mark form ns = with_fourth form 0 ns

-- "carries 2879"
abbrev pub with_minute : FileForm → List ℕ → List ℕ
with_minute form ns = with_fourth form last_minute ns

-- The key ring of this module: `unfolding opened` opens every definition above.
unfoldable pub opened : Unit {0}
unfolding status_number mark_range mark_numbers mark_said minute_range minute_numbers minute_said with_fourth
opened = tt
