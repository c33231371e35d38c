-- One edit of a list, with its answer, and the rest: its line and the lines of the rest, its part in the tally. Assumes
-- nothing.
use Prim.Native.Nat.{ℕ, suc, ◌+◌}
use mathlib.Core.Path.{◌≡◌, refl, ap}
use mathlib.Core.Bool.{true}
use mathlib.Core.List.{List, [], ◌∷◌, ◌++◌, flat_map}
use Rattle.timetable.specs.Formats.{Outcome, accepted, refused, read}
use Rattle.timetable.specs.FileForms.{newest_form}
use Rattle.timetable.specs.EditsFile.{edit_entry}
use Rattle.timetable.specs.Listing.{answer_lines}
use Rattle.timetable.specs.Count.{raise_all}
use Rattle.edit_calls.specs.between.Taken.{edits_at, can_be_read}
use Rattle.edit_calls.proofs.TakenLaws.{first_taken, none_taken, rest_read, not_stopped}
use Rattle.listings.specs.Text.{line}
use Rattle.listings.specs.Shift.{line_text}
use Rattle.shift_lines.specs.Types.{Edit, Answer, Tally}
use Rattle.shift_lines.specs.between.Listing.{answer_at, answers_from, answers_text, next_tally, next_place}

abbrev answer_line : ℕ → Answer → List ℕ
answer_line k a = line 69 (k ∷ a.refusal ∷ a.removed ∷ [])

-- the answers in a list of numbers, from that of the edit i on
module _ (xs : List ℕ) (k i : ℕ) where
  pub lines_next : (j : ℕ) → answers_text j (answers_from (suc k) xs i) ≡ answer_line j (answer_at xs i) ++ answers_text (j + 1) (answers_from k xs (i + 1))
  unfolding answers_from answers_text answer_lines line_text flat_map
  lines_next j = refl

  -- the edit at a place of the file, and those behind it
  pub next_taken : (file : List ℕ) (at : ℕ) (o : Outcome Edit) → read (edit_entry newest_form) file at ≡ o → can_be_read newest_form (suc k) file at ≡ true
      → (can_be_read newest_form k file (next_place o at) ≡ true)
      × ((y : Tally)
      → raise_all y (edits_at newest_form (suc k) file at) (answers_from (suc k) xs i) ≡ raise_all (next_tally o (answer_at xs i) y) (edits_at newest_form k file (next_place o at)) (answers_from k xs (i + 1)))
  unfolding answers_from raise_all next_tally next_place
  next_taken file at (accepted e p) here t =
      (rest_read newest_form k file at e p here t, λ y. ap (λ (es : List Edit). raise_all y es (answers_from (suc k) xs i)) (first_taken newest_form k file at e p here t))
  next_taken file at (refused l p) here t = absurd (not_stopped newest_form k file at l p here t)

pub lines_none : (xs : List ℕ) (i j : ℕ) → answers_text j (answers_from 0 xs i) ≡ []
unfolding answers_from answers_text answer_lines flat_map
lines_none xs i j = refl

pub tally_none : (xs : List ℕ) (i : ℕ) (file : List ℕ) (at : ℕ) (y : Tally) → raise_all y (edits_at newest_form 0 file at) (answers_from 0 xs i) ≡ y
unfolding answers_from raise_all
tally_none xs i file at y = ap (λ (es : List Edit). raise_all y es []) (none_taken newest_form file at)
