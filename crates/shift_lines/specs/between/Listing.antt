-- Parts of what `shift` prints, as the functions write them. Assumes nothing.
use Rattle.std.specs.Prelude.{ℕ, zero, suc, ◌+◌, ◌*◌, ◌≤◌, ◌≡◌, true, length, get_or}
use mathlib.Core.List.{List, [], ◌∷◌, ◌++◌, flat_map}
use Rattle.base.specs.Runs.{answers}
use Rattle.timetable.specs.Formats.{Outcome, accepted, refused}
use Rattle.timetable.specs.FileForms.{newest_form}
use Rattle.timetable.specs.EditsFile.{read_edits}
use Rattle.timetable.specs.Machine.{Timetable}
use Rattle.timetable.specs.Count.{raise}
use Rattle.timetable.specs.Listing.{answer_lines, tally_line, listing}
use Rattle.machine.specs.Calls.{division_answer, division_after}
use Rattle.edit_calls.specs.between.Taken.{edits_at, can_be_read}
use Rattle.builder.specs.between.Builder.{findings_most}
use Rattle.listings.specs.Shift.{line_text}
use Rattle.listings.specs.Inspect.{whole_text, totals_text}
use Rattle.shift_lines.specs.Types.{Edit, Network, Answer, Tally}

-- what the edits answer on a division, each on what the one before left
unfoldable pub told : Network → List Edit → List ℕ → List Answer
told n es division = answers (division_after n) (division_answer n) es division

-- the answers that stand in a list of numbers, two an edit: that of the edit i, and k of them from there on
unfoldable pub answer_at : List ℕ → ℕ → Answer
answer_at xs i = record { refusal = get_or xs (2 * i) 0; removed = get_or xs (2 * i + 1) 0 }

unfoldable pub answers_from : ℕ → List ℕ → ℕ → List Answer
answers_from zero xs i = []
answers_from (suc k) xs i = answer_at xs i ∷ answers_from k xs (i + 1)

-- the lines of answers, the first that of the edit k
unfoldable pub answers_text : ℕ → List Answer → List ℕ
answers_text k as' = flat_map line_text (answer_lines k as')

-- what an edit that is read, and its answer, make of the tally, and the place behind it
unfoldable pub next_tally : Outcome Edit → Answer → Tally → Tally
next_tally (accepted e next) a y = raise y e a
next_tally (refused k p) a y = y

unfoldable pub next_place : Outcome Edit → ℕ → ℕ
next_place (accepted e next) at = next
next_place (refused k p) at = at

-- the lines behind those of the edits: findings, totals, the tally
unfoldable pub end_text : Network → Timetable → Tally → List ℕ
end_text n m y = whole_text n m ++ (totals_text n m ++ line_text (tally_line y))

-- all lines of a file that is read as a network and these edits
unfoldable pub run_text : Network → List Edit → List ℕ
run_text n es = flat_map line_text (listing n es)

-- how long what `shift` prints is at most: a line has at most 68 bytes, that of a finding at most 26
abbrev pub shift_most : ℕ
shift_most = 68 * 1000 + (26 * findings_most + 136)

-- an edits file of so many edits, the first at this place
abbrev pub EditsFile : List ℕ → ℕ → ℕ → Type 0
EditsFile file first count =
    (count ≤ 1000)
    × (can_be_read newest_form count file first ≡ true)
    × (length (edits_at newest_form count file first) ≡ count)
    × (read_edits file ≡ accepted (record { place = first; entry = edits_at newest_form count file first }) (length file))

-- The key ring of this module: `unfolding opened` opens every definition above.
unfoldable pub opened : Unit {0}
unfolding told answer_at answers_from answers_text next_tally next_place end_text run_text
opened = tt
