-- What a list of edits leaves in the buffers that it is run with: the division that its edits leave, and two numbers an
-- edit, which are read back as the edits' answers. Assumes nothing.
use Prim.Native.Nat.{ℕ, suc, ◌+◌, ◌*◌}
use mathlib.Core.Path.{◌≡◌, refl, sym, ◌∙◌, ap, ap₂}
use mathlib.Core.Bool.{true}
use mathlib.Core.List.{List, [], ◌∷◌, ◌++◌, flat_map}
use native.Mathlib.Omega.{arith}
use lib.Dec.{leb}
use lib.ListN.{length, get_or, drop}
use borrow.Author.Tests.{eq-eqb, le-leb}
use Rattle.base.specs.Runs.{answers}
use Rattle.timetable.specs.FileForms.{newest_form}
use Rattle.timetable.specs.Outputs.{output_after}
use Rattle.machine.specs.Calls.{division_after}
use Rattle.edit_calls.specs.Lists.{answer_numbers, answers_of, division_of, division_left, answers_left, run_division, run_answers}
use Rattle.edit_calls.specs.between.Taken.{edits_at}
use Rattle.edit_calls.proofs.RunLaws.{answers_length}
use Rattle.shift_lines.specs.Types.{Edit, Network, Answer}
use Rattle.shift_lines.specs.between.Listing.{told, answer_at, answers_from, EditsFile}

-- an answer for each edit
told_many : (n : Network) (es : List Edit) (division : List ℕ) → length (told n es division) ≡ length es
unfolding told answers
told_many n [] division = refl
told_many n (e ∷ es) division = ap (λ (k : ℕ). suc k) (told_many n es (division_after n e division))

-- numbers that are, from 2 * i on, those of answers
answers_back : (as' : List Answer) (rest xs : List ℕ) (i : ℕ) → ((j : ℕ) → get_or xs (2 * i + j) 0 ≡ get_or (flat_map answer_numbers as' ++ rest) j 0)
    → answers_from (length as') xs i ≡ as'
unfolding answers_from answer_at flat_map answer_numbers
answers_back [] rest xs i h = refl
answers_back (a ∷ as') rest xs i h =
    ap₂ (λ (x : Answer) (l : List Answer). x ∷ l)
    (ap₂ (λ (k l : ℕ). record { refusal = k; removed = l }) (ap (λ (j : ℕ). get_or xs j 0) (omega arith) ∙ h 0) (h 1))
    (answers_back as' rest xs (i + 1) (λ j. ap (λ (l : ℕ). get_or xs l 0) (omega arith) ∙ h (suc (suc j))))

module _ (n : Network) (file : List ℕ) (first count : ℕ) (f : EditsFile file first count) (division out : List ℕ) (size : length division ≡ 49152)
    (room : length out ≡ 2000) where
  abbrev es : List Edit
  es = edits_at newest_form count file first

  fits : leb (length (answers_of n es division)) (length out) ≡ true
  fits = le-leb (length (answers_of n es division)) (length out) (omega (arith, answers_length n es division, f.0, f.2, room))

  pub division_run : run_division newest_form n file division out ≡ division_of n es division
  unfolding run_division division_left
  division_run = rw (eq-eqb (length division) 49152 size, f.3, fits)

  answers_run : run_answers newest_form n file division out ≡ answers_of n es division ++ drop (length (answers_of n es division)) out
  unfolding run_answers answers_left output_after
  answers_run = rw (eq-eqb (length division) 49152 size, f.3, fits)

  pub answers_told : answers_from count (run_answers newest_form n file division out) 0 ≡ told n es division
  unfolding answers_of told
  answers_told =
      ap (λ (k : ℕ). answers_from k (run_answers newest_form n file division out) 0) (sym (told_many n es division ∙ f.2))
      ∙ answers_back (told n es division) (drop (length (answers_of n es division)) out) (run_answers newest_form n file division out) 0
      (λ j. ap₂ (λ (l : ℕ) (xs : List ℕ). get_or xs l 0) (omega arith) answers_run)
