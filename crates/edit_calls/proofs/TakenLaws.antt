-- Edits taken from a file one by one: where k + 1 edits can be read, the first is the entry at the place and k can be
-- read behind it. What a run of all does is then the first edit and a run of the rest. Assumes nothing.
use Prim.Native.Nat.{ℕ, suc, ◌+◌, ◌*◌}
use mathlib.Core.Path.{◌≡◌, refl, sym, ◌∙◌, ap, fun_ext}
use mathlib.Core.Bool.{true, false≢true}
use mathlib.Core.List.{List, [], ◌∷◌, ◌++◌, flat_map}
use native.Mathlib.Omega.{arith}
use lib.ListN.{length}
use Rattle.base.specs.Runs.{run, answers}
use Rattle.timetable.specs.declared.FileForm.{FileForm}
use Rattle.timetable.specs.Formats.{Outcome, accepted, refused, done, ◌and_then◌, behind, read, entries}
use Rattle.timetable.specs.EditsFile.{edit_entry, edits_on}
use Rattle.timetable.specs.Outputs.{put}
use Rattle.timetable.proofs.BuffersFilled.{put_append}
use Rattle.machine.specs.Calls.{division_answer, division_after}
use Rattle.fields.proofs.ReadLaws.{read_then}
use Rattle.edit_calls.specs.Types.{Edit, Network}
use Rattle.edit_calls.specs.Lists.{answer_numbers, answers_of, division_of}
use Rattle.edit_calls.specs.between.Taken.{is_accepted, taken, edits_at, can_be_read}

before_accepted : (e : Edit) (o : Outcome (List Edit)) → is_accepted (behind o (λ es next. accepted (e ∷ es) next)) ≡ is_accepted o
unfolding behind is_accepted
before_accepted e (accepted es next) = refl
before_accepted e (refused k p) = refl

before_taken : (e : Edit) (o : Outcome (List Edit)) → is_accepted o ≡ true → taken (behind o (λ es next. accepted (e ∷ es) next)) ≡ e ∷ taken o
unfolding behind is_accepted taken
before_taken e (accepted es next) t = refl
before_taken e (refused k p) t = absurd (false≢true t)

module _ (form : FileForm) (k : ℕ) (file : List ℕ) (at : ℕ) where
  one_more : read (edits_on form (suc k)) file at ≡ behind (read (edit_entry form) file at) (λ e p. behind (read (edits_on form k) file p) (λ es next. accepted (e ∷ es) next))
  unfolding edits_on entries read behind
  one_more =
      read_then (edit_entry form) (λ e. entries (λ floor. edit_entry form) (λ e. []) k [] and_then (λ es. done (e ∷ es))) file at
      ∙ ap (behind (read (edit_entry form) file at)) (fun_ext λ e. fun_ext λ p. read_then (entries (λ floor. edit_entry form) (λ e. []) k []) (λ es. done (e ∷ es)) file p)

  module _ (e : Edit) (p : ℕ) (here : read (edit_entry form) file at ≡ accepted e p) where
    next_are : read (edits_on form (suc k)) file at ≡ behind (read (edits_on form k) file p) (λ es next. accepted (e ∷ es) next)
    unfolding behind
    next_are = one_more ∙ rw here

    pub rest_read : can_be_read form (suc k) file at ≡ true → can_be_read form k file p ≡ true
    unfolding can_be_read
    rest_read t = sym (before_accepted e (read (edits_on form k) file p)) ∙ ap is_accepted (sym next_are) ∙ t

    pub first_taken : can_be_read form (suc k) file at ≡ true → edits_at form (suc k) file at ≡ e ∷ edits_at form k file p
    unfolding can_be_read edits_at
    first_taken t =
        ap taken next_are ∙ before_taken e (read (edits_on form k) file p) (sym (before_accepted e (read (edits_on form k) file p)) ∙ ap is_accepted (sym next_are) ∙ t)

  pub not_stopped : (j p : ℕ) → read (edit_entry form) file at ≡ refused j p → can_be_read form (suc k) file at ≡ true → ⊥
  unfolding can_be_read behind is_accepted
  not_stopped j p here t =
      let stopped : read (edits_on form (suc k)) file at ≡ refused j p = one_more ∙ rw here in false≢true (sym (ap is_accepted stopped) ∙ t)

pub none_taken : (form : FileForm) (file : List ℕ) (at : ℕ) → edits_at form 0 file at ≡ []
unfolding edits_at edits_on entries read taken
none_taken form file at = refl

-- a run of an edit and the rest
module _ (n : Network) (e : Edit) (es : List Edit) (division : List ℕ) where
  pub division_next : division_of n (e ∷ es) division ≡ division_of n es (division_after n e division)
  unfolding division_of run
  division_next = refl

  pub answers_next : answers_of n (e ∷ es) division ≡ answer_numbers (division_answer n e division) ++ answers_of n es (division_after n e division)
  unfolding answers_of answers flat_map
  answers_next = refl

pub answers_none : (n : Network) (division : List ℕ) → answers_of n [] division ≡ []
unfolding answers_of answers flat_map
answers_none n division = refl

pub division_none : (n : Network) (division : List ℕ) → division_of n [] division ≡ division
unfolding division_of run
division_none n division = refl

-- one turn of the loop: the edit at the place, and the edits behind it
module _ (form : FileForm) (n : Network) (file : List ℕ) (at k : ℕ) (e : Edit) (p : ℕ) (here : read (edit_entry form) file at ≡ accepted e p) (t : can_be_read form (suc k) file at ≡ true)
    (division out : List ℕ) (i : ℕ) where
  pub turn_division : division_of n (edits_at form (suc k) file at) division ≡ division_of n (edits_at form k file p) (division_after n e division)
  turn_division = ap (λ (es : List Edit). division_of n es division) (first_taken form k file at e p here t) ∙ division_next n e (edits_at form k file p) division

  pub turn_answers : put (2 * i) (answers_of n (edits_at form (suc k) file at) division) out
      ≡ put (2 * (i + 1)) (answers_of n (edits_at form k file p) (division_after n e division)) (put (2 * i) (answer_numbers (division_answer n e division)) out)
  unfolding answer_numbers
  turn_answers =
      let rest : List ℕ = answers_of n (edits_at form k file p) (division_after n e division) in
      let a : List ℕ = answer_numbers (division_answer n e division) in
      let two : 2 * i + length a ≡ 2 * (i + 1) = omega arith in
      ap (λ (es : List Edit). put (2 * i) (answers_of n es division) out) (first_taken form k file at e p here t)
      ∙ ap (λ (l : List ℕ). put (2 * i) l out) (answers_next n e (edits_at form k file p) division)
      ∙ put_append (2 * i) a rest out
      ∙ ap (λ (j : ℕ). put j rest (put (2 * i) a out)) two
