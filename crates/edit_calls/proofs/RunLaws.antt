-- A list run as a whole, case by case. An accepted file gives its count and the place of its first edit, from which
-- just its edits are taken; each has two numbers in its answer. Assumes nothing.
use Prim.Native.Nat.{ℕ, ◌*◌, ◌≤◌, ◌<◌}
use mathlib.Core.Path.{◌≡◌, refl, sym, ◌∙◌, ap}
use mathlib.Core.Bool.{true}
use mathlib.Core.List.{List, [], ◌∷◌, flat_map}
use native.Mathlib.Omega.{arith}
use lib.ListN.{length}
use borrow.Author.Tests.{eq-eqb, ne_eqb, le-leb, lt-leb}
use Rattle.base.specs.Runs.{answers}
use Rattle.timetable.specs.declared.FileForm.{FileForm}
use Rattle.timetable.specs.Formats.{accepted, refused, field_at, behind, read, read_file, Placed, placed}
use Rattle.timetable.specs.EditsFile.{edit_entry, edits_on, edits_format, read_edits_as}
use Rattle.timetable.specs.Outputs as outputs
use Rattle.timetable.specs.Outputs.{put}
use Rattle.timetable.proofs.OutputLaws.{short_of, filled}
use Rattle.machine.specs.Calls.{division_after}
use Rattle.edit_files.specs.declared.list.EditList.{EditList}
use Rattle.edit_files.specs.Answers.{list_of}
use Rattle.timetable.proofs.OutcomeLaws.{behind_taken, ended_taken}
use Rattle.fields.proofs.EntryLaws.{field_bounded}
use Rattle.fields.proofs.EntryLaws.{placed_read, entries_many}
use Rattle.std.specs.Prelude.{Result, Ok, Err}
use Rattle.base.specs.RefusalNumbers.{number_of}
use Rattle.base.specs.declared.refusal.FileError.{FileError}
use Rattle.base.specs.declared.refusal.Refusal.TheVariants.{WrongLength}
use Rattle.edit_calls.specs.Types.{Edit, Network, RunError}
use Rattle.edit_calls.specs.Lists.{answer_numbers, answers_of, division_of, reply, told_run, division_left, answers_left, run_answer, run_division, run_answers}
use Rattle.edit_calls.specs.between.Taken.{is_accepted, taken, edits_at, can_be_read}

-- two numbers an edit
pub answers_length : (n : Network) (es : List Edit) (division : List ℕ) → length (answers_of n es division) ≡ 2 * length es
unfolding answers_of answers flat_map answer_numbers
answers_length n [] division = omega arith
answers_length n (e ∷ es) division = let h = answers_length n es (division_after n e division) in omega (arith, h)

-- what an accepted file holds
pub record Held (form : FileForm) (file : List ℕ) (r : EditList) : Type 0 where
  pub edits : Placed (List Edit)
  pub next : ℕ
  pub outcome : read_edits_as form file ≡ accepted edits next
  pub few : r.count ≤ 1000
  pub many : length edits.entry ≡ r.count
  pub readable : can_be_read form r.count file r.first ≡ true
  pub are : edits_at form r.count file r.first ≡ edits.entry

pub taken_there : (form : FileForm) (file : List ℕ) (k p j at : ℕ) (es : List Edit) (u : ℕ) → j ≡ k → at ≡ p → read (edits_on form k) file p ≡ accepted es u
    → (can_be_read form j file at ≡ true) × (edits_at form j file at ≡ es)
unfolding can_be_read edits_at is_accepted taken
taken_there form file k p j at es u c s h = (rw (c, s, h), rw (c, s, h))

pub held : (form : FileForm) (file : List ℕ) (r : EditList) (x : Placed (List Edit)) (next : ℕ) → read_edits_as form file ≡ accepted x next → r ≡ list_of x → Held form file r
unfolding read_edits_as read_file edits_format edits_on read behind
held form file r x next e q =
    let (k, p, f, g) = behind_taken (field_at 0 1000 file 0) (λ k p. read (placed (edits_on form k)) file p) x next (ended_taken file (read (edits_format form) file 0) x next e) in
    let (es, u, h, v) = behind_taken (read (edits_on form k) file p) (λ es u. accepted (record { place = p; entry = es }) u) x next (sym (placed_read (edits_on form k) file p) ∙ g) in
    let same : x ≡ record { place = p; entry = es } = cc in
    let count : length es ≡ k = entries_many (λ floor. edit_entry form) (λ e. []) k [] file p es u h in
    let c : r.count ≡ k = rw q (ap (λ (y : Placed (List Edit)). length y.entry) same ∙ count) in
    let s : r.first ≡ p = rw q (ap (λ (y : Placed (List Edit)). y.place) same) in
    let there = taken_there form file k p r.count r.first es u c s h in
    record {
      edits = x;
      next = next;
      outcome = e;
      few = omega (arith, c, (field_bounded 0 1000 file 0 k p f).1);
      many = rw q;
      readable = there.0;
      are = there.1 ∙ sym (ap (λ (y : Placed (List Edit)). y.entry) same);
    }

-- the call, case by case
module _ (form : FileForm) (n : Network) (file division out : List ℕ) where
  abbrev Ends : Result ℕ RunError → List ℕ → List ℕ → Type 0
  Ends r d o = (reply r ≡ run_answer form n file division out) × (d ≡ run_division form n file division out) × (o ≡ run_answers form n file division out)

  pub wrong_length : ¬ (length division ≡ 49152) → Ends (Err (RunError.Refused (record { refusal = WrongLength; place = 0 }))) division out
  unfolding run_answer run_division run_answers reply
  wrong_length h = let f = ne_eqb (length division) 49152 h in (sym (rw f), sym (rw f), sym (rw f))

  module _ (size : length division ≡ 49152) where
    pub file_refused : (e : FileError) → read_edits_as form file ≡ refused (number_of e.refusal) e.place → Ends (Err (RunError.Refused e)) division out
    unfolding run_answer run_division run_answers reply told_run division_left answers_left
    file_refused e o = rw (eq-eqb (length division) 49152 size, o) (refl, refl, refl)

    module _ (r : EditList) (h : Held form file r) where
      abbrev es : List Edit
      es = h.edits.entry

      pub list_short : length out < 2 * r.count → Ends (Err (RunError.TooShort (2 * r.count))) division out
      unfolding run_answer run_division run_answers reply outputs.reply_of told_run division_left answers_left
      list_short s =
          let many : 2 * r.count ≡ length (answers_of n es division) = omega (arith, answers_length n es division, h.many) in
          let x = short_of (answers_of n es division) out (2 * r.count) many s in
          rw (eq-eqb (length division) 49152 size, h.outcome)
          (x.0, sym (rw (lt-leb (length (answers_of n es division)) (length out) (omega (arith, many, s)))), x.1)

      pub list-run : (d o : List ℕ) → 2 * r.count ≤ length out → d ≡ division_of n (edits_at form r.count file r.first) division
          → o ≡ put 0 (answers_of n (edits_at form r.count file r.first) division) out → Ends (Ok (2 * r.count)) d o
      unfolding run_answer run_division run_answers reply outputs.reply_of told_run division_left answers_left
      list-run d o s p q =
          let many : 2 * r.count ≡ length (answers_of n es division) = omega (arith, answers_length n es division, h.many) in
          let x = filled (answers_of n es division) out (2 * r.count) many s in
          rw (eq-eqb (length division) 49152 size, h.outcome) (
            x.0,
            p ∙ ap (λ (l : List Edit). division_of n l division) h.are ∙ sym (rw (le-leb (length (answers_of n es division)) (length out) (omega (arith, many, s)))),
            q ∙ ap (λ (l : List Edit). put 0 (answers_of n l division) out) h.are ∙ x.1,
          )
