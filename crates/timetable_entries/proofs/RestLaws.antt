-- A timetable from a place of a file to its end: each refusal in its order, and the timetable that the sheet then
-- holds. Assumes nothing.
use Prim.Native.Nat.{ℕ, ◌<◌, ◌≤◌}
use mathlib.Core.Path.{◌≡◌, refl, sym, ◌∙◌, ap}
use mathlib.Core.List.{List}
use lib.ListN.{length}
use borrow.Author.Tests.{eq-eqb, ne_eqb, le-leb, lt-leb}
use Rattle.timetable.specs.declared.FileForm.{FileForm}
use Rattle.timetable.specs.declared.Fault.{Fault}
use Rattle.timetable.specs.Formats.{Outcome, accepted, refused, behind, read, ended}
use Rattle.timetable.specs.Machine.{Timetable}
use Rattle.timetable.specs.NetworkFile.{unless_fault}
use Rattle.timetable.specs.TimetableFile.{Entries, timetable_format, timetable_of}
use Rattle.timetable.proofs.OutcomeLaws.{clash, fault_free, fault_found}
use Rattle.fields.specs.Outcomes.{end_of}
use Rattle.records.specs.Bytes.{zeros}
use Rattle.sheet.specs.Sheets.{encode_sheet}
use Rattle.timetable_entries.specs.Types.{Network}
use Rattle.timetable_entries.specs.Answers.{fault_told, sheet_of}
use Rattle.timetable.proofs.OutputLaws.{number_there}
use Rattle.base.specs.RefusalNumbers.{number_of}
use Rattle.base.specs.declared.refusal.FileError.{FileError}
use Rattle.std.specs.Prelude.{Option, None, Some}
use Rattle.std.specs.Option.{option_or}
use Rattle.timetable_entries.specs.between.Rest.{rest_of, rest_outcome}
use Rattle.timetable_entries.specs.between.Entering.{Progress, no_fault, all_through}
use Rattle.timetable_entries.proofs.SheetEntries.{progress, Held, timetable_held}
use Rattle.timetable_entries.proofs.PartLaws.{stations_fit, timetable_next}

-- an empty sheet, and no entry refused
abbrev pub start : Progress
start = progress (zeros 8192) no_fault

module _ (form : FileForm) (n : Network) (f : Fault) (file : List ℕ) (at : ℕ) where
  pub entries_faulty : (k p : ℕ) → read (timetable_format form) file at ≡ refused k p → rest_of form n f file at ≡ refused k p
  unfolding rest_of ended behind
  entries_faulty k p q = rw q

  module _ (x : Entries) (next : ℕ) (q : read (timetable_format form) file at ≡ accepted x next) where
    pub goes_on : next < length file → rest_of form n f file at ≡ refused 1 next
    unfolding rest_of ended behind
    goes_on h = rw (q, lt-leb (length file) next h)

    module _ (h : length file ≤ next) where
      at-end : rest_of form n f file at ≡ unless_fault f (timetable_of n x next)
      unfolding rest_of ended behind
      at-end = rw (q, le-leb (length file) next h)

      pub at-fault : ¬ (f.number ≡ 0) → rest_of form n f file at ≡ refused f.number f.place
      at-fault d = at-end ∙ fault_found f (timetable_of n x next) d

      module _ (z : f.number ≡ 0) (g : Fault) (is : g ≡ (all_through n x start).fault) where
        decided : rest_of form n f file at ≡ timetable_of n x next
        decided = at-end ∙ fault_free f (timetable_of n x next) z

        reached : Held (timetable_of n x next) (all_through n x start)
        reached = let (a, b) = stations_fit form file at x next q in timetable_held n x a b next

        pub entry-refused : ¬ (g.number ≡ 0) → rest_of form n f file at ≡ refused g.number g.place
        unfolding Held
        entry-refused d = go (timetable_of n x next) refl reached
          where
            go : (o : Outcome Timetable) → timetable_of n x next ≡ o → Held o (all_through n x start) → rest_of form n f file at ≡ refused g.number g.place
            go (accepted m end) u (v, t) = absurd (d (ap (λ (y : Fault). y.number) is ∙ ap (λ (y : Progress). y.fault.number) v))
            go (refused k p) u (v, t) = decided ∙ u ∙ sym (ap (λ (y : Fault). refused y.number y.place) (is ∙ v))

        pub all-entered : g.number ≡ 0 → (own : List ℕ) → own ≡ (all_through n x start).sheet → (m : Timetable) × (rest_of form n f file at ≡ accepted m next) × (own ≡ encode_sheet m)
        unfolding Held
        all-entered c own same = go (timetable_of n x next) refl reached
          where
            go : (o : Outcome Timetable) → timetable_of n x next ≡ o → Held o (all_through n x start) → (m : Timetable) × (rest_of form n f file at ≡ accepted m next) × (own ≡ encode_sheet m)
            go (accepted m end) u (v, t) = (m, decided ∙ u ∙ ap (accepted m) (timetable_next n x next m end u), same ∙ ap (λ (y : Progress). y.sheet) v)
            go (refused k p) u (v, t) = absurd (t (sym (ap (λ (y : Fault). y.number) (is ∙ v)) ∙ c))

-- the first of the fault and the refused entry decides
module _ (form : FileForm) (n : Network) (file : List ℕ) (at : ℕ) (x : Entries) (next : ℕ) (q : read (timetable_format form) file at ≡ accepted x next) (h : length file ≤ next) where
  pub first-refused : (fault r : Option FileError) → fault_told r ≡ (all_through n x start).fault → (e : FileError) → option_or fault r ≡ Some e
      → rest_of form n (fault_told fault) file at ≡ refused (number_of e.refusal) e.place
  first-refused (Some d) r is e u = let z : d ≡ e = cc in rw (← z) (at-fault form n (fault_told (Some d)) file at x next q h (number_there d.refusal))
  first-refused None r is e u = entry-refused form n (fault_told None) file at x next q h refl (fault_told (Some e)) (sym (ap fault_told u) ∙ is) (number_there e.refusal)

  pub none-refused : (fault r : Option FileError) → fault_told r ≡ (all_through n x start).fault → option_or fault r ≡ None
      → (own : List ℕ) → own ≡ (all_through n x start).sheet → (m : Timetable) × (rest_of form n (fault_told fault) file at ≡ accepted m next) × (own ≡ encode_sheet m)
  none-refused (Some d) r is u own same = absurd (cc)
  none-refused None r is u own same = all-entered form n (fault_told None) file at x next q h refl (fault_told r) is (ap (λ (o : Option FileError). (fault_told o).number) u) own same

-- what is told of the outcome, and what the sheet that is filled then holds
abbrev pub Fills : Outcome Timetable → Outcome (Unit {0}) → List ℕ → Type 0
Fills o told own = (told ≡ end_of o) × ((m : Timetable) (next : ℕ) → o ≡ accepted m next → own ≡ encode_sheet m)

pub fills_none : (o : Outcome Timetable) (k p : ℕ) → o ≡ refused k p → (own : List ℕ) → Fills o (refused k p) own
unfolding end_of
fills_none o k p e own = (sym (ap end_of e), λ m next w. clash m next k p (sym e ∙ w))

pub fills_all : (o : Outcome Timetable) (m : Timetable) (next : ℕ) → o ≡ accepted m next → (own : List ℕ) → own ≡ encode_sheet m → Fills o (accepted tt next) own
unfolding end_of
fills_all o m next e own same = (sym (ap end_of e), λ l later w. same ∙ ap encode_sheet (one l later (sym e ∙ w)))
  where
    one : (l : Timetable) (later : ℕ) → accepted m next ≡ accepted l later → m ≡ l
    one l later w = cc

-- the call

module _ (form : FileForm) (n : Network) (f : Fault) (file : List ℕ) (at : ℕ) (sheet : List ℕ) where
  -- the outcome that the answer tells, and the sheet then
  abbrev pub Tells : Outcome (Unit {0}) → List ℕ → Type 0
  Tells o later = (o ≡ end_of (rest_outcome form n f file at sheet)) × (later ≡ sheet_of (rest_outcome form n f file at sheet) sheet)

  pub no_sheet : ¬ (length sheet ≡ 8192) → Tells (refused 5 0) sheet
  unfolding rest_outcome end_of sheet_of
  no_sheet d = (rw (ne_eqb (length sheet) 8192 d), rw (ne_eqb (length sheet) 8192 d))

  module _ (size : length sheet ≡ 8192) where
    sized : rest_outcome form n f file at sheet ≡ rest_of form n f file at
    unfolding rest_outcome
    sized = rw (eq-eqb (length sheet) 8192 size)

    pub rest_refused : (k p : ℕ) → rest_of form n f file at ≡ refused k p → Tells (refused k p) sheet
    unfolding end_of sheet_of
    rest_refused k p e = (sym (ap end_of (sized ∙ e)), sym (ap (λ (o : Outcome Timetable). sheet_of o sheet) (sized ∙ e)))

    pub rest_taken : (m : Timetable) (next : ℕ) → rest_of form n f file at ≡ accepted m next → Tells (accepted tt next) (encode_sheet m)
    unfolding end_of sheet_of
    rest_taken m next e = (sym (ap end_of (sized ∙ e)), sym (ap (λ (o : Outcome Timetable). sheet_of o sheet) (sized ∙ e)))
