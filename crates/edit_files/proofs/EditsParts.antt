-- Lists of edits, edit by edit, and what the answer of a list tells of the outcome. Assumes nothing.
use Prim.Native.Nat.{ℕ, suc, ◌+◌, ◌-◌, ◌<◌, ◌≤◌}
use mathlib.Core.Path.{◌≡◌, sym, ◌∙◌, ap}
use mathlib.Core.List.{List, [], ◌∷◌}
use native.Mathlib.Omega.{arith}
use lib.ListN.{length}
use Rattle.railway.specs.declared.edit.Edit.{Edit}
use Rattle.timetable.specs.declared.FileForm.{FileForm}
use Rattle.timetable.specs.Formats.{Format, Outcome, accepted, refused, read, ended, read_file, entries, Placed}
use Rattle.timetable.specs.EditsFile.{edit_entry, edits_on}
use Rattle.timetable.proofs.OutcomeLaws.{clash}
use Rattle.fields.proofs.ReadLaws.{prefixed, entries_next, entries_stop, entries_over}
use Rattle.fields.proofs.EntryLaws.{entries_many, ends_there, goes_on}
use Rattle.network_files.proofs.PlaceLaws.{next_within}
use Rattle.edit_files.specs.declared.list.EditList.{EditList}
use Rattle.edit_files.specs.Answers.{list_of, listed}

pub edits_many : (form : FileForm) (k : ℕ) (file : List ℕ) (at : ℕ) (es : List Edit) (next : ℕ) → read (edits_on form k) file at ≡ accepted es next → length es ≡ k
unfolding edits_on
edits_many form k file at es next e = entries_many (λ floor. edit_entry form) (λ e. []) k [] file at es next e

-- what is left to read of a list, edit by edit
abbrev pub left_at : FileForm → List ℕ → ℕ → ℕ → Outcome (List Edit)
left_at form file k place = read (entries (λ floor. edit_entry form) (λ e. []) k []) file place

module _ (form : FileForm) (file : List ℕ) (n i place : ℕ) where
  pub edit_taken : i < n → (e : Edit) (next : ℕ) → read (edit_entry form) file place ≡ accepted e next → left_at form file (n - i) place ≡ prefixed (e ∷ []) (left_at form file (n - (i + 1)) next)
  edit_taken h e next q =
      let m : n - i ≡ suc (n - (i + 1)) = omega arith in
      rw m (entries_next (λ floor. edit_entry form) (λ e. []) [] file place (n - (i + 1)) e next q)

  pub edit_stopped : i < n → (k p : ℕ) → read (edit_entry form) file place ≡ refused k p → left_at form file (n - i) place ≡ refused k p
  edit_stopped h k p q =
      let m : n - i ≡ suc (n - (i + 1)) = omega arith in
      rw m (entries_stop (λ floor. edit_entry form) (λ e. []) [] file place (n - (i + 1)) k p q)

  pub edits_over : n ≤ i → left_at form file (n - i) place ≡ accepted [] place
  edits_over h = let m : n - i ≡ 0 = omega arith in rw m (entries_over (λ floor. edit_entry form) (λ e. []) [] file place)

-- what the answer of a list tells of the outcome
module _ (o : Outcome (Placed (List Edit))) where
  pub listed_on : (l : EditList) (next : ℕ) → accepted l next ≡ listed o → (x : Placed (List Edit)) × (o ≡ accepted x next) × (l ≡ list_of x)
  unfolding listed
  listed_on l next e = go o e
    where
      go : (o : Outcome (Placed (List Edit))) → accepted l next ≡ listed o → (x : Placed (List Edit)) × (o ≡ accepted x next) × (l ≡ list_of x)
      go (accepted x p) q = (x, (cc), (cc))
      go (refused k p) q = clash l next k p (sym q)

  pub listed_stop : (k p : ℕ) → refused k p ≡ listed o → o ≡ refused k p
  unfolding listed
  listed_stop k p e = go o e
    where
      go : (o : Outcome (Placed (List Edit))) → refused k p ≡ listed o → o ≡ refused k p
      go (accepted x next) q = clash (list_of x) next k p q
      go (refused j r) q = cc

-- a whole file: it ends where reading ends
module _ {A : Type 0} (f : Format A) (file : List ℕ) where
  pub file_read : (a : A) (next : ℕ) → read f file 0 ≡ accepted a next → length file ≤ next → read_file f file ≡ accepted a (length file)
  unfolding read_file
  file_read a next e h =
      let z : next ≡ length file = omega (arith, next_within f file 0 (omega arith) a next e) in
      ap (ended file) e ∙ ends_there file a next h ∙ ap (accepted a) z

  pub file_goes_on : (a : A) (next : ℕ) → read f file 0 ≡ accepted a next → next < length file → read_file f file ≡ refused 1 next
  unfolding read_file
  file_goes_on a next e h = ap (ended file) e ∙ goes_on file a next h

  pub file_faulty : (k p : ℕ) → read f file 0 ≡ refused k p → read_file f file ≡ refused k p
  unfolding read_file ended
  file_faulty k p e = ap (ended file) e
