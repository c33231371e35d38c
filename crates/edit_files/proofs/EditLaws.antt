-- An edit by its kind: its fields are read, and the edit is made of them. Assumes nothing.
use Prim.Native.Nat.{ℕ}
use mathlib.Core.Path.{◌≡◌, refl, sym, ◌∙◌, ap}
use mathlib.Core.Bool.{Bool, true, false}
use mathlib.Core.List.{List, [], ◌∷◌}
use Rattle.std.specs.Prelude.{if◌then◌else◌}
use lib.ListN.{get_or}
use borrow.Author.Tests.{ne_eqb}
use Rattle.railway.specs.declared.edit.Edit.{Edit}
use Rattle.railway.specs.declared.edit.Edit.TheVariants.{Place, Prepend, Append, DeleteFirst, DeleteLast, Amend, ReportArrival, ReportDeparture, AddRelation, RemoveRelation, DeleteTrain}
use Rattle.timetable.specs.declared.FileForm.{FileForm}
use Rattle.timetable.specs.Formats.{Format, done, field, Outcome, accepted, refused, ◌and_then◌, field_at, behind, read, row, compared, least, floor_after}
use Rattle.timetable.specs.FileForms.{with_mark, with_minute, with_fourth, mark_range}
use Rattle.timetable.specs.EditsFile.{station_relation_entry, plan_ranges, plan_of, extension_ranges, extension_of, deletion_ranges, deletion_of, report_ranges, report_of, edit_ranges, edit_of, has_track, is_report, supplied, edit_fields}
use Rattle.fields.proofs.ReadLaws.{read_then}
use Rattle.edit_files.specs.Entries.{plan_entry, extension_entry, deletion_entry, report_entry}

-- the fields of an extension are those of a plan and three more
pub plan_first : (form : FileForm) (file : List ℕ) (at : ℕ)
    → read (extension_entry form) file at
    ≡ read (plan_entry form and_then (λ p. field 1 16 (λ o. field 1 32 (λ l. field 1 240 (λ r. done (record { plan = p; other = record { 0 = o }; line = record { 0 = l }; run = r })))))) file at
unfolding extension_entry plan_entry extension_ranges plan_ranges extension_of plan_of mark_range with_fourth row compared least floor_after ◌and_then◌
plan_first FileForm.Earlier file at = refl
plan_first FileForm.Newest file at = refl

-- what is read, and then made into something
module _ {A B C : Type 0} (make : B → A) (h : C → B) (f : Format C) (file : List ℕ) (at : ℕ) where
  made_of : read (f and_then (λ c. done (make (h c)))) file at ≡ behind (read (f and_then (λ c. done (h c))) file at) (λ b next. accepted (make b) next)
  unfolding behind read
  made_of =
      read_then f (λ c. done (make (h c))) file at
      ∙ go (read f file at)
      ∙ sym (ap (λ (o : Outcome B). behind o (λ b next. accepted (make b) next)) (read_then f (λ c. done (h c)) file at))
    where
      go : (o : Outcome C) → behind o (λ c next. accepted (make (h c)) next) ≡ behind (behind o (λ c next. accepted (h c) next)) (λ b next. accepted (make b) next)
      go (accepted c next) = refl
      go (refused k p) = refl

-- each kind

module _ (form : FileForm) (file : List ℕ) (at kind : ℕ) where
  abbrev made_by : {B : Type 0} → (B → Edit) → Outcome B → Outcome Edit
  made_by make o = behind o (λ b next. accepted (make b) next)

  pub kind_1 : kind ≡ 1 → read (edit_fields form kind) file at ≡ behind (read (plan_entry form) file at) (λ b next. accepted (Place b) next)
  unfolding edit_fields edit_ranges edit_of supplied has_track is_report plan_entry
  kind_1 e = rw e (made_of Place (λ ns. plan_of (with_mark form ns)) (row (plan_ranges form) []) file at)

  pub kind_2 : kind ≡ 2 → read (edit_fields form kind) file at ≡ behind (read (extension_entry form) file at) (λ b next. accepted (Prepend b) next)
  unfolding edit_fields edit_ranges edit_of supplied has_track is_report extension_entry
  kind_2 e = rw e (made_of Prepend (λ ns. extension_of (with_mark form ns)) (row (extension_ranges form) []) file at)

  pub kind_3 : kind ≡ 3 → read (edit_fields form kind) file at ≡ behind (read (extension_entry form) file at) (λ b next. accepted (Append b) next)
  unfolding edit_fields edit_ranges edit_of supplied has_track is_report extension_entry
  kind_3 e = rw e (made_of Append (λ ns. extension_of (with_mark form ns)) (row (extension_ranges form) []) file at)

  pub kind_4 : kind ≡ 4 → read (edit_fields form kind) file at ≡ behind (read deletion_entry file at) (λ b next. accepted (DeleteFirst b) next)
  unfolding edit_fields edit_ranges edit_of supplied has_track is_report deletion_entry
  kind_4 e = rw e (made_of DeleteFirst deletion_of (row deletion_ranges []) file at)

  pub kind_5 : kind ≡ 5 → read (edit_fields form kind) file at ≡ behind (read deletion_entry file at) (λ b next. accepted (DeleteLast b) next)
  unfolding edit_fields edit_ranges edit_of supplied has_track is_report deletion_entry
  kind_5 e = rw e (made_of DeleteLast deletion_of (row deletion_ranges []) file at)

  pub kind_6 : kind ≡ 6 → read (edit_fields form kind) file at ≡ behind (read (plan_entry form) file at) (λ b next. accepted (Amend b) next)
  unfolding edit_fields edit_ranges edit_of supplied has_track is_report plan_entry
  kind_6 e = rw e (made_of Amend (λ ns. plan_of (with_mark form ns)) (row (plan_ranges form) []) file at)

  pub kind_7 : kind ≡ 7 → read (edit_fields form kind) file at ≡ behind (read (report_entry form) file at) (λ b next. accepted (ReportArrival b) next)
  unfolding edit_fields edit_ranges edit_of supplied has_track is_report report_entry
  kind_7 e = rw e (made_of ReportArrival (λ ns. report_of (with_minute form ns)) (row (report_ranges form) []) file at)

  pub kind_8 : kind ≡ 8 → read (edit_fields form kind) file at ≡ behind (read (report_entry form) file at) (λ b next. accepted (ReportDeparture b) next)
  unfolding edit_fields edit_ranges edit_of supplied has_track is_report report_entry
  kind_8 e = rw e (made_of ReportDeparture (λ ns. report_of (with_minute form ns)) (row (report_ranges form) []) file at)

  pub kind_9 : kind ≡ 9 → read (edit_fields form kind) file at ≡ behind (read (station_relation_entry []) file at) (λ b next. accepted (AddRelation b) next)
  unfolding edit_fields read
  kind_9 e = rw e (read_then (station_relation_entry []) (λ r. done (AddRelation r)) file at)

  pub kind_10 : kind ≡ 10 → read (edit_fields form kind) file at ≡ behind (read (station_relation_entry []) file at) (λ b next. accepted (RemoveRelation b) next)
  unfolding edit_fields read
  kind_10 e = rw e (read_then (station_relation_entry []) (λ r. done (RemoveRelation r)) file at)

  -- what is none of these deletes a train, whatever is supplied
  pub other_kind : ¬ (kind ≡ 1) → ¬ (kind ≡ 2) → ¬ (kind ≡ 3) → ¬ (kind ≡ 4) → ¬ (kind ≡ 5) → ¬ (kind ≡ 6) → ¬ (kind ≡ 7) → ¬ (kind ≡ 8) → ¬ (kind ≡ 9) → ¬ (kind ≡ 10)
      → read (edit_fields form kind) file at ≡ behind (field_at 1 9999 file at) (λ t next. accepted (DeleteTrain (record { train = record { 0 = t } })) next)
  unfolding edit_fields edit_ranges edit_of supplied with_fourth row compared least floor_after behind read ◌and_then◌
  other_kind a b c d e f g h i j =
      rw (ne_eqb _ 9 i, ne_eqb _ 10 j, ne_eqb _ 1 a, ne_eqb _ 2 b, ne_eqb _ 3 c, ne_eqb _ 4 d, ne_eqb _ 5 e, ne_eqb _ 6 f, ne_eqb _ 7 g, ne_eqb _ 8 h)
      (go (field_at 1 9999 file at))
    where
      first : (n : ℕ) → get_or (supplied form kind (n ∷ [])) 0 0 ≡ n
      first n = by form (has_track kind) (is_report kind)
        where
          by : (form : FileForm) (t r : Bool) → get_or (if t then with_mark form (n ∷ []) else if r then with_minute form (n ∷ []) else (n ∷ [])) 0 0 ≡ n
          by FileForm.Earlier true r = refl
          by FileForm.Earlier false true = refl
          by FileForm.Earlier false false = refl
          by FileForm.Newest true r = refl
          by FileForm.Newest false true = refl
          by FileForm.Newest false false = refl

      go : (o : Outcome ℕ) → behind o (λ n next. accepted (DeleteTrain (record { train = record { 0 = get_or (supplied form kind (n ∷ [])) 0 0 } })) next)
          ≡ behind o (λ t next. accepted (DeleteTrain (record { train = record { 0 = t } })) next)
      go (accepted n next) = rw (first n)
      go (refused k p) = refl

pub ruleset kinds = (kind_1, kind_2, kind_3, kind_4, kind_5, kind_6, kind_7, kind_8, kind_9, kind_10, other_kind)
