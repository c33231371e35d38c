-- One entry put into a sheet's bytes: what it is refused with by its station's page, and what the page lent and changed
-- makes of the sheet. Assumes nothing.
use Prim.Native.Nat.{ℕ, ◌+◌, ◌*◌, ◌-◌, ◌<◌, ◌≤◌}
use mathlib.Core.Path.{◌≡◌, refl, sym, ◌∙◌, ap}
use mathlib.Core.Bool.{Bool, true, false, false≢true, ◌&&◌}
use mathlib.Core.List.{List, ◌++◌}
use native.Mathlib.Omega.{arith}
use lib.Dec.{T}
use lib.ListN.{length, take, drop}
use borrow.Author.Tests.{lt-leb, le-leb, eq-eqb, ne_eqb}
use Rattle.railway.specs.Ranges.{station_ok}
use Rattle.network.specs.Networks.{listed, track_known}
use Rattle.timetable.specs.Formats.{Placed}
use Rattle.timetable.specs.Good.{links_good}
use Rattle.timetable.specs.Tables.{Table, full_visits, full_relations}
use Rattle.timetable.specs.TimetableFile.{StationVisit, visit_refusal, relation_refusal}
use Rattle.page.specs.Pages.{decode_page}
use Rattle.page.specs.between.Changes.{table_in, page_add_visit}
use Rattle.sheet.specs.between.Passes.{in_passes, out_passes}
use Rattle.sheet.specs.Sheets.{decode_sheet}
use Rattle.sheet.proofs.PassLaws.{links_pass}
use Rattle.page.proofs.SlotLaws.{table_of_page}
use Rattle.sheet.proofs.SheetLaws.{station_low, station_high, decoded_page}
use Rattle.sheet.specs.between.Frames.{frame, change_frame}
use Rattle.sheet.proofs.FrameLaws.{frame_size, lent_frame, lent_back, sheet_frame}
use Rattle.std.specs.Prelude.{Option, None, Some, is_some}
use Rattle.base.specs.declared.refusal.FileError.{FileError}
use Rattle.timetable.proofs.OutputLaws.{number_there}
use Rattle.timetable_entries.specs.Answers.{fault_told}
use Rattle.timetable_entries.specs.Types.{Station, Train, Visit, Relation, StationRelation, Network}
use Rattle.timetable.specs.declared.Fault.{Fault}
use Rattle.timetable_entries.specs.between.Entering.{visit_refused, relation_refused, page_with_relation, Progress, step_with, visit_step, relation_step}

-- 7, 12 or 0

pub known_tests : (n : Network) (s : Station) (v : Visit) (a b c : Bool) → a ≡ track_known n s v.track → b ≡ in_passes n s v.inward → c ≡ out_passes n s v.outward
    → (a && (b && c)) ≡ (track_known n s v.track && links_good n s v)
known_tests n s v a b c p q r = rw (p, q, r, links_pass n s v)

module _ (n : Network) (s : Station) (tab : Table) where
  module _ (v : Visit) (known : Bool) (e : known ≡ (track_known n s v.track && links_good n s v)) where
    pub visit_unknown : known ≡ false → 7 ≡ visit_refused n s v tab
    unfolding visit_refused visit_refusal
    visit_unknown f = rw (sym e ∙ f)

    pub visit_room : known ≡ true → (k : ℕ) → k ≡ length tab.visits → k < 24 → 0 ≡ visit_refused n s v tab
    unfolding visit_refused visit_refusal full_visits
    visit_room t k q h = rw (sym e ∙ t, lt-leb 24 (length tab.visits) (omega arith))

    pub visit_full : known ≡ true → (k : ℕ) → k ≡ length tab.visits → 24 ≤ k → 12 ≡ visit_refused n s v tab
    unfolding visit_refused visit_refusal full_visits
    visit_full t k q h = rw (sym e ∙ t, le-leb 24 (length tab.visits) (omega arith))

  module _ (known : Bool) (e : known ≡ listed n s) where
    pub relation_unknown : known ≡ false → 7 ≡ relation_refused n s tab
    unfolding relation_refused relation_refusal
    relation_unknown f = rw (sym e ∙ f)

    pub relation_room : known ≡ true → (k : ℕ) → k ≡ length tab.relations → k < 6 → 0 ≡ relation_refused n s tab
    unfolding relation_refused relation_refusal full_relations
    relation_room t k q h = rw (sym e ∙ t, lt-leb 6 (length tab.relations) (omega arith))

    pub relation_full : known ≡ true → (k : ℕ) → k ≡ length tab.relations → 6 ≤ k → 12 ≡ relation_refused n s tab
    unfolding relation_refused relation_refusal full_relations
    relation_full t k q h = rw (sym e ∙ t, le-leb 6 (length tab.relations) (omega arith))

-- a fault that is there, and none
pub fault_there : (f : Option FileError) → is_some f ≡ true → ¬ ((fault_told f).number ≡ 0)
fault_there None e = absurd (false≢true e)
fault_there (Some e) _ = number_there e.refusal

pub fault_none : (f : Option FileError) → is_some f ≡ false → f ≡ None
fault_none None e = refl
fault_none (Some d) e = absurd (false≢true (sym e))

-- a step, by its tests

abbrev progress : List ℕ → Fault → Progress
progress sheet fault = record { sheet = sheet; fault = fault }

abbrev fault_at : ℕ → ℕ → Fault
fault_at k place = record { number = k; place = place }

module _ (k : ℕ) (later : List ℕ) (place : ℕ) (sheet : List ℕ) (fault : Fault) where
  step_kept : ¬ (fault.number ≡ 0) → progress sheet fault ≡ step_with k later place (progress sheet fault)
  unfolding step_with
  step_kept d = rw (ne_eqb fault.number 0 d)

  step_refused : fault.number ≡ 0 → ¬ (k ≡ 0) → progress sheet (fault_at k place) ≡ step_with k later place (progress sheet fault)
  unfolding step_with
  step_refused z d = rw (eq-eqb fault.number 0 z, ne_eqb k 0 d)

  step_taken : fault.number ≡ 0 → k ≡ 0 → progress later fault ≡ step_with k later place (progress sheet fault)
  unfolding step_with
  step_taken z d = rw (eq-eqb fault.number 0 z, eq-eqb k 0 d)

-- a station's page in the sheet, as the code lends it
module _ (s : Station) (sheet : List ℕ) (size : length sheet ≡ 8192) (ok : T (station_ok s)) (r : ℕ) (is : r ≡ s.0) where
  abbrev pub lent : List ℕ
  lent = take (512 * (r - 1) + 512 - 512 * (r - 1)) (drop (512 * (r - 1)) sheet)

  pub room : 512 * (r - 1) + 512 ≤ length sheet
  room = omega (arith, station_low s ok, station_high s ok)

  lent_table : table_in lent ≡ decode_sheet sheet s
  lent_table =
      ap table_in (lent_frame (r - 1) sheet)
      ∙ table_of_page (frame (r - 1) sheet) (frame_size (r - 1) sheet room)
      ∙ ap (λ (i : ℕ). decode_page (frame (i - 1) sheet)) is
      ∙ ap decode_page (sym (sheet_frame sheet s))
      ∙ sym (decoded_page sheet s ok)

  changed : (f : List ℕ → List ℕ) (new : List ℕ) → length new ≡ length lent → new ≡ f lent
      → take (512 * (r - 1)) sheet ++ (new ++ drop (512 * (r - 1) + 512 - 512 * (r - 1)) (drop (512 * (r - 1)) sheet)) ≡ change_frame (s.0 - 1) f sheet
  changed f new l e = lent_back (r - 1) f sheet new room l e ∙ ap (λ (i : ℕ). change_frame (i - 1) f sheet) is

  module _ (n : Network) (place : ℕ) (fault : Fault) where
    module _ (t : Train) (v : Visit) where
      abbrev entry : Placed StationVisit
      entry = record { place = place; entry = record { station = s; train = t; visit = v } }

      visit-told : (k : ℕ) → k ≡ visit_refused n s v (table_in lent) → k ≡ visit_refusal n entry.entry (decode_sheet sheet)
      unfolding visit_refused visit_refusal
      visit-told k e = e ∙ ap (visit_refused n s v) lent_table

      pub visit_kept : ¬ (fault.number ≡ 0) → progress sheet fault ≡ visit_step n entry (progress sheet fault)
      unfolding visit_step
      visit_kept d = step_kept _ _ place sheet fault d

      module _ (k : ℕ) (e : k ≡ visit_refused n s v (table_in lent)) (z : fault.number ≡ 0) where
        pub visit-stopped : ¬ (k ≡ 0) → progress sheet (fault_at k place) ≡ visit_step n entry (progress sheet fault)
        unfolding visit_step
        visit-stopped d =
            step_refused k _ place sheet fault z d
            ∙ ap (λ (j : ℕ). step_with j (change_frame (s.0 - 1) (page_add_visit t v) sheet) place (progress sheet fault)) (visit-told k e)

        pub visit-taken : k ≡ 0 → (new : List ℕ) → length new ≡ length lent → new ≡ page_add_visit t v lent
            → progress (take (512 * (r - 1)) sheet ++ (new ++ drop (512 * (r - 1) + 512 - 512 * (r - 1)) (drop (512 * (r - 1)) sheet))) fault
            ≡ visit_step n entry (progress sheet fault)
        unfolding visit_step
        visit-taken d new l q =
            ap (λ (b : List ℕ). progress b fault) (changed (page_add_visit t v) new l q)
            ∙ step_taken k _ place sheet fault z d
            ∙ ap (λ (j : ℕ). step_with j (change_frame (s.0 - 1) (page_add_visit t v) sheet) place (progress sheet fault)) (visit-told k e)

    module _ (q : Relation) where
      abbrev relation_at : Placed StationRelation
      relation_at = record { place = place; entry = record { station = s; relation = q } }

      relation-told : (k : ℕ) → k ≡ relation_refused n s (table_in lent) → k ≡ relation_refusal n relation_at.entry (decode_sheet sheet)
      unfolding relation_refused relation_refusal
      relation-told k e = e ∙ ap (relation_refused n s) lent_table

      pub relation_kept : ¬ (fault.number ≡ 0) → progress sheet fault ≡ relation_step n relation_at (progress sheet fault)
      unfolding relation_step
      relation_kept d = step_kept _ _ place sheet fault d

      module _ (k : ℕ) (e : k ≡ relation_refused n s (table_in lent)) (z : fault.number ≡ 0) where
        pub relation-stopped : ¬ (k ≡ 0) → progress sheet (fault_at k place) ≡ relation_step n relation_at (progress sheet fault)
        unfolding relation_step
        relation-stopped d =
            step_refused k _ place sheet fault z d
            ∙ ap (λ (j : ℕ). step_with j (change_frame (s.0 - 1) (page_with_relation q) sheet) place (progress sheet fault)) (relation-told k e)

        pub relation_taken : k ≡ 0 → (new : List ℕ) → length new ≡ length lent → new ≡ page_with_relation q lent
            → progress (take (512 * (r - 1)) sheet ++ (new ++ drop (512 * (r - 1) + 512 - 512 * (r - 1)) (drop (512 * (r - 1)) sheet))) fault
            ≡ relation_step n relation_at (progress sheet fault)
        unfolding relation_step
        relation_taken d new l p =
            ap (λ (b : List ℕ). progress b fault) (changed (page_with_relation q) new l p)
            ∙ step_taken k _ place sheet fault z d
            ∙ ap (λ (j : ℕ). step_with j (change_frame (s.0 - 1) (page_with_relation q) sheet) place (progress sheet fault)) (relation-told k e)
