-- Rooms at two releases merge to the sheet that the centre holds. The rooms of a good sheet without marks at the older
-- room's stations: that room's file is its part in the earlier form (theory EarlyFiles), which reads back to it
-- (roundtrips), so that what is handed over is the divided sheet; an edit leaves the rooms of the sheet that it leaves
-- the centre, by the call on a division (machine ByteEdits) and by the older release (theory ReleasesMerge). So do
-- edits one after another, and in another order they leave the same sheet (theory Ordered). Assumes nothing.
use Prim.Native.Nat.{ℕ}
use mathlib.Core.Path.{◌≡◌, refl, sym, ◌∙◌, ap}
use mathlib.Core.Bool.{Bool, true, false, not, ◌||◌}
use mathlib.Core.List.{List, [], ◌∷◌}
use lib.Dec.{T, eqb}
use lib.ListN.{length, length-replicate}
use borrow.Author.Tests.{eq-eqb, eqb-true}
use Rattle.std.specs.Prelude.{if◌then◌else◌}
use Rattle.base.specs.Lists.{every}
use Rattle.base.specs.Runs.{run, answers}
use Rattle.base.proofs.Tests.{flatMap_same, and_l, and_r}
use Rattle.network.specs.Networks.{network_refusal, area_of}
use Rattle.network.proofs.AreaLaws.{listed_placed}
use Rattle.timetable.specs.declared.FileForm.{FileForm}
use Rattle.timetable.specs.Formats.{accepted, bytes_of}
use Rattle.timetable.specs.Machine.{Timetable, answer, after}
use Rattle.timetable.specs.Groups.{six, in_group, names_group, gather, divide, divided_answer}
use Rattle.timetable.specs.TimetableFile.{read_timetable_as, timetable_numbers_as}
use Rattle.theory.specs.Reordering.{along}
use Rattle.theory.specs.Statements.{AnyOrder}
use Rattle.theory.specs.Earlier as Earlier
use Rattle.theory.specs.Releases.{Railway, early_table, unmarked, handed, older_sees, older_after, newer_answer, older_answer, both_after, two_releases, UnmarkedThere, marks_there, none_marks}
use Rattle.theory.proofs.Ordered.{any_order}
use Rattle.theory.proofs.Unmarked.{after_unmarked}
use Rattle.theory.proofs.ReleasesMerge.{answer_older, step_both, none_along}
use Rattle.theory.proofs.EarlyFiles.{early_numbers, part_whole, part_said}
use Rattle.roundtrips.proofs.TimetableTrips.{timetable_trip}
use Rattle.fields.specs.Outcomes.{end_of}
use Rattle.records.specs.Bytes.{zeros}
use Rattle.sheet.specs.Sheets.{encode_sheet, decode_sheet, sheet_at, divided}
use Rattle.sheet.proofs.SheetLaws.{area_number, divided_size, divided_reads, sheets_whole}
use Rattle.machine.specs.Calls.{parts, sheet_answer, sheet_after, division_answer, division_after}
use Rattle.machine.proofs.ByteEdits.{whole_of, divided_part, gather_agree, divided_edit_answer, divided_edit_after}
use Rattle.machine.proofs.ListEdits.{GoodSheet, sheet_kept, sheets_kept}
use Rattle.machine.proofs.CentralEdits.{central_answer, central_after, central_run, central_answers, same_bytes}
use Rattle.machine.proofs.WholeSheets.{merges}
use Rattle.timetable_entries.specs.Answers as rest
use Rattle.timetable_files.specs.Calls.{read_outcome, read_answer, read_after}
use Rattle.demands.specs.Types.{Area, Edit, Network, Answer}
use Rattle.demands.specs.Releases.{Rooms, older_file, handed_over, held, rooms_after, older_told, others_told, rooms_of, TwoReleasesMerge}

-- the rooms of a good sheet

module _ (n : Network) (good : network_refusal n ≡ 0) (a : Area) (sheet : List ℕ) (g : GoodSheet n good sheet)
    (plain : UnmarkedThere n (area_of n) a.0 (decode_sheet sheet)) where
  abbrev own : ℕ
  own = a.0

  abbrev central : Timetable
  central = decode_sheet sheet

  abbrev rooms : Rooms
  rooms = rooms_of n a sheet

  -- the older room's file

  file_is : older_file n rooms ≡ bytes_of (timetable_numbers_as FileForm.Earlier n (divide (area_of n) central own))
  unfolding older_file rooms_of two_releases
  file_is = ap bytes_of (early_numbers n (divide (area_of n) central own))

  read_is : read_timetable_as FileForm.Earlier n (older_file n rooms) ≡ accepted (divide (area_of n) central own) (length (older_file n rooms))
  read_is =
      rw file_is
      ((timetable_trip FileForm.Earlier).back n (divide (area_of n) central own) good
      (part_whole n (area_of n) own central (whole_of n good sheet g.size g.fine)) (part_said n (area_of n) own central plain))

  module _ (buffer : List ℕ) (room : length buffer ≡ 8192) where
    taken : read_answer FileForm.Earlier n (older_file n rooms) buffer ≡ accepted tt (length (older_file n rooms))
    unfolding read_answer read_outcome end_of
    taken = rw (eq-eqb (length buffer) 8192 room, read_is)

    sheet_read : read_after FileForm.Earlier n (older_file n rooms) buffer ≡ encode_sheet (divide (area_of n) central own)
    unfolding read_after read_outcome rest.sheet_of
    sheet_read = rw (eq-eqb (length buffer) 8192 room, read_is)

    placed : (b : ℕ) → T (area_number b)
        → (if eqb b own then read_after FileForm.Earlier n (older_file n rooms) buffer else sheet_at (divided n sheet) b) ≡ sheet_at (divided n sheet) b
    placed b t = go (eqb b own) refl
      where
        go : (c : Bool) → eqb b own ≡ c
            → (if c then read_after FileForm.Earlier n (older_file n rooms) buffer else sheet_at (divided n sheet) b) ≡ sheet_at (divided n sheet) b
        go true q =
            sheet_read ∙ ap (λ (k : ℕ). encode_sheet (divide (area_of n) central k)) (sym (eqb-true b own q))
            ∙ sym (divided_part n good sheet g.size g.fine b t)
        go false q = refl

    -- with it in its place the division is the divided sheet
    handed_is : handed_over n a buffer rooms ≡ divided n sheet
    unfolding handed_over rooms_of every
    handed_is = flatMap_same _ (sheet_at (divided n sheet)) area_number placed six tt ∙ sheets_whole (divided n sheet) (divided_size n sheet g.size)

  -- an edit

  abbrev railway : Railway
  railway = two_releases n (area_of n) own central

  held_agrees : (b : ℕ) → T (area_number b) → handed n (area_of n) own (held n a rooms) b ≡ handed n (area_of n) own railway b
  unfolding handed held rooms_of two_releases parts
  held_agrees b t = ap (λ (m : Timetable). if eqb b own then unmarked railway.older else m) (divided_reads n sheet g.size b t)

  module _ (e : Edit) where
    gathered : gather (area_of n) (names_group n (area_of n) e) (handed n (area_of n) own (held n a rooms))
        ≡ gather (area_of n) (names_group n (area_of n) e) (handed n (area_of n) own railway)
    gathered = gather_agree n good (handed n (area_of n) own (held n a rooms)) (handed n (area_of n) own railway) held_agrees (names_group n (area_of n) e)

    sees_same : older_sees n (area_of n) own e (held n a rooms) ≡ older_sees n (area_of n) own e railway
    unfolding older_sees held rooms_of
    sees_same = ap {B = Earlier.Timetable} (λ (m : Timetable) k. if in_group (area_of n) own k then railway.older k else early_table (m k)) gathered

    older_is : older_answer n (area_of n) own e (held n a rooms) ≡ sheet_answer n e sheet
    unfolding older_answer newer_answer divided_answer
    older_is = rw (sees_same, gathered) (answer_older n (area_of n) (listed_placed n good) own e central plain) ∙ sym (central_answer n good e sheet g)

    older_same : older_after n (area_of n) own e (held n a rooms) ≡ (both_after n (area_of n) own e railway).older
    unfolding both_after older_after held rooms_of
    older_same = rw sees_same

    older_later : older_after n (area_of n) own e (held n a rooms) ≡ (two_releases n (area_of n) own (decode_sheet (sheet_after n e sheet))).older
    older_later = rw (central_after n good e sheet g) (older_same ∙ ap (λ (x : Railway). x.older) (step_both n (area_of n) (listed_placed n good) own e central plain))

    blank : handed_over n a (zeros 8192) rooms ≡ divided n sheet
    blank = handed_is (zeros 8192) (length-replicate {A = ℕ} 8192 0)

    others_is : others_told n a e rooms ≡ sheet_answer n e sheet
    unfolding others_told
    others_is = ap (division_answer n e) blank ∙ divided_edit_answer n good sheet g.size g.fine e

    -- it leaves the rooms of the sheet that it leaves the centre
    step : rooms_after n a e rooms ≡ rooms_of n a (sheet_after n e sheet)
    unfolding rooms_after rooms_of
    step = λ i. record { older = older_later i; division = (ap (division_after n e) blank ∙ divided_edit_after n good sheet g.size g.fine e) i }

-- edits one after another

module _ (n : Network) (good : network_refusal n ≡ 0) (a : Area) where
  record Ended (es : List Edit) (sheet : List ℕ) : Type 0 where
    older_answers : answers (rooms_after n a) (older_told n a) es (rooms_of n a sheet) ≡ answers (sheet_after n) (sheet_answer n) es sheet
    others_answers : answers (rooms_after n a) (others_told n a) es (rooms_of n a sheet) ≡ answers (sheet_after n) (sheet_answer n) es sheet
    same_rooms : run (rooms_after n a) es (rooms_of n a sheet) ≡ rooms_of n a (run (sheet_after n) es sheet)
    still_unmarked : UnmarkedThere n (area_of n) a.0 (decode_sheet (run (sheet_after n) es sheet))

  ends : (es : List Edit) (sheet : List ℕ) → GoodSheet n good sheet → UnmarkedThere n (area_of n) a.0 (decode_sheet sheet)
      → T (none_marks n (area_of n) a.0 es (decode_sheet sheet)) → Ended es sheet
  unfolding run answers none_marks older_told
  ends [] sheet g plain h = record { older_answers = refl; others_answers = refl; same_rooms = refl; still_unmarked = plain }
  ends (e ∷ es) sheet g plain h =
      let m : Timetable = decode_sheet sheet in
      let spared : Bool = not (marks_there n (area_of n) a.0 e) || not (eqb (answer n e m).refusal 0) in
      let rest : Bool = none_marks n (area_of n) a.0 es (after n e m) in
      let back : decode_sheet (sheet_after n e sheet) ≡ after n e m = central_after n good e sheet g in
      let later : Ended es (sheet_after n e sheet) =
      ends es (sheet_after n e sheet) (sheet_kept n good e sheet g)
      (rw back (after_unmarked n (area_of n) a.0 m plain e (and_l spared rest h))) (rw back (and_r spared rest h)) in
      record {
        older_answers = rw (step n good a sheet g plain e, older_is n good a sheet g plain e, later.older_answers);
        others_answers = rw (step n good a sheet g plain e, others_is n good a sheet g plain e, later.others_answers);
        same_rooms = rw (step n good a sheet g plain e) later.same_rooms;
        still_unmarked = later.still_unmarked;
      }

pub two_releases_merge : TwoReleasesMerge
two_releases_merge n good a ok sheet size fine plain es spared ps R =
    let g : GoodSheet n good sheet = record { size = size; fine = fine } in
    let m : Timetable = decode_sheet sheet in
    let there : AnyOrder n m es ps = any_order n (area_of n) m es ps R in
    let ended : Ended n good a (along es ps) sheet =
    ends n good a (along es ps) sheet g plain (none_along n (area_of n) a.0 es m ps there spared) in
    let kept : GoodSheet n good (run (sheet_after n) es sheet) = sheets_kept n good es sheet g in
    let same : run (sheet_after n) (along es ps) sheet ≡ run (sheet_after n) es sheet =
    same_bytes n good (run (sheet_after n) (along es ps) sheet) (run (sheet_after n) es sheet) (sheets_kept n good (along es ps) sheet g) kept
    (central_run n good (along es ps) sheet g ∙ there.same_timetable ∙ sym (central_run n good es sheet g)) in
    let told : answers (sheet_after n) (sheet_answer n) (along es ps) sheet ≡ along (answers (sheet_after n) (sheet_answer n) es sheet) ps =
    central_answers n good (along es ps) sheet g ∙ there.same_answers ∙ ap (λ (l : List Answer). along l ps) (sym (central_answers n good es sheet g)) in
    let rooms : run (rooms_after n a) (along es ps) (rooms_of n a sheet) ≡ rooms_of n a (run (sheet_after n) es sheet) = ended.same_rooms ∙ ap (rooms_of n a) same in
    let unmarked : UnmarkedThere n (area_of n) a.0 (decode_sheet (run (sheet_after n) es sheet)) = rw same at ended.still_unmarked in
    record {
      older_answers = ended.older_answers ∙ told;
      others_answers = ended.others_answers ∙ told;
      taken = rw rooms (taken n good a (run (sheet_after n) es sheet) kept unmarked);
      merges = λ buffer out room space.
          rw (rooms, handed_is n good a (run (sheet_after n) es sheet) kept unmarked buffer room) (merges n good (run (sheet_after n) es sheet) kept out space);
    }
