-- Rooms at two releases, of the bytes. Document 02, W6: "Two control rooms at different releases, the older's sheet
-- handed over as its timetable file in the earlier form, must still merge to what the centre holds on taking the older
-- room's edits with mark 0, provided no visit at the older room's stations has mark 1 at the start or gets it from
-- another room." The older room works by its release as it was (theory Earlier, Releases). The others work by the call
-- that edits a division; what stands there in the older room's place is the sheet that the call which reads the earlier
-- form leaves of that room's file, for each edit and for the merging at the end. By the definitions that the contracts
-- of those calls cite. Nothing here is proved. Assumes nothing.
use Rattle.std.specs.Prelude.{ℕ, ◌≡◌, T, eqb, length}
use mathlib.Core.List.{List, flat_map}
use Rattle.std.specs.Prelude.{if◌then◌else◌}
use Rattle.base.specs.Runs.{run, answers}
use Rattle.railway.specs.Ranges.{area_ok}
use Rattle.network.specs.Networks.{network_refusal, listed, area_of}
use Rattle.timetable.specs.declared.FileForm.{FileForm}
use Rattle.timetable.specs.Formats.{accepted, bytes_of}
use Rattle.timetable.specs.Groups.{six, names_group}
use Rattle.theory.specs.Reordering.{along, Reordering}
use Rattle.theory.specs.Earlier as Earlier
use Rattle.theory.specs.Releases.{Railway, older_after, older_answer, two_releases, UnmarkedThere, none_marks}
use Rattle.records.specs.Bytes.{zeros}
use Rattle.sheet.specs.Sheets.{decode_sheet, good_sheet, sheet_at, divided, merge_refusal, after_merge}
use Rattle.machine.specs.Calls.{parts, sheet_answer, sheet_after, division_answer, division_after}
use Rattle.timetable_files.specs.Calls.{read_answer, read_after}
use Rattle.demands.specs.Types.{Area, Edit, Network, Answer}

-- the older room's timetable, and the division of the others, whose sheet of that room is read by nobody
pub record Rooms : Type 0 where
  pub older : Earlier.Timetable
  pub division : List ℕ

-- "the older's sheet handed over as its timetable file in the earlier form"
unfoldable pub older_file : Network → Rooms → List ℕ
older_file n x = bytes_of (Earlier.timetable_numbers n x.older)

module _ (n : Network) (a : Area) where
  -- the others' sheets, and in the older room's place what reading its file leaves in a lent buffer
  unfoldable pub handed_over : List ℕ → Rooms → List ℕ
  handed_over buffer x = flat_map (λ b. if eqb b a.0 then read_after FileForm.Earlier n (older_file n x) buffer else sheet_at x.division b) six

  -- the timetables that the rooms hold
  unfoldable pub held : Rooms → Railway
  held x = record { older = x.older; newer = parts x.division }

  -- an edit: the older room takes it as its release does, the others by the call on a division, where an empty sheet
  -- is lent for the older room's file
  unfoldable pub rooms_after : Edit → Rooms → Rooms
  rooms_after e x = record { older = older_after n (area_of n) a.0 e (held x); division = division_after n e (handed_over (zeros 8192) x) }

  unfoldable pub older_told : Edit → Rooms → Answer
  older_told e x = older_answer n (area_of n) a.0 e (held x)

  unfoldable pub others_told : Edit → Rooms → Answer
  others_told e x = division_answer n e (handed_over (zeros 8192) x)

  -- the rooms at the start: the divided sheet, of which the older room has its part without marks
  unfoldable pub rooms_of : List ℕ → Rooms
  rooms_of sheet = record { older = (two_releases n (area_of n) a.0 (decode_sheet sheet)).older; division = divided n sheet }

module _ (n : Network) (a : Area) (sheet : List ℕ) (es : List Edit) (ps : List ℕ) where
  -- the rooms after the edits in the order ps
  abbrev pub end : Rooms
  end = run (rooms_after n a) (along es ps) (rooms_of n a sheet)

  pub record MergedOfTwo : Type 0 where
    -- the older room and the others answer as the calls on the undivided sheet do in the first order
    pub older_answers : answers (rooms_after n a) (older_told n a) (along es ps) (rooms_of n a sheet) ≡ along (answers (sheet_after n) (sheet_answer n) es sheet) ps
    pub others_answers : answers (rooms_after n a) (others_told n a) (along es ps) (rooms_of n a sheet) ≡ along (answers (sheet_after n) (sheet_answer n) es sheet) ps
    -- the call that reads the earlier form takes the older room's file, whatever stands in its buffer
    pub taken : (buffer : List ℕ) → length buffer ≡ 8192 → read_answer FileForm.Earlier n (older_file n end) buffer ≡ accepted tt (length (older_file n end))
    -- and the merging call takes the division with the sheet that it leaves, and leaves what the centre holds
    pub merges : (buffer out : List ℕ) → length buffer ≡ 8192 → length out ≡ 8192
        → (merge_refusal n (handed_over n a buffer end) out ≡ 0) × (after_merge n (handed_over n a buffer end) out ≡ run (sheet_after n) es sheet)

-- every good network, every older room, every good sheet over all stations without a mark at the older room's stations,
-- every list of edits that puts none there, and every order that demand 3 allows
abbrev pub TwoReleasesMerge : Type 0
TwoReleasesMerge = (n : Network) → network_refusal n ≡ 0 → (a : Area) → T (area_ok a)
    → (sheet : List ℕ) → length sheet ≡ 8192 → T (good_sheet n (listed n) sheet) → UnmarkedThere n (area_of n) a.0 (decode_sheet sheet)
    → (es : List Edit) → T (none_marks n (area_of n) a.0 es (decode_sheet sheet))
    → (ps : List ℕ) → Reordering (names_group n (area_of n)) es ps → MergedOfTwo n a sheet es ps

-- The key ring of this module: `unfolding opened` opens every definition above.
unfoldable pub opened : Unit {0}
unfolding older_file handed_over held rooms_after older_told others_told rooms_of
opened = tt
