-- What is promised of files: what is written reads back to the same, and nothing but the written file reads to it.
-- Document 01, "Files"; docs/DECISIONS.md, "Files": "A written file is the only file that reads to that timetable, as
-- every number has one shortest form and every order is strict." The proofs are in proofs/; nothing here is proved. A
-- reader needs the definitions of the crate timetable: Formats (reading, and the bytes of numbers), NetworkFile,
-- FileForms, EditsFile, TimetableFile, InspectFile.
--
-- Edits and timetables are read and written in a form; what a form cannot say, it does not hold (`edit_said`). What
-- names no form is of the newest.
--
-- The letters: file the bytes of a file, at and next places in it, n a network, e an edit, es a list of edits, m a
-- timetable. `T b` says that the test b passes. `bytes_of (x_numbers x)` is the file that is written for x. A record
-- collects what is promised together. Assumes nothing.
use Rattle.std.specs.Prelude.{ℕ, ◌+◌, ◌≤◌, ◌<◌, ◌≡◌, List, ◌++◌, T, length, get_or, drop}
use Rattle.base.specs.Lists.{every}
use Rattle.numbers.specs.Numbers.{width}
use Rattle.railway.specs.Edits.{edit_ok}
use Rattle.network.specs.Networks.{network_refusal}
use Rattle.timetable.specs.declared.NetworkForm.{NetworkForm}
use Rattle.timetable.specs.declared.FileForm.{FileForm}
use Rattle.timetable.specs.Formats.{accepted, read, bytes_of, Placed}
use Rattle.timetable.specs.FileForms.{newest_form}
use Rattle.timetable.specs.NetworkFile.{newest, network_with, rows_in, read_network, network_numbers_as, network_numbers}
use Rattle.timetable.specs.EditsFile.{edit_entry, edit_numbers, edit_said, read_edits_as, edits_numbers, Shift, read_shift}
use Rattle.timetable.specs.Machine.{Timetable}
use Rattle.timetable.specs.Good.{Whole}
use Rattle.timetable.specs.TimetableFile.{visit_said, read_timetable_as, timetable_numbers_as, timetable_numbers}
use Rattle.timetable.specs.InspectFile.{Inspection, read_inspect}
use Rattle.roundtrips.specs.Types.{Station, Edit, Network}

-- a file is bytes
abbrev pub Bytes : List ℕ → Type 0
Bytes file = (i : ℕ) → get_or file i 0 < 256

-- what is written is a file, whatever the numbers
abbrev pub WrittenIsBytes : Type 0
WrittenIsBytes = (ns : List ℕ) → Bytes (bytes_of ns)

-- networks

-- the rows that are not used are blank: of a network in memory they may hold anything, of one that was read they are
-- blank
abbrev pub UnusedBlank : Network → Type 0
UnusedBlank n = network_with (rows_in n) ≡ n

-- a network that was read from a file of a form: "A good network is one that 3 and 4 don't refuse."
pub record ReadAs (form : NetworkForm) (file : List ℕ) (n : Network) (next : ℕ) : Type 0 where
  pub file_is : file ≡ bytes_of (network_numbers_as form n)
  pub end : next ≡ length file
  pub good : network_refusal n ≡ 0
  pub unused : UnusedBlank n

pub record NetworkRoundTrip : Type 0 where
  pub back : (n : Network) → network_refusal n ≡ 0 → UnusedBlank n → read_network (bytes_of (network_numbers n)) ≡ accepted n (length (bytes_of (network_numbers n)))
  pub only : (file : List ℕ) (n : Network) (next : ℕ) → Bytes file → read_network file ≡ accepted n next → ReadAs newest file n next

-- edits

-- an edit that was read at a place: in range, and its bytes are those that it is written with
pub record EditRead (form : FileForm) (file : List ℕ) (at : ℕ) (e : Edit) (next : ℕ) : Type 0 where
  pub good : T (edit_ok e)
  pub said : T (edit_said form e)
  pub bytes : drop at file ≡ bytes_of (edit_numbers form e) ++ drop next file
  pub end : next ≡ at + length (bytes_of (edit_numbers form e))

-- every edit in range, written at a place of a file with anything behind it, is read there; and what is read there was
-- written so
pub record EditRoundTrip (form : FileForm) : Type 0 where
  pub back : (e : Edit) (file : List ℕ) (at : ℕ) (rest : List ℕ) → T (edit_ok e) → T (edit_said form e) → drop at file ≡ bytes_of (edit_numbers form e) ++ rest
      → read (edit_entry form) file at ≡ accepted e (at + length (bytes_of (edit_numbers form e)))
  pub only : (file : List ℕ) (at : ℕ) (e : Edit) (next : ℕ) → Bytes file → read (edit_entry form) file at ≡ accepted e next → EditRead form file at e next

-- "Edits: count (0..1000)"
pub record EditsRead (form : FileForm) (file : List ℕ) (es : Placed (List Edit)) (next : ℕ) : Type 0 where
  pub file_is : file ≡ bytes_of (edits_numbers form es.entry)
  pub end : next ≡ length file
  pub few : length es.entry ≤ 1000
  pub good : T (every edit_ok es.entry)
  pub said : T (every (edit_said form) es.entry)
  -- the first edit stands behind the count
  pub first : es.place ≡ width (length es.entry)

pub record EditsRoundTrip (form : FileForm) : Type 0 where
  pub back : (es : List Edit) → length es ≤ 1000 → T (every edit_ok es) → T (every (edit_said form) es)
      → read_edits_as form (bytes_of (edits_numbers form es)) ≡ accepted (record { place = width (length es); entry = es }) (length (bytes_of (edits_numbers form es)))
  pub only : (file : List ℕ) (es : Placed (List Edit)) (next : ℕ) → Bytes file → read_edits_as form file ≡ accepted es next → EditsRead form file es next

-- "network, then edits"
pub record ShiftRead (file : List ℕ) (x : Shift) (next : ℕ) : Type 0 where
  pub file_is : file ≡ bytes_of (network_numbers x.network ++ edits_numbers newest_form x.edits.entry)
  pub end : next ≡ length file
  pub good : network_refusal x.network ≡ 0
  pub unused : UnusedBlank x.network
  pub few : length x.edits.entry ≤ 1000
  pub edits_good : T (every edit_ok x.edits.entry)
  -- the first edit stands behind the network and the count
  pub first : x.edits.place ≡ length (bytes_of (network_numbers x.network)) + width (length x.edits.entry)

pub record ShiftRoundTrip : Type 0 where
  pub back : (n : Network) (es : List Edit) → network_refusal n ≡ 0 → UnusedBlank n → length es ≤ 1000 → T (every edit_ok es)
      → read_shift (bytes_of (network_numbers n ++ edits_numbers newest_form es))
      ≡ accepted (record { network = n; edits = record { place = length (bytes_of (network_numbers n)) + width (length es); entry = es } })
      (length (bytes_of (network_numbers n ++ edits_numbers newest_form es)))
  pub only : (file : List ℕ) (x : Shift) (next : ℕ) → Bytes file → read_shift file ≡ accepted x next → ShiftRead file x next

-- timetables

-- a form can say every visit
abbrev pub Said : FileForm → Timetable → Type 0
Said form m = (k : Station) → T (every (λ e. visit_said form e.visit) (m k).visits)

-- a timetable that was read, under a network that is good: "A whole timetable is a good sheet over all stations."
pub record TimetableRead (form : FileForm) (n : Network) (file : List ℕ) (m : Timetable) (next : ℕ) : Type 0 where
  pub file_is : file ≡ bytes_of (timetable_numbers_as form n m)
  pub end : next ≡ length file
  pub network_good : network_refusal n ≡ 0
  pub whole : Whole n m
  pub said : Said form m

-- "A written file is the only file that reads to that timetable."
pub record TimetableRoundTrip (form : FileForm) : Type 0 where
  pub back : (n : Network) (m : Timetable) → network_refusal n ≡ 0 → Whole n m → Said form m
      → read_timetable_as form n (bytes_of (timetable_numbers_as form n m)) ≡ accepted m (length (bytes_of (timetable_numbers_as form n m)))
  pub only : (n : Network) (file : List ℕ) (m : Timetable) (next : ℕ) → Bytes file → read_timetable_as form n file ≡ accepted m next → TimetableRead form n file m next

-- "network, then timetable"
pub record InspectRead (file : List ℕ) (x : Inspection) (next : ℕ) : Type 0 where
  pub file_is : file ≡ bytes_of (network_numbers x.network ++ timetable_numbers x.network x.timetable)
  pub end : next ≡ length file
  pub good : network_refusal x.network ≡ 0
  pub unused : UnusedBlank x.network
  pub whole : Whole x.network x.timetable
  -- the timetable stands behind the network
  pub first : x.first ≡ length (bytes_of (network_numbers x.network))

pub record InspectRoundTrip : Type 0 where
  pub back : (n : Network) (m : Timetable) → network_refusal n ≡ 0 → UnusedBlank n → Whole n m
      → read_inspect (bytes_of (network_numbers n ++ timetable_numbers n m))
      ≡ accepted (record { network = n; first = length (bytes_of (network_numbers n)); timetable = m }) (length (bytes_of (network_numbers n ++ timetable_numbers n m)))
  pub only : (file : List ℕ) (x : Inspection) (next : ℕ) → Bytes file → read_inspect file ≡ accepted x next → InspectRead file x next
