-- What the answer of reading `shift`'s input says: refused, its text is the refusal's; accepted, the network is good, and
-- the part behind it is an edits file with the same edits, as the input is the bytes of the network's numbers and of the
-- edits' (formats). Assumes nothing.
use Prim.Native.Nat.{ℕ, ◌-◌, ◌≤◌, ◌<◌}
use mathlib.Core.Path.{◌≡◌, refl, sym, ◌∙◌, ap, ap₂, subst}
use mathlib.Core.List.{List, ◌++◌}
use native.Mathlib.Omega.{arith}
use lib.Dec.{T}
use lib.ListN.{length, drop, length-append}
use lib.Seq.{drop-append_seam}
use borrow.Author.Tests.{lt-ltb, le-ltb}
use Rattle.base.specs.Lists.{every}
use Rattle.numbers.specs.Numbers.{write_number, width}
use Rattle.railway.specs.Edits.{edit_ok}
use Rattle.network.specs.Networks.{network_refusal}
use Rattle.timetable.specs.Formats.{Outcome, accepted, refused, read, read_file, ended, bytes_of, Placed, number, place_of, value_or}
use Rattle.timetable.specs.NetworkFile.{network_of, network_numbers, network_fault, unless_fault}
use Rattle.timetable.specs.FileForms.{newest_form}
use Rattle.timetable.specs.EditsFile.{read_edits, edits_numbers, Shift, Input, shift_format, read_shift}
use Rattle.roundtrips.specs.RoundTrips.{Bytes}
use Rattle.roundtrips.proofs.EditTrips.{edits_trip, edits_said_newest}
use Rattle.roundtrips.proofs.NetworkTrips.{shift_trip}
use Rattle.base.specs.RefusalNumbers.{number_of}
use Rattle.base.specs.declared.refusal.FileError.{FileError}
use Rattle.edit_files.specs.Answers.{list_of, shift_listed}
use Rattle.edit_files.specs.declared.input.ShiftInput.{ShiftInput}
use Rattle.page.proofs.FlatLaws.{flat_append}
use Rattle.edit_calls.specs.between.Taken.{edits_at}
use Rattle.edit_calls.proofs.RunLaws.{held}
use Rattle.listings.specs.Shift.{refusal_text, shift_told, shift_text}
use Rattle.shift_lines.specs.Types.{Edit}
use Rattle.shift_lines.specs.between.Listing.{EditsFile, run_text}
use Rattle.network_files.proofs.PlaceLaws.{taken_same}
use Rattle.shift_lines.proofs.PlacesWithin.{refused_within}

-- what an accepted input holds: behind the network stands an edits file
pub record Held (file : List ℕ) (r : ShiftInput) : Type 0 where
  pub good : network_refusal r.network ≡ 0
  pub counted : width r.edits.count ≤ r.edits.first
  pub within : r.edits.first - width r.edits.count ≤ length file
  pub edits : EditsFile (drop (r.edits.first - width r.edits.count) file) (width r.edits.count) r.edits.count
  pub text_is : length file ≤ 16384
      → shift_text file ≡ run_text r.network (edits_at newest_form r.edits.count (drop (r.edits.first - width r.edits.count) file) (width r.edits.count))

-- the file of edits is read as these
written_edits : (es : List Edit) (b : List ℕ) → b ≡ bytes_of (edits_numbers newest_form es) → length es ≤ 1000 → T (every edit_ok es)
    → EditsFile b (width (length es)) (length es) × (edits_at newest_form (length es) b (width (length es)) ≡ es)
written_edits es b is few fine =
    let x : Placed (List Edit) = record { place = width (length es); entry = es } in
    let back : read_edits b ≡ accepted x (length b) = rw is ((edits_trip newest_form).back es few fine (edits_said_newest es)) in
    let h = held newest_form b (list_of x) x (length b) back refl in
    let same : x ≡ h.edits = taken_same x h.edits (length b) h.next (sym back ∙ h.outcome) in
    let are : edits_at newest_form (length es) b (width (length es)) ≡ es = h.are ∙ sym (ap (λ (x : Placed (List Edit)). x.entry) same) in
    ((few, h.readable, ap length are, back ∙ ap (λ (l : List Edit). accepted (record { place = width (length es); entry = l }) (length b)) (sym are)), are)

-- "network, then edits": where the input is read, the part behind its network is an edits file by itself, with the same
-- edits
behind_network : (file : List ℕ) (x : Shift) (next : ℕ) → Bytes file → read_shift file ≡ accepted x next
    → (drop (x.edits.place - width (length x.edits.entry)) file ≡ bytes_of (edits_numbers newest_form x.edits.entry))
    × (x.edits.place - width (length x.edits.entry) ≤ length file)
unfolding bytes_of
behind_network file x next bytes f =
    let s = shift_trip.only file x next bytes f in
    let a : List ℕ = bytes_of (network_numbers x.network) in
    let b : List ℕ = bytes_of (edits_numbers newest_form x.edits.entry) in
    let whole : file ≡ a ++ b = s.file_is ∙ flat_append write_number (network_numbers x.network) (edits_numbers newest_form x.edits.entry) in
    let at : x.edits.place - width (length x.edits.entry) ≡ length a = omega (arith, s.first) in
    (ap₂ (λ (k : ℕ) (l : List ℕ). drop k l) at whole ∙ drop-append_seam a b, omega (arith, at, ap length whole, length-append a b))

-- what an answer says of the outcome that it tells
same_input : (r : ShiftInput) (k : ℕ) (x : ShiftInput) (next : ℕ) → ◌≡◌ {A = Outcome ShiftInput} (accepted r k) (accepted x next) → r ≡ x
same_input r k x next e = cc

same_refusal : (k p j at : ℕ) → ◌≡◌ {A = Outcome ShiftInput} (refused k p) (refused j at) → (k ≡ j) × (p ≡ at)
same_refusal k p j at e = (cc, cc)

never : (r : ShiftInput) (next k p : ℕ) → ¬ (◌≡◌ {A = Outcome ShiftInput} (accepted r next) (refused k p))
never r next k p e = cc

module _ (file : List ℕ) where
  pub shift_held : (r : ShiftInput) → accepted r (length file) ≡ shift_listed (read_shift file) → Bytes file → Held file r
  unfolding shift_listed shift_text shift_told run_text
  shift_held r e bytes = go (read_shift file) refl e
    where
      accepted_text : (x : Shift) (next : ℕ) → read_shift file ≡ accepted x next → length file ≤ 16384 → shift_text file ≡ run_text x.network x.edits.entry
      accepted_text x next f h = rw (le-ltb 16384 (length file) h, f)

      go : (o : Outcome Shift) → read_shift file ≡ o → accepted r (length file) ≡ shift_listed o → Held file r
      go (refused k p) f q = absurd (never r (length file) k p q)
      go (accepted x next) f q =
          let s = shift_trip.only file x next bytes f in
          let es : List Edit = x.edits.entry in
          let z = same_input r (length file) (record { network = x.network; edits = list_of x.edits }) next q in
          let many : r.edits.count ≡ length es = ap (λ (y : ShiftInput). y.edits.count) z in
          let place : r.edits.first ≡ x.edits.place = ap (λ (y : ShiftInput). y.edits.first) z in
          let same : r.network ≡ x.network = ap (λ (y : ShiftInput). y.network) z in
          let at : r.edits.first - width r.edits.count ≡ x.edits.place - width (length es) = ap₂ (λ (k l : ℕ). k - width l) place many in
          let (cut, there) = behind_network file x next bytes f in
          let rest : List ℕ = drop (r.edits.first - width r.edits.count) file in
          let is : rest ≡ bytes_of (edits_numbers newest_form es) = ap (λ (k : ℕ). drop k file) at ∙ cut in
          let (listed, are) = written_edits es rest is s.few s.edits_good in
          record {
            good = ap network_refusal same ∙ s.good;
            counted = omega (arith, place, s.first, ap width many);
            within = omega (arith, at, there);
            edits = subst (λ (k : ℕ). EditsFile rest (width k) k) (sym many) listed;
            text_is = λ h. accepted_text x next f h ∙ sym (ap₂ run_text same (ap (λ (k : ℕ). edits_at newest_form k rest (width k)) many ∙ are));
          }

  pub shift_faulty : (e : FileError) → refused (number_of e.refusal) e.place ≡ shift_listed (read_shift file) → length file ≤ 16384
      → (e.place ≤ 16384) × (shift_text file ≡ refusal_text (number_of e.refusal) e.place)
  unfolding shift_listed shift_text shift_told
  shift_faulty e is h = go (read_shift file) refl is
    where
      go : (o : Outcome Shift) → read_shift file ≡ o → refused (number_of e.refusal) e.place ≡ shift_listed o
          → (e.place ≤ 16384) × (shift_text file ≡ refusal_text (number_of e.refusal) e.place)
      go (accepted x next) f q = absurd (never _ next (number_of e.refusal) e.place (sym q))
      go (refused k p) f q =
          let (number, place) = same_refusal (number_of e.refusal) e.place k p q in
          (omega (arith, place, refused_within file k p f, h), (rw (le-ltb 16384 (length file) h, f, number, place)))

pub shift_long : (file : List ℕ) → 16384 < length file → shift_text file ≡ refusal_text 5 0
unfolding shift_text
shift_long file h = rw (lt-ltb 16384 (length file) h)
