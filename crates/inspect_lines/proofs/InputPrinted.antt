-- What `inspect` prints, from what was read: an input that is too long or refused prints the line of its refusal; an
-- accepted one the parts of its network and of the timetable in its sheet, which is good. Assumes nothing.
use Prim.Native.Nat.{ℕ, ◌≤◌, ◌<◌}
use mathlib.Core.Path.{◌≡◌, refl, sym, ◌∙◌, ap}
use mathlib.Core.Bool.{Bool, true, false}
use mathlib.Core.List.{List, [], ◌∷◌, flat_map, append-nil}
use native.Mathlib.Omega.{arith}
use lib.Dec.{ltb}
use lib.ListN.{length, drop, length-drop}
use borrow.Author.Tests.{lt-ltb, le-ltb, ltb-false, eq-eqb}
use Rattle.base.specs.Choice.{◌if◌else◌}
use Rattle.std.specs.Prelude.{if◌then◌else◌}
use Rattle.std.specs.Prelude.{Result, Err}
use Rattle.base.specs.RefusalNumbers.{number_of}
use Rattle.base.specs.declared.refusal.Refusal.{Refusal}
use Rattle.base.specs.declared.refusal.Refusal.TheVariants.{WrongLength}
use Rattle.base.specs.declared.refusal.OutputError.{OutputError}
use Rattle.base.specs.Lists as Lists
use Rattle.timetable.specs.Formats.{Outcome, accepted, refused, number, place_of, value_or}
use Rattle.timetable.specs.Machine.{Timetable}
use Rattle.timetable.specs.Outputs.{reply_of, output, output_after}
use Rattle.timetable.specs.InspectFile.{Inspection, read_inspect}
use Rattle.timetable.proofs.OutputLaws.{refused_with}
use Rattle.roundtrips.specs.RoundTrips.{Bytes}
use Rattle.sheet.specs.Sheets.{encode_sheet, decode_sheet}
use Rattle.findings.specs.Lists.{sheet_list_refusal}
use Rattle.timetable_files.specs.Inspect.{InspectTold, inspect_outcome, inspect_read, inspect_sheet, inspect_answer, inspect_after}
use Rattle.network_files.proofs.PlaceLaws.{Within}
use Rattle.timetable_files.proofs.PlaceLaws.{inspect_within}
use Rattle.listings.specs.Shift.{refusal_text}
use Rattle.listings.specs.Inspect.{parts_of, inspect_told, inspect_parts, inspect_text}
use Rattle.inspect_lines.specs.Types.{Network}
use Rattle.inspect_lines.specs.Parts.{input_outcome, input_answer, input_after, part_refusal, part_text}
use Rattle.inspect_lines.proofs.InputHeld.{inspected}

-- the calls

pub input_long : (input sheet : List ℕ) → 16384 < length input → (inspect_read (refused 5 0) ≡ input_answer input sheet) × (sheet ≡ input_after input sheet)
unfolding input_answer input_after input_outcome inspect_sheet
input_long input sheet h = rw (lt-ltb 16384 (length input) h) (refl, refl)

pub input_read : (input sheet later : List ℕ) (r : InspectTold) → length input ≤ 16384 → r ≡ inspect_answer input sheet → later ≡ inspect_after input sheet
    → (r ≡ input_answer input sheet) × (later ≡ input_after input sheet)
unfolding inspect_answer inspect_after input_answer input_after input_outcome
input_read input sheet later r h e f = rw (le-ltb 16384 (length input) h) (e, f)

module _ (n : Network) (sheet bytes : List ℕ) where
  abbrev Answers : ℕ → List ℕ → List ℕ → Result ℕ OutputError → List ℕ → Type 0
  Answers k xs b r later = (reply_of r ≡ output k xs b) × (later ≡ output_after k xs b)

  pub too_long_part : 16384 < length bytes → (xs b : List ℕ) → Answers (part_refusal n sheet bytes) xs b (Err (OutputError.Refused WrongLength)) b
  unfolding part_refusal
  too_long_part h xs b = rw (lt-ltb 16384 (length bytes) h) (refused_with xs b WrongLength)

  module _ (h : length bytes ≤ 16384) where
    pub sheet_part : (k : Refusal) → number_of k ≡ sheet_list_refusal n sheet → (xs b : List ℕ) → Answers (part_refusal n sheet bytes) xs b (Err (OutputError.Refused k)) b
    unfolding part_refusal
    sheet_part k e xs b = rw (le-ltb 16384 (length bytes) h, ← e) (refused_with xs b k)

    pub answers_as : sheet_list_refusal n sheet ≡ 0 → (xs b : List ℕ) (r : Result ℕ OutputError) (later : List ℕ) → Answers 0 xs b r later
        → Answers (part_refusal n sheet bytes) xs b r later
    unfolding part_refusal
    answers_as e xs b r later w = rw (le-ltb 16384 (length bytes) h, e) w

-- what they print together

-- the indices of the parts
abbrev pub indices : List ℕ
indices = 0 ∷ 1 ∷ 2 ∷ 3 ∷ 4 ∷ 5 ∷ 6 ∷ 7 ∷ 8 ∷ 9 ∷ 10 ∷ 11 ∷ 12 ∷ 13 ∷ 14 ∷ 15 ∷ 16 ∷ 17 ∷ 18 ∷ 19 ∷ 20 ∷ 21 ∷ 22 ∷ 23 ∷ 24 ∷ []

-- what an input that is too long, or is not, gives
abbrev told : Bool → Outcome Inspection → Outcome Inspection
told b o = if b then refused 5 0 else o

parts_indexed : (n : Network) (sheet bytes : List ℕ)
    → flat_map (λ part. part) (parts_of n (decode_sheet sheet) bytes) ≡ flat_map (part_text n sheet bytes) indices
unfolding part_text parts_of Lists.opened flat_map
parts_indexed n sheet bytes = refl

module _ (input sheet : List ℕ) (size : length sheet ≡ 8192) where
  abbrev r : InspectTold
  r = input_answer input sheet

  abbrev own : List ℕ
  own = input_after input sheet

  -- a refused input prints its line
  pub refused_text : ¬ (r.refusal ≡ 0) → inspect_text input ≡ refusal_text r.refusal r.place
  unfolding inspect_text inspect_parts inspect_told input_answer input_outcome inspect_outcome inspect_read number place_of value_or flat_map
  refused_text d = rw (eq-eqb (length sheet) 8192 size) (go (ltb 16384 (length input)) (read_inspect input) (rw (eq-eqb (length sheet) 8192 size) at d))
    where
      go : (b : Bool) (o : Outcome Inspection) → ¬ ((inspect_read (if b then refused 5 0 else o)).refusal ≡ 0)
          → flat_map (λ part. part) (if b then refusal_text 5 0 ∷ [] else inspect_told input o)
          ≡ refusal_text (inspect_read (if b then refused 5 0 else o)).refusal (inspect_read (if b then refused 5 0 else o)).place
      go true o z = append-nil _
      go false (accepted x next) z = absurd (z refl)
      go false (refused k p) z = append-nil _

  -- an accepted one prints the parts, none of which is refused
  pub accepted_text : Bytes input → r.refusal ≡ 0
      → (inspect_text input ≡ flat_map (part_text r.network own (drop r.first input)) indices) × (part_refusal r.network own (drop r.first input) ≡ 0)
  unfolding inspect_text inspect_parts inspect_told input_answer input_after input_outcome inspect_outcome inspect_read number place_of value_or inspect_sheet part_refusal Within
  accepted_text bytes z =
      rw (eq-eqb (length sheet) 8192 size)
      (go (ltb 16384 (length input)) refl (read_inspect input) refl (rw (eq-eqb (length sheet) 8192 size) at z) (inspect_within input))
    where
      go : (b : Bool) → ltb 16384 (length input) ≡ b → (o : Outcome Inspection) → read_inspect input ≡ o → (inspect_read (told b o)).refusal ≡ 0
          → Within (length input) o
          → (flat_map (λ part. part) (if b then refusal_text 5 0 ∷ [] else inspect_told input o)
          ≡ flat_map (part_text (inspect_read (told b o)).network (inspect_sheet (told b o) sheet) (drop (inspect_read (told b o)).first input)) indices)
          × (part_refusal (inspect_read (told b o)).network (inspect_sheet (told b o) sheet) (drop (inspect_read (told b o)).first input) ≡ 0)
      go true e o f z w = absurd (omega (arith, z))
      go false e (refused k p) f z (d, l) = absurd (d z)
      go false e (accepted x next) f z w =
          let h = inspected input bytes x next f in
          let rest : List ℕ = drop x.first input in
          let few : length rest ≤ 16384 = omega (arith, length-drop x.first input, ltb-false 16384 (length input) e) in (
            ap (λ (m : Timetable). flat_map (λ part. part) (parts_of x.network m rest)) (sym h.held) ∙ parts_indexed x.network (encode_sheet x.timetable) rest,
            rw (le-ltb 16384 (length rest) few) h.good,
          )
