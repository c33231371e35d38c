-- The line W by what writing the sheet answers: what was written is compared with the bytes; what is longer than any
-- input is not the input's. Assumes nothing.
use Prim.Native.Nat.{ℕ, ◌≤◌}
use mathlib.Core.Path.{◌≡◌, refl, sym, ◌∙◌, ap}
use mathlib.Core.Bool.{Bool, true, false}
use mathlib.Core.List.{List, [], ◌∷◌, ◌++◌}
use native.Mathlib.Omega.{arith}
use lib.Dec.{leb}
use lib.ListN.{length, take, drop}
use lib.Seq.{take_at}
use borrow.Author.Tests.{leb-true, leb-false}
use mir.Val.{bool_byte}
use Rattle.base.specs.Choice.{◌if◌else◌}
use Rattle.std.specs.Prelude.{if◌then◌else◌}
use Rattle.std.specs.Prelude.{Ok, Err}
use Rattle.base.specs.declared.refusal.OutputError.{OutputError}
use Rattle.base.specs.Lists.{same}
use Rattle.timetable.specs.Outputs as outputs
use Rattle.timetable.specs.Outputs.{Reply, reply_of, output, output_after}
use Rattle.timetable.proofs.ReplyLaws.{clash, same_size}
use Rattle.sheet.specs.Sheets.{decode_sheet, whole_refusal}
use Rattle.sheet.proofs.PassLaws.{same_not}
use Rattle.findings.specs.Lists.{sheet_list_refusal}
use Rattle.timetable_writing.specs.Writing.{timetable_bytes, write_timetable, timetable_written}
use Rattle.listings.specs.Text.{line}
use Rattle.listings.specs.Inspect.{written_text}
use Rattle.inspect_lines.specs.Types.{Network}

-- a sheet whose findings can be listed can be written
not_refused : (n : Network) (sheet : List ℕ) → sheet_list_refusal n sheet ≡ 0 → whole_refusal n sheet ≡ 0
unfolding sheet_list_refusal
not_refused n sheet e = e

module _ (n : Network) (sheet buffer : List ℕ) (good : sheet_list_refusal n sheet ≡ 0) where
  abbrev bytes : List ℕ
  bytes = timetable_bytes n sheet

  answers : write_timetable n sheet buffer ≡ output 0 bytes buffer
  unfolding write_timetable
  answers = ap (λ (k : ℕ). output k bytes buffer) (not_refused n sheet good)

  leaves : timetable_written n sheet buffer ≡ output_after 0 bytes buffer
  unfolding timetable_written
  leaves = ap (λ (k : ℕ). output_after k bytes buffer) (not_refused n sheet good)

  pub written : (k : ℕ) → reply_of (Ok k) ≡ write_timetable n sheet buffer → (k ≤ length buffer) × (take k (timetable_written n sheet buffer) ≡ bytes)
  unfolding reply_of output output_after
  written k e = go (leb (length bytes) (length buffer)) refl (e ∙ answers) leaves
    where
      go : (b : Bool) → leb (length bytes) (length buffer) ≡ b → outputs.written k ≡ (if b then outputs.written (length bytes) else outputs.needed (length bytes))
          → timetable_written n sheet buffer ≡ (if b then bytes ++ drop (length bytes) buffer else buffer)
          → (k ≤ length buffer) × (take k (timetable_written n sheet buffer) ≡ bytes)
      go true t q w =
          let s : k ≡ length bytes = same_size (outputs.written k) (outputs.written (length bytes)) k (length bytes) q refl refl in
          (omega (arith, s, leb-true (length bytes) (length buffer) t), rw w (take_at bytes (drop (length bytes) buffer) k (sym s)))
      go false t q w = let s : ◌≡◌ {A = ℕ} 0 13 = ap (λ (r : Reply). r.number) q in absurd (omega (arith, s))

  pub unwritten : (e : OutputError) → reply_of (Err e) ≡ write_timetable n sheet buffer → (ys : List ℕ) → length ys ≤ length buffer → same bytes ys ≡ false
  unfolding reply_of output
  unwritten e q ys h = go e (leb (length bytes) (length buffer)) refl (q ∙ answers)
    where
      go : (x : OutputError) (b : Bool) → leb (length bytes) (length buffer) ≡ b → reply_of (Err x) ≡ (if b then outputs.written (length bytes) else outputs.needed (length bytes))
          → same bytes ys ≡ false
      go (OutputError.Refused r) true t p = clash (length bytes) (ap (λ (x : Reply). x.size) p)
      go (OutputError.Refused r) false t p = clash (length bytes) (ap (λ (x : Reply). x.size) p)
      go (OutputError.TooShort k) true t p = let s : ◌≡◌ {A = ℕ} 13 0 = ap (λ (x : Reply). x.number) p in absurd (omega (arith, s))
      go (OutputError.TooShort k) false t p = same_not bytes ys (λ s. omega (arith, s, h, leb-false (length bytes) (length buffer) t))

-- the line
pub line_is : (n : Network) (sheet ys : List ℕ) (b : Bool) → b ≡ same (timetable_bytes n sheet) ys → line 87 ((1 if b else 0) ∷ []) ≡ written_text n (decode_sheet sheet) ys
unfolding written_text timetable_bytes
line_is n sheet ys b is = rw is refl

pub as_number : (b : Bool) → bool_byte b ≡ (1 if b else 0)
as_number true = refl
as_number false = refl
