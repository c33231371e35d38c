-- The list after an edit, formed in a lent buffer: how long it is; and what is redone stands in just its room there, so
-- that weaving makes the list, and the rest of the buffer is as it was. Assumes nothing.
use Prim.Native.Nat.{ℕ, suc, ◌+◌, ◌*◌, ◌-◌, ◌%◌, ◌<◌, ◌≤◌}
use mathlib.Core.Path.{◌≡◌, refl, sym, ◌∙◌, ap, ap₂}
use mathlib.Core.Bool.{Bool, true, false}
use mathlib.Core.List.{List, [], ◌∷◌, ◌++◌, append-nil, append_assoc}
use native.Mathlib.Omega.{arith}
use lib.ListN.{length, take, drop, drop_of_length-le, length-append}
use lib.Seq.{length-take-le, take_at, drop_at, drop-drop}
use Rattle.std.specs.Prelude.{if◌then◌else◌}
use Rattle.base.specs.Lists.{keep}
use Rattle.base.proofs.Lengths.{keep_no_longer}
use Rattle.timetable.specs.Machine.{Timetable}
use Rattle.timetable.specs.Findings.{picked, spanning, findings_in}
use Rattle.timetable.specs.Outputs.{put}
use Rattle.timetable.specs.Recheck.{before, leading, trailing, together}
use Rattle.timetable.proofs.BuffersFilled.{put_whole}
use Rattle.sheet.proofs.FillLaws.{filled_length}
use Rattle.scope.specs.declared.Scope.{Scope}
use Rattle.scope.specs.Scopes.{takes}
use Rattle.builder.specs.between.Builder.{redone_numbers}
use Rattle.findings.specs.Lists.{Answers}
use Rattle.findings.proofs.ListsBuilt.{passes}
use Rattle.findings.proofs.ListCalls.{too_short, written}
use Rattle.findings.proofs.RedoneBuilt.{redone, redone_taken}
use Rattle.recheck.specs.Types.{Network, Finding, Marks}
use Rattle.std.specs.Prelude.{Ok, Err}
use Rattle.base.specs.declared.refusal.OutputError.{OutputError}
use Rattle.recheck.specs.between.Kept.{kept, kept_numbers, list_with, CanWeave, woven}
use Rattle.recheck.proofs.FourLaws.{numbers_fours, numbers_length}

-- how long it is

fours_no_longer : (xs : List ℕ) → 4 * length (findings_in xs) ≤ length xs
unfolding findings_in
fours_no_longer [] = omega arith
fours_no_longer (s ∷ []) = omega arith
fours_no_longer (s ∷ rule ∷ []) = omega arith
fours_no_longer (s ∷ rule ∷ a ∷ []) = omega arith
fours_no_longer (s ∷ rule ∷ a ∷ b ∷ xs) = omega (arith, fours_no_longer xs)

-- what stays of a list is no longer than the list
pub kept_no_longer : (marks : Marks) (list : List ℕ) → length (kept_numbers marks list) ≤ length list
unfolding kept_numbers kept
kept_no_longer marks list =
    let fewer : length (kept marks (findings_in list)) ≤ length (findings_in list) = keep_no_longer _ (findings_in list) in
    omega (arith, numbers_length (kept marks (findings_in list)), fours_no_longer list)

parted_length : (f : Finding) (gs : List Finding) → length (leading f gs) + length (trailing f gs) ≡ length gs
unfolding leading trailing
parted_length f [] = refl
parted_length f (g ∷ gs) = go (before g f) (parted_length f gs)
  where
    go : (b : Bool) → length (leading f gs) + length (trailing f gs) ≡ length gs
        → length (if b then g ∷ leading f gs else []) + length (if b then trailing f gs else (g ∷ gs)) ≡ suc (length gs)
    go true h = omega arith
    go false h = omega arith

together_length : (fs gs : List Finding) → length (together fs gs) ≡ length fs + length gs
unfolding together
together_length [] gs = omega arith
together_length (f ∷ fs) gs =
    length-append (leading f gs) (f ∷ together fs (trailing f gs))
    ∙ omega (arith, together_length fs (trailing f gs), parted_length f gs)

module _ (marks : Marks) (list xs : List ℕ) (whole : length xs % 4 ≡ 0) where
  pub with_length : length (list_with marks list xs) ≡ length (kept_numbers marks list) + length xs
  unfolding list_with kept_numbers
  with_length =
      omega
      (arith, numbers_length (together (kept marks (findings_in list)) (findings_in xs)), together_length (kept marks (findings_in list)) (findings_in xs), numbers_length (kept marks (findings_in list)), numbers_length (findings_in xs), ap length (numbers_fours xs whole))

  -- a buffer that is too short for it
  pub short_answers : (buffer : List ℕ) (at w : ℕ) → length (kept_numbers marks list) ≡ at → length xs ≡ w → length buffer < at + w
      → Answers 0 (list_with marks list xs) buffer (Err (OutputError.TooShort (at + w))) buffer
  short_answers buffer at w k e h = too_short (list_with marks list xs) buffer (at + w) (omega (arith, with_length)) h

-- what is redone is whole findings
pub redone_fours : (n : Network) (scope : Scope) (marks : Marks) (m : Timetable) → length (redone_numbers n scope marks m) % 4 ≡ 0
redone_fours n scope marks m =
    let fs = keep (redone marks) (picked (passes (takes n scope)) (spanning n m)) in
    omega (arith, ap length (redone_taken n marks m scope), numbers_length fs)

-- numbers into just their room

-- a part that they were put into
pub put_just : (xs part : List ℕ) → length part ≡ length xs → put 0 xs part ≡ xs
put_just xs part e =
    put_whole xs part (omega (arith, e))
    ∙ ap (λ (l : List ℕ). xs ++ l) (drop_of_length-le part {i = length xs} (omega (arith, e)))
    ∙ append-nil xs

-- the buffer with them in their room, of which w numbers are from a place on
abbrev pub filled : ℕ → ℕ → List ℕ → List ℕ → List ℕ
filled at w out xs = take at out ++ (xs ++ drop (at + w - at) (drop at out))

module _ (at w : ℕ) (out xs : List ℕ) (fits : at + w ≤ length out) (just : length xs ≡ w) where
  front : length (take at out) ≡ at
  front = length-take-le at out (omega arith)

  filled_part : take (at + w - at) (drop at (filled at w out xs)) ≡ xs
  filled_part =
      ap (take (at + w - at)) (drop_at (take at out) (xs ++ drop (at + w - at) (drop at out)) at front)
      ∙ take_at xs (drop (at + w - at) (drop at out)) (at + w - at) (omega arith)

  filled_behind : drop (at + w) (filled at w out xs) ≡ drop (at + w) out
  filled_behind =
      let up : at + (at + w - at) ≡ at + w = omega arith in
      ap (drop (at + w)) (sym (append_assoc (take at out) xs (drop (at + w - at) (drop at out))))
      ∙ drop_at (take at out ++ xs) (drop (at + w - at) (drop at out)) (at + w) (length-append (take at out) xs ∙ omega (arith, front))
      ∙ drop-drop (at + w - at) at out
      ∙ ap (λ (k : ℕ). drop k out) up

  module _ (marks : Marks) (list : List ℕ) (kept-long : length (kept_numbers marks list) ≡ at) (whole : length xs % 4 ≡ 0) where
    pub can_weave : CanWeave marks list at (at + w) (filled at w out xs)
    can_weave = (kept-long, omega arith, omega (arith, filled_length w at out xs just fits), omega arith)

    -- the list is then written, and the rest is as it was
    pub woven_answers : (after : List ℕ) → after ≡ woven marks list at (at + w) (filled at w out xs)
        → Answers 0 (list_with marks list xs) out (Ok (at + w)) after
    unfolding woven
    woven_answers after e =
        let long : at + w ≡ length (list_with marks list xs) = omega (arith, with_length marks list xs whole) in
        written (list_with marks list xs) out (at + w) after (omega arith) fits
        (e
        ∙ ap₂ (λ (a b : List ℕ). list_with marks list a ++ b) filled_part filled_behind
        ∙ ap (λ (k : ℕ). list_with marks list xs ++ drop k out) long
        ∙ sym (put_whole (list_with marks list xs) out (omega arith)))
