-- The call that reads a timetable file: 5, the network's 3, and then the file as a whole, with what else refuses the
-- network behind its faulty numbers. Assumes nothing.
use Prim.Native.Nat.{ℕ}
use mathlib.Core.Path.{◌≡◌, refl, sym, ◌∙◌, ap}
use mathlib.Core.Bool.{true}
use mathlib.Core.List.{List}
use native.Mathlib.Omega.{arith}
use lib.Dec.{eqb}
use lib.ListN.{length}
use borrow.Author.Tests.{eq-eqb, ne_eqb}
use Rattle.base.specs.RefusalNumbers.{number_of}
use Rattle.base.specs.declared.refusal.Refusal.{Refusal}
use Rattle.base.specs.declared.refusal.Refusal.TheVariants.{EndsOrGoesOn, NotShortest, OutOfRange, NotJoined, WrongLength, BadSheet, NotKnown, ThereAlready, Missing, LinkedOtherwise, AltersOccurred, LimitReached, OutputTooShort, ClosureBackwards, FromTheFuture}
use Rattle.network.specs.Networks.{network_refusal}
use Rattle.timetable.specs.declared.FileForm.{FileForm}
use Rattle.timetable.specs.Formats.{Outcome, refused, read_file}
use Rattle.timetable.specs.Machine.{Timetable}
use Rattle.timetable.specs.NetworkFile.{under}
use Rattle.timetable.specs.TimetableFile.{read_timetable_as}
use Rattle.fields.specs.Outcomes.{end_of}
use Rattle.timetable_entries.specs.Answers.{sheet_of}
use Rattle.timetable_entries.specs.between.Rest.{rest_of, rest_outcome}
use Rattle.timetable_files.specs.Types.{Network}
use Rattle.timetable_files.specs.Calls.{read_outcome, read_answer, read_after}

-- only one refusal has the number 3
pub only_three : (r : Refusal) → number_of r ≡ 3 → r ≡ OutOfRange
only_three EndsOrGoesOn e = absurd (omega (arith, e))
only_three NotShortest e = absurd (omega (arith, e))
only_three OutOfRange e = refl
only_three NotJoined e = absurd (omega (arith, e))
only_three WrongLength e = absurd (omega (arith, e))
only_three BadSheet e = absurd (omega (arith, e))
only_three NotKnown e = absurd (omega (arith, e))
only_three ThereAlready e = absurd (omega (arith, e))
only_three Missing e = absurd (omega (arith, e))
only_three LinkedOtherwise e = absurd (omega (arith, e))
only_three AltersOccurred e = absurd (omega (arith, e))
only_three LimitReached e = absurd (omega (arith, e))
only_three OutputTooShort e = absurd (omega (arith, e))
only_three ClosureBackwards e = absurd (omega (arith, e))
only_three FromTheFuture e = absurd (omega (arith, e))

module _ (form : FileForm) (n : Network) (file sheet : List ℕ) where
  -- the outcome that the answer tells, and the sheet then
  abbrev pub Tells : Outcome (Unit {0}) → List ℕ → Type 0
  Tells o later = (o ≡ read_answer form n file sheet) × (later ≡ read_after form n file sheet)

  pub wrong_length : ¬ (length sheet ≡ 8192) → Tells (refused 5 0) sheet
  unfolding read_answer read_after read_outcome end_of sheet_of
  wrong_length d = (rw (ne_eqb (length sheet) 8192 d), rw (ne_eqb (length sheet) 8192 d))

  module _ (size : length sheet ≡ 8192) where
    pub network_odd : 3 ≡ network_refusal n → Tells (refused 3 0) sheet
    unfolding read_answer read_after read_outcome read_timetable_as under end_of sheet_of
    network_odd z =
        let three : eqb (network_refusal n) 3 ≡ true = eq-eqb (network_refusal n) 3 (sym z) in
        (rw (eq-eqb (length sheet) 8192 size, three), rw (eq-eqb (length sheet) 8192 size, three))

    module _ (r : ℕ) (e : r ≡ network_refusal n) (d : ¬ (r ≡ 3)) where
      same : rest_outcome form n (record { number = r; place = 0 }) file 0 sheet ≡ read_outcome form n file sheet
      unfolding rest_outcome rest_of read_outcome read_timetable_as under read_file
      same = rw (eq-eqb (length sheet) 8192 size, e, ne_eqb (network_refusal n) 3 (λ q. d (e ∙ q)))

      pub as-rest : (o : Outcome (Unit {0})) (later : List ℕ) → o ≡ end_of (rest_outcome form n (record { number = r; place = 0 }) file 0 sheet)
          → later ≡ sheet_of (rest_outcome form n (record { number = r; place = 0 }) file 0 sheet) sheet → Tells o later
      unfolding read_answer read_after
      as-rest o later u v = (u ∙ ap end_of same, v ∙ ap (λ (x : Outcome Timetable). sheet_of x sheet) same)
