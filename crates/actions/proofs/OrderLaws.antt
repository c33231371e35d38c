-- The order of refusals, for results: the first that refuses is told, after 3 of the network's. Assumes nothing.
use Prim.Native.Nat.{ℕ}
use mathlib.Core.Path.{◌≡◌, refl, sym, ◌∙◌, ap}
use mathlib.Core.Bool.{Bool, true, false}
use lib.Dec.{eqb}
use borrow.Author.Tests.{eqb-true}
use Rattle.std.specs.Prelude.{Result, Ok, Err}
use Rattle.std.specs.Result.{result_and, result_eq}
use Rattle.base.proofs.Tests.{by_value}
use Rattle.base.specs.declared.refusal.Refusal.{Refusal}
use Rattle.base.specs.declared.refusal.Refusal.TheVariants.{EndsOrGoesOn, NotShortest, OutOfRange, NotJoined, WrongLength, BadSheet, NotKnown, ThereAlready, Missing, LinkedOtherwise, AltersOccurred, LimitReached, OutputTooShort, ClosureBackwards, FromTheFuture}
use Rattle.base.specs.RefusalNumbers.{number_of, refusal_number}
use Rattle.timetable.specs.Refusals.{early, or_else}

-- every refusal has a number, and 3 is that of `OutOfRange` alone
pub not_nought : (r : Refusal) → eqb (number_of r) 0 ≡ false
not_nought EndsOrGoesOn = refl
not_nought NotShortest = refl
not_nought OutOfRange = refl
not_nought NotJoined = refl
not_nought WrongLength = refl
not_nought BadSheet = refl
not_nought NotKnown = refl
not_nought ThereAlready = refl
not_nought Missing = refl
not_nought LinkedOtherwise = refl
not_nought AltersOccurred = refl
not_nought LimitReached = refl
not_nought OutputTooShort = refl
not_nought ClosureBackwards = refl
not_nought FromTheFuture = refl

abbrev same_refusal : Refusal → Refusal → Bool
same_refusal = Rattle.base.specs.contracts.refusal.RefusalPartialEq.TheImpl.eq-value.it

pub only_three : {T : Type 0} (u : T → T → Bool) (r : Result T Refusal) → result_eq u same_refusal r (Err OutOfRange) ≡ eqb (refusal_number r) 3
only_three u (Ok x) = refl
only_three u (Err EndsOrGoesOn) = refl
only_three u (Err NotShortest) = refl
only_three u (Err OutOfRange) = refl
only_three u (Err NotJoined) = refl
only_three u (Err WrongLength) = refl
only_three u (Err BadSheet) = refl
only_three u (Err NotKnown) = refl
only_three u (Err ThereAlready) = refl
only_three u (Err Missing) = refl
only_three u (Err LinkedOtherwise) = refl
only_three u (Err AltersOccurred) = refl
only_three u (Err LimitReached) = refl
only_three u (Err OutputTooShort) = refl
only_three u (Err ClosureBackwards) = refl
only_three u (Err FromTheFuture) = refl

-- the first that refuses
pub first_told : {T U : Type 0} (one : Result T Refusal) (later : Result U Refusal)
    → refusal_number (result_and one later) ≡ or_else (refusal_number one) (refusal_number later)
unfolding or_else
first_told (Ok x) later = refl
first_told (Err r) later = sym (rw (not_nought r))

-- in turn, where the network's is not 3
module _ (own network both : ℕ) (h : eqb network 3 ≡ false) where
  early_past : eqb own 0 ≡ true → or_else (or_else own network) both ≡ early own network both
  unfolding early or_else
  early_past e = rw (eqb-true own 0 e, h)

  early_three : eqb own 0 ≡ false → eqb own 3 ≡ true → or_else (or_else own network) both ≡ early own network both
  unfolding early or_else
  early_three e f = rw (eqb-true own 3 f)

  early_one : eqb own 0 ≡ false → eqb own 3 ≡ false → or_else (or_else own network) both ≡ early own network both
  unfolding early or_else
  early_one e f = rw (f, h, e) (rw e)

  pub early_in_turn : or_else (or_else own network) both ≡ early own network both
  early_in_turn = by_value (eqb own 0) early_past (λ e. by_value (eqb own 3) (early_three e) (early_one e))

module _ (own network both : Result Unit Refusal) where
  abbrev told : ℕ
  told = early (refusal_number own) (refusal_number network) (refusal_number both)

  pub told_in_turn : eqb (refusal_number network) 3 ≡ false → refusal_number (result_and (result_and own network) both) ≡ told
  told_in_turn h =
      first_told (result_and own network) both
      ∙ ap (λ (k : ℕ). or_else k (refusal_number both)) (first_told own network)
      ∙ early_in_turn (refusal_number own) (refusal_number network) (refusal_number both) h
