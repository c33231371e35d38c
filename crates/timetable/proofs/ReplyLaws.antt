-- The number and values of an answer leave nothing open: they tell each case of its type from the others. Assumes
-- nothing.
use Prim.Native.Nat.{ℕ}
use mathlib.Core.Path.{◌≡◌, refl, sym, ◌∙◌, ap}
use Rattle.std.specs.Prelude.{None, Some, Result, Ok, Err, if◌then◌else◌, eqb}
use native.Mathlib.Omega.{arith}
use Rattle.base.specs.RefusalNumbers.{number_of}
use Rattle.base.specs.declared.refusal.Refusal.{Refusal}
use Rattle.base.specs.declared.refusal.Refusal.TheVariants.{EndsOrGoesOn, NotShortest, OutOfRange, NotJoined, WrongLength, BadSheet, NotKnown, ThereAlready, Missing, LinkedOtherwise, AltersOccurred, LimitReached, OutputTooShort, ClosureBackwards, FromTheFuture}
use Rattle.base.specs.declared.refusal.OutputError.{OutputError}
use Rattle.timetable.specs.Outputs.{Reply, written, needed, refused, reply_of}

-- what comes along with one of them does not come along with the other
pub clash {ℓ} : {P : Type ℓ} (k : ℕ) → None ≡ Some k → P
clash k e = let z : ◌≡◌ {A = ℕ} 0 1 = cc in absurd (omega arith)

pub same_size : (x y : Reply) (j k : ℕ) → x ≡ y → x.size ≡ Some j → y.size ≡ Some k → j ≡ k
same_size x y j k e f g = let q : Some j ≡ Some k = sym f ∙ ap (λ (r : Reply). r.size) e ∙ g in cc

-- the refusal that has a number
refusal_at : ℕ → Refusal
refusal_at k =
    if eqb k 1 then EndsOrGoesOn else (if eqb k 2 then NotShortest else (if eqb k 3 then OutOfRange else (if eqb k 4 then NotJoined
    else (if eqb k 5 then WrongLength else (if eqb k 6 then BadSheet else (if eqb k 7 then NotKnown else (if eqb k 8 then ThereAlready
    else (if eqb k 9 then Missing else (if eqb k 10 then LinkedOtherwise else (if eqb k 11 then AltersOccurred
    else (if eqb k 12 then LimitReached else (if eqb k 13 then OutputTooShort else (if eqb k 14 then ClosureBackwards else FromTheFuture)))))))))))))

refusal_back : (r : Refusal) → refusal_at (number_of r) ≡ r
unfolding refusal_at
refusal_back EndsOrGoesOn = refl
refusal_back NotShortest = refl
refusal_back OutOfRange = refl
refusal_back NotJoined = refl
refusal_back WrongLength = refl
refusal_back BadSheet = refl
refusal_back NotKnown = refl
refusal_back ThereAlready = refl
refusal_back Missing = refl
refusal_back LinkedOtherwise = refl
refusal_back AltersOccurred = refl
refusal_back LimitReached = refl
refusal_back OutputTooShort = refl
refusal_back ClosureBackwards = refl
refusal_back FromTheFuture = refl

-- two refusals with one number are one
pub number_fixes : (r s : Refusal) → number_of r ≡ number_of s → r ≡ s
number_fixes r s e = sym (refusal_back r) ∙ ap refusal_at e ∙ refusal_back s

pub written_alone : (r : Result ℕ OutputError) (k : ℕ) → reply_of r ≡ written k → r ≡ Ok k
unfolding reply_of
written_alone (Ok j) k e = ap Ok (same_size (written j) (written k) j k e refl refl)
written_alone (Err (OutputError.Refused q)) k e = clash k (ap (λ (r : Reply). r.size) e)
written_alone (Err (OutputError.TooShort j)) k e = let z : ◌≡◌ {A = ℕ} 13 0 = ap (λ (r : Reply). r.number) e in absurd (omega (arith, z))

pub needed_alone : (r : Result ℕ OutputError) (k : ℕ) → reply_of r ≡ needed k → r ≡ Err (OutputError.TooShort k)
unfolding reply_of
needed_alone (Ok j) k e = let z : ◌≡◌ {A = ℕ} 0 13 = ap (λ (r : Reply). r.number) e in absurd (omega (arith, z))
needed_alone (Err (OutputError.Refused q)) k e = clash k (ap (λ (r : Reply). r.size) e)
needed_alone (Err (OutputError.TooShort j)) k e = ap (λ i. Err (OutputError.TooShort i)) (same_size (needed j) (needed k) j k e refl refl)

pub refused_alone : (r : Result ℕ OutputError) (k : ℕ) → reply_of r ≡ refused k → (q : Refusal) × (r ≡ Err (OutputError.Refused q)) × (number_of q ≡ k)
unfolding reply_of
refused_alone (Ok j) k e = clash j (sym (ap (λ (r : Reply). r.size) e))
refused_alone (Err (OutputError.Refused q)) k e = (q, refl, ap (λ (r : Reply). r.number) e)
refused_alone (Err (OutputError.TooShort j)) k e = clash j (sym (ap (λ (r : Reply). r.size) e))

-- so answers with one reply are one answer
pub reply_fixes : (r s : Result ℕ OutputError) → reply_of r ≡ reply_of s → r ≡ s
unfolding reply_of
reply_fixes r (Ok k) e = written_alone r k e
reply_fixes r (Err (OutputError.Refused q)) e =
    let x = refused_alone r (number_of q) e in
    x.1 ∙ ap (λ y. Err (OutputError.Refused y)) (number_fixes x.0 q x.2)
reply_fixes r (Err (OutputError.TooShort k)) e = needed_alone r k e
