-- Document 01's number and values of a list that is run leave nothing open: they tell each case of its answer from the
-- others. A place comes along with a refusal alone, and a length with the two others, whose numbers differ. Assumes
-- nothing.
use Prim.Native.Nat.{ℕ}
use mathlib.Core.Path.{◌≡◌, refl, ◌∙◌, ap}
use native.Mathlib.Omega.{arith}
use Rattle.std.specs.Prelude.{Some, Result, Ok, Err}
use Rattle.base.specs.RefusalNumbers.{number_of}
use Rattle.base.specs.declared.refusal.FileError.{FileError}
use Rattle.timetable.specs.Outputs.{Reply, written, needed, refused_at}
use Rattle.timetable.proofs.ReplyLaws.{clash, same_size, number_fixes}
use Rattle.edit_calls.specs.Types.{RunError}
use Rattle.edit_calls.specs.Lists.{reply}

pub answered_alone : (r : Result ℕ RunError) (k : ℕ) → reply r ≡ written k → r ≡ Ok k
unfolding reply
answered_alone (Ok j) k e = ap Ok (same_size (written j) (written k) j k e refl refl)
answered_alone (Err (RunError.Refused x)) k e = clash k (ap (λ (r : Reply). r.size) e)
answered_alone (Err (RunError.TooShort j)) k e = let z : ◌≡◌ {A = ℕ} 13 0 = ap (λ (r : Reply). r.number) e in absurd (omega (arith, z))

pub short_alone : (r : Result ℕ RunError) (k : ℕ) → reply r ≡ needed k → r ≡ Err (RunError.TooShort k)
unfolding reply
short_alone (Ok j) k e = let z : ◌≡◌ {A = ℕ} 0 13 = ap (λ (r : Reply). r.number) e in absurd (omega (arith, z))
short_alone (Err (RunError.Refused x)) k e = clash k (ap (λ (r : Reply). r.size) e)
short_alone (Err (RunError.TooShort j)) k e = ap (λ (i : ℕ). Err (RunError.TooShort i)) (same_size (needed j) (needed k) j k e refl refl)

pub refused_alone : (r : Result ℕ RunError) (k p : ℕ) → reply r ≡ refused_at k p → (x : FileError) × (r ≡ Err (RunError.Refused x)) × (number_of x.refusal ≡ k) × (x.place ≡ p)
unfolding reply
refused_alone (Ok j) k p e = clash p (ap (λ (r : Reply). r.place) e)
refused_alone (Err (RunError.Refused x)) k p e =
    let places : Some x.place ≡ Some p = ap (λ (r : Reply). r.place) e in
    (x, refl, ap (λ (r : Reply). r.number) e, cc)
refused_alone (Err (RunError.TooShort j)) k p e = clash p (ap (λ (r : Reply). r.place) e)

-- two refusals of a list with one refusal and one place are one
one_refusal : (y x : FileError) → y.refusal ≡ x.refusal → y.place ≡ x.place → ◌≡◌ {A = Result ℕ RunError} (Err (RunError.Refused y)) (Err (RunError.Refused x))
one_refusal y x same place = rw (same, place)

-- so answers with one reply are one answer
pub reply_fixes : (r s : Result ℕ RunError) → reply r ≡ reply s → r ≡ s
unfolding reply
reply_fixes r (Ok k) e = answered_alone r k e
reply_fixes r (Err (RunError.Refused x)) e =
    let y = refused_alone r (number_of x.refusal) x.place e in
    let same : y.0.refusal ≡ x.refusal = number_fixes y.0.refusal x.refusal y.2 in
    y.1 ∙ one_refusal y.0 x same y.3
reply_fixes r (Err (RunError.TooShort k)) e = short_alone r k e
