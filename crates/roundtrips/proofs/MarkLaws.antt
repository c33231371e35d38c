-- Marks and statuses as numbers, and what a form can say of a mark and of a report's minute: a Bool is given back by
-- its number, and a number of 0..1 by its Bool; no form lacks the mark 0, nor the last minute. Each by cases. Assumes
-- nothing.
use Prim.Native.Nat.{ℕ, zero, suc}
use mathlib.Core.Path.{◌≡◌, refl}
use mathlib.Core.Bool.{Bool, true, false}
use native.Mathlib.Omega.{arith}
use lib.Dec.{T, leb, eqb}
use Rattle.railway.specs.Ranges.{last_minute}
use Rattle.timetable.specs.declared.FileForm.{FileForm}
use Rattle.timetable.specs.FileForms.{newest_form, status_number, mark_said, minute_said}
use Rattle.roundtrips.proofs.Walks.{InRange}

pub status_in : (b : Bool) → InRange 0 1 (status_number b)
unfolding status_number
status_in true = record { low = omega arith; high = omega arith; short = omega arith }
status_in false = record { low = omega arith; high = omega arith; short = omega arith }

pub status_most : (b : Bool) → leb (status_number b) 1 ≡ true
unfolding status_number
status_most true = refl
status_most false = refl

pub status_back : (b : Bool) → eqb (status_number b) 1 ≡ b
unfolding status_number
status_back true = refl
status_back false = refl

pub back_status : (n : ℕ) → InRange 0 1 n → status_number (eqb n 1) ≡ n
unfolding status_number
back_status zero r = refl
back_status (suc zero) r = refl
back_status (suc (suc n)) r = absurd (omega (arith, r.high))

-- the mark 0 in any form, and any mark in the newest

pub unmarked : (form : FileForm) → T (mark_said form false)
unfolding mark_said
unmarked FileForm.Earlier = tt
unmarked FileForm.Newest = tt

pub newest_says : (b : Bool) → T (mark_said newest_form b)
unfolding mark_said
newest_says b = tt

-- the last minute in any form, and any minute in the newest

pub last_said : (form : FileForm) → T (minute_said form last_minute)
unfolding minute_said
last_said FileForm.Earlier = tt
last_said FileForm.Newest = tt

pub newest_tells : (k : ℕ) → T (minute_said newest_form k)
unfolding minute_said
newest_tells k = tt
