-- A call that fills a buffer, by what its result tells: refused, with more numbers than there is room for, and with room
-- for all. Assumes nothing.
use Prim.Native.Nat.{ℕ, ◌≤◌, ◌<◌}
use mathlib.Core.Path.{◌≡◌, sym, ◌∙◌}
use mathlib.Core.List.{List}
use native.Mathlib.Omega.{arith}
use lib.ListN.{length}
use borrow.Author.Tests.{le-leb, lt-leb, ne_eqb}
use Rattle.std.specs.Prelude.{Ok, Err}
use Rattle.base.specs.RefusalNumbers.{number_of}
use Rattle.base.specs.declared.refusal.Refusal.{Refusal}
use Rattle.base.specs.declared.refusal.Refusal.TheVariants.{EndsOrGoesOn, NotShortest, OutOfRange, NotJoined, WrongLength, BadSheet, NotKnown, ThereAlready, Missing, LinkedOtherwise, AltersOccurred, LimitReached, OutputTooShort, ClosureBackwards, FromTheFuture}
use Rattle.base.specs.declared.refusal.OutputError.{OutputError}
use Rattle.timetable.specs.Outputs.{reply_of, output, output_after, put}
use Rattle.timetable.proofs.BuffersFilled.{put_whole}

-- no refusal has the number 0
pub number_there : (r : Refusal) → ¬ (number_of r ≡ 0)
number_there EndsOrGoesOn e = omega (arith, e)
number_there NotShortest e = omega (arith, e)
number_there OutOfRange e = omega (arith, e)
number_there NotJoined e = omega (arith, e)
number_there WrongLength e = omega (arith, e)
number_there BadSheet e = omega (arith, e)
number_there NotKnown e = omega (arith, e)
number_there ThereAlready e = omega (arith, e)
number_there Missing e = omega (arith, e)
number_there LinkedOtherwise e = omega (arith, e)
number_there AltersOccurred e = omega (arith, e)
number_there LimitReached e = omega (arith, e)
number_there OutputTooShort e = omega (arith, e)
number_there ClosureBackwards e = omega (arith, e)
number_there FromTheFuture e = omega (arith, e)

module _ {X : Type 0} (xs b : List X) where
  pub refused_with : (r : Refusal) → (reply_of (Err (OutputError.Refused r)) ≡ output (number_of r) xs b) × (b ≡ output_after (number_of r) xs b)
  unfolding reply_of output output_after
  refused_with r = let z = ne_eqb (number_of r) 0 (number_there r) in (sym (rw z), sym (rw z))

  pub short_of : (k : ℕ) → k ≡ length xs → length b < k → (reply_of (Err (OutputError.TooShort k)) ≡ output 0 xs b) × (b ≡ output_after 0 xs b)
  unfolding reply_of output output_after
  short_of k e h =
      let l : length b < length xs = omega (arith, e, h) in
      (sym (rw (lt-leb (length xs) (length b) l, e)), sym (rw (lt-leb (length xs) (length b) l)))

  pub filled : (k : ℕ) → k ≡ length xs → k ≤ length b → (reply_of (Ok k) ≡ output 0 xs b) × (put 0 xs b ≡ output_after 0 xs b)
  unfolding reply_of output output_after
  filled k e h =
      let l : length xs ≤ length b = omega (arith, e, h) in
      (sym (rw (le-leb (length xs) (length b) l, e)), put_whole xs b l ∙ sym (rw (le-leb (length xs) (length b) l)))
