-- The proof of the cycle of calls {put_digits}. The measure is the number of digits still permitted; each return is one
-- law of `digits`. Assumes nothing.
use Prim.Native.Nat.{◌+◌, ◌-◌, ◌/◌, ◌%◌}
use mathlib.Core.List.{[], ◌∷◌}
use native.Mathlib.Omega.{arith}
use Rattle.timetable.specs.Outputs.{put}
use Rattle.listings.specs.Text.{digits}
use Rattle.text.proofs.DigitLaws.{digits_none, digits_last, digits_more}
use Rattle.timetable.proofs.BuffersFilled.{put_two}
use Rattle.text.proofs.words.+put_digits.Goals as goal

pub returns-then-left-eq0 : goal.returns-then-left-eq0
unfolding put
returns-then-left-eq0 t c = let s = c.args in let e = digits_none s.left s.x c.if-left-eq0.true in (rw e (omega arith), rw e, omega arith)

pub returns-then-x-lt10 : goal.returns-then-x-lt10
returns-then-x-lt10 t c =
    let s = c.args in
    let e = digits_last s.left s.x c.if-left-eq0.false c.if-x-lt10.true in
    let r = c.put_byte.ensures in
    (rw e r.0, rw e r.1, omega (arith, r.0, c.if-left-eq0.false))

pub returns : goal.returns
returns t c =
    let s = c.args in
    let e = digits_more s.left s.x c.if-left-eq0.false c.if-x-lt10.false in
    let q = c.put_digits-next.ensures in
    let r = c.put_byte-2.ensures in
    let both = put_two s.at _ _ (digits (s.left - 1) (s.x / 10)) ((48 + s.x % 10) ∷ []) s.out.now _ _ q.0 q.1 r.0 r.1 in
    (rw e both.0, rw e both.1, omega (arith, q.2, r.0, c.if-left-eq0.false))
