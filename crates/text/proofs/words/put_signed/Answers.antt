-- `text::words::put_signed` meets its contract: below nought it is the sign and the digits behind it, else the digits
-- alone. Assumes nothing.
use mathlib.Core.Path.{sym}
use mathlib.Core.List.{[], ◌∷◌}
use native.Mathlib.Omega.{arith}
use lib.IntN.{nat_abs}
use Rattle.listings.specs.Text.{digits}
use Rattle.text.proofs.SignedLaws.{kept, signed_low, signed_high}
use Rattle.text.proofs.PutParts.{puts_two, puts_as}
use Rattle.text.proofs.words.put_signed.Goals as goal

pub returns-then-x-lt0 : goal.returns-then-x-lt0
returns-then-x-lt0 c =
    let s = c.args in
    let same = kept s.x c.ranges.x in
    let sign = c.put_byte-next.ensures in
    let size = rw (c.unsigned_abs.ensures.value, same) at c.put_digits.ensures in
    puts_as _ _ _ _ _ _ 11 (sym (signed_low s.x (rw same at c.if-x-lt0.true)))
    (puts_two s.at _ _ (45 ∷ []) (digits 10 (nat_abs s.x)) s.out.now _ _ 1 10 (sign.0, sign.1, omega (arith, sign.0)) size)

pub returns : goal.returns
returns c =
    let s = c.args in
    let same = kept s.x c.ranges.x in
    let size = rw (c.unsigned_abs-2.ensures.value, same) at c.put_digits-2.ensures in
    let all = puts_as _ _ _ _ _ _ 10 (sym (signed_high s.x (rw same at c.if-x-lt0.false))) size in
    (all.0, all.1, omega (arith, all.2))
