-- `text::words::put_word` meets its contract: a blank and digits, one behind the other. Assumes nothing.
use mathlib.Core.List.{[], ◌∷◌}
use native.Mathlib.Omega.{arith}
use Rattle.listings.specs.Text.{digits, decimal, word}
use Rattle.timetable.proofs.BuffersFilled.{put_two}
use Rattle.text.proofs.words.put_word.Goals as goal

pub returns : goal.returns
unfolding word decimal
returns c =
    let s = c.args in
    let q = c.put_byte-next.ensures in
    let r = c.put_digits.ensures in
    let both = put_two s.at _ _ (32 ∷ []) (digits 10 s.x) s.out.now _ _ q.0 q.1 r.0 r.1 in
    (both.0, both.1, omega (arith, q.0, r.2))
