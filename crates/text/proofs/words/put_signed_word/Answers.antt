-- `text::words::put_signed_word` meets its contract: a blank, and the number behind it. Assumes nothing.
use mathlib.Core.List.{[], ◌∷◌}
use native.Mathlib.Omega.{arith}
use Rattle.listings.specs.Inspect.{signed}
use Rattle.timetable.proofs.BuffersFilled.{put_two}
use Rattle.text.specs.between.Rows.{signed_word}
use Rattle.text.proofs.SignedLaws.{kept}
use Rattle.text.proofs.words.put_signed_word.Goals as goal

pub returns : goal.returns
unfolding signed_word
returns c =
    let s = c.args in
    let same = kept s.x c.ranges.x in
    let q = c.put_byte-next.ensures in
    let r = c.put_signed.ensures in
    let both = put_two s.at _ _ (32 ∷ []) (signed s.x) s.out.now _ _ q.0 q.1 (rw same at r.0) (rw same at r.1) in
    (both.0, both.1, omega (arith, q.0, r.2))
