-- `text::words::put_line` meets its contract: the head, and the newline behind it. Assumes nothing.
use mathlib.Core.List.{[], ◌∷◌}
use native.Mathlib.Omega.{arith}
use Rattle.listings.specs.Text.{head, line}
use Rattle.timetable.proofs.BuffersFilled.{put_two}
use Rattle.text.proofs.words.put_line.Goals as goal

pub returns : goal.returns
unfolding line
returns c =
    let s = c.args in
    let q = c.put_head-end.ensures in
    let r = c.put_byte.ensures in
    let both = put_two s.at _ _ (head s.letter s.xs.now) (10 ∷ []) s.out.now _ _ q.0 q.1 r.0 r.1 in
    (both.0, both.1, omega (arith, q.2, r.0))
