-- `findings::calls::hand_over` meets its contract: the buffer is too short for what was drafted, or begins with it. Assumes
-- nothing.
use Rattle.std.proofs.Common.{refl, sym, ◌∙◌}
use Rattle.timetable.proofs.OutputLaws.{short_of, filled}
use Rattle.timetable.proofs.BuffersFilled.{put_whole}
use Rattle.findings.proofs.calls.hand_over.Goals as goal

pub returns-then-out-k : goal.returns-then-out-k
returns-then-out-k c = let s = c.args in short_of s.drafted.now s.out.now _ refl c.if-out-k.true

pub returns : goal.returns
returns c =
    let s = c.args in
    let x = filled s.drafted.now s.out.now _ refl c.if-out-k.false in
    rw c.copy_from_slice.ensures.after (x.0, sym (put_whole s.drafted.now s.out.now c.if-out-k.false) ∙ x.1)
