-- `text::refusal::put_refusal` meets its contract: nothing for a place that no input has, else the line. Assumes
-- nothing.
use mathlib.Core.Path.{refl}
use native.Mathlib.Omega.{arith}
use borrow.Author.Tests.{le-leb, lt-leb}
use Rattle.timetable.specs.Outputs.{put}
use Rattle.text.specs.between.Lines.{refusal_at}
use Rattle.text.proofs.refusal.put_refusal.Goals as goal

pub returns-then-place-gt16384 : goal.returns-then-place-gt16384
unfolding refusal_at put
returns-then-place-gt16384 c = let s = c.args in rw (lt-leb s.place 16384 c.if-place-gt16384.true) (omega arith, refl, omega arith)

pub returns : goal.returns
unfolding refusal_at
returns c =
    let s = c.args in
    rw (le-leb s.place 16384 c.if-place-gt16384.false) c.line_of.ensures
