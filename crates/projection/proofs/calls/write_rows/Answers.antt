-- `projection::calls::write_rows` meets its contract: the first pass counts, and the second writes what fits. Assumes
-- nothing.
use mathlib.Core.Path.{ap, ◌∙◌}
use mathlib.Core.List.{List}
use lib.IntN.{ℤ}
use lib.ListN.{length}
use Rattle.timetable.specs.Outputs.{put}
use Rattle.projection.specs.Calls.{projected}
use Rattle.timetable.proofs.OutputLaws.{short_of, filled}
use Rattle.projection.proofs.ProjectionCall.{from_first}
use Rattle.projection.proofs.calls.write_rows.Goals as goal

pub returns-then-out-needed : goal.returns-then-out-needed
returns-then-out-needed c =
    let s = c.args in
    let r = c.arrive-needed in
    short_of (projected s.s s.t s.a s.sheet.now) s.out.now r.result
    (r.ensures.0 ∙ ap length (from_first s.s s.t s.a s.sheet.now _ c.from-first.ensures)) c.if-out-needed.true

pub returns : goal.returns
returns c =
    let s = c.args in
    let r = c.arrive-needed in
    let first = from_first s.s s.t s.a s.sheet.now _ c.from-first.ensures in
    let x = filled (projected s.s s.t s.a s.sheet.now) s.out.now r.result (r.ensures.0 ∙ ap length first) c.if-out-needed.false in
    (x.0, c.arrive.ensures.1 ∙ ap (λ (xs : List ℤ). put 0 xs s.out.now) first ∙ x.1)
