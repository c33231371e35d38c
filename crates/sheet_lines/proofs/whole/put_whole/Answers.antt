-- `sheet_lines::whole::put_whole` meets its contract: from a place that is too far nothing is put. Assumes nothing.
use mathlib.Core.Path.{refl}
use native.Mathlib.Omega.{arith}
use borrow.Author.Tests.{lt-leb}
use Rattle.timetable.specs.Outputs.{put}
use Rattle.text.specs.between.Lines.{far}
use Rattle.sheet_lines.specs.between.Sheets.{is_listed, whole_at, whole_count}
use Rattle.sheet_lines.proofs.whole.put_whole.Goals as goal

pub returns-then-at-gt-FAR : goal.returns-then-at-gt-FAR
unfolding is_listed whole_at whole_count put
returns-then-at-gt-FAR c = let s = c.args in rw (lt-leb s.at far c.if-at-gt-FAR.true) ((omega arith, refl, omega arith), refl)
