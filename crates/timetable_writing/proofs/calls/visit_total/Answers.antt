-- `timetable_writing::calls::visit_total` meets its contract: each page tells how many it has. Assumes nothing.
use mathlib.Core.Path.{◌∙◌, ap}
use native.Mathlib.Omega.{arith}
use lib.ListN.{length}
use borrow.Author.Rules.{rules}
use Rattle.base.specs.Lists.{sum}
use Rattle.network.specs.Networks.{station_rows, stations_of}
use Rattle.timetable.specs.Count.{visit_count}
use Rattle.sheet.specs.Sheets.{decode_sheet}
use Rattle.timetable_writing.specs.Types.{Station}
use Rattle.timetable_writing.proofs.TimetableLaws.{sum_stations}
use Rattle.timetable_writing.proofs.calls.visit_total.Goals as goal

pub returns : goal.returns
unfolding visit_count stations_of
returns c =
    let s = c.args in
    let t = c.total.ensures in
    let f = λ (s : Station). length (decode_sheet c.args.sheet.now s).visits in (
      t.sum (λ t. length t.visits) (λ x k p. search rules) ∙ ap (sum (λ r. f r.station)) c.rows.ensures.rows ∙ sum_stations f (station_rows s.n.now),
      omega (arith, c.rows.ensures.few, t.bound 24 (λ x k p. search rules)),
    )
