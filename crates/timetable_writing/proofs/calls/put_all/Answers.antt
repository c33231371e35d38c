-- `timetable_writing::calls::put_all` meets its contract: a turn puts what one row's page has. Assumes nothing.
use Rattle.std.proofs.Common.{◌*◌, refl, ap, ◌∙◌, length, arith}
use mathlib.Core.List.{flat_map}
use Rattle.std.proofs.Math.Nat.{mul-le-mul_left}
use Rattle.timetable.specs.Formats.{bytes_of}
use Rattle.timetable.specs.Outputs.{put}
use borrow.Author.Rules.{rules}
use Rattle.page.specs.between.Changes.{table_in}
use Rattle.sheet.specs.Sheets.{decode_sheet}
use Rattle.sheet.proofs.StationLaws.{station_table}
use Rattle.timetable_writing.specs.between.Parts.{of_rows}
use Rattle.timetable_writing.proofs.TimetableLaws.{puts_more, puts_all}
use Rattle.timetable_writing.proofs.calls.put_all.Goals as goal

pub loop-row-init : goal.loop-row-init
unfolding bytes_of flat_map put of_rows
loop-row-init g c = record { near = omega arith; put = λ f most h. (omega arith, refl, omega arith) }

pub loop-row-preserved : goal.loop-row-preserved
unfolding of_rows
loop-row-preserved g c =
    let s = c.args in
    let l = c.loop-row in
    let w = c.put-next in record {
      near = omega (arith, c.requires.small _ _ _ _ _ _ w.ensures);
      put = λ f most h.
          puts_more s.rows.now l.row-index _ c.loop-row-test.true (λ r. f r.station (decode_sheet s.sheet.now r.station)) s.at l.next w.result _ s.out.now l.out w.new.arg2 most
          (l.invariant.put f most h) (ap (f _) (ap table_in c.page_of.ensures ∙ station_table s.sheet.now _ (search rules))) (h _ _ _ _ _ _ w.ensures);
    }

pub returns : goal.returns
unfolding of_rows
returns g c = record {
  put = λ f most h.
      let s = c.args in
      let l = c.loop-row in
      puts_all (λ r. f r.station (decode_sheet s.sheet.now r.station)) s.rows.now l.row-index s.at l.next (most * l.row-index) (most * length s.rows.now) s.out.now l.out (omega arith)
      (mul-le-mul_left most (omega arith)) (l.invariant.put f most h);
}
