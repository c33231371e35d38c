-- `timetable_writing::calls::total` meets its contract: a turn counts one page. Assumes nothing.
use Rattle.std.proofs.Common.{ℕ, ◌+◌, refl, sym, ap, ◌∙◌, arith}
use lib.Seq.{take_all}
use Rattle.base.specs.Lists.{sum}
use borrow.Author.Rules.{rules}
use Rattle.page.specs.between.Changes.{table_in}
use Rattle.sheet.specs.Sheets.{decode_sheet}
use Rattle.sheet.proofs.StationLaws.{station_table}
use Rattle.timetable_writing.proofs.TimetableLaws.{one_turn, sum_more}
use Rattle.timetable_writing.proofs.calls.total.Goals as goal

pub loop-row-init : goal.loop-row-init
unfolding sum
loop-row-init g c = record { few = omega arith; sum = λ f h. refl; bound = λ most h. omega arith }

pub loop-row-preserved : goal.loop-row-preserved
loop-row-preserved g c =
    let s = c.args in
    let l = c.loop-row in
    let w = c.count-total in record {
      few = omega (arith, c.requires.small _ _ w.ensures);
      sum = λ f h.
          ap (λ (k : ℕ). k + w.result) (l.invariant.sum f h)
          ∙ sym (sum_more s.rows.now l.row-index _ c.loop-row-test.true (λ r. f (decode_sheet s.sheet.now r.station)) w.result
          (h _ _ w.ensures ∙ ap f (ap table_in c.page_of.ensures ∙ station_table s.sheet.now _ (search rules))));
      bound = λ most h. one_turn most l.row-index l.total w.result (l.invariant.bound most h) (h _ _ w.ensures);
    }

pub returns-clause-sum : goal.returns-clause-sum
returns-clause-sum g c = λ f h.
    let s = c.args in
    let l = c.loop-row in
    l.invariant.sum f h ∙ ap (sum (λ r. f (decode_sheet s.sheet.now r.station))) (take_all l.row-index s.rows.now (omega arith))
