-- `journey_lines::put_visits` meets its contract: so many visits of the page are put. Assumes nothing.
use mathlib.Core.Path.{◌∙◌, ap}
use mathlib.Core.List.{[], flat_map}
use native.Mathlib.Omega.{arith}
use Rattle.timetable.specs.Tables.{Table}
use Rattle.records.specs.Records.{decode_entry}
use Rattle.sheet.specs.Sheets.{decode_sheet}
use Rattle.base.proofs.Tests.{T_true}
use Rattle.railway.specs.Ranges.{station_ok}
use Rattle.sheet.proofs.SheetLaws.{station_low, station_high}
use Rattle.page.specs.between.Entries.{entry_at}
use Rattle.page.proofs.EntryLaws.{entry_of, entry_parts}
use Rattle.projection.proofs.JourneyLaws.{page_there}
use Rattle.listings.specs.Inspect.{visit_text}
use Rattle.text.proofs.PutParts.{none_put, one_put, all_put, puts_as}
use Rattle.findings.proofs.ListedSheet.{fine_size}
use Rattle.journey_lines.proofs.JourneyLines.{here_ok, entry_there}
use Rattle.journey_lines.proofs.put_visits.Goals as goal

pub overflow_sub-first : goal.overflow_sub-first
overflow_sub-first c =
    omega (arith, c.from.ensures, station_low c.args.s (here_ok c.args.n.now c.args.sheet.now c.requires.1 c.args.s c.requires.2))

pub overflow_mul-first : goal.overflow_mul-first
overflow_mul-first c = omega (arith, c.from.ensures, c.from.type_inv)

pub overflow_add-part : goal.overflow_add-part
overflow_add-part c = omega (arith, c.from.ensures, c.from.type_inv)

pub slice_bounds-part-end : goal.slice_bounds-part-end
slice_bounds-part-end c =
    let fine = c.requires.1 in
    let ok = here_ok c.args.n.now c.args.sheet.now fine c.args.s c.requires.2 in
    omega (arith, c.from.ensures, station_low c.args.s ok, station_high c.args.s ok, fine_size c.args.n.now c.args.sheet.now fine)

pub loop-i-init : goal.loop-i-init
loop-i-init c = none_put (visit_text c.args.n.now (decode_sheet c.args.sheet.now) c.args.s) [] 1152 _ _

pub put_projection-next-requires : goal.put_projection-next-requires
put_projection-next-requires c =
    let s = c.args in
    let z = c.from in
    let ok = T_true (station_ok s.s) (here_ok s.n.now s.sheet.now c.requires.1 s.s c.requires.2) in
    let same = page_there s.sheet.now s.s z.result (fine_size s.n.now s.sheet.now c.requires.1) z.ensures ok in
    let k = c.visit_count-i-end in
    let l = c.loop-i in
    let h = c.loop-i-test.true in
    let read = entry_parts _ _ _ c.train_in-t.ensures c.visit_in-v.ensures ∙ entry_of _ _ _ c.entry_record-r.ensures in
    let there = entry_there s.n.now s.sheet.now c.requires.1 s.s c.requires.2 _ same l.i (omega (arith, h, k.ensures.0)) _ _ read in
    (omega (arith, c.requires.0, k.ensures.1, l.invariant.1, h), c.requires.1, c.requires.2, there.0, there.1)

pub loop-i-preserved : goal.loop-i-preserved
unfolding entry_at
loop-i-preserved c =
    let s = c.args in
    let read = entry_parts _ _ _ c.train_in-t.ensures c.visit_in-v.ensures ∙ entry_of _ _ _ c.entry_record-r.ensures in
    let text = visit_text s.n.now (decode_sheet s.sheet.now) s.s in
    one_put text _ 1152 s.at s.out.now c.loop-i.i _ _ _ _ (decode_entry []) (omega (arith, c.loop-i-test.true, c.visit_count-i-end.ensures.0)) c.loop-i.invariant (puts_as _ _ _ _ _ _ 1152 (ap text read) c.put_projection-next.ensures)

pub returns : goal.returns
returns c =
    let s = c.args in
    let z = c.from in
    let ok = T_true (station_ok s.s) (here_ok s.n.now s.sheet.now c.requires.1 s.s c.requires.2) in
    let same = page_there s.sheet.now s.s z.result (fine_size s.n.now s.sheet.now c.requires.1) z.ensures ok in
    let text = visit_text s.n.now (decode_sheet s.sheet.now) s.s in
    let many = c.visit_count-i-end.ensures in
    let all = all_put text _ 1152 s.at s.out.now c.loop-i.i _ _ (omega (arith, c.loop-i-test.false, many.0)) c.loop-i.invariant in
    let whole = puts_as s.at _ _ _ _ _ _ (ap (λ (tab : Table). flat_map text tab.visits) same) all in
    (whole.0, whole.1, omega (arith, whole.2, c.loop-i.auto.i-end, many.1))
