-- `timetable_writing::calls::put_visits` meets its contract: what all entries would write is what those from i on still
-- write, from the place reached. Assumes nothing.
use Prim.Native.Nat.{◌*◌}
use mathlib.Core.Path.{refl, ◌∙◌, ap}
use mathlib.Core.List.{[], flat_map}
use Rattle.timetable.specs.Formats.{bytes_of}
use Rattle.timetable.specs.Outputs.{put}
use native.Mathlib.Omega.{arith}
use Rattle.records.specs.Records.{decode_entry}
use Rattle.page.specs.between.Changes.{table_in}
use Rattle.page.specs.between.Entries.{entry_at}
use Rattle.page.proofs.EntryLaws.{entry_of, entry_parts}
use Rattle.timetable_writing.specs.between.Parts.{entry_numbers, visits_here}
use Rattle.timetable_writing.proofs.TimetableLaws.{puts_more, puts_all}
use Rattle.timetable_writing.proofs.calls.put_visits.Goals as goal

pub loop-i-init : goal.loop-i-init
unfolding bytes_of flat_map put
loop-i-init c = (omega arith, refl, omega arith)

pub put_visit-next-requires : goal.put_visit-next-requires
put_visit-next-requires c = omega (arith, c.visit_count-i-end.ensures.1)

pub loop-i-preserved : goal.loop-i-preserved
unfolding entry_numbers entry_at
loop-i-preserved c =
    let s = c.args in
    let u = c.visit_count-i-end in
    let l = c.loop-i in
    let w = c.put_visit-next in
    puts_more (table_in s.part.now).visits l.i (decode_entry []) (omega (arith, u.ensures.0)) (entry_numbers s.s) s.at l.next w.result _ s.out.now l.out w.new.out 108 l.invariant (ap (entry_numbers s.s) (entry_parts _ _ _ c.train_in.ensures c.visit_in.ensures ∙ entry_of _ _ _ c.entry_record-r.ensures)) w.ensures

pub returns : goal.returns
unfolding visits_here
returns c =
    let s = c.args in
    let u = c.visit_count-i-end in
    let l = c.loop-i in
    puts_all (entry_numbers s.s) (table_in s.part.now).visits l.i s.at l.next (108 * l.i) 2592 s.out.now l.out (omega (arith, u.ensures.0)) (omega (arith, u.ensures.1)) l.invariant
