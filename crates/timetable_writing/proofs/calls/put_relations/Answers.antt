-- `timetable_writing::calls::put_relations` meets its contract: what all relations would write is what those from i on
-- still write, from the place reached. Assumes nothing.
use Prim.Native.Nat.{◌*◌}
use mathlib.Core.Path.{refl, ◌∙◌, ap}
use mathlib.Core.List.{[], flat_map}
use Rattle.timetable.specs.Formats.{bytes_of}
use Rattle.timetable.specs.Outputs.{put}
use native.Mathlib.Omega.{arith}
use Rattle.records.specs.Records.{decode_relation}
use Rattle.page.specs.between.Changes.{table_in}
use Rattle.page.specs.between.Entries.{relation_at}
use Rattle.page.proofs.EntryLaws.{relation_of}
use Rattle.timetable_writing.specs.between.Parts.{relation_row, relations_here}
use Rattle.timetable_writing.proofs.TimetableLaws.{puts_more, puts_all}
use Rattle.timetable_writing.proofs.calls.put_relations.Goals as goal

pub loop-i-init : goal.loop-i-init
unfolding bytes_of flat_map put
loop-i-init c = (omega arith, refl, omega arith)

pub put_relation-next-requires : goal.put_relation-next-requires
put_relation-next-requires c = omega (arith, c.relation_count-i-end.ensures.1)

pub loop-i-preserved : goal.loop-i-preserved
unfolding relation_at
loop-i-preserved c =
    let s = c.args in
    let u = c.relation_count-i-end in
    let l = c.loop-i in
    let w = c.put_relation-next in
    puts_more (table_in s.part.now).relations l.i (decode_relation []) (omega (arith, u.ensures.0)) (relation_row s.s) s.at l.next w.result _ s.out.now l.out w.new.out 39 l.invariant (ap (relation_row s.s) (c.relation_in.ensures ∙ relation_of _ _ _ c.relation_record-r.ensures)) w.ensures

pub returns : goal.returns
unfolding relations_here
returns c =
    let s = c.args in
    let u = c.relation_count-i-end in
    let l = c.loop-i in
    puts_all (relation_row s.s) (table_in s.part.now).relations l.i s.at l.next (39 * l.i) 234 s.out.now l.out (omega (arith, u.ensures.0)) (omega (arith, u.ensures.1)) l.invariant
