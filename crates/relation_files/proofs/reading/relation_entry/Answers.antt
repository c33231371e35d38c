-- `relation_files::reading::relation_entry` meets its contract: station, kind, interval, count and trains decide in this
-- order. Assumes nothing.
use Prim.Native.Nat.{ℕ, ◌%◌}
use mathlib.Core.Path.{◌≡◌, sym, ◌∙◌, ap}
use native.Mathlib.Omega.{arith}
use Rattle.std.proofs.lemmas.Result.{err_from_is_err_and}
use Rattle.base.specs.RefusalNumbers.{number_of}
use Rattle.timetable.specs.Formats.{accepted}
use Rattle.timetable.specs.EditsFile.{relation_of}
use Rattle.railway.specs.declared.relation.Relation.{Relation}
use Rattle.fields.proofs.EntryLaws.{field_bounded}
use Rattle.relation_files.proofs.ReadingLaws.{relation_padded, trains_stop, trains_some}
use Rattle.relation_files.proofs.reading.relation_entry.Goals as goal

pub returns-in_err-trains : goal.returns-in_err-trains
returns-in_err-trains c =
    let s = c.args in
    let l1 = c.floor_after-left.ensures in
    let l2 = c.floor_after-left-2.ensures in
    let l3 = c.floor_after-left-3.ensures in
    let l4 = c.floor_after-left-4.ensures in
    let e = sym c.in_ok-s.ensures in
    let f = rw l1 at (sym c.in_ok-kind.ensures) in
    let g = rw (l2, l1) at (sym c.in_ok-interval.ensures) in
    let h = rw (l3, l2, l1, c.most_trains.ensures.0) at (sym c.in_ok-count.ensures) in
    let q = rw (l4, l3, l2, l1, c.from.ensures) at c.in_err-trains.ensures in
    let r = c.in_err-trains.field-0.0 in
    let p = err_from_is_err_and c.from_residual-in_err-trains.result c.from_residual-in_err-trains.ensures.1 in
    rw (p.1, p.2)
    (sym (trains_stop s.floor.now s.file.now s.at c.in_ok-s.s c.in_ok-s.next c.in_ok-kind.kind c.in_ok-kind.next c.in_ok-interval.interval c.in_ok-interval.next c.in_ok-count.count c.in_ok-count.next
    e f g h (number_of r.refusal) r.place q))

pub returns : goal.returns
returns c =
    let s = c.args in
    let l1 = c.floor_after-left.ensures in
    let l2 = c.floor_after-left-2.ensures in
    let l3 = c.floor_after-left-3.ensures in
    let l4 = c.floor_after-left-4.ensures in
    let e = sym c.in_ok-s.ensures in
    let f = rw l1 at (sym c.in_ok-kind.ensures) in
    let g = rw (l2, l1) at (sym c.in_ok-interval.ensures) in
    let h = rw (l3, l2, l1, c.most_trains.ensures.0) at (sym c.in_ok-count.ensures) in
    let r = c.in_ok-trains in
    let q = rw (l4, l3, l2, l1, c.from.ensures) at r.ensures.1 in
    let a : c.in_ok-s.s % 256 ≡ c.in_ok-s.s = omega (arith, (field_bounded _ _ _ _ _ _ e).1) in
    let v = c.relation_from.ensures (omega (arith, (field_bounded _ _ _ _ _ _ g).1)) ∙ ap (relation_of c.in_ok-kind.kind c.in_ok-interval.interval) r.ensures.2
    ∙ relation_padded c.in_ok-kind.kind c.in_ok-interval.interval r.ensures.0 in
    ap (λ (x : ℕ). accepted (record { station = record { 0 = x }; relation = c.relation_from.result }) r.next) (c.narrow.ensures ∙ a)
    ∙ ap (λ (x : Relation). accepted (record { station = record { 0 = c.in_ok-s.s }; relation = x }) r.next) v
    ∙ sym
    (trains_some s.floor.now s.file.now s.at c.in_ok-s.s c.in_ok-s.next c.in_ok-kind.kind c.in_ok-kind.next c.in_ok-interval.interval c.in_ok-interval.next c.in_ok-count.count c.in_ok-count.next
    e f g h r.ensures.0 r.next q)
