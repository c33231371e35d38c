-- `timetable_writing::calls::put_timetable` meets its contract: its four parts, one behind the other. Assumes nothing.
use Prim.Native.Nat.{ℕ}
use mathlib.Core.Path.{ap}
use mathlib.Core.List.{[], ◌∷◌}
use Rattle.sheet.specs.Sheets.{decode_sheet}
use Rattle.timetable_writing.proofs.TimetableLaws.{writes_as, file_put}
use native.Mathlib.Omega.{arith}
use Rattle.fields.proofs.NumbersPut.{near}
use Rattle.timetable_writing.proofs.calls.put_timetable.Goals as goal

pub returns : goal.returns
returns c =
    let s = c.args in
    let vt = c.visit_total in
    let v = c.put_number-visits in
    let vs = c.put_all_visits-count in
    let rt = c.relation_total in
    let r = c.put_number-relations in
    let rs = c.put_all_relations in
    file_put s.n.now (decode_sheet s.sheet.now) s.out.now v.new.out vs.new.out r.new.out rs.new.out v.result vs.result r.result rs.result
    (writes_as 0 v.result _ _ s.out.now v.new.out 3 (ap (λ (x : ℕ). x ∷ []) vt.ensures.0) (near 0 _ s.out.now v.result v.new.out 3 (omega arith) v.ensures))
    vs.ensures
    (writes_as vs.result r.result _ _ vs.new.out r.new.out 3 (ap (λ (x : ℕ). x ∷ []) rt.ensures.0) (near vs.result _ vs.new.out r.result r.new.out 3 (omega (arith, v.ensures.2, vs.ensures.2)) r.ensures))
    rs.ensures
