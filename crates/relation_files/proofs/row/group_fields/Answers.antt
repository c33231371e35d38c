-- `relation_files::row::group_fields` meets its contract: four numbers, and the trains of four places. Assumes nothing.
use Prim.Native.Nat.{ℕ, ◌≤◌}
use mathlib.Core.Path.{◌∙◌, ap}
use mathlib.Core.List.{List, [], ◌∷◌, ◌++◌}
use native.Mathlib.Omega.{arith}
use lib.ListN.{length}
use Rattle.timetable.specs.EditsFile.{group_numbers}
use Rattle.fields.specs.between.Answers.{padded, row_of}
use Rattle.relation_files.proofs.TrainNumbers.{one, one_more, four_places}
use Rattle.relation_files.proofs.row.group_fields.Goals as goal

pub returns : goal.returns
unfolding row_of padded group_numbers
returns c =
    let s = c.args in
    let n = c.from-count in
    let head : List ℕ = s.lead ∷ c.from-s.result ∷ s.kind ∷ c.from-i.result ∷ n.result ∷ [] in
    let few : length head ≤ 5 = omega arith in
    let a-few = one_more head s.ts.a 5 few in
    let b-few = one_more (head ++ one s.ts.a) s.ts.b 6 a-few in
    let c-few = one_more ((head ++ one s.ts.a) ++ one s.ts.b) s.ts.c 7 b-few in
    let a = c.with_train-one.ensures head c.new-head.ensures (omega arith) in
    let b = c.with_train-two.ensures (head ++ one s.ts.a) a (omega (arith, a-few)) in
    let d = c.with_train-three.ensures ((head ++ one s.ts.a) ++ one s.ts.b) b (omega (arith, b-few)) in
    let e = c.with_train.ensures (((head ++ one s.ts.a) ++ one s.ts.b) ++ one s.ts.c) d (omega (arith, c-few)) in
    e ∙ ap row_of (four_places s.ts head) ∙ rw (c.from-s.ensures, c.from-i.ensures, n.ensures, c.count.ensures)
