-- `inspect_lines::written::is_written` meets its contract: of each answer of writing, one law. Assumes nothing.
use Prim.Native.Nat.{ℕ}
use mathlib.Core.Path.{sym, ◌∙◌, ap}
use mathlib.Core.List.{List}
use native.Mathlib.Omega.{arith}
use lib.ListN.{take, length-replicate, length-take}
use Rattle.timetable.specs.Outputs.{reply_of}
use Rattle.base.specs.Lists.{same}
use Rattle.base.proofs.Orders.{same_lists}
use Rattle.records.specs.Bytes.{zeros}
use Rattle.inspect_lines.proofs.WrittenLine.{written, unwritten}
use Rattle.inspect_lines.proofs.written.is_written.Goals as goal

pub slice_bounds-file-end : goal.slice_bounds-file-end
slice_bounds-file-end c =
    let s = c.args in
    let w = c.write_timetable in
    let (l, e) = written s.n.now s.sheet.now (zeros 16384) c.requires.0 c.in-Ok.k (sym (ap reply_of c.in-Ok.is) ∙ w.ensures.0) in
    omega (arith, l, length-replicate {A = ℕ} 16384 0, w.auto.out)

pub slice_bounds-eq-end : goal.slice_bounds-eq-end
slice_bounds-eq-end c =
    let s = c.args in
    let w = c.write_timetable in
    let (l, e) = written s.n.now s.sheet.now (zeros 16384) c.requires.0 c.in-Ok.k (sym (ap reply_of c.in-Ok.is) ∙ w.ensures.0) in
    omega (arith, l, length-replicate {A = ℕ} 16384 0, w.auto.out, length-take c.in-Ok.k w.new.out)

pub returns-in-Ok : goal.returns-in-Ok
returns-in-Ok c =
    let s = c.args in
    let w = c.write_timetable in
    let (l, e) = written s.n.now s.sheet.now (zeros 16384) c.requires.0 c.in-Ok.k (sym (ap reply_of c.in-Ok.is) ∙ w.ensures.0) in
    c.eq.ensures ∙ same_lists _ _ ∙ ap (λ (l : List ℕ). same l s.bytes.now) (ap (take c.in-Ok.k) w.ensures.1 ∙ e)

pub returns-in-Err : goal.returns-in-Err
returns-in-Err c =
    let s = c.args in
    let w = c.write_timetable in
    sym (unwritten s.n.now s.sheet.now (zeros 16384) c.requires.0 _ (sym (ap reply_of c.in-Err.is) ∙ w.ensures.0) s.bytes.now (omega (arith, c.requires.1, length-replicate {A = ℕ} 16384 0)))
