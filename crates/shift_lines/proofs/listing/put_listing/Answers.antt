-- `shift_lines::listing::put_listing` meets its contract: too long, refused, or read; each has its text (InputRead).
-- Assumes nothing.
use Prim.Native.Nat.{◌-◌, ◌≤◌}
use mathlib.Core.Path.{sym, ◌∙◌}
use native.Mathlib.Omega.{arith}
use lib.ListN.{length}
use Rattle.base.specs.RefusalNumbers.{number_of}
use Rattle.base.proofs.Lengths.{rest_whole}
use Rattle.text.proofs.WithinBounds.{refusal_there}
use Rattle.shift_lines.specs.between.Listing.{shift_most}
use Rattle.shift_lines.proofs.InputRead.{shift_held, shift_faulty, shift_long}
use Rattle.shift_lines.proofs.ListingLines.{text_put}
use borrow.Author.Rules.{rules}
use Rattle.shift_lines.proofs.listing.put_listing.Goals as goal

pub returns-then-input-gt16384 : goal.returns-then-input-gt16384
returns-then-input-gt16384 c =
    let s = c.args in
    let w = c.put_refusal in
    text_put s.input.now _ w.result 68 _ _ (shift_long s.input.now c.if-input-gt16384.true ∙ sym (refusal_there 5 0 (omega arith))) (omega arith) w.ensures

pub returns-in-Err : goal.returns-in-Err
returns-in-Err c =
    let s = c.args in
    let e = c.in-Err.e in
    let w = c.put_refusal-in-Err in
    let told = shift_faulty s.input.now e c.in-Err.ensures c.if-input-gt16384.false in
    text_put s.input.now _ w.result 68 _ _ (told.1 ∙ sym (refusal_there (number_of e.refusal) e.place told.0)) (omega arith) (rw c.from.ensures at w.ensures)

pub overflow_sub-at : goal.overflow_sub-at
overflow_sub-at c =
    let s = c.args in
    let r = c.in-Ok.read in
    let w = c.width_of-width in
    let h = shift_held s.input.now r c.in-Ok.ensures (λ i. omega (arith, c.type_inv.input i)) in
    omega (arith, w.ensures, h.counted)

pub slice_bounds-put_run-count : goal.slice_bounds-put_run-count
slice_bounds-put_run-count c =
    let s = c.args in
    let r = c.in-Ok.read in
    let w = c.width_of-width in
    let h = shift_held s.input.now r c.in-Ok.ensures (λ i. omega (arith, c.type_inv.input i)) in
    let there : r.edits.first - w.result ≤ length s.input.now = omega (arith, w.ensures, h.within) in
    there

pub slice_bounds-put_run-start : goal.slice_bounds-put_run-start
slice_bounds-put_run-start c =
    let s = c.args in
    let r = c.in-Ok.read in
    let w = c.width_of-width in
    let h = shift_held s.input.now r c.in-Ok.ensures (λ i. omega (arith, c.type_inv.input i)) in
    let there : r.edits.first - w.result ≤ length s.input.now = omega (arith, w.ensures, h.within) in
    there

pub put_run-requires : goal.put_run-requires
put_run-requires c =
    let s = c.args in
    let r = c.in-Ok.read in
    let w = c.width_of-width in
    let h = shift_held s.input.now r c.in-Ok.ensures (λ i. omega (arith, c.type_inv.input i)) in
    rw (rest_whole (r.edits.first - w.result) s.input.now, w.ensures, c.from-in-Ok.ensures) (h.good, h.edits)

pub returns-in-Ok : goal.returns-in-Ok
returns-in-Ok c =
    let s = c.args in
    let r = c.in-Ok.read in
    let w = c.width_of-width in
    let h = shift_held s.input.now r c.in-Ok.ensures (λ i. omega (arith, c.type_inv.input i)) in
    let e = rw (rest_whole (r.edits.first - w.result) s.input.now, w.ensures, c.from-in-Ok.ensures) at c.put_run.ensures in
    text_put s.input.now _ c.put_run.result shift_most _ _ (h.text_is c.if-input-gt16384.false) (omega arith) e
