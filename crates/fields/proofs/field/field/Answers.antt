-- `fields::field::field` meets its contract: each return is one law of a field, by its first byte or by what reading
-- its number gave. Assumes nothing.
use mathlib.Core.Path.{sym, refl, ◌∙◌, ap}
use native.Mathlib.Omega.{arith}
use Rattle.numbers.specs.Answers.{number_outcome}
use Rattle.std.specs.Prelude.{Err}
use Rattle.numbers.specs.declared.NumberError.{NumberError}
use Rattle.fields.proofs.FieldLaws.{field_past, field_byte, field_ends, field_odd, field_fits, field-value}
use Rattle.fields.proofs.field.field.Goals as goal

pub returns-then-end-at : goal.returns-then-end-at
returns-then-end-at c =
    let s = c.args in
    sym (field_past s.lo s.hi s.file.now s.at c.if-end-at.true)

pub returns-then-first-lt128 : goal.returns-then-first-lt128
returns-then-first-lt128 c =
    let s = c.args in
    c.ranged.ensures ∙ rw c.from.ensures (sym (field_byte s.lo s.hi s.file.now s.at c.if-end-at.false c.if-first-lt128.true))

pub overflow_add-at-in-Ok : goal.overflow_add-at-in-Ok
overflow_add-at-in-Ok c =
    let s = c.args in
    let r = c.read in
    omega (arith, field_fits s.lo s.hi s.file.now s.at (number_outcome r.result) r.ensures c.in-Ok.n c.in-Ok.width (ap number_outcome c.in-Ok.is) (omega arith))

pub returns-in-Err-EndsEarly : goal.returns-in-Err-EndsEarly
returns-in-Err-EndsEarly c =
    let s = c.args in
    let r = c.read in
    sym (field_ends s.lo s.hi s.file.now s.at (number_outcome r.result) r.ensures 1 (ap number_outcome (c.in-Err-EndsEarly.is ∙ ap (λ (e : NumberError). Err e) c.in-Err-EndsEarly.field-0-is)) refl)

pub returns-in-Err-NotShortest : goal.returns-in-Err-NotShortest
returns-in-Err-NotShortest c =
    let s = c.args in
    let r = c.read in
    sym (field_odd s.lo s.hi s.file.now s.at (number_outcome r.result) r.ensures 2 (ap number_outcome (c.in-Err-NotShortest.is ∙ ap (λ (e : NumberError). Err e) c.in-Err-NotShortest.field-0-is)) (λ q. omega (arith, q)))

pub returns-in-Ok : goal.returns-in-Ok
returns-in-Ok c =
    let s = c.args in
    let r = c.read in
    c.ranged-in-Ok.ensures
    ∙ sym (field-value s.lo s.hi s.file.now s.at (number_outcome r.result) r.ensures c.in-Ok.n c.in-Ok.width (ap number_outcome c.in-Ok.is))
