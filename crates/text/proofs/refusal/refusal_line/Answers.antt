-- `text::refusal::refusal_line` meets its contract: a place that no input has is refused. Assumes nothing.
use Prim.Native.Nat.{ℕ}
use mathlib.Core.Path.{◌≡◌, refl, ◌∙◌, ap}
use mathlib.Core.List.{List}
use borrow.Author.Tests.{lt-ltb, le-ltb, le-leb}
use Rattle.base.specs.declared.refusal.Refusal.TheVariants.{OutOfRange}
use Rattle.timetable.specs.Outputs.{output, output_after}
use Rattle.timetable.proofs.OutputLaws.{refused_with}
use Rattle.listings.specs.Shift.{refusal_text}
use Rattle.text.specs.RefusalLine.{line_refusal}
use Rattle.text.specs.between.Lines.{refusal_at}
use Rattle.text.proofs.refusal.refusal_line.Goals as goal

pub returns-then-place-gt16384 : goal.returns-then-place-gt16384
unfolding line_refusal
returns-then-place-gt16384 c =
    let s = c.args in
    rw (lt-ltb 16384 s.place c.if-place-gt16384.true) (refused_with (refusal_text s.number s.place) s.out.now OutOfRange)

pub returns : goal.returns
unfolding line_refusal refusal_at
returns c =
    let s = c.args in
    let text : refusal_at s.number s.place ≡ refusal_text s.number s.place = rw (le-leb s.place 16384 c.if-place-gt16384.false) refl in
    rw (le-ltb 16384 s.place c.if-place-gt16384.false) (
      c.write_text.ensures.answer ∙ ap (λ (t : List ℕ). output 0 t s.out.now) text,
      c.write_text.ensures.after ∙ ap (λ (t : List ℕ). output_after 0 t s.out.now) text,
    )
