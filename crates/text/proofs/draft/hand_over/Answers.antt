-- `text::draft::hand_over` meets its contract: the buffer is too short for the head of the draft, or begins with it.
-- Assumes nothing.
use Prim.Native.Nat.{ℕ}
use mathlib.Core.Path.{◌≡◌, sym, ◌∙◌, ap}
use mathlib.Core.List.{List, ◌++◌}
use lib.ListN.{length, take, drop}
use Rattle.std.proofs.lemmas.List.{take_min, length-take}
use Rattle.timetable.proofs.OutputLaws.{short_of}
use Rattle.text.proofs.OutputLaws.{in_front}
use Rattle.text.proofs.draft.hand_over.Goals as goal

pub returns-then-out-count : goal.returns-then-out-count
returns-then-out-count c =
    let s = c.args in
    short_of (take s.k s.draft.now) s.out.now _ (c.min-count.ensures ∙ sym (length-take s.k s.draft.now)) c.if-out-count.true

pub returns : goal.returns
returns c =
    let s = c.args in
    let text = take s.k s.draft.now in
    let many : c.min-count.result ≡ length text = c.min-count.ensures ∙ sym (length-take s.k s.draft.now) in
    let head : take c.min-count.result s.draft.now ≡ text = ap (λ (n : ℕ). take n s.draft.now) c.min-count.ensures ∙ take_min s.k s.draft.now in
    let x = in_front text s.out.now _ many c.if-out-count.false in
    (x.0, ap (λ (l : List ℕ). l ++ drop c.min-count.result s.out.now) (c.copy_from_slice.ensures.after ∙ head) ∙ x.1)
