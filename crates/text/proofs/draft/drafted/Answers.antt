-- `text::draft::drafted` meets its contract: there is room for any text, or it was counted in the draft, and the buffer
-- has room for it or not. Assumes nothing.
use Prim.Native.Nat.{ℕ}
use mathlib.Core.Path.{◌∙◌, ap}
use mathlib.Core.List.{List, ◌++◌}
use native.Mathlib.Omega.{arith}
use lib.ListN.{drop}
use Rattle.text.proofs.OutputLaws.{put_at_once, left_short, put_counted, copied}
use Rattle.text.proofs.draft.drafted.Goals as goal
use Rattle.text.proofs.draft.drafted.Goals.{then-length-draft, else-length-draft}

pub returns-then-most-out-clause-text : goal.returns-then-most-out-clause-text
returns-then-most-out-clause-text g c = λ text puts.
    let a = c.args in
    put_at_once text a.out.now a.most _ _ (puts _ _ _ c.put.ensures) c.if-most-out.true

pub returns-then-out-length-clause-text : goal.returns-then-out-length-clause-text
returns-then-out-length-clause-text g c = λ text puts.
    let a = c.args in
    left_short text a.out.now a.most _ _ _ (puts _ _ _ c.put-length.ensures) c.if-out-length.true

pub returns-clause-text : goal.returns-clause-text
returns-clause-text g c = λ text puts.
    let a = c.args in
    let counted = puts _ _ _ c.put-length.ensures in
    elim c.if-length-draft.branch [
      | then-length-draft w ↦
          let done = copied text a.out.now a.most a.draft.now _ _ counted (omega (arith, w.if-length-draft.true, c.put-length.auto.arg2)) c.if-out-length.false in
          (done.0, w.out-is ∙ ap (λ (k : List ℕ). k ++ drop c.put-length.result a.out.now) w.copy_from_slice.ensures.after ∙ done.1)
      | else-length-draft w ↦
          let done = put_counted text a.out.now a.most _ _ _ counted _ _ c.if-out-length.false (puts _ _ _ w.put-else-length-draft.ensures) in
          (done.0, w.out-is ∙ done.1)
    ]
