-- An edit on the pages of its two stations: what the call tells and leaves where the pages refuse it, and where they
-- do not. Assumes nothing.
use Prim.Native.Nat.{ℕ}
use mathlib.Core.Path.{◌≡◌, sym}
use mathlib.Core.List.{List}
use borrow.Author.Tests.{ne_eqb}
use Rattle.std.specs.Prelude.{Ok, Err}
use Rattle.base.specs.RefusalNumbers.{number_of}
use Rattle.base.specs.declared.refusal.Refusal.{Refusal}
use Rattle.timetable.proofs.OutputLaws.{number_there}
use Rattle.page_edits.specs.between.PageEdits.{frames_refusal, frames_removed, frames_changed, frames_answer, frames_after}
use Rattle.page_edits.proofs.PairSteps.{frames_told, frames_left}
use Rattle.edit_calls.specs.Types.{Edit, Network, Layout}
use Rattle.edit_calls.specs.Answers.{answer_of}

module _ (layout : Layout) (n : Network) (e : Edit) (b : List ℕ) where
  module _ (r : Refusal) (q : number_of r ≡ frames_refusal layout n e b) where
    pub refusal_told : answer_of (Err r) ≡ frames_answer layout n e b
    refusal_told = sym (rw (frames_told layout n e b, ← q, ne_eqb (number_of r) 0 (number_there r)))

  pub refusal_left : ¬ (frames_refusal layout n e b ≡ 0) → frames_after layout n e b ≡ b
  refusal_left z = rw (frames_left layout n e b, ne_eqb (frames_refusal layout n e b) 0 z)

  module _ (q : 0 ≡ frames_refusal layout n e b) where
    pub removed_told : (k : ℕ) → k ≡ frames_removed layout n e b → answer_of (Ok k) ≡ frames_answer layout n e b
    removed_told k is = sym (rw (frames_told layout n e b, ← q, ← is))

    pub changed_left : (later : List ℕ) → later ≡ frames_changed layout n e b → later ≡ frames_after layout n e b
    changed_left later is = sym (rw (frames_left layout n e b, ← q, ← is))
