-- `page_edits::change_near` meets its contract: what was made of the lent page is the page changed in the whole.
-- Assumes nothing.
use native.Mathlib.Omega.{arith}
use Prim.Native.Nat.{ℕ, ◌+◌, ◌*◌, min}
use mathlib.Core.Path.{◌≡◌, ◌∙◌, ap}
use lib.ListN.{length}
use Rattle.edit_changes.specs.between.EditPages.{here_page}
use Rattle.sheet.proofs.FrameLaws.{cut_back}
use Rattle.page_edits.proofs.change_near.Goals as goal

pub returns : goal.returns
returns c =
    let s = c.args in
    let h = c.change_here in
    let from = c.start_of-at in
    let to = c.start_of-end in
    let next : 512 * (s.i + 1) ≡ 512 * s.i + 512 = omega arith in
    cut_back s.i from.result to.result s.b.now from.ensures (to.ensures ∙ ap (λ (k : ℕ). min k (length s.b.now)) next)
    (here_page s.e) h.new.page h.auto.page h.ensures
