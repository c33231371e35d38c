-- `page_edits::change_far` meets its contract: nothing is done where the two pages are one, else what was made of the
-- lent page is the page changed in the whole. Assumes nothing.
use native.Mathlib.Omega.{arith}
use Prim.Native.Nat.{ℕ, ◌+◌, ◌*◌, min}
use mathlib.Core.Path.{◌≡◌, sym, ◌∙◌, ap}
use lib.ListN.{length}
use borrow.Author.Tests.{eq-eqb, ne_eqb}
use Rattle.edit_changes.specs.between.EditPages.{there_page}
use Rattle.sheet.proofs.FrameLaws.{cut_back}
use Rattle.page_edits.specs.between.PageEdits.{far_changed}
use Rattle.page_edits.proofs.change_far.Goals as goal

pub returns-then-i-j : goal.returns-then-i-j
unfolding far_changed
returns-then-i-j c = sym (rw (eq-eqb _ _ c.if-i-j.true))

pub returns : goal.returns
unfolding far_changed
returns c =
    let s = c.args in
    let h = c.change_there in
    let from = c.start_of-at in
    let to = c.start_of-end in
    let next : 512 * (s.j + 1) ≡ 512 * s.j + 512 = omega arith in
    cut_back s.j from.result to.result s.b.now from.ensures (to.ensures ∙ ap (λ (k : ℕ). min k (length s.b.now)) next)
    (there_page s.e) h.new.page h.auto.page h.ensures
    ∙ sym (rw (ne_eqb _ _ c.if-i-j.false))
