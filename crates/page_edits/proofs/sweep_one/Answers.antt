-- `page_edits::sweep_one` meets its contract: the page is counted and then changed. Assumes nothing.
use native.Mathlib.Omega.{arith}
use Prim.Native.Nat.{ℕ, ◌+◌, ◌*◌, min}
use mathlib.Core.Path.{◌≡◌, ◌∙◌, ap}
use lib.ListN.{length}
use Rattle.edit_changes.specs.between.EditPages.{page_without}
use Rattle.sheet.proofs.FrameLaws.{cut_back}
use Rattle.page_edits.specs.between.PageEdits.{visits_on}
use Rattle.page_edits.proofs.sweep_one.Goals as goal

pub returns : goal.returns
returns c =
    let s = c.args in
    let k = c.count_on-count in
    let page = c.page_at in
    let h = c.take_out in
    let from = c.start_of-at in
    let to = c.start_of-end in
    let next : 512 * (s.i + 1) ≡ 512 * s.i + 512 = omega arith in (
      k.ensures.0 ∙ ap (visits_on s.t) page.ensures,
      cut_back s.i from.result to.result s.b.now from.ensures (to.ensures ∙ ap (λ (j : ℕ). min j (length s.b.now)) next)
          (page_without s.t) h.new.page h.auto.page h.ensures,
      k.ensures.1,
    )
