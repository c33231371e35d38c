-- `page_edits::page_at` meets its contract: from the page's start up to the next one's, neither past the end. Assumes
-- nothing.
use native.Mathlib.Omega.{arith}
use Prim.Native.Nat.{ℕ, ◌+◌, ◌*◌, min}
use mathlib.Core.Path.{◌≡◌, ◌∙◌, ap}
use lib.ListN.{length}
use Rattle.sheet.proofs.FrameLaws.{cut_frame}
use Rattle.page_edits.proofs.page_at.Goals as goal

pub returns : goal.returns
returns c =
    let s = c.args in
    let from = c.start_of-at in
    let to = c.start_of-end in
    let next : 512 * (s.i + 1) ≡ 512 * s.i + 512 = omega arith in
    cut_frame s.i from.result to.result s.b.now from.ensures (to.ensures ∙ ap (λ (k : ℕ). min k (length s.b.now)) next)
