-- `text::words::put_byte` meets its contract: past the end nothing is set. Assumes nothing.
use mathlib.Core.Path.{refl, sym, ◌∙◌}
use lib.Seq.{set_out}
use Rattle.timetable.specs.Outputs.{put}
use Rattle.text.proofs.words.put_byte.Goals as goal
use Rattle.text.proofs.words.put_byte.Goals.{then-at-out, else-at-out}

pub returns : goal.returns
unfolding put
returns c =
    let a = c.args in
    elim c.if-at-out.branch [
      | then-at-out w ↦ (refl, w.out-is)
      | else-at-out w ↦ (refl, w.out-is ∙ sym (set_out a.out.now a.at a.b w.if-at-out.false))
    ]
