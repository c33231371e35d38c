-- `relation_loss::others` meets its contract: each place is put before those behind it. Assumes nothing.
use mathlib.Core.Path.{sym, ap, ◌∙◌}
use Rattle.relation_loss.specs.between.Left.{shifted}
use Rattle.relation_loss.proofs.TrainsLeft.{packed_used}
use Rattle.relation_loss.proofs.others.Goals as goal

pub returns : goal.returns
returns c =
    let s = c.args in
    c.put_before.ensures
    ∙ ap (shifted s.train s.ts.a) (c.put_before-behind.ensures
    ∙ ap (shifted s.train s.ts.b) (c.put_before-later.ensures
    ∙ ap (shifted s.train s.ts.c) c.put_before-last.ensures))
    ∙ sym (packed_used s.train s.ts)
