-- `recheck::marks::levels_of` meets its contract. The loop's invariant: the first i levels are those of the first i
-- stations. Assumes nothing.
use Rattle.std.proofs.Common.{◌∙◌, length-set}
use Rattle.recheck.specs.between.Marks.{level_at, levels_of}
use Rattle.recheck.proofs.MarkLaws.{levels_next, levels_whole}
use Rattle.recheck.proofs.marks.levels_of.Goals as goal

pub loop-i-preserved : goal.loop-i-preserved
loop-i-preserved c =
    let l = c.loop-i in
    let s = c.args in
    let f = level_at s.n.now s.home s.away in
    rw c.from.ensures
    (length-set l.levels l.i c.level_at.result ∙ l.invariant.0, levels_next f l.levels l.i c.level_at.result c.loop-i-test.true l.invariant.0 c.level_at.ensures l.invariant.1)

pub returns : goal.returns
unfolding levels_of
returns c =
    let l = c.loop-i in
    let s = c.args in
    levels_whole (level_at s.n.now s.home s.away) l.levels l.i c.loop-i-test.false l.invariant.0 l.invariant.1
