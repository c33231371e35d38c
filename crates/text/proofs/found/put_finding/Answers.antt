-- `text::found::put_finding` meets its contract: numbers of two bytes are numbers of four, and the line has as many of
-- them as its list names areas. Assumes nothing.
use Rattle.text.specs.between.Lines.{four_at}
use Rattle.text.proofs.FourByFour.{of_none, of_one, of_two}
use Rattle.text.proofs.found.put_finding.Goals as goal

pub returns-then-h-eq0 : goal.returns-then-h-eq0
unfolding four_at
returns-then-h-eq0 c =
    let s = c.args in
    rw (of_none s.h.one s.h.other c.if-h-eq0.true, ← c.from-s.ensures, ← c.from-rule.ensures, ← c.from-first.ensures, ← c.from-second.ensures) c.put_line.ensures

pub returns-then-h-eq0-2 : goal.returns-then-h-eq0-2
unfolding four_at
returns-then-h-eq0-2 c =
    let s = c.args in
    rw (of_one s.h.one s.h.other c.if-h-eq0.false c.if-h-eq0-2.true, ← c.from-s.ensures, ← c.from-rule.ensures, ← c.from-first.ensures, ← c.from-second.ensures, ← c.from-a.ensures) c.put_line-then-h-eq0-2.ensures

pub returns : goal.returns
unfolding four_at
returns c =
    let s = c.args in
    rw (of_two s.h.one s.h.other c.if-h-eq0.false c.if-h-eq0-2.false, ← c.from-s.ensures, ← c.from-rule.ensures, ← c.from-first.ensures, ← c.from-second.ensures, ← c.from-a.ensures, ← c.from-b.ensures) c.put_line-2.ensures
