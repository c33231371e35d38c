-- `recheck::lists::rises` meets its contract. The loop's invariant: the list rises if it rises from the finding before
-- the next on; each turn compares that finding with the next. Assumes nothing.
use Rattle.std.proofs.Common.{◌≡◌, ◌*◌, ◌-◌, drop}
use Rattle.base.specs.Lists.{each_two}
use Rattle.timetable.specs.Findings.{findings_in}
use Rattle.timetable.specs.Recheck.{before}
use Rattle.recheck.proofs.lists.rises.Given as goal

abbrev pub invariant-loop-i : goal.invariant-loop-i
invariant-loop-i l = each_two before (findings_in l.list) ≡ each_two before (findings_in (drop (4 * l.i - 4) l.list))
