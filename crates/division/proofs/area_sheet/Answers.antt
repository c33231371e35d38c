-- `division::area_sheet` meets its contract: the tests that led to each return decide the part. Assumes nothing.
use Rattle.std.proofs.Common.{sym}
use Rattle.division.proofs.CopyLaws.{part_is, part_none, part_short}
use Rattle.division.proofs.area_sheet.Goals as goal
use Rattle.division.proofs.area_sheet.Goals.{else-division-eq49152-via-then-division-eq49152+else-valid, else-division-eq49152-via-else-division-eq49152}

pub returns-then-valid : goal.returns-then-valid
returns-then-valid c = part_is c.args.division.now c.args.a c.from.result c.from.ensures c.if-division-eq49152.true (sym c.if-valid.ensures)

pub returns : goal.returns
returns c = elim c.else-division-eq49152.branch [
  | else-division-eq49152-via-then-division-eq49152+else-valid w ↦ part_none c.args.division.now c.args.a w.if-division-eq49152.true (sym w.if-valid.ensures)
  | else-division-eq49152-via-else-division-eq49152 w ↦ part_short c.args.division.now c.args.a w.if-division-eq49152.false
]
