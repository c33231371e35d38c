-- `sheet::station_page::page_of` meets its contract: the tests that led to each return decide the part. Assumes
-- nothing.
use mathlib.Core.Path.{sym, ◌∙◌}
use Rattle.sheet.proofs.StationLaws.{station_is, station_none, station_short}
use Rattle.sheet.proofs.station_page.page_of.Goals as goal

pub returns-then-valid : goal.returns-then-valid
returns-then-valid c =
    station_is c.args.sheet.now c.args.s c.size.result c.size.ensures.0 c.if-sheet-eq8192.true
    (sym c.valid.ensures ∙ c.if-valid.true)

pub returns-then-sheet-eq8192 : goal.returns-then-sheet-eq8192
returns-then-sheet-eq8192 c =
    station_none c.args.sheet.now c.args.s c.if-sheet-eq8192.true (sym c.valid.ensures ∙ c.if-valid.false)

pub returns : goal.returns
returns c =
    station_short c.args.sheet.now c.args.s c.if-sheet-eq8192.false
