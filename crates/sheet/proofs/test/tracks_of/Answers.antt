-- `sheet::test::tracks_of` meets its contract: the row's tracks, where there is a row. Assumes nothing.
use Rattle.sheet.specs.between.Passes.{tracks_at}
use Rattle.sheet.proofs.test.tracks_of.Goals as goal

pub returns-in-Some : goal.returns-in-Some
unfolding tracks_at
returns-in-Some c = rw (← c.station_row.ensures, c.in-Some.is)

pub returns-in-None : goal.returns-in-None
unfolding tracks_at
returns-in-None c = rw (← c.station_row.ensures, c.in-None.is)
