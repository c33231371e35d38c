-- What refuses an edit before any sheet is looked at. Document 01, "Who brings on which number": "Order: 5, 3, 4, 7";
-- straight after 3 stand W7's 15 and then W1's 14, "of numbers so placed the higher first". Assumes nothing.
use Rattle.std.specs.Prelude.{ℕ, Bool, true, not, ◌&&◌}
use Rattle.base.specs.Choice.{◌if◌else◌}
use Rattle.network.specs.Networks.{network_refusal, track_known, runs}
use Rattle.timetable.specs.Refusals.{early}
use Rattle.timetable.specs.Machine.{Meaning, local, throughout, meaning, known, edit_refusal}
use Rattle.actions.specs.Types.{Station, Line, Plan, Edit, Network}

-- "7 station, track or line unknown, or the line doesn't run that way": edit 11 is never refused so
unfoldable pub fits_network : Network → Meaning → Bool
fits_network n (local a) = known n a
fits_network n (throughout t) = true

unfoldable pub unknown_refusal : Network → Edit → ℕ
unknown_refusal n e = 7 if not (fits_network n (meaning e)) else 0

-- 3 of the edit or the network, 15 of the edit, 14 or 4 of the network, 7 of both, or 0
unfoldable pub early_refusal : Network → Edit → ℕ
early_refusal n e = early (edit_refusal e) (network_refusal n) (unknown_refusal n e)

-- the parts of the test, as the code makes it: the stations apart

abbrev pub plan_fits : Network → Plan → Bool
plan_fits n p = track_known n p.station p.track

abbrev pub line_fits : Network → Plan → Line → Station → Station → Bool
line_fits n p l from to = plan_fits n p && runs n l from to

unfoldable pub fits_of : Network → Meaning → Bool
fits_of n (local a) = a.fits n
fits_of n (throughout t) = true

-- The key ring of this module: `unfolding opened` opens every definition above.
unfoldable pub opened : Unit {0}
unfolding fits_network unknown_refusal early_refusal fits_of
opened = tt
