-- Turning a network file of an earlier form into the newest. Document 02, W3: "An old network file, its closures kept,
-- is turned into a new one by giving both times the old number": read in the form that is named, and written. 1, 2, 3,
-- 14 and 4 carry the place in the old file; then 13. Assumes nothing.
use Rattle.std.specs.Prelude.{ℕ, List}
use Rattle.timetable.specs.Types.{Network, NetworkForm}
use Rattle.timetable.specs.Formats.{Outcome, accepted, refused, bytes_of}
use Rattle.timetable.specs.NetworkFile.{network_numbers, read_network_as}
use Rattle.timetable.specs.Outputs.{Reply, refused_at, output, output_after}

-- the bytes of the new file
unfoldable pub turned : Network → List ℕ
turned n = bytes_of (network_numbers n)

-- by what the old file holds
unfoldable pub turned_reply : Outcome Network → List ℕ → Reply
turned_reply (accepted n next) out = output 0 (turned n) out
turned_reply (refused k p) out = refused_at k p

unfoldable pub turned_after : Outcome Network → List ℕ → List ℕ
turned_after (accepted n next) out = output_after 0 (turned n) out
turned_after (refused k p) out = out

-- the call: its answer, and the buffer afterwards
unfoldable pub turn_reply : NetworkForm → List ℕ → List ℕ → Reply
turn_reply form file out = turned_reply (read_network_as form file) out

unfoldable pub turn_after : NetworkForm → List ℕ → List ℕ → List ℕ
turn_after form file out = turned_after (read_network_as form file) out

-- The key ring of this module: `unfolding opened` opens every definition above.
unfoldable pub opened : Unit {0}
unfolding turned turned_reply turned_after turn_reply turn_after
opened = tt
