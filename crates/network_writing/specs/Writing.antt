-- The call that writes a network: what it answers, and the buffer afterwards. "Order: .. 3, 4, .. 13"; the bytes are
-- those of the numbers of timetable NetworkFile. Assumes nothing.
use Rattle.std.specs.Prelude.{List, ℕ}
use Rattle.network.specs.declared.Network.{Network}
use Rattle.network.specs.Networks.{network_refusal}
use Rattle.timetable.specs.Formats.{bytes_of}
use Rattle.timetable.specs.NetworkFile.{network_numbers}
use Rattle.timetable.specs.Outputs.{Reply, output, output_after}

-- 3, 14, 4, 13
unfoldable pub write_network : Network → List ℕ → Reply
write_network n buffer = output (network_refusal n) (bytes_of (network_numbers n)) buffer

unfoldable pub network_written : Network → List ℕ → List ℕ
network_written n buffer = output_after (network_refusal n) (bytes_of (network_numbers n)) buffer

-- The key ring of this module: `unfolding opened` opens every definition above.
unfoldable pub opened : Unit {0}
unfolding write_network network_written
opened = tt
