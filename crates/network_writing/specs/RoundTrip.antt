-- An accepted network file, read and written by the calls, is the same file. Assumes nothing.
use Rattle.std.specs.Prelude.{ℕ, ◌≤◌, ◌≡◌, List, ◌++◌, length, drop}
use Rattle.network.specs.declared.Network.{Network}
use Rattle.timetable.specs.Outputs.{written}
use Rattle.timetable.specs.Formats.{accepted}
use Rattle.timetable.specs.NetworkFile.{read_network}
use Rattle.roundtrips.specs.RoundTrips.{Bytes}
use Rattle.network_writing.specs.Writing.{write_network, network_written}

abbrev pub NetworkComesBack : Type 0
NetworkComesBack =
    (file buffer : List ℕ) (n : Network) (next : ℕ) → Bytes file → read_network file ≡ accepted n next → length file ≤ length buffer
    → (write_network n buffer ≡ written (length file)) × (network_written n buffer ≡ file ++ drop (length file) buffer)
