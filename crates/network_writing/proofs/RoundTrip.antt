-- An accepted network file is the bytes of its network's numbers, and that network is good (roundtrips NetworkTrips);
-- so the call writes them. Assumes nothing.
use mathlib.Core.Path.{◌≡◌, refl, sym, ◌∙◌}
use lib.ListN.{length}
use Rattle.network.specs.Networks.{network_refusal}
use Rattle.timetable.specs.Formats.{bytes_of}
use Rattle.timetable.specs.NetworkFile.{network_numbers}
use Rattle.timetable.specs.Outputs.{reply_of}
use Rattle.timetable.proofs.BuffersFilled.{put_whole}
use Rattle.timetable.proofs.OutputLaws.{filled}
use Rattle.roundtrips.proofs.NetworkTrips.{network_trip}
use Rattle.network_writing.specs.Writing.{write_network, network_written}
use Rattle.network_writing.specs.RoundTrip.{NetworkComesBack}

pub network_comes_back : NetworkComesBack
unfolding write_network network_written network_numbers reply_of
network_comes_back file buffer n next b e h =
    let read = network_trip.only file n next b e in
    let same : bytes_of (network_numbers n) ≡ file = sym read.file_is in
    let good : network_refusal n ≡ 0 = read.good in
    let x = filled file buffer (length file) refl h in
    rw (good, same) (sym x.0, sym x.1 ∙ put_whole file buffer h)
