-- What is promised of turning a network file of an earlier form into the newest. Document 02, W3: "An old network file,
-- its closures kept, is turned into a new one by giving both times the old number". The proofs are in
-- proofs/TurnedTrips; nothing here is proved. The letters are those of RoundTrips; f and g are files too. Assumes
-- nothing.
use Rattle.std.specs.Prelude.{ℕ, ◌≡◌, List, T, length}
use Rattle.base.specs.Lists.{every}
use Rattle.network.specs.Networks.{line_rows, same_times}
use Rattle.timetable.specs.declared.NetworkForm.{NetworkForm}
use Rattle.timetable.specs.Formats.{accepted}
use Rattle.timetable.specs.NetworkFile.{read_network_as, read_network}
use Rattle.timetable.specs.Turning.{turned}
use Rattle.roundtrips.specs.Types.{Network}
use Rattle.roundtrips.specs.RoundTrips.{Bytes, ReadAs}

pub record TurnedTrip (form : NetworkForm) : Type 0 where
  -- the old file has the numbers of its network in its form, and no others
  pub only : (file : List ℕ) (n : Network) (next : ℕ) → Bytes file → read_network_as form file ≡ accepted n next → ReadAs form file n next
  -- the turned file is accepted and reads to the network of the old one
  pub back : (file : List ℕ) (n : Network) (next : ℕ) → Bytes file → read_network_as form file ≡ accepted n next → read_network (turned n) ≡ accepted n (length (turned n))
  -- turning is one to one on accepted files
  pub one_to_one : (f g : List ℕ) (n m : Network) (p q : ℕ) → Bytes f → Bytes g → read_network_as form f ≡ accepted n p → read_network_as form g ≡ accepted m q
      → turned n ≡ turned m → f ≡ g

abbrev pub TurnedTrips : Type 0
TurnedTrips = (form : NetworkForm) → TurnedTrip form

-- "giving both times the old number"
abbrev pub BothTimes : Type 0
BothTimes =
    (file : List ℕ) (n : Network) (next : ℕ) → Bytes file → read_network_as NetworkForm.OneTime file ≡ accepted n next → T (every same_times (line_rows n))
