-- `network::Network::stands_in_place` meets its contract: a row in use that has a station's number lists it. Assumes
-- nothing.
use Prim.Native.Nat.{◌-◌}
use mathlib.Core.Path.{◌≡◌}
use native.Mathlib.Omega.{arith}
use lib.ListN.{length}
use Rattle.std.proofs.Common.{rules, tests}
use Rattle.network.specs.Networks.{blank_station}
use Rattle.network.proofs.RowsInUse.{listed_at}
use Rattle.network.proofs.Network.stands_in_place.Goals as goal

pub returns-then-k-n : goal.returns-then-k-n
returns-then-k-n c e =
    let u = c.in_use-n in
    let s = c.args in
    let many : length s.self.now.stations ≡ 16 = search rules in
    listed_at s.self.now s.s (s.s.0 - 1) blank_station (omega (arith, u.ensures)) (omega (arith, u.ensures)) (search (rules, tests))
