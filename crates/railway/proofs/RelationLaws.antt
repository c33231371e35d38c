-- How many trains a connection or disconnection has: one for each place that holds a train. Assumes nothing.
use Prim.Native.Nat.{◌+◌}
use mathlib.Core.Path.{◌≡◌, ◌∙◌}
use mathlib.Core.List.{[], ◌∷◌}
use native.Mathlib.Omega.{arith}
use lib.ListN.{length}
use Rattle.base.specs.Lists.{count}
use Rattle.base.proofs.Lengths.{length_keep}
use Rattle.railway.specs.Types.{Trains}
use Rattle.railway.specs.Relations.{used, place_count, present}

pub used_count : (ts : Trains) → length (used ts) ≡ place_count ts.a + place_count ts.b + place_count ts.c + place_count ts.d
unfolding used count
used_count ts = length_keep present (ts.a ∷ ts.b ∷ ts.c ∷ ts.d ∷ []) ∙ omega arith
