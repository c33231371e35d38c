-- The measure is twice the visits left, and one more between an arrival and its departure.
use Prim.Native.Nat.{◌+◌}
use Rattle.projection.proofs.journey.+arrive_depart.Given as goal

abbrev pub decreases-arrive : goal.decreases-arrive
decreases-arrive l = l.left + l.left

abbrev pub decreases-depart : goal.decreases-depart
decreases-depart l = l.left + l.left + 1
