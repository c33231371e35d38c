-- `network::Closure::ends_after` meets its contract by its test. Assumes nothing.
use mathlib.Core.Path.{refl}
use Rattle.network.specs.Networks.{ends_after}
use Rattle.network.proofs.Closure.ends_after.Goals as goal

pub returns : goal.returns
unfolding ends_after
returns c = refl
