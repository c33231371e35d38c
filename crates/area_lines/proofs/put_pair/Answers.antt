-- `area_lines::put_pair` meets its contract: the arrays that it lends have the lengths that `pair_in` asks
-- for. Assumes nothing.
use Prim.Native.Nat.{ℕ}
use mathlib.Core.Path.{sym}
use lib.ListN.{length-replicate}
use Rattle.builder.specs.between.Builder.{list_most}
use Rattle.area_lines.proofs.put_pair.Goals as goal

pub slice_bounds-pair_in-end : goal.slice_bounds-pair_in-end
slice_bounds-pair_in-end c = sym (length-replicate {A = ℕ} list_most 0)

pub slice_bounds-pair_in-end-2 : goal.slice_bounds-pair_in-end-2
slice_bounds-pair_in-end-2 c = sym (length-replicate {A = ℕ} 49152 0)

pub pair_in-requires : goal.pair_in-requires
pair_in-requires c =
    (length-replicate {A = ℕ} list_most 0, length-replicate {A = ℕ} 49152 0)

pub returns : goal.returns
returns c = c.pair_in.ensures
