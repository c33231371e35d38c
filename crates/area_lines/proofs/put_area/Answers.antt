-- `area_lines::put_area` meets its contract: the arrays that it lends have the lengths that `area_in` asks
-- for. Assumes nothing.
use Prim.Native.Nat.{ℕ}
use mathlib.Core.Path.{sym}
use lib.ListN.{length-replicate}
use Rattle.builder.specs.between.Builder.{list_most}
use Rattle.area_lines.proofs.put_area.Goals as goal

pub slice_bounds-area_in-end : goal.slice_bounds-area_in-end
slice_bounds-area_in-end c = sym (length-replicate {A = ℕ} list_most 0)

pub slice_bounds-area_in-end-2 : goal.slice_bounds-area_in-end-2
slice_bounds-area_in-end-2 c = sym (length-replicate {A = ℕ} 49152 0)

pub area_in-requires : goal.area_in-requires
area_in-requires c =
    (length-replicate {A = ℕ} list_most 0, length-replicate {A = ℕ} 49152 0)

pub returns : goal.returns
returns c = c.area_in.ensures
