-- `shift_lines::listing::put_run` meets its contract: the arrays that it lends are an empty division, and room for the
-- answers of any list. Assumes nothing.
use Prim.Native.Nat.{ℕ}
use mathlib.Core.Path.{refl, sym}
use lib.ListN.{length-replicate}
use Rattle.shift_lines.proofs.listing.put_run.Goals as goal

pub slice_bounds-run_in-end : goal.slice_bounds-run_in-end
slice_bounds-run_in-end c = sym (length-replicate {A = ℕ} 2000 0)

pub slice_bounds-run_in-end-2 : goal.slice_bounds-run_in-end-2
slice_bounds-run_in-end-2 c = sym (length-replicate {A = ℕ} 49152 0)

pub run_in-requires : goal.run_in-requires
run_in-requires c = (c.requires.0, c.requires.1, length-replicate {A = ℕ} 2000 0, refl)

pub returns : goal.returns
returns c = c.run_in.ensures
