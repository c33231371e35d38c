-- `shift_lines::listing::put_end` meets its contract: the array that it lends is as long as a sheet. Assumes nothing.
use Prim.Native.Nat.{ℕ}
use mathlib.Core.Path.{sym}
use lib.ListN.{length-replicate}
use Rattle.shift_lines.proofs.listing.put_end.Goals as goal

pub slice_bounds-end_in-end : goal.slice_bounds-end_in-end
slice_bounds-end_in-end c = sym (length-replicate {A = ℕ} 8192 0)

pub end_in-requires : goal.end_in-requires
end_in-requires c = (c.requires.0, c.requires.1, length-replicate {A = ℕ} 8192 0)

pub returns : goal.returns
returns c = c.end_in.ensures
