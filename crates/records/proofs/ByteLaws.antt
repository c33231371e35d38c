-- Laws of lists of bytes that are moved, copied or cleared one by one: what a loop has left at each turn, and what it
-- leaves at the end. Assumes nothing.
use mathlib.Core.Path.{◌≡◌, refl, sym, ◌∙◌}
use mathlib.Core.Bool.{Bool, true, false, ◌&&◌}
use mathlib.Core.List.{List, ◌++◌}
use Prim.Native.Nat.{ℕ, ◌+◌, ◌-◌, ◌≤◌, ◌<◌}
use lib.Dec.{eqb}
use lib.ListN.{length, take, drop, get_or, drop_of_length-le}
use lib.Seq.{drop_at, length-take-le}
use borrow.Author.Tests.{le-leb}
use Rattle.base.specs.Lists.{every}
use Rattle.base.proofs.Lengths.{every_next}
use Rattle.records.specs.Bytes.{roomed, fronted}

-- a search for a byte that is not zero

module _ (l : List ℕ) (i : ℕ) (h : i < length l) where
  -- one byte more
  pub blank_on : (before after : Bool) → after ≡ (before && eqb 0 (get_or l i 0)) → (before && every (eqb 0) (drop i l)) ≡ (after && every (eqb 0) (drop (i + 1) l))
  blank_on true after e = every_next (eqb 0) l i 0 h ∙ sym (rw e)
  blank_on false after e = sym (rw e)

pub blank_end : (l : List ℕ) (i : ℕ) → length l ≤ i → every (eqb 0) (drop i l) ≡ true
unfolding every
blank_end l i h = rw (drop_of_length-le l {i = i} h)

pub blank_over : (before : Bool) (l : List ℕ) (i : ℕ) → length l ≤ i → (before && every (eqb 0) (drop i l)) ≡ before
blank_over true l i h = blank_end l i h
blank_over false l i h = refl

-- a record written over the front of a part that was moved on
pub front_put : (p new x y : List ℕ) → 16 ≤ length p → x ≡ roomed p → y ≡ new → y ++ drop 16 x ≡ fronted new p
unfolding roomed fronted
front_put p new x y h e f =
    let room : x ≡ take 16 p ++ take (length p - 16) p = e ∙ rw (le-leb 16 (length p) h) in
    let short : length (take 16 p) ≡ 16 = length-take-le 16 p h in
    rw (f, room, le-leb 16 (length p) h, drop_at (take 16 p) (take (length p - 16) p) 16 short)
