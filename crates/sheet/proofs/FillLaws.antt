-- Parts of one length in a row, filled one after another: what stands in the row after each, and a page as a part of a
-- sheet of a division. Assumes nothing.
use Prim.Native.Nat.{ℕ, zero, suc, ◌+◌, ◌*◌, ◌-◌, ◌≤◌, ◌<◌}
use mathlib.Core.Path.{◌≡◌, sym, ◌∙◌, ap, ap₂}
use mathlib.Core.Bool.{true}
use mathlib.Core.List.{List, [], ◌∷◌, ◌++◌}
use native.Mathlib.Nat.{add-sub_cancel_left, zero-add, suc-add}
use native.Mathlib.Omega.{arith}
use lib.Dec.{leb, leb→le}
use lib.ListN.{length, take, drop, length-append, length-drop}
use lib.Seq.{take_at, take-add, take_all, take-take, take-nil, drop-nil, drop-drop, take-append-add, length-take-le}
use borrow.Author.Tests.{eq-eqb}
use Rattle.base.specs.Lists.{within}
use Rattle.base.proofs.Tests.{true_T, and_l, and_r}
use Rattle.records.specs.Bytes.{overwritten}
use Rattle.sheet.specs.Sheets.{page_at, sheet_at}
use Rattle.sheet.proofs.SheetLaws.{mk}

pub area_bounds : (a : ℕ) → within 1 6 a ≡ true → (1 ≤ a) × (a ≤ 6)
area_bounds a e =
    let t = true_T (within 1 6 a) e in
    (leb→le 1 a (and_l (leb 1 a) (leb a 6) t), leb→le a 6 (and_r (leb 1 a) (leb a 6) t))

pub overwrites : (b new : List ℕ) → length b ≡ length new → overwritten b new ≡ new
unfolding overwritten
overwrites b new e = rw (eq-eqb (length b) (length new) e)

-- one more part filled: the parts before index i are those of t, and so are those up to the new one
pub filled_next : (w i : ℕ) (b new t : List ℕ) → length new ≡ w → w * i ≤ length b → take (w * i) b ≡ take (w * i) t → new ≡ take w (drop (w * i) t)
    → take (w * (i + 1)) (take (w * i) b ++ (new ++ drop (w * i + w - w * i) (drop (w * i) b))) ≡ take (w * (i + 1)) t
filled_next w i b new t e h p q =
    let at = w * i in
    let rest = drop (at + w - at) (drop at b) in
    let l : length (take at b) ≡ at = length-take-le at b h in
    let s : w * (i + 1) ≡ at + w = omega arith in
    let s' : w * (i + 1) ≡ length (take at b) + w = omega arith in
    ap (λ (j : ℕ). take j (take at b ++ (new ++ rest))) s'
    ∙ take-append-add (take at b) (new ++ rest) w
    ∙ ap₂ ◌++◌ p (take_at new rest w e ∙ q)
    ∙ sym (take-add at w t) ∙ ap (λ (j : ℕ). take j t) (sym s)

pub filled_length : (w at : ℕ) (b new : List ℕ) → length new ≡ w → at + w ≤ length b
    → length (take at b ++ (new ++ drop (at + w - at) (drop at b))) ≡ length b
filled_length w at b new e h =
    length-append (take at b) (new ++ drop (at + w - at) (drop at b))
    ∙ omega (arith, length-take-le at b (omega arith), length-append new (drop (at + w - at) (drop at b)), length-drop (at + w - at) (drop at b), length-drop at b)

-- the part from a place on, as the code cuts it
pub part_size : (b : List ℕ) (at w : ℕ) → at + w ≤ length b → length (take (at + w - at) (drop at b)) ≡ w
part_size b at w h = rw (add-sub_cancel_left at w) (length-take-le w (drop at b) (omega (arith, length-drop at b)))

-- all parts filled
pub filled : (w : ℕ) (b t : List ℕ) (n : ℕ) → n ≡ w → length b ≡ w → length t ≡ w → take n b ≡ take n t → b ≡ t
filled w b t n e p q h = sym (take_all n b (omega arith)) ∙ h ∙ take_all n t (omega arith)

pub drop_take : (x y : ℕ) (l : List ℕ) → drop x (take (x + y) l) ≡ take y (drop x l)
drop_take zero y l = rw (zero-add y)
drop_take (suc x) y [] = rw (take-nil (suc x + y), drop-nil (suc x), take-nil y)
drop_take (suc x) y (a ∷ l) = rw (suc-add x y) (drop_take x y l)

-- a page of a sheet of a division
pub deep_page : (division : List ℕ) (i a : ℕ) → i < 16 → page_at (sheet_at division a) (mk (i + 1)) ≡ take 512 (drop (8192 * (a - 1) + 512 * i) division)
unfolding page_at sheet_at
deep_page division i a h =
    let d = drop (8192 * (a - 1)) division in
    let e : i + 1 - 1 ≡ i = omega arith in
    let f : 8192 ≡ 512 * i + (8192 - 512 * i) = omega arith in
    ap (λ (j : ℕ). take 512 (drop (512 * j) (take 8192 d))) e
    ∙ ap (λ (j : ℕ). take 512 (drop (512 * i) (take j d))) f
    ∙ ap (take 512) (drop_take (512 * i) (8192 - 512 * i) d)
    ∙ take-take 512 (8192 - 512 * i) (drop (512 * i) d) (omega arith)
    ∙ ap (take 512) (drop-drop (512 * i) (8192 * (a - 1)) division)
