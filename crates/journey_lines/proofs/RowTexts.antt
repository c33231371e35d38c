-- The rows of a projection as text: their numbers, four by four, are the lines of the rows that they come from, where
-- they are small, as a small number is kept as the machine has it. Assumes nothing.
use Prim.Native.Nat.{ℕ}
use mathlib.Core.Path.{◌≡◌, refl, sym, ap, ap₂}
use mathlib.Core.List.{List, [], ◌∷◌, ◌++◌, flat_map, append-nil, append_assoc}
use native.Mathlib.Omega.{arith}
use lib.Dec.{T}
use lib.IntN.{ℤ, pos}
use lib.Signed.{mag}
use borrow.Author.Tests.{leb-true}
use Rattle.base.specs.Lists.{every}
use Rattle.base.proofs.Tests.{T_true, parts}
use Rattle.projection.specs.Numbers.{row_numbers, rows_numbers}
use Rattle.listings.specs.Text.{word, head}
use Rattle.listings.specs.Inspect.{signed, row_text}
use Rattle.text.specs.between.Rows.{signed_word, kept, row_line, rows_text}
use Rattle.text.proofs.SignedLaws as signed-laws
use Rattle.journey_lines.specs.Types.{Row}
use Rattle.journey_lines.specs.between.Journeys.{small}

-- a small number is kept
small_kept : (z : ℤ) → T (small z) → kept z ≡ z
unfolding small
small_kept z t = signed-laws.kept z (record { sfits = omega (arith, leb-true (mag z) 10000 (T_true (small z) t)) })

-- a row's line, the numbers grouped as they are written
regroup : (p q a b c l e : List ℕ) → (p ++ (q ++ (a ++ (b ++ (c ++ []))))) ++ (l ++ e) ≡ (p ++ (q ++ [])) ++ ((a ++ (b ++ (c ++ (l ++ [])))) ++ e)
regroup p q a b c l e = simp (append_assoc, append-nil)

row_lines : (s t : ℕ) (r : Row) → row_text s t r ≡ row_line s t (row_numbers r)
unfolding row_text row_line row_numbers signed_word signed head word flat_map
row_lines s t r =
    ap (λ (l : List ℕ). 74 ∷ l)
    (regroup (word s) (word t) (word r.station.0) (word r.arrival) (word r.departure) (32 ∷ signed r.lateness) (10 ∷ []))

pub rows_lines : (s t : ℕ) (rs : List Row) → T (every small (rows_numbers rs)) → rows_text s t (rows_numbers rs) ≡ flat_map (row_text s t) rs
unfolding rows_text rows_numbers row_numbers flat_map every
rows_lines s t [] u = refl
rows_lines s t (r ∷ rs) u =
    let a : kept (pos r.station.0) ≡ pos r.station.0 = small_kept (pos r.station.0) (search parts) in
    let b : kept (pos r.arrival) ≡ pos r.arrival = small_kept (pos r.arrival) (search parts) in
    let c : kept (pos r.departure) ≡ pos r.departure = small_kept (pos r.departure) (search parts) in
    let d : kept r.lateness ≡ r.lateness = small_kept r.lateness (search parts) in
    let rest : T (every small (rows_numbers rs)) = search parts in
    rw (a, b, c, d) (ap₂ (λ (x y : List ℕ). x ++ y) (sym (row_lines s t r)) (rows_lines s t rs rest))
