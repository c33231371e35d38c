-- A row that holds numbers has them in use; and numbers copied in front of zeros. Assumes nothing.
use Prim.Native.Nat.{ℕ, ◌+◌, ◌-◌, ◌<◌, min}
use mathlib.Core.Path.{◌≡◌, refl, ◌∙◌, ap}
use mathlib.Core.List.{List, [], ◌∷◌, ◌++◌}
use native.Mathlib.Omega.{arith}
use lib.ListN.{length, set, take, drop, replicate, length-append}
use Rattle.std.proofs.lemmas.List.{length-take-le, drop-replicate}
use Rattle.network.proofs.RowsInUse.{used_rows}
use lib.Seq.{take_at}
use Rattle.fields.specs.declared.put.Numbers.{Numbers}
use Rattle.fields.specs.between.Answers.{padded, in_use, row_of}
use Rattle.fields.proofs.ReadLaws.{padded_next}

pub row_held : {r : Numbers} {ns : List ℕ} → r ≡ row_of ns → in_use r ≡ ns
unfolding in_use row_of padded
row_held {r} {ns} e = ap in_use e ∙ take_at ns (replicate (13 - length ns) 0) (length ns) refl

pub row_new : (row : List ℕ) (k : ℕ) → k ≡ min (length row) 13 → (copy : List ℕ) → copy ≡ take k row
    → ◌≡◌ {A = Numbers} (record { count = k; values = copy ++ drop k (replicate 13 0) }) (row_of (take 13 row))
unfolding row_of padded
row_new row k e copy p =
    let few : take 13 row ≡ take k row = used_rows row 13 (length row) k refl (omega arith) in
    let many : length (take k row) ≡ k = length-take-le k row (omega arith) in
    rw (few, many, p, drop-replicate {X = ℕ} k 13 0)

pub row_with : (r : Numbers) (x : ℕ) (ns : List ℕ) → r ≡ row_of ns → length ns < 13
    → ◌≡◌ {A = Numbers} (record { count = r.count + 1; values = set r.values r.count x }) (row_of (ns ++ (x ∷ [])))
unfolding row_of
row_with r x ns e h = rw (e, padded_next 13 0 ns (length ns) x refl h, length-append ns (x ∷ []))

pub row_full : (r : Numbers) (ns : List ℕ) → r ≡ row_of ns → length ns < 13 → r.count < 13
unfolding row_of
row_full r ns e h = omega (arith, ap (λ (x : Numbers). x.count) e)
