-- A written number reads back, whatever stands behind it; an accepted number writes the same bytes. Both by induction
-- on the groups permitted. Assumes nothing.
use Prim.Native.Nat.{ℕ, zero, suc, ◌+◌, ◌*◌, ◌-◌, ◌/◌, ◌%◌, ◌<◌, ◌≤◌}
use mathlib.Core.Path.{◌≡◌, refl, ◌∙◌, ap, ap₂}
use mathlib.Core.Bool.{Bool, true, false}
use mathlib.Core.List.{List, [], ◌∷◌, ◌++◌}
use native.Mathlib.Omega.{arith}
use lib.Dec.{ltb, eqb}
use lib.ListN.{length, take}
use borrow.Author.Tests.{ltb-false, lt-ltb, le-ltb, eqb-false}
use Rattle.std.specs.Prelude.{if◌then◌else◌}
use Rattle.numbers.specs.Numbers.{NumberRead, Value, Refused, group_before, read_groups, read_number, write_groups, write_number, width}
use Rattle.numbers.proofs.GroupLaws.{cap, Small, small_tail, before_value}

longer : (w : ℕ) → w + 1 ≡ suc w
longer w = omega arith

-- one group before the rest, which reads back
group_back : (k n : ℕ) (rest : List ℕ) → n < cap (suc (suc k))
    → (n / 128 < cap (suc k) → read_groups (suc k) (write_groups (suc k) (n / 128) ++ rest) ≡ Value (n / 128) (length (write_groups (suc k) (n / 128))))
    → (t : Bool) → ltb n 128 ≡ t
    → read_groups (suc (suc k)) ((if t then n ∷ [] else ((128 + n % 128) ∷ write_groups (suc k) (n / 128))) ++ rest)
    ≡ Value n (length (if t then n ∷ [] else ((128 + n % 128) ∷ write_groups (suc k) (n / 128))))
unfolding read_groups cap
group_back k n rest h ih true e = rw e
group_back k n rest h ih false e =
    let big : 128 ≤ n = ltb-false n 128 e in
    let first : 128 + n % 128 - 128 ≡ n % 128 = omega arith in
    let whole : n % 128 + 128 * (n / 128) ≡ n = omega arith in
    rw (le-ltb (128 + n % 128) 128 (omega arith))
    (ap₂ group_before first (ih (omega arith))
    ∙ before_value (n % 128) (n / 128) _ (λ z. omega arith)
    ∙ ap₂ Value whole (longer (length (write_groups (suc k) (n / 128)))))

groups_back : (k n : ℕ) (rest : List ℕ) → n < cap (suc k) → read_groups (suc k) (write_groups (suc k) n ++ rest) ≡ Value n (length (write_groups (suc k) n))
unfolding read_groups write_groups cap
groups_back zero n rest h = simp (lt-ltb n 128 (omega arith))
groups_back (suc k) n rest h = group_back k n rest h (groups_back k (n / 128) rest) (ltb n 128) refl

-- a number below 128 * 128 * 128 that is written reads back
pub number_back : (n : ℕ) (rest : List ℕ) → n < 2097152 → read_number (write_number n ++ rest) ≡ Value n (width n)
unfolding read_number write_number width cap
number_back n rest h = groups_back 2 n rest h

groups_same : (k : ℕ) (b : List ℕ) (n w : ℕ) → Small b → read_groups k b ≡ Value n w → take w b ≡ write_groups k n
unfolding read_groups write_groups group_before
groups_same zero b n w s e = let z : ◌≡◌ {A = ℕ} 0 1 = cc in absurd (omega arith)
groups_same (suc k) [] n w s e = let z : ◌≡◌ {A = ℕ} 0 1 = cc in absurd (omega arith)
groups_same (suc k) (x ∷ b) n w s e = go (ltb x 128) refl e (λ m v. groups_same k b m v (small_tail x b s))
  where
    more : 128 ≤ x → (r : NumberRead) → ((m v : ℕ) → r ≡ Value m v → take v b ≡ write_groups k m) → group_before (x - 128) r ≡ Value n w
        → take w (x ∷ b) ≡ (if ltb n 128 then n ∷ [] else ((128 + n % 128) ∷ write_groups k (n / 128)))
    more big (Refused j) ih q = let z : ◌≡◌ {A = ℕ} 0 1 = cc in absurd (omega arith)
    more big (Value m v) ih q = last (eqb m 0) refl q
      where
        last : (t : Bool) → eqb m 0 ≡ t → (if t then Refused 2 else Value (x - 128 + 128 * m) (v + 1)) ≡ Value n w
            → take w (x ∷ b) ≡ (if ltb n 128 then n ∷ [] else ((128 + n % 128) ∷ write_groups k (n / 128)))
        last true p q = let z : ◌≡◌ {A = ℕ} 0 1 = cc in absurd (omega arith)
        last false p q =
            let a : x - 128 + 128 * m ≡ n = cc in
            let c : v + 1 ≡ w = cc in
            let u : w ≡ suc v = omega arith in
            let some : ¬ (m ≡ 0) = eqb-false m 0 p in
            let high : n / 128 ≡ m = omega (arith, s 0) in
            let low : 128 + n % 128 ≡ x = omega (arith, s 0) in
            rw (u, le-ltb n 128 (omega arith), low, high) (ap (λ (l : List ℕ). x ∷ l) (ih m v refl))

    go : (t : Bool) → ltb x 128 ≡ t → (if t then Value x 1 else group_before (x - 128) (read_groups k b)) ≡ Value n w
        → ((m v : ℕ) → read_groups k b ≡ Value m v → take v b ≡ write_groups k m)
        → take w (x ∷ b) ≡ (if ltb n 128 then n ∷ [] else ((128 + n % 128) ∷ write_groups k (n / 128)))
    go true p q ih =
        let a : x ≡ n = cc in
        let c : 1 ≡ w = cc in
        rw (← a, ← c, p)
    go false p q ih = more (ltb-false x 128 p) (read_groups k b) ih q

-- an accepted number writes the same bytes
pub number_same : (b : List ℕ) (n w : ℕ) → Small b → read_number b ≡ Value n w → take w b ≡ write_number n
unfolding read_number write_number
number_same b n w s e = groups_same 3 b n w s e
