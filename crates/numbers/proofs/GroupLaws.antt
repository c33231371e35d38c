-- A number of k groups is below 128 to the k and takes at most k bytes; reading takes one group and then the rest.
-- Assumes nothing.
use Prim.Native.Nat.{ℕ, zero, suc, ◌+◌, ◌*◌, ◌-◌, ◌/◌, ◌%◌, ◌<◌, ◌≤◌}
use mathlib.Core.Path.{◌≡◌, refl, sym, ◌∙◌, ap, ap₂}
use mathlib.Core.Bool.{Bool, true, false}
use mathlib.Core.List.{List, [], ◌∷◌, ◌++◌}
use mathlib.Core.Logic.{by_cases}
use native.Mathlib.Omega.{arith}
use native.Mathlib.Decide.{dec_lt}
use lib.Dec.{ltb, eqb}
use lib.ListN.{length, get_or, set, drop}
use borrow.Author.Tests.{ltb-true, lt-ltb, le-ltb, le-leb, lt-leb, eq-eqb, ne_eqb}
use Rattle.std.specs.Prelude.{if◌then◌else◌}
use Rattle.numbers.specs.Numbers.{NumberRead, Value, Refused, group_before, read_groups, write_groups, write_number, width, with_number}

-- 128 to the k
unfoldable pub cap : ℕ → ℕ
cap zero = 1
cap (suc k) = 128 * cap k

-- every byte is one
abbrev pub Small : List ℕ → Type 0
Small b = (i : ℕ) → get_or b i 0 < 256

pub small_tail : (x : ℕ) (b : List ℕ) → Small (x ∷ b) → Small b
small_tail x b h i = h (suc i)

pub read_bounded : (k : ℕ) (b : List ℕ) (n w : ℕ) → Small b → read_groups k b ≡ Value n w → (n < cap k) × (w ≤ k)
unfolding read_groups group_before cap
read_bounded zero b n w h e = let z : ◌≡◌ {A = ℕ} 0 1 = cc in absurd (omega arith)
read_bounded (suc k) [] n w h e = let z : ◌≡◌ {A = ℕ} 0 1 = cc in absurd (omega arith)
read_bounded (suc k) (x ∷ b) n w h e = go (ltb x 128) refl e (λ m v. read_bounded k b m v (small_tail x b h))
  where
    one : (j : ℕ) → 1 ≤ cap j
    one zero = omega arith
    one (suc j) = omega (arith, one j)

    more : (r : NumberRead) → ((m v : ℕ) → r ≡ Value m v → (m < cap k) × (v ≤ k)) → group_before (x - 128) r ≡ Value n w → (n < 128 * cap k) × (w ≤ suc k)
    more (Refused j) ih q = let z : ◌≡◌ {A = ℕ} 0 1 = cc in absurd (omega arith)
    more (Value m v) ih q = last (eqb m 0) q
      where
        last : (t : Bool) → (if t then Refused 2 else Value (x - 128 + 128 * m) (v + 1)) ≡ Value n w → (n < 128 * cap k) × (w ≤ suc k)
        last true p = let z : ◌≡◌ {A = ℕ} 0 1 = cc in absurd (omega arith)
        last false p =
            let s : x - 128 + 128 * m ≡ n = cc in
            let u : v + 1 ≡ w = cc in
            let (a, c) = ih m v refl in
            (omega (arith, h 0), omega arith)

    go : (t : Bool) → ltb x 128 ≡ t → (if t then Value x 1 else group_before (x - 128) (read_groups k b)) ≡ Value n w
        → ((m v : ℕ) → read_groups k b ≡ Value m v → (m < cap k) × (v ≤ k)) → (n < 128 * cap k) × (w ≤ suc k)
    go true p q ih =
        let s : x ≡ n = cc in
        let u : 1 ≡ w = cc in
        (omega (arith, ltb-true x 128 p, one k), omega arith)
    go false p q ih = more (read_groups k b) ih q

-- one group, and then the rest

module _ (k : ℕ) (b : List ℕ) where
  pub read_none : k ≡ 0 → read_groups k b ≡ Refused 2
  unfolding read_groups
  read_none e = rw e

  pub read_ends : ¬ (k ≡ 0) → length b ≡ 0 → read_groups k b ≡ Refused 1
  unfolding read_groups
  read_ends h e = go k b h e
    where
      go : (k : ℕ) (b : List ℕ) → ¬ (k ≡ 0) → length b ≡ 0 → read_groups k b ≡ Refused 1
      go zero b h e = absurd (h refl)
      go (suc k) [] h e = refl
      go (suc k) (x ∷ b) h e = absurd (omega arith)

  step : ¬ (k ≡ 0) → ¬ (length b ≡ 0) → read_groups k b ≡ (if ltb (get_or b 0 0) 128 then Value (get_or b 0 0) 1 else group_before (get_or b 0 0 - 128) (read_groups (k - 1) (drop 1 b)))
  unfolding read_groups
  step h e = go k b h e
    where
      go : (k : ℕ) (b : List ℕ) → ¬ (k ≡ 0) → ¬ (length b ≡ 0)
          → read_groups k b ≡ (if ltb (get_or b 0 0) 128 then Value (get_or b 0 0) 1 else group_before (get_or b 0 0 - 128) (read_groups (k - 1) (drop 1 b)))
      go zero b h e = absurd (h refl)
      go (suc k) [] h e = absurd (e refl)
      go (suc k) (x ∷ b) h e = let q : suc k - 1 ≡ k = omega arith in rw q

  pub read_last : ¬ (k ≡ 0) → ¬ (length b ≡ 0) → get_or b 0 0 < 128 → read_groups k b ≡ Value (get_or b 0 0) 1
  read_last h e p = step h e ∙ rw (lt-ltb (get_or b 0 0) 128 p)

  pub read_more : ¬ (k ≡ 0) → ¬ (length b ≡ 0) → 128 ≤ get_or b 0 0 → read_groups k b ≡ group_before (get_or b 0 0 - 128) (read_groups (k - 1) (drop 1 b))
  read_more h e p = step h e ∙ rw (le-ltb (get_or b 0 0) 128 p)

pub before_zero : (g n w : ℕ) → n ≡ 0 → group_before g (Value n w) ≡ Refused 2
unfolding group_before
before_zero g n w e = rw (eq-eqb n 0 e)

pub before_value : (g n w : ℕ) → ¬ (n ≡ 0) → group_before g (Value n w) ≡ Value (g + 128 * n) (w + 1)
unfolding group_before
before_value g n w e = rw (ne_eqb n 0 e)

pub before_refused : (g k : ℕ) → group_before g (Refused k) ≡ Refused k
unfolding group_before
before_refused g k = refl

-- at most two groups
pub cap_small : (k : ℕ) → k ≤ 2 → cap k ≤ 16384
unfolding cap
cap_small zero h = omega arith
cap_small (suc zero) h = omega arith
cap_small (suc (suc zero)) h = omega arith
cap_small (suc (suc (suc k))) h = absurd (omega arith)

pub small_drop : (b : List ℕ) → Small b → Small (drop 1 b)
small_drop [] h i = h i
small_drop (x ∷ b) h i = h (suc i)

-- writing: one, two or three groups

module _ (n : ℕ) where
  pub write_one : n < 128 → write_number n ≡ n % 128 ∷ []
  unfolding write_number write_groups
  write_one h = let e : n ≡ n % 128 = omega arith in rw (lt-ltb n 128 h) (ap (λ (x : ℕ). x ∷ []) e)

  pub write_two : 128 ≤ n → n / 128 < 128 → write_number n ≡ (128 + n % 128) ∷ n / 128 % 128 ∷ []
  unfolding write_number write_groups
  write_two h k =
      let e : n / 128 ≡ n / 128 % 128 = omega arith in
      rw (le-ltb n 128 h, lt-ltb (n / 128) 128 k) (ap (λ (x : ℕ). (128 + n % 128) ∷ x ∷ []) e)

  pub write_three : 128 ≤ n → 128 ≤ n / 128 → n < 65536 → write_number n ≡ (128 + n % 128) ∷ (128 + n / 128 % 128) ∷ n / 128 / 128 % 128 ∷ []
  unfolding write_number write_groups
  write_three h k b =
      let s : n / 128 / 128 < 128 = omega arith in
      let e : n / 128 / 128 ≡ n / 128 / 128 % 128 = omega arith in
      rw (le-ltb n 128 h, le-ltb (n / 128) 128 k, lt-ltb (n / 128 / 128) 128 s) (ap (λ (x : ℕ). (128 + n % 128) ∷ (128 + n / 128 % 128) ∷ x ∷ []) e)

-- bytes stored one after the other are written over the head

pub store_one : (l : List ℕ) (a : ℕ) → 1 ≤ length l → set l 0 a ≡ a ∷ drop 1 l
store_one [] a h = absurd (omega arith)
store_one (x ∷ l) a h = refl

pub store_two : (l : List ℕ) (a b : ℕ) → 2 ≤ length l → set (set l 0 a) 1 b ≡ a ∷ b ∷ drop 2 l
store_two [] a b h = absurd (omega arith)
store_two (x ∷ []) a b h = absurd (omega arith)
store_two (x ∷ y ∷ l) a b h = refl

pub store_three : (l : List ℕ) (a b c : ℕ) → 3 ≤ length l → set (set (set l 0 a) 1 b) 2 c ≡ a ∷ b ∷ c ∷ drop 3 l
store_three [] a b c h = absurd (omega arith)
store_three (x ∷ []) a b c h = absurd (omega arith)
store_three (x ∷ y ∷ []) a b c h = absurd (omega arith)
store_three (x ∷ y ∷ z ∷ l) a b c h = refl

-- what is written over some bytes
pub written : (n : ℕ) (l : List ℕ) → width n ≤ length l → with_number n l ≡ write_number n ++ drop (width n) l
unfolding with_number
written n l h = rw (le-leb (width n) (length l) h)

pub unwritten : (n : ℕ) (l : List ℕ) → length l < width n → with_number n l ≡ l
unfolding with_number
unwritten n l h = rw (lt-leb (width n) (length l) h)

module _ (n : ℕ) where
  pub width_one : n < 128 → width n ≡ 1
  unfolding width
  width_one h = ap length (write_one n h)

  pub width_two : 128 ≤ n → n / 128 < 128 → width n ≡ 2
  unfolding width
  width_two h k = ap length (write_two n h k)

  pub width_three : 128 ≤ n → 128 ≤ n / 128 → n < 65536 → width n ≡ 3
  unfolding width
  width_three h k b = ap length (write_three n h k b)

  pub width_more : 128 ≤ n → n < 65536 → 2 ≤ width n
  width_more h b = by_cases (dec_lt (n / 128) 128) (λ q. omega (arith, width_two h q)) (λ q. omega (arith, width_three h (omega arith) b))

  -- the stores of `write` are the number over the head
  module _ (l : List ℕ) where
    pub put_one : n < 128 → 1 ≤ length l → set l 0 (n % 128) ≡ with_number n l
    put_one h k =
        store_one l (n % 128) k
        ∙ sym (written n l (omega (arith, width_one h)) ∙ ap₂ (λ (a : List ℕ) (w : ℕ). a ++ drop w l) (write_one n h) (width_one h))

    pub put_two : 128 ≤ n → n / 128 < 128 → 2 ≤ length l → set (set l 0 (128 + n % 128)) 1 (n / 128 % 128) ≡ with_number n l
    put_two h q k =
        store_two l (128 + n % 128) (n / 128 % 128) k
        ∙ sym (written n l (omega (arith, width_two h q)) ∙ ap₂ (λ (a : List ℕ) (w : ℕ). a ++ drop w l) (write_two n h q) (width_two h q))

    pub put_three : 128 ≤ n → 128 ≤ n / 128 → n < 65536 → 3 ≤ length l
        → set (set (set l 0 (128 + n % 128)) 1 (128 + n / 128 % 128)) 2 (n / 128 / 128 % 128) ≡ with_number n l
    put_three h q b k =
        store_three l (128 + n % 128) (128 + n / 128 % 128) (n / 128 / 128 % 128) k
        ∙ sym (written n l (omega (arith, width_three h q b)) ∙ ap₂ (λ (a : List ℕ) (w : ℕ). a ++ drop w l) (write_three n h q b) (width_three h q b))
