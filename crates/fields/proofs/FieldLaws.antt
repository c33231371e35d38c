-- One field: what each outcome of reading its number makes of it. A number ends within the bytes. Assumes nothing.
use Prim.Native.Nat.{ℕ, zero, suc, ◌+◌, ◌*◌, ◌-◌, ◌<◌, ◌≤◌}
use mathlib.Core.Path.{◌≡◌, refl, sym, ◌∙◌, ap}
use mathlib.Core.Bool.{Bool, true, false}
use mathlib.Core.List.{List, [], ◌∷◌}
use native.Mathlib.Omega.{arith}
use lib.Dec.{ltb, eqb}
use lib.ListN.{length, get_or, take, drop, drop_of_length-le, length-drop}
use lib.Seq.{get_or-drop}
use borrow.Author.Tests.{ne_eqb}
use Rattle.std.specs.Prelude.{if◌then◌else◌}
use Rattle.base.specs.Lists.{within}
use Rattle.base.proofs.Lengths.{rest_whole}
use Rattle.numbers.specs.Numbers.{NumberRead, Value, Refused, group_before, read_groups, read_number}
use Rattle.numbers.proofs.GroupLaws.{read_last}
use Rattle.timetable.specs.Formats.{accepted, refused, placed_field, field_at}

-- a number takes bytes that are there
groups_within : (k : ℕ) (b : List ℕ) (n w : ℕ) → read_groups k b ≡ Value n w → w ≤ length b
unfolding read_groups group_before
groups_within zero b n w e = let z : ◌≡◌ {A = ℕ} 0 1 = cc in absurd (omega arith)
groups_within (suc k) [] n w e = let z : ◌≡◌ {A = ℕ} 0 1 = cc in absurd (omega arith)
groups_within (suc k) (x ∷ b) n w e = go (ltb x 128) e (λ m v. groups_within k b m v)
  where
    more : (r : NumberRead) → ((m v : ℕ) → r ≡ Value m v → v ≤ length b) → group_before (x - 128) r ≡ Value n w → w ≤ suc (length b)
    more (Refused j) ih q = let z : ◌≡◌ {A = ℕ} 0 1 = cc in absurd (omega arith)
    more (Value m v) ih q = last (eqb m 0) q
      where
        last : (t : Bool) → (if t then Refused 2 else Value (x - 128 + 128 * m) (v + 1)) ≡ Value n w → w ≤ suc (length b)
        last true p = let z : ◌≡◌ {A = ℕ} 0 1 = cc in absurd (omega arith)
        last false p = let u : v + 1 ≡ w = cc in omega (arith, ih m v refl)

    go : (t : Bool) → (if t then Value x 1 else group_before (x - 128) (read_groups k b)) ≡ Value n w
        → ((m v : ℕ) → read_groups k b ≡ Value m v → v ≤ length b) → w ≤ suc (length b)
    go true q ih = let u : 1 ≡ w = cc in omega arith
    go false q ih = more (read_groups k b) ih q

pub number_within : (b : List ℕ) (n w : ℕ) → read_number b ≡ Value n w → w ≤ length b
unfolding read_number
number_within b n w e = groups_within 3 b n w e

module _ (lo hi : ℕ) (file : List ℕ) (at : ℕ) where
  pub field_past : length file ≤ at → field_at lo hi file at ≡ refused 1 (length file)
  unfolding field_at placed_field read_number read_groups
  field_past h = rw (drop_of_length-le file {i = at} h)

  -- a byte below 128 is the number
  pub field_byte : at < length file → get_or file at 0 < 128
      → field_at lo hi file at ≡ (if within lo hi (get_or file at 0) then accepted (get_or file at 0) (at + 1) else refused 3 at)
  unfolding field_at placed_field read_number
  field_byte h k =
      let first : get_or (drop at file) 0 0 ≡ get_or file at 0 = get_or-drop at file 0 0 ∙ ap (λ (i : ℕ). get_or file i 0) (omega arith) in
      ap (placed_field lo hi (length file) at)
      (read_last 3 (drop at file) (omega arith) (omega (arith, length-drop at file)) (omega arith) ∙ ap (λ (n : ℕ). Value n 1) first)

  -- the number is read from the part behind the place
  module _ (r : NumberRead) (e : r ≡ read_number (take (length file - at) (drop at file))) where
    pub at_hand : (q : NumberRead) → r ≡ q → read_number (drop at file) ≡ q
    at_hand q p = ap read_number (sym (rest_whole at file)) ∙ sym e ∙ p

    pub field_ends : (k : ℕ) → r ≡ Refused k → k ≡ 1 → field_at lo hi file at ≡ refused 1 (length file)
    unfolding field_at placed_field
    field_ends k p h = ap (placed_field lo hi (length file) at) (at_hand (Refused k) p) ∙ rw (h)

    pub field_odd : (k : ℕ) → r ≡ Refused k → ¬ (k ≡ 1) → field_at lo hi file at ≡ refused k at
    unfolding field_at placed_field
    field_odd k p h = ap (placed_field lo hi (length file) at) (at_hand (Refused k) p) ∙ rw (ne_eqb k 1 h)

    module _ (n w : ℕ) (p : r ≡ Value n w) where
      pub field_fits : at ≤ length file → at + w ≤ length file
      field_fits h = omega (arith, number_within (drop at file) n w (at_hand (Value n w) p), length-drop at file)

      pub field-value : field_at lo hi file at ≡ (if within lo hi n then accepted n (at + w) else refused 3 at)
      unfolding field_at placed_field
      field-value = ap (placed_field lo hi (length file) at) (at_hand (Value n w) p)
