-- The numbers of files. Document 01, "Files": "A number is groups of seven bits, lowest first, top bit set on all but
-- the last: its first group plus 128 times the number in the rest." Assumes nothing.
use Rattle.std.specs.Prelude.{ℕ, zero, suc, ◌+◌, ◌*◌, ◌-◌, ◌/◌, ◌%◌, List, [], ◌∷◌, ◌++◌, ltb, leb, eqb, length, drop}
use Rattle.std.specs.Prelude.{if◌then◌else◌}

-- what reading a number gives: the number and how many bytes it takes, or document 01's refusal number
pub data NumberRead : Type 0 where
  Value : ℕ → ℕ → NumberRead
  Refused : ℕ → NumberRead

-- the group g stands before the rest; "2 a number isn't shortest": a rest of 0 makes it longer than need be
unfoldable pub group_before : ℕ → NumberRead → NumberRead
group_before g (Value n w) = if eqb n 0 then Refused 2 else Value (g + 128 * n) (w + 1)
group_before g (Refused k) = Refused k

-- the number at the head of some bytes, where k groups more are permitted; "1 it ends early", "2 .. its third byte has
-- the top bit set"
unfoldable pub read_groups : ℕ → List ℕ → NumberRead
read_groups zero bytes = Refused 2
read_groups (suc k) [] = Refused 1
read_groups (suc k) (b ∷ bytes) = if ltb b 128 then Value b 1 else group_before (b - 128) (read_groups k bytes)

unfoldable pub read_number : List ℕ → NumberRead
read_number bytes = read_groups 3 bytes

unfoldable pub write_groups : ℕ → ℕ → List ℕ
write_groups zero n = []
write_groups (suc k) n = if ltb n 128 then n ∷ [] else ((128 + n % 128) ∷ write_groups k (n / 128))

-- numbers below 128 * 128 * 128 have at most three groups
unfoldable pub write_number : ℕ → List ℕ
write_number n = write_groups 3 n

-- how many bytes a number takes
unfoldable pub width : ℕ → ℕ
width n = length (write_number n)

-- bytes with the number written at their head, as they were where it does not fit
unfoldable pub with_number : ℕ → List ℕ → List ℕ
with_number n bytes = if leb (width n) (length bytes) then write_number n ++ drop (width n) bytes else bytes

-- The key ring of this module: `unfolding opened` opens every definition above.
unfoldable pub opened : Unit {0}
unfolding group_before read_groups read_number write_groups write_number width with_number
opened = tt
