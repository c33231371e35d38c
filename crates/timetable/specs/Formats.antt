-- Formats of files: which numbers stand in a file and which range each has, given those before it. Document 01, "Files"
-- and "Who brings on which number". Every order is a range: its least value depends on the entry before. So one reading
-- finds "the first faulty number by place". Assumes nothing.
use Rattle.std.specs.Prelude.{ℕ, zero, suc, ◌+◌, max, leb, eqb, length, drop}
use mathlib.Core.List.{List, [], ◌∷◌, flat_map}
use Rattle.std.specs.Prelude.{if◌then◌else◌}
use Rattle.base.specs.Lists.{within}
use Rattle.numbers.specs.Numbers.{NumberRead, Value, Refused, read_number, write_number}

-- what is read next: nothing more, and the value is there; a number of lo..hi, and then what it calls for; or what the
-- place reached calls for
pub data Format (A : Type 0) : Type 0 where
  done : A → Format A
  field : ℕ → ℕ → (ℕ → Format A) → Format A
  here : (ℕ → Format A) → Format A

-- what reading gives: the value and the place behind it, or document 01's number and its place
pub data Outcome (A : Type 0) : Type 0 where
  accepted : A → ℕ → Outcome A
  refused : ℕ → ℕ → Outcome A

-- document 01's number and place: "An answer is a refusal number or 0"; beside 0 the place behind the value
unfoldable pub number : {A : Type 0} → Outcome A → ℕ
number (accepted a next) = 0
number (refused k p) = k

unfoldable pub place_of : {A : Type 0} → Outcome A → ℕ
place_of (accepted a next) = next
place_of (refused k p) = p

-- the value, or what stands for it beside a refusal
unfoldable pub value_or : {A : Type 0} → A → Outcome A → A
value_or d (accepted a next) = a
value_or d (refused k p) = d

infixl 20 ◌and_then◌
-- the one format, and then that which its value calls for
unfoldable pub ◌and_then◌ : {A B : Type 0} → Format A → (A → Format B) → Format B
done a and_then g = g a
field lo hi f and_then g = field lo hi (λ n. f n and_then g)
here f and_then g = here (λ p. f p and_then g)

-- reading

-- "A file refusal carries the faulty number's first byte, counted from 0 (1: where it ends or goes on ..)"
unfoldable pub placed_field : ℕ → ℕ → ℕ → ℕ → NumberRead → Outcome ℕ
placed_field lo hi end at (Value n w) = if within lo hi n then accepted n (at + w) else refused 3 at
placed_field lo hi end at (Refused k) = refused k (if eqb k 1 then end else at)

-- the number of lo..hi at a place
unfoldable pub field_at : ℕ → ℕ → List ℕ → ℕ → Outcome ℕ
field_at lo hi file at = placed_field lo hi (length file) at (read_number (drop at file))

-- what is read behind an accepted value
unfoldable pub behind : {A B : Type 0} → Outcome A → (A → ℕ → Outcome B) → Outcome B
behind (accepted a next) f = f a next
behind (refused k p) f = refused k p

-- reading from a place on
unfoldable pub read : {A : Type 0} → Format A → List ℕ → ℕ → Outcome A
read (done a) file at = accepted a at
read (field lo hi f) file at = behind (field_at lo hi file at) (λ n next. read (f n) file next)
read (here f) file at = read (f at) file at

-- "1 it .. goes on"
unfoldable pub ended : {A : Type 0} → List ℕ → Outcome A → Outcome A
ended file (accepted a next) = if leb (length file) next then accepted a next else refused 1 next
ended file (refused k p) = refused k p

unfoldable pub read_file : {A : Type 0} → Format A → List ℕ → Outcome A
read_file f file = ended file (read f file 0)

-- writing: the bytes of numbers in a row
unfoldable pub bytes_of : List ℕ → List ℕ
bytes_of ns = flat_map write_number ns

-- rows of numbers, and order

pub record Range : Type 0 where
  pub lo : ℕ
  pub hi : ℕ

infix 80 ◌to◌
abbrev pub ◌to◌ : ℕ → ℕ → Range
lo to hi = record { lo = lo; hi = hi }

-- `floor` is what is left of the entry before's numbers to compare with, [] where an earlier number is above its
-- namesake. "In an entry out of order the faulty number is the first that falls below the entry before; in an equal
-- one, the last number compared."
unfoldable pub least : ℕ → List ℕ → ℕ
least lo [] = lo
least lo (b ∷ []) = max lo (b + 1)
least lo (b ∷ c ∷ bs) = max lo b

unfoldable pub floor_after : ℕ → List ℕ → List ℕ
floor_after n [] = []
floor_after n (b ∷ []) = []
floor_after n (b ∷ c ∷ bs) = if eqb n b then c ∷ bs else []

-- a number compared with the floor, and then what it and what is left of the floor call for
unfoldable pub compared : {A : Type 0} → ℕ → ℕ → List ℕ → (ℕ → List ℕ → Format A) → Format A
compared lo hi floor f = field (least lo floor) hi (λ n. f n (floor_after n floor))

-- one number for each range
unfoldable pub row : List Range → List ℕ → Format (List ℕ)
row [] floor = done []
row (r ∷ rs) floor = compared r.lo r.hi floor (λ n left. row rs left and_then (λ ns. done (n ∷ ns)))

-- k entries, each read behind the floor that the one before it sets
module _ {A : Type 0} (entry : List ℕ → Format A) (floor_of : A → List ℕ) where
  unfoldable pub entries : ℕ → List ℕ → Format (List A)
  entries zero floor = done []
  entries (suc k) floor = entry floor and_then (λ a. entries k (floor_of a) and_then (λ rest. done (a ∷ rest)))

-- an entry with the place of its first byte
pub record Placed (A : Type 0) : Type 0 where
  pub place : ℕ
  pub entry : A

unfoldable pub placed : {A : Type 0} → Format A → Format (Placed A)
placed f = here (λ p. f and_then (λ a. done (record { place = p; entry = a })))

-- The key ring of this module: `unfolding opened` opens every definition above.
unfoldable pub opened : Unit {0}
unfolding number place_of value_or ◌and_then◌ placed_field field_at behind read ended read_file bytes_of least floor_after compared row entries placed
opened = tt
