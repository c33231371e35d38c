-- Bytes as lists of numbers: numbers of two bytes, parts, and what making and closing room for one record of 16 bytes
-- does to a part. docs/LAYOUT.md has the layout. Assumes nothing.
use Rattle.std.specs.Prelude.{ℕ, ◌+◌, ◌*◌, ◌-◌, ◌/◌, ◌%◌, Bool, true, false, List, ◌++◌, leb, eqb, length, get_or, take, drop, replicate}
use Rattle.std.specs.Prelude.{if◌then◌else◌}
use Rattle.base.specs.Lists.{every}

abbrev pub zeros : ℕ → List ℕ
zeros n = replicate {A = ℕ} n 0

-- a number of two bytes, low byte first
abbrev pub low : ℕ → ℕ
low n = n % 256

abbrev pub high : ℕ → ℕ
high n = n / 256

abbrev pub word : List ℕ → ℕ → ℕ
word b i = get_or b i 0 + 256 * get_or b (i + 1) 0

-- a status: pending is 0, occurred 1
abbrev pub flag : Bool → ℕ
flag false = 0
flag true = 1

abbrev pub occurred : ℕ → Bool
occurred b = eqb b 1

-- the record at an index of a part
abbrev pub chunk : ℕ → List ℕ → List ℕ
chunk i b = take 16 (drop (16 * i) b)

-- the bytes with others written over them from a place on
unfoldable pub splice : ℕ → List ℕ → List ℕ → List ℕ
splice at new b = take at b ++ (new ++ drop (at + length new) b)

-- the first bytes with all the others written over them, where they are as many
unfoldable pub overwritten : List ℕ → List ℕ → List ℕ
overwritten b new = if eqb (length b) (length new) then new else b

-- room for one record at the front of a part: all else one record on, the part's last 16 bytes lost; the front is left
-- as it was. A part that is shorter than one record is left as it was
unfoldable pub roomed : List ℕ → List ℕ
roomed b = if leb 16 (length b) then take 16 b ++ take (length b - 16) b else b

-- and a record written there
unfoldable pub fronted : List ℕ → List ℕ → List ℕ
fronted r b = if leb 16 (length b) then r ++ take (length b - 16) b else b

-- how many whole records that moves
abbrev pub records_behind : List ℕ → ℕ
records_behind b = (length b - 16) / 16

-- the front record taken out of a part: all else one record up, zeros behind; a part that is shorter than one record is
-- left as it was
unfoldable pub closed : List ℕ → List ℕ
closed b = if leb 16 (length b) then drop 16 b ++ zeros 16 else b

unfoldable pub blank : List ℕ → Bool
blank b = every (eqb 0) b

-- The key ring of this module: `unfolding opened` opens every definition above.
unfoldable pub opened : Unit {0}
unfolding splice overwritten roomed fronted closed blank
opened = tt
