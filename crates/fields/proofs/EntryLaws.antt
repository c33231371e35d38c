-- Accepted rows and entries taken apart: each number is in its range, the numbers are as many as the ranges, and what
-- the answer of a row says of its outcome; entries with their places, and the end of a file. Assumes nothing.
use Prim.Native.Nat.{ℕ, zero, suc, ◌+◌, ◌-◌, ◌%◌, ◌<◌, ◌≤◌, max}
use mathlib.Core.Path.{◌≡◌, refl, sym, ◌∙◌, ap}
use mathlib.Core.Bool.{Bool, true, false, ◌&&◌}
use mathlib.Core.List.{List, [], ◌∷◌, ◌++◌, map}
use native.Mathlib.Omega.{arith}
use lib.Dec.{leb}
use lib.ListN.{length, get_or, drop, replicate}
use borrow.Author.Tests.{leb-true, le-leb, lt-leb}
use Rattle.std.specs.Prelude.{if◌then◌else◌}
use Rattle.numbers.specs.Numbers.{NumberRead, Value, Refused, read_number}
use Rattle.timetable.specs.Formats.{Format, done, field, accepted, refused, ◌and_then◌, placed_field, field_at, behind, read, ended, Range, ◌to◌, least, floor_after}
use Rattle.timetable.specs.Formats.{compared, row, entries, placed}
use Rattle.timetable.proofs.OutcomeLaws.{clash, behind_taken}
use Rattle.fields.specs.between.Answers.{padded}
use Rattle.fields.proofs.ReadLaws.{read_then}

pub field_bounded : (lo hi : ℕ) (file : List ℕ) (at n next : ℕ) → field_at lo hi file at ≡ accepted n next → (lo ≤ n) × (n ≤ hi)
unfolding field_at placed_field
field_bounded lo hi file at n next e = go (read_number (drop at file)) e
  where
    go : (r : NumberRead) → placed_field lo hi (length file) at r ≡ accepted n next → (lo ≤ n) × (n ≤ hi)
    go (Refused k) q = clash n next _ _ q
    go (Value m w) q = both (leb lo m) refl (leb m hi) refl q
      where
        both : (a : Bool) → leb lo m ≡ a → (b : Bool) → leb m hi ≡ b → (if a && b then accepted m (at + w) else refused 3 at) ≡ accepted n next → (lo ≤ n) × (n ≤ hi)
        both true p true u v = let s : m ≡ n = cc in (omega (arith, leb-true lo m p), omega (arith, leb-true m hi u))
        both true p false u v = clash n next _ _ v
        both false p b u v = clash n next _ _ v

pub then_taken : {A B : Type 0} (f : Format A) (g : A → Format B) (file : List ℕ) (at : ℕ) (b : B) (next : ℕ) → read (f and_then g) file at ≡ accepted b next
    → (a : A) × (p : ℕ) × (read f file at ≡ accepted a p) × (read (g a) file p ≡ accepted b next)
then_taken f g file at b next e = behind_taken (read f file at) (λ a p. read (g a) file p) b next (sym (read_then f g file at) ∙ e)

-- rows

pub row_taken : (r : Range) (rs : List Range) (floor : List ℕ) (file : List ℕ) (at : ℕ) (ns : List ℕ) (next : ℕ) → read (row (r ∷ rs) floor) file at ≡ accepted ns next
    → (n : ℕ) × (p : ℕ) × (ms : List ℕ) × (field_at (least r.lo floor) r.hi file at ≡ accepted n p)
    × (read (row rs (floor_after n floor)) file p ≡ accepted ms next) × (ns ≡ n ∷ ms)
unfolding row compared read
row_taken r rs floor file at ns next e =
    let (n, p, u, v) = behind_taken (field_at (least r.lo floor) r.hi file at) (λ n p. read (row rs (floor_after n floor) and_then (λ ms. done (n ∷ ms))) file p) ns next e in
    let (ms, q, w, x) = then_taken (row rs (floor_after n floor)) (λ ms. done (n ∷ ms)) file p ns next v in
    let y : q ≡ next = cc in
    (n, p, ms, u, (w ∙ rw y), (cc))

-- each number is at most its range's last
pub row_bounded : (rs : List Range) (floor : List ℕ) (file : List ℕ) (at : ℕ) (ns : List ℕ) (next : ℕ) → read (row rs floor) file at ≡ accepted ns next
    → (i : ℕ) → get_or ns i 0 ≤ get_or (map (λ r. r.hi) rs) i 0
unfolding row read
row_bounded [] floor file at ns next e i = let z : ns ≡ [] = cc in rw z (omega arith)
row_bounded (r ∷ rs) floor file at ns next e i =
    let (n, p, ms, u, v, w) = row_taken r rs floor file at ns next e in
    rw w (go i n (field_bounded _ _ file at n p u).1 ms (row_bounded rs (floor_after n floor) file p ms next v))
  where
    go : (i n : ℕ) → n ≤ r.hi → (ms : List ℕ) → ((j : ℕ) → get_or ms j 0 ≤ get_or (map (λ r. r.hi) rs) j 0)
        → get_or (n ∷ ms) i 0 ≤ get_or (r.hi ∷ map (λ r. r.hi) rs) i 0
    go zero n h ms ih = h
    go (suc j) n h ms ih = ih j

-- a floor of one number raises the first range
pub row_above : (lo hi : ℕ) (rs : List Range) (b : ℕ) → lo ≤ b + 1 → row (lo to hi ∷ rs) (b ∷ []) ≡ row ((b + 1) to hi ∷ rs) []
unfolding row compared least floor_after
row_above lo hi rs b h = let e : max lo (b + 1) ≡ b + 1 = omega arith in ap (λ (k : ℕ). field k hi (λ n. row rs [] and_then (λ ns. done (n ∷ ns)))) e

pub padded_at : (k : ℕ) (ns : List ℕ) (i : ℕ) → get_or (padded k 0 ns) i 0 ≡ get_or ns i 0
unfolding padded
padded_at k ns i = go (k - length ns) ns i
  where
    zeros : (m i : ℕ) → get_or (replicate {A = ℕ} m 0) i 0 ≡ 0
    zeros zero i = refl
    zeros (suc m) zero = refl
    zeros (suc m) (suc i) = zeros m i

    go : (m : ℕ) (ns : List ℕ) (i : ℕ) → get_or (ns ++ replicate m 0) i 0 ≡ get_or ns i 0
    go m [] i = zeros m i
    go m (n ∷ ns) zero = refl
    go m (n ∷ ns) (suc i) = go m ns i

-- what is read and made into something
module _ {A B : Type 0} (make : B → A) (f : Format B) (file : List ℕ) (at : ℕ) where
  pub made : (b : B) (next : ℕ) → read f file at ≡ accepted b next → read (f and_then (λ b. done (make b))) file at ≡ accepted (make b) next
  unfolding read behind
  made b next e = read_then f (λ b. done (make b)) file at ∙ rw e

  pub unmade : (k p : ℕ) → read f file at ≡ refused k p → read (f and_then (λ b. done (make b))) file at ≡ refused k p
  unfolding read behind
  unmade k p e = read_then f (λ b. done (make b)) file at ∙ rw e

-- one format and then another, by the outcome of the first
module _ {A B : Type 0} (f : Format A) (g : A → Format B) (file : List ℕ) (at : ℕ) where
  pub then_on : (a : A) (next : ℕ) → read f file at ≡ accepted a next → read (f and_then g) file at ≡ read (g a) file next
  unfolding behind
  then_on a next e = read_then f g file at ∙ rw e

  pub then_stop : (k p : ℕ) → read f file at ≡ refused k p → read (f and_then g) file at ≡ refused k p
  unfolding behind
  then_stop k p e = read_then f g file at ∙ rw e

-- a field and then what it calls for
module _ {A : Type 0} (lo hi : ℕ) (f : ℕ → Format A) (file : List ℕ) (at : ℕ) where
  pub field_on : (n next : ℕ) → field_at lo hi file at ≡ accepted n next → read (field lo hi f) file at ≡ read (f n) file next
  unfolding read behind
  field_on n next e = rw e

  pub field_stop : (k p : ℕ) → field_at lo hi file at ≡ refused k p → read (field lo hi f) file at ≡ refused k p
  unfolding read behind
  field_stop k p e = rw e

-- an entry with its place
module _ {A : Type 0} (f : Format A) (file : List ℕ) (at : ℕ) where
  pub placed_read : read (placed f) file at ≡ behind (read f file at) (λ a next. accepted (record { place = at; entry = a }) next)
  unfolding placed read
  placed_read = read_then f (λ a. done (record { place = at; entry = a })) file at

  pub placed_some : (a : A) (next : ℕ) → read f file at ≡ accepted a next → read (placed f) file at ≡ accepted (record { place = at; entry = a }) next
  unfolding behind
  placed_some a next e = placed_read ∙ rw e

  pub placed_none : (k p : ℕ) → read f file at ≡ refused k p → read (placed f) file at ≡ refused k p
  unfolding behind
  placed_none k p e = placed_read ∙ rw e

-- as many entries as the count says
pub entries_many : {A : Type 0} (entry : List ℕ → Format A) (floor_of : A → List ℕ) (k : ℕ) (floor file : List ℕ) (at : ℕ) (xs : List A) (next : ℕ)
    → read (entries entry floor_of k floor) file at ≡ accepted xs next → length xs ≡ k
unfolding entries read
entries_many entry floor_of zero floor file at xs next e = let z : xs ≡ [] = cc in rw z
entries_many entry floor_of (suc k) floor file at xs next e =
    let (a, p, u, v) = then_taken (entry floor) (λ a. entries entry floor_of k (floor_of a) and_then (λ rest. done (a ∷ rest))) file at xs next e in
    let (rest, q, w, x) = then_taken (entries entry floor_of k (floor_of a)) (λ rest. done (a ∷ rest)) file p xs next v in
    let z : xs ≡ a ∷ rest = cc in
    rw z (ap suc (entries_many entry floor_of k (floor_of a) file p rest q w))

-- the end of a file

module _ {A : Type 0} (file : List ℕ) (a : A) (next : ℕ) where
  pub ends_there : length file ≤ next → ended file (accepted a next) ≡ accepted a next
  unfolding ended
  ends_there h = rw (le-leb (length file) next h)

  pub goes_on : next < length file → ended file (accepted a next) ≡ refused 1 next
  unfolding ended
  goes_on h = rw (lt-leb (length file) next h)

-- a number that fits a byte
pub small : (r n : ℕ) → r ≡ n % 256 → n < 256 → r ≡ n
small r n e h = e ∙ omega arith
