-- Reading a format from bytes is walking it with the numbers that the bytes write: what is read was written by numbers
-- that walk the format to the same value, and such numbers, written, are read to it. By induction on the format; each
-- number by the laws of numbers. Assumes nothing.
use Prim.Native.Nat.{ℕ, zero, suc, ◌+◌, ◌/◌, ◌%◌, ◌≤◌, ◌<◌}
use mathlib.Core.Path.{◌≡◌, refl, sym, ◌∙◌, ap, ap₂}
use mathlib.Core.Bool.{Bool, true, false, ◌&&◌}
use mathlib.Core.List.{List, [], ◌∷◌, ◌++◌, flat_map, append-nil, append_assoc}
use native.Mathlib.Omega.{arith}
use lib.Dec.{ltb, leb}
use lib.ListN.{length, take, drop, length-append, take-append-drop, drop_of_length-le}
use lib.Seq.{drop-drop, get_or-drop, drop-append_seam}
use borrow.Author.Tests.{leb-true, le-leb, ltb-true}
use Rattle.std.specs.Prelude.{if◌then◌else◌}
use Rattle.numbers.specs.Numbers.{NumberRead, Value, Refused, read_number, write_groups, write_number, width}
use Rattle.numbers.proofs.GroupLaws.{cap, Small, small_tail, read_bounded}
use Rattle.numbers.proofs.RoundTrip.{number_back, number_same}
use Rattle.timetable.specs.Formats.{Format, done, field, here, Outcome, accepted, refused, ◌and_then◌, placed_field, field_at, behind, read, ended, read_file, bytes_of}
use Rattle.timetable.proofs.OutcomeLaws.{clash}
use Rattle.roundtrips.specs.RoundTrips.{WrittenIsBytes}
use Rattle.roundtrips.proofs.Walks.{InRange, walks}

-- bytes of numbers in a row

small_append : (xs ys : List ℕ) → Small xs → Small ys → Small (xs ++ ys)
small_append [] ys s t i = t i
small_append (x ∷ xs) ys s t zero = s 0
small_append (x ∷ xs) ys s t (suc i) = small_append xs ys (small_tail x xs s) t i

small_groups : (k n : ℕ) → Small (write_groups k n)
unfolding write_groups
small_groups zero n i = omega arith
small_groups (suc k) n i = go (ltb n 128) refl (small_groups k (n / 128)) i
  where
    go : (b : Bool) → ltb n 128 ≡ b → Small (write_groups k (n / 128)) → Small (if b then n ∷ [] else ((128 + n % 128) ∷ write_groups k (n / 128)))
    go true e ih zero = omega (arith, ltb-true n 128 e)
    go true e ih (suc i) = omega arith
    go false e ih zero = omega arith
    go false e ih (suc i) = ih i

small_bytes : (ns : List ℕ) → Small (bytes_of ns)
unfolding bytes_of flat_map write_number
small_bytes [] i = omega arith
small_bytes (n ∷ ns) i = small_append (write_groups 3 n) (bytes_of ns) (small_groups 3 n) (small_bytes ns) i

pub written_is_bytes : WrittenIsBytes
written_is_bytes ns i = omega (arith, small_bytes ns i)

-- how many bytes they take
abbrev pub span : List ℕ → ℕ
span ns = length (bytes_of ns)

pub span_cons : (n : ℕ) (ns : List ℕ) → span (n ∷ ns) ≡ width n + span ns
unfolding bytes_of flat_map width
span_cons n ns = length-append (write_number n) (bytes_of ns)

-- one number

-- a number that is read stands there as it is written
pub number_read : (b : List ℕ) (n w : ℕ) → Small b → read_number b ≡ Value n w → (b ≡ write_number n ++ drop w b) × (w ≡ width n) × (n < 2097152)
unfolding read_number cap
number_read b n w s e =
    let u : take w b ≡ write_number n = number_same b n w s e in
    let v : b ≡ write_number n ++ drop w b = sym (take-append-drop w b) ∙ ap (λ (l : List ℕ). l ++ drop w b) u in
    let h : n < 2097152 = omega (arith, (read_bounded 3 b n w s e).0) in
    let x : Value n w ≡ Value n (width n) = sym e ∙ ap read_number v ∙ number_back n (drop w b) h in
    let y : w ≡ width n = cc in
    (v, y, h)

pub small_drop : (k : ℕ) (b : List ℕ) → Small b → Small (drop k b)
small_drop k b s i = rw (get_or-drop k b i 0) (s (k + i))

module _ (lo hi : ℕ) (file : List ℕ) (at n : ℕ) where
  pub field_read : (next : ℕ) → Small file → field_at lo hi file at ≡ accepted n next
      → (next ≡ at + width n) × (drop at file ≡ write_number n ++ drop next file) × InRange lo hi n
  unfolding field_at placed_field
  field_read next s e = go (read_number (drop at file)) refl e
    where
      go : (r : NumberRead) → read_number (drop at file) ≡ r → placed_field lo hi (length file) at r ≡ accepted n next
          → (next ≡ at + width n) × (drop at file ≡ write_number n ++ drop next file) × InRange lo hi n
      go (Refused k) q u = clash n next _ _ u
      go (Value m w) q u = both (leb lo m) refl (leb m hi) refl u
        where
          both : (a : Bool) → leb lo m ≡ a → (b : Bool) → leb m hi ≡ b → (if a && b then accepted m (at + w) else refused 3 at) ≡ accepted n next
              → (next ≡ at + width n) × (drop at file ≡ write_number n ++ drop next file) × InRange lo hi n
          both true x true y v =
              let i : m ≡ n = cc in
              let j : at + w ≡ next = cc in
              let (k, l, h) = number_read (drop at file) m w (small_drop at file s) q in
              let z : drop w (drop at file) ≡ drop next file = drop-drop w at file ∙ ap (λ (p : ℕ). drop p file) j in (
                sym j ∙ ap (λ (p : ℕ). at + p) (l ∙ ap width i),
                k ∙ ap₂ (λ (p : ℕ) (l : List ℕ). write_number p ++ l) i z,
                record { low = omega (arith, leb-true lo m x); high = omega (arith, leb-true m hi y); short = omega arith },
              )
          both true x false y v = clash n next _ _ v
          both false x b y v = clash n next _ _ v

  pub field_written : (rest : List ℕ) → InRange lo hi n → drop at file ≡ write_number n ++ rest → field_at lo hi file at ≡ accepted n (at + width n)
  unfolding field_at placed_field
  field_written rest r e =
      ap (placed_field lo hi (length file) at) (ap read_number e ∙ number_back n rest r.short)
      ∙ rw (le-leb lo n r.low, le-leb n hi r.high)

-- formats

-- the place under another name
pub walks_at : {A : Type 0} (f : Format A) (p q : ℕ) (ns : List ℕ) (a : A) → p ≡ q → walks f p ns a → walks f q ns a
walks_at f p q ns a e w = rw e at w

-- what is read was written by numbers that walk the format
pub record Written {A : Type 0} (f : Format A) (file : List ℕ) (at : ℕ) (a : A) (next : ℕ) : Type 0 where
  pub numbers : List ℕ
  pub walk : walks f at numbers a
  pub end : next ≡ at + span numbers
  pub bytes : drop at file ≡ bytes_of numbers ++ drop next file

pub read_walks : {A : Type 0} (f : Format A) (file : List ℕ) (at : ℕ) (a : A) (next : ℕ) → Small file → read f file at ≡ accepted a next → Written f file at a next
unfolding read behind walks bytes_of flat_map
read_walks (done b) file at a next s e =
    let x : b ≡ a = cc in
    let y : at ≡ next = cc in
    record { numbers = []; walk = x; end = omega arith; bytes = ap (λ (p : ℕ). drop p file) y }
read_walks (field lo hi f) file at a next s e = go (field_at lo hi file at) refl e (λ n p. read_walks (f n) file p a next s)
  where
    go : (o : Outcome ℕ) → field_at lo hi file at ≡ o → behind o (λ n p. read (f n) file p) ≡ accepted a next
        → ((n p : ℕ) → read (f n) file p ≡ accepted a next → Written (f n) file p a next) → Written (field lo hi f) file at a next
    go (refused k p) q u ih = clash a next k p u
    go (accepted n p) q u ih =
        let (x, y, r) = field_read lo hi file at n p s q in
        let w = ih n p u in
        record {
          numbers = n ∷ w.numbers;
          walk = (r, walks_at (f n) p (at + width n) w.numbers a x w.walk);
          end = omega (arith, w.end, span_cons n w.numbers);
          bytes = y ∙ ap (λ (l : List ℕ). write_number n ++ l) w.bytes ∙ sym (append_assoc (write_number n) (bytes_of w.numbers) (drop next file));
        }
read_walks (here f) file at a next s e =
    let w = read_walks (f at) file at a next s e in
    record { numbers = w.numbers; walk = w.walk; end = w.end; bytes = w.bytes }

-- numbers that walk the format, written at a place with anything behind them, are read
pub walks_read : {A : Type 0} (f : Format A) (file : List ℕ) (at : ℕ) (ns : List ℕ) (a : A) (rest : List ℕ) → walks f at ns a → drop at file ≡ bytes_of ns ++ rest
    → read f file at ≡ accepted a (at + span ns)
unfolding read behind walks bytes_of flat_map width
walks_read (done b) file at [] a rest w e = ap₂ accepted w (omega arith)
walks_read (done b) file at (n ∷ ns) a rest w e = absurd w
walks_read (field lo hi f) file at [] a rest w e = absurd w
walks_read (field lo hi f) file at (n ∷ ns) a rest (r, w) e =
    let x : drop at file ≡ write_number n ++ (bytes_of ns ++ rest) = e ∙ append_assoc (write_number n) (bytes_of ns) rest in
    let y : drop (at + width n) file ≡ bytes_of ns ++ rest
    = sym (drop-drop (width n) at file) ∙ ap (drop (width n)) x ∙ drop-append_seam (write_number n) (bytes_of ns ++ rest) in
    ap (λ (o : Outcome ℕ). behind o (λ n p. read (f n) file p)) (field_written lo hi file at n (bytes_of ns ++ rest) r x)
    ∙ walks_read (f n) file (at + width n) ns a rest w y
    ∙ ap (accepted a) (omega (arith, span_cons n ns))
walks_read (here f) file at ns a rest w e = walks_read (f at) file at ns a rest w e

-- files

pub file_read : {A : Type 0} (f : Format A) (ns : List ℕ) (a : A) → walks f 0 ns a → read_file f (bytes_of ns) ≡ accepted a (span ns)
unfolding read_file ended
file_read f ns a w =
    let e : read f (bytes_of ns) 0 ≡ accepted a (0 + span ns) = walks_read f (bytes_of ns) 0 ns a [] w (sym (append-nil (bytes_of ns))) in
    let q : 0 + span ns ≡ span ns = omega arith in
    ap (ended (bytes_of ns)) (e ∙ ap (accepted a) q) ∙ rw (le-leb (span ns) (span ns) (omega arith))

pub record FileOf {A : Type 0} (f : Format A) (file : List ℕ) (a : A) (next : ℕ) : Type 0 where
  pub numbers : List ℕ
  pub walk : walks f 0 numbers a
  pub end : next ≡ span numbers
  pub bytes : file ≡ bytes_of numbers

pub file_walks : {A : Type 0} (f : Format A) (file : List ℕ) (a : A) (next : ℕ) → Small file → read_file f file ≡ accepted a next → FileOf f file a next
unfolding read_file ended
file_walks f file a next s e = go (read f file 0) refl e
  where
    over : read f file 0 ≡ accepted a next → length file ≤ next → FileOf f file a next
    over q h =
        let w = read_walks f file 0 a next s q in
        let z : drop next file ≡ [] = drop_of_length-le file h in
        record {
          numbers = w.numbers;
          walk = w.walk;
          end = omega (arith, w.end);
          bytes = w.bytes ∙ ap (λ (l : List ℕ). bytes_of w.numbers ++ l) z ∙ append-nil (bytes_of w.numbers);
        }

    go : (o : Outcome _) → read f file 0 ≡ o → ended file o ≡ accepted a next → FileOf f file a next
    go (refused k p) q u = clash a next k p u
    go (accepted b p) q u = last (leb (length file) p) refl u
      where
        last : (t : Bool) → leb (length file) p ≡ t → (if t then accepted b p else refused 1 p) ≡ accepted a next → FileOf f file a next
        last true x v =
            let y : p ≡ next = cc in
            let z : accepted b p ≡ accepted a next = v in
            over (q ∙ z) (omega (arith, leb-true (length file) p x))
        last false x v = clash a next 1 p v

-- one format and then another

pub record Split {A B : Type 0} (f : Format A) (g : A → Format B) (p : ℕ) (ns : List ℕ) (b : B) : Type 0 where
  pub value : A
  pub before : List ℕ
  pub behind : List ℕ
  pub whole : ns ≡ before ++ behind
  pub first : walks f p before value
  pub second : walks (g value) (p + span before) behind b

module _ {A B : Type 0} where
  pub walks_then : (f : Format A) (g : A → Format B) (p : ℕ) (ns ms : List ℕ) (a : A) (b : B) → walks f p ns a → walks (g a) (p + span ns) ms b
      → walks (f and_then g) p (ns ++ ms) b
  unfolding walks ◌and_then◌ bytes_of flat_map
  walks_then (done c) g p [] ms a b v w = let q : p + 0 ≡ p = omega arith in rw (v) (rw q at w)
  walks_then (done c) g p (n ∷ ns) ms a b v w = absurd v
  walks_then (field lo hi f) g p [] ms a b v w = absurd v
  walks_then (field lo hi f) g p (n ∷ ns) ms a b (r, v) w =
      let q : p + span (n ∷ ns) ≡ p + width n + span ns = omega (arith, span_cons n ns) in
      (r, walks_then (f n) g (p + width n) ns ms a b v (rw q at w))
  walks_then (here f) g p ns ms a b v w = walks_then (f p) g p ns ms a b v w

  pub then_walks : (f : Format A) (g : A → Format B) (p : ℕ) (ns : List ℕ) (b : B) → walks (f and_then g) p ns b → Split f g p ns b
  unfolding walks ◌and_then◌ bytes_of flat_map
  then_walks (done c) g p ns b w =
      let q : p ≡ p + 0 = omega arith in
      record { value = c; before = []; behind = ns; whole = refl; first = refl; second = rw q at w }
  then_walks (field lo hi f) g p [] b w = absurd w
  then_walks (field lo hi f) g p (n ∷ ns) b (r, w) =
      let s = then_walks (f n) g (p + width n) ns b w in
      let q : p + width n + span s.before ≡ p + span (n ∷ s.before) = omega (arith, span_cons n s.before) in
      record {
        value = s.value;
        before = n ∷ s.before;
        behind = s.behind;
        whole = ap (λ (l : List ℕ). n ∷ l) s.whole;
        first = (r, s.first);
        second = rw q at s.second;
      }
  then_walks (here f) g p ns b w =
      let s = then_walks (f p) g p ns b w in
      record { value = s.value; before = s.before; behind = s.behind; whole = s.whole; first = s.first; second = s.second }

-- a value made of another

module _ {A B : Type 0} (make : A → B) (f : Format A) where
  pub walks_made : (p : ℕ) (ns : List ℕ) (a : A) → walks f p ns a → walks (f and_then (λ a. done (make a))) p ns (make a)
  unfolding walks
  walks_made p ns a w = rw (append-nil ns) at (walks_then f (λ a. done (make a)) p ns [] a (make a) w refl)

  pub made_walks : (p : ℕ) (ns : List ℕ) (b : B) → walks (f and_then (λ a. done (make a))) p ns b → (a : A) × walks f p ns a × (make a ≡ b)
  unfolding walks
  made_walks p ns b w = let s = then_walks f (λ a. done (make a)) p ns b w in go s.value s.before s.behind s.whole s.first s.second
    where
      go : (a : A) (xs ys : List ℕ) → ns ≡ xs ++ ys → walks f p xs a → walks (done (make a)) (p + span xs) ys b → (a : A) × walks f p ns a × (make a ≡ b)
      go a xs [] e v w = (a, rw (e ∙ append-nil xs) v, w)
      go a xs (y ∷ ys) e v w = absurd w
