-- Reading one format and then another; reading a row or a list of entries turn by turn: what a loop has read stands
-- before what is left to read. Assumes nothing.
use Prim.Native.Nat.{ℕ, suc, ◌+◌, ◌-◌, ◌<◌, ◌≤◌}
use mathlib.Core.Path.{◌≡◌, refl, sym, ◌∙◌, ap}
use mathlib.Core.List.{List, [], ◌∷◌, ◌++◌, map, append-nil}
use native.Mathlib.Omega.{arith}
use lib.ListN.{length, get_or, set, take, drop, replicate, length-append, length-take, drop_of_length-le}
use lib.Seq.{append_snoc, set-append_seam, get_or-take}
use Rattle.base.proofs.Lengths.{drop_next}
use Rattle.base.specs.RefusalNumbers.{number_of}
use Rattle.base.specs.declared.refusal.FileError.{FileError}
use Rattle.std.specs.Prelude.{Result, IsErrAnd}
use Rattle.std.proofs.lemmas.Result.{err_from_is_err_and}
use Rattle.timetable.specs.Formats.{Format, done, field, here, Outcome, accepted, refused, ◌and_then◌, field_at, behind, read, Range, least, floor_after, compared, row, entries}
use Rattle.fields.specs.between.Answers.{outcome, padded}

-- one format and then another
pub read_then : {A B : Type 0} (f : Format A) (g : A → Format B) (file : List ℕ) (at : ℕ)
    → read (f and_then g) file at ≡ behind (read f file at) (λ a next. read (g a) file next)
unfolding read ◌and_then◌ behind
read_then (done a) g file at = refl
read_then (field lo hi f) g file at = go (field_at lo hi file at) (λ n next. read_then (f n) g file next)
  where
    go : (o : Outcome ℕ) → ((n next : ℕ) → read (f n and_then g) file next ≡ behind (read (f n) file next) (λ a next. read (g a) file next))
        → behind o (λ n next. read (f n and_then g) file next) ≡ behind (behind o (λ n next. read (f n) file next)) (λ a next. read (g a) file next)
    go (accepted n next) ih = ih n next
    go (refused k p) ih = refl
read_then (here f) g file at = read_then (f at) g file at

-- what the exit of a `?` answers
pub refused_told : {A : Type 0} (r : Result (A × ℕ) FileError) (e : FileError) → IsErrAnd r (λ y. y ≡ e) → outcome r ≡ refused (number_of e.refusal) e.place
refused_told r e h = let p = err_from_is_err_and r h in rw (p.1, p.2)

-- elements before the others
unfoldable pub prefixed : {A : Type 0} → List A → Outcome (List A) → Outcome (List A)
prefixed xs (accepted ys next) = accepted (xs ++ ys) next
prefixed xs (refused k p) = refused k p

pub prefixed_none : {A : Type 0} (o : Outcome (List A)) → prefixed [] o ≡ o
unfolding prefixed
prefixed_none (accepted ys next) = refl
prefixed_none (refused k p) = refl

pub prefixed_snoc : {A : Type 0} (xs : List A) (a : A) (o : Outcome (List A)) → prefixed xs (prefixed (a ∷ []) o) ≡ prefixed (xs ++ (a ∷ [])) o
unfolding prefixed
prefixed_snoc xs a (accepted ys next) = ap (λ (l : List _). accepted l next) (sym (append_snoc xs a ys))
prefixed_snoc xs a (refused k p) = refl

pub prefixed_one : {A : Type 0} (a : A) (o : Outcome (List A)) → behind o (λ ys next. accepted (a ∷ ys) next) ≡ prefixed (a ∷ []) o
unfolding prefixed behind
prefixed_one a (accepted ys next) = refl
prefixed_one a (refused k p) = refl

-- what a loop has read after i turns, and what is left
pub record SoFar {A : Type 0} (whole : Outcome (List A)) (i : ℕ) (rest : Outcome (List A)) : Type 0 where
  pub elements : List A
  pub many : length elements ≡ i
  pub left : whole ≡ prefixed elements rest

module _ {A : Type 0} where
  unfoldable pub start : (o p : Outcome (List A)) → o ≡ p → SoFar o 0 p
  start o p e = record { elements = []; many = refl; left = e ∙ sym (prefixed_none p) }

  module _ (whole : Outcome (List A)) (i : ℕ) (rest : Outcome (List A)) (s : SoFar whole i rest) where
    -- a turn reads one element more
    unfoldable pub turn : (a : A) (later : Outcome (List A)) → rest ≡ prefixed (a ∷ []) later → SoFar whole (i + 1) later
    turn a later e = record {
      elements = s.elements ++ (a ∷ []);
      many = length-append s.elements (a ∷ []) ∙ omega (arith, s.many);
      left = s.left ∙ ap (prefixed s.elements) e ∙ prefixed_snoc s.elements a later;
    }

    -- a turn is refused
    pub stop : (k p : ℕ) → rest ≡ refused k p → whole ≡ refused k p
    unfolding prefixed
    stop k p e = s.left ∙ ap (prefixed s.elements) e

    -- nothing is left
    pub over : (next : ℕ) → rest ≡ accepted [] next → whole ≡ accepted s.elements next
    unfolding prefixed
    over next e = s.left ∙ ap (prefixed s.elements) e ∙ ap (λ (l : List A). accepted l next) (append-nil s.elements)

-- an element in the next place
pub padded_next : {A : Type 0} (k : ℕ) (d : A) (xs : List A) (i : ℕ) (a : A) → length xs ≡ i → i < k → set (padded k d xs) i a ≡ padded k d (xs ++ (a ∷ []))
unfolding padded
padded_next k d xs i a e h =
    let m : k - length xs ≡ suc (k - length (xs ++ (a ∷ []))) = omega (arith, length-append xs (a ∷ [])) in
    rw (← e, m) (set-append_seam xs d (replicate (k - length (xs ++ (a ∷ []))) d) a ∙ sym (append_snoc xs a (replicate (k - length (xs ++ (a ∷ []))) d)))

-- as many elements as there are places
pub padded_full : {A : Type 0} (k : ℕ) (d : A) (xs : List A) → k ≤ length xs → padded k d xs ≡ xs
unfolding padded
padded_full k d xs h = let e : k - length xs ≡ 0 = omega arith in rw e (append-nil xs)

-- rows

module _ (r : Range) (rs : List Range) (file : List ℕ) (at : ℕ) where
  pub row_next : (n next : ℕ) → field_at r.lo r.hi file at ≡ accepted n next → read (row (r ∷ rs) []) file at ≡ prefixed (n ∷ []) (read (row rs []) file next)
  unfolding row compared least floor_after read behind
  row_next n next e =
      ap (λ (o : Outcome ℕ). behind o (λ m p. read (row rs [] and_then (λ ms. done (m ∷ ms))) file p)) e
      ∙ read_then (row rs []) (λ ms. done (n ∷ ms)) file next
      ∙ prefixed_one n (read (row rs []) file next)

  pub row_stop : (k p : ℕ) → field_at r.lo r.hi file at ≡ refused k p → read (row (r ∷ rs) []) file at ≡ refused k p
  unfolding row compared least floor_after read behind
  row_stop k p e = ap (λ (o : Outcome ℕ). behind o (λ m p. read (row rs [] and_then (λ ms. done (m ∷ ms))) file p)) e

pub row_over : (file : List ℕ) (at : ℕ) → read (row [] []) file at ≡ accepted [] at
unfolding row read
row_over file at = refl

-- entries

module _ {A : Type 0} (entry : List ℕ → Format A) (floor_of : A → List ℕ) (floor : List ℕ) (file : List ℕ) (at : ℕ) where
  first_entry : (k : ℕ) → read (entries entry floor_of (suc k) floor) file at
      ≡ behind (read (entry floor) file at) (λ a next. read (entries entry floor_of k (floor_of a) and_then (λ rest. done (a ∷ rest))) file next)
  unfolding entries
  first_entry k = read_then (entry floor) (λ a. entries entry floor_of k (floor_of a) and_then (λ rest. done (a ∷ rest))) file at

  pub entries_next : (k : ℕ) (a : A) (next : ℕ) → read (entry floor) file at ≡ accepted a next
      → read (entries entry floor_of (suc k) floor) file at ≡ prefixed (a ∷ []) (read (entries entry floor_of k (floor_of a)) file next)
  unfolding read behind
  entries_next k a next e =
      first_entry k
      ∙ ap (λ (o : Outcome A). behind o (λ a next. read (entries entry floor_of k (floor_of a) and_then (λ rest. done (a ∷ rest))) file next)) e
      ∙ read_then (entries entry floor_of k (floor_of a)) (λ rest. done (a ∷ rest)) file next
      ∙ prefixed_one a (read (entries entry floor_of k (floor_of a)) file next)

  pub entries_stop : (k j p : ℕ) → read (entry floor) file at ≡ refused j p → read (entries entry floor_of (suc k) floor) file at ≡ refused j p
  unfolding behind
  entries_stop k j p e =
      first_entry k
      ∙ ap (λ (o : Outcome A). behind o (λ a next. read (entries entry floor_of k (floor_of a) and_then (λ rest. done (a ∷ rest))) file next)) e

  pub entries_over : read (entries entry floor_of 0 floor) file at ≡ accepted [] at
  unfolding entries read
  entries_over = refl

-- the elements in use from an index on
module _ {A : Type 0} (xs : List A) (n : ℕ) (fits : n ≤ length xs) (i : ℕ) where
  pub used_next : (d : A) → i < n → drop i (take n xs) ≡ get_or xs i d ∷ drop (i + 1) (take n xs)
  used_next d h =
      drop_next (take n xs) i d (simp length-take (omega arith))
      ∙ ap (λ (x : A). x ∷ drop (i + 1) (take n xs)) (get_or-take n xs i d h)

  pub used_over : n ≤ i → drop i (take n xs) ≡ []
  used_over h = drop_of_length-le (take n xs) {i = i} (simp length-take (omega arith))

pub map_snoc : {A B : Type 0} (f : A → B) (xs : List A) (x : A) → map f (xs ++ (x ∷ [])) ≡ map f xs ++ (f x ∷ [])
map_snoc f [] x = refl
map_snoc f (y ∷ xs) x = ap (λ (l : List _). f y ∷ l) (map_snoc f xs x)
