-- Records one after another: the length of a row of slots, its records, and a record put in, taken out or written over,
-- said of the list that the slots holds. The slots is cut at the record's place, and the bytes on both sides are those
-- of the two parts of the list. Assumes nothing.
use Prim.Native.Nat.{ℕ, suc, ◌+◌, ◌*◌, ◌-◌, ◌≤◌, ◌<◌}
use mathlib.Core.Path.{◌≡◌, refl, sym, ap, ap₂, ◌∙◌}
use mathlib.Core.Bool.{Bool, true, false, not, ◌&&◌}
use mathlib.Core.List.{List, [], ◌∷◌, ◌++◌, map, flat_map, append_assoc}
use native.Mathlib.Nat.{not-suc-le-zero}
use native.Mathlib.Omega.{arith}
use lib.Dec.{T}
use lib.ListN.{length, get_or, take, drop, length-append, length-drop, take-append-drop, length-replicate, replicate-append-replicate}
use lib.Seq.{take_at, drop_at, drop-drop, length-take-le, split_at}
use borrow.Author.Tests.{le-leb}
use Rattle.std.specs.Prelude.{if◌then◌else◌}
use Rattle.base.specs.Lists.{every, keep, each_two}
use Rattle.base.proofs.Counts.{keep_every}
use Rattle.base.proofs.Sorted.{two_head, two_tail}
use Rattle.base.proofs.Tests.{every_weaker}
use Rattle.records.specs.Bytes.{zeros, splice, closed}
use Rattle.page.specs.Pages.{slots, records_of}
use Rattle.page.specs.between.Changes.{index_of, put_in, take_out}

-- bytes written over as many others
pub splice_at : (x y z new : List ℕ) (at : ℕ) → length x ≡ at → length y ≡ length new → splice at new (x ++ (y ++ z)) ≡ x ++ (new ++ z)
unfolding splice
splice_at x y z new at e h =
    let behind : drop (at + length new) (x ++ (y ++ z)) ≡ z =
    sym (drop-drop (length new) at (x ++ (y ++ z))) ∙ ap (drop (length new)) (drop_at x (y ++ z) at e) ∙ drop_at y z (length new) h in
    rw (take_at x (y ++ z) at e, behind)

module _ {A : Type 0} (enc : A → List ℕ) where
  pub flat_append : (xs ys : List A) → flat_map enc (xs ++ ys) ≡ flat_map enc xs ++ flat_map enc ys
  unfolding flat_map
  flat_append [] ys = refl
  flat_append (x ∷ xs) ys = rw (flat_append xs ys) (sym (append_assoc (enc x) (flat_map enc xs) (flat_map enc ys)))

  module _ (sixteen : (x : A) → length (enc x) ≡ 16) where
    pub flat_length : (xs : List A) → length (flat_map enc xs) ≡ 16 * length xs
    unfolding flat_map
    flat_length [] = refl
    flat_length (x ∷ xs) = length-append (enc x) (flat_map enc xs) ∙ omega (arith, sixteen x, flat_length xs)

    pub slots_length : (k : ℕ) (xs : List A) → length xs ≤ k → length (slots enc k xs) ≡ 16 * k
    unfolding slots
    slots_length k xs h =
        length-append (flat_map enc xs) (zeros (16 * (k - length xs)))
        ∙ omega (arith, flat_length xs, length-replicate {A = ℕ} (16 * (k - length xs)) 0)

    pub records_flat : (xs : List A) (rest : List ℕ) → records_of (length xs) (flat_map enc xs ++ rest) ≡ map enc xs
    unfolding flat_map records_of
    records_flat [] rest = refl
    records_flat (x ∷ xs) rest =
        let whole : (enc x ++ flat_map enc xs) ++ rest ≡ enc x ++ (flat_map enc xs ++ rest) = append_assoc (enc x) (flat_map enc xs) rest in
        rw (whole, take_at (enc x) (flat_map enc xs ++ rest) 16 (sixteen x), drop_at (enc x) (flat_map enc xs ++ rest) 16 (sixteen x), records_flat xs rest)

    pub records_slots : (k : ℕ) (xs : List A) (rest : List ℕ) → records_of (length xs) (slots enc k xs ++ rest) ≡ map enc xs
    unfolding slots
    records_slots k xs rest =
        rw (append_assoc (flat_map enc xs) (zeros (16 * (k - length xs))) rest) (records_flat xs (zeros (16 * (k - length xs)) ++ rest))

    -- a row of slots cut at a place, with room behind
    gap_form : (k : ℕ) (xs ys : List A) (rest : List ℕ) → length xs + length ys < k
        → slots enc k (xs ++ ys) ++ rest
        ≡ flat_map enc xs ++ ((flat_map enc ys ++ zeros 16) ++ (zeros (16 * (k - (length xs + length ys + 1))) ++ rest))
    unfolding slots
    gap_form k xs ys rest h =
        let m = 16 * (k - (length xs + length ys + 1)) in
        let left : 16 * (k - length (xs ++ ys)) ≡ 16 + m = omega (arith, length-append xs ys) in
        let gap : zeros (16 * (k - length (xs ++ ys))) ≡ zeros 16 ++ zeros m = ap (λ (n : ℕ). zeros n) left ∙ sym (replicate-append-replicate {A = ℕ} 16 m 0) in
        ap₂ (λ (a b : List ℕ). (a ++ b) ++ rest) (flat_append xs ys) gap ∙ simp append_assoc

    -- and one cut at a record
    full_form : (k : ℕ) (xs : List A) (x : A) (ys : List A) (rest : List ℕ)
        → slots enc k (xs ++ (x ∷ ys)) ++ rest
        ≡ flat_map enc xs ++ ((enc x ++ flat_map enc ys) ++ (zeros (16 * (k - (length xs + length ys + 1))) ++ rest))
    unfolding slots flat_map
    full_form k xs x ys rest =
        let left : 16 * (k - length (xs ++ (x ∷ ys))) ≡ 16 * (k - (length xs + length ys + 1)) = omega (arith, length-append xs (x ∷ ys)) in
        ap₂ (λ (a b : List ℕ). (a ++ b) ++ rest) (flat_append xs (x ∷ ys)) (ap (λ (n : ℕ). zeros n) left) ∙ simp append_assoc

    pub put_split : (k : ℕ) (xs : List A) (x : A) (ys : List A) (rest : List ℕ) → length xs + length ys < k
        → put_in (length xs + length ys) (length xs) (enc x) (slots enc k (xs ++ ys) ++ rest) ≡ slots enc k (xs ++ (x ∷ ys)) ++ rest
    unfolding put_in
    put_split k xs x ys rest h =
        let m = 16 * length xs in
        let a = flat_map enc xs in
        let b = flat_map enc ys in
        let behind = zeros (16 * (k - (length xs + length ys + 1))) ++ rest in
        let len : length a ≡ m = flat_length xs in
        let many : 16 * (length xs + length ys - length xs) ≡ length b = omega (arith, flat_length ys) in
        let moved : take (16 * (length xs + length ys - length xs)) (drop m (a ++ ((b ++ zeros 16) ++ behind))) ≡ b =
        rw (drop_at a ((b ++ zeros 16) ++ behind) m len, append_assoc b (zeros 16) behind) (take_at b (zeros 16 ++ behind) (16 * (length xs + length ys - length xs)) (sym many)) in
        let wide : length (b ++ zeros 16) ≡ length (enc x ++ b) =
        length-append b (zeros 16) ∙ omega (arith, length-replicate {A = ℕ} 16 0, sixteen x) ∙ sym (length-append (enc x) b) in
        rw (gap_form k xs ys rest h, moved) (splice_at a (b ++ zeros 16) behind (enc x ++ b) m len wide ∙ sym (full_form k xs x ys rest))

    pub take_split : (k : ℕ) (xs : List A) (x : A) (ys : List A) (rest : List ℕ) → length xs + length ys < k
        → take_out (length xs + length ys + 1) (length xs) (slots enc k (xs ++ (x ∷ ys)) ++ rest) ≡ slots enc k (xs ++ ys) ++ rest
    unfolding take_out closed
    take_split k xs x ys rest h =
        let m = 16 * length xs in
        let n = 16 * (length xs + length ys + 1 - length xs) in
        let a = flat_map enc xs in
        let b = flat_map enc ys in
        let behind = zeros (16 * (k - (length xs + length ys + 1))) ++ rest in
        let len : length a ≡ m = flat_length xs in
        let wide : length (enc x ++ b) ≡ n = length-append (enc x) b ∙ omega (arith, sixteen x, flat_length ys) in
        let part : take n (drop m (a ++ ((enc x ++ b) ++ behind))) ≡ enc x ++ b =
        rw (drop_at a ((enc x ++ b) ++ behind) m len) (take_at (enc x ++ b) behind n wide) in
        let same : length (enc x ++ b) ≡ length (b ++ zeros 16) =
        length-append (enc x) b ∙ omega (arith, length-replicate {A = ℕ} 16 0, sixteen x) ∙ sym (length-append b (zeros 16)) in
        let enough : 16 ≤ length (enc x ++ b) = omega arith in
        rw (full_form k xs x ys rest, part, le-leb 16 (length (enc x ++ b)) enough, drop_at (enc x) b 16 (sixteen x))
        (splice_at a (enc x ++ b) behind (b ++ zeros 16) m len same ∙ sym (gap_form k xs ys rest h))

    pub write_split : (k : ℕ) (xs : List A) (x y : A) (ys : List A) (rest : List ℕ)
        → splice (16 * length xs) (enc y) (slots enc k (xs ++ (x ∷ ys)) ++ rest) ≡ slots enc k (xs ++ (y ∷ ys)) ++ rest
    write_split k xs x y ys rest =
        let a = flat_map enc xs in
        let b = flat_map enc ys in
        let behind = zeros (16 * (k - (length xs + length ys + 1))) ++ rest in
        rw (full_form k xs x ys rest, full_form k xs y ys rest, append_assoc (enc x) b behind, append_assoc (enc y) b behind)
        (splice_at a (enc x) (b ++ behind) (enc y) (16 * length xs) (flat_length xs) (sixteen x ∙ sym (sixteen y)))

    -- the same by an index into the list

    pub put_slots : (k : ℕ) (xs : List A) (x : A) (i : ℕ) (rest : List ℕ) → i ≤ length xs → length xs < k
        → put_in (length xs) i (enc x) (slots enc k xs ++ rest) ≡ slots enc k (take i xs ++ (x ∷ drop i xs)) ++ rest
    put_slots k xs x i rest h room =
        let place : i ≡ length (take i xs) = sym (length-take-le i xs h) in
        let sum : length xs ≡ length (take i xs) + length (drop i xs) = omega (arith, length-drop i xs) in
        (λ j. put_in (sum j) (place j) (enc x) (slots enc k (sym (take-append-drop i xs) j) ++ rest)) ∙ put_split k (take i xs) x (drop i xs) rest (omega arith)

    pub take_slots : (k : ℕ) (xs : List A) (i : ℕ) (rest : List ℕ) → i < length xs → length xs ≤ k
        → take_out (length xs) i (slots enc k xs ++ rest) ≡ slots enc k (take i xs ++ drop (suc i) xs) ++ rest
    take_slots k [] i rest h room = absurd (not-suc-le-zero h)
    take_slots k (y ∷ ys) i rest h room =
        let xs = y ∷ ys in
        let x = get_or xs i y in
        let place : i ≡ length (take i xs) = sym (length-take-le i xs (omega arith)) in
        let sum : length xs ≡ length (take i xs) + length (drop (suc i) xs) + 1 = omega (arith, length-drop (suc i) xs) in
        (λ j. take_out (sum j) (place j) (slots enc k (split_at xs i y h j) ++ rest)) ∙ take_split k (take i xs) x (drop (suc i) xs) rest (omega arith)

    pub write_slots : (k : ℕ) (xs : List A) (x : A) (i : ℕ) (rest : List ℕ) → i < length xs
        → splice (16 * i) (enc x) (slots enc k xs ++ rest) ≡ slots enc k (take i xs ++ (x ∷ drop (suc i) xs)) ++ rest
    write_slots k [] x i rest h = absurd (not-suc-le-zero h)
    write_slots k (y ∷ ys) x i rest h =
        let xs = y ∷ ys in
        let place : i ≡ length (take i xs) = sym (length-take-le i xs (omega arith)) in
        (λ j. splice (16 * place j) (enc x) (slots enc k (split_at xs i y h j) ++ rest)) ∙ write_split k (take i xs) (get_or xs i y) x (drop (suc i) xs) rest

-- nothing changes where nothing passes
pub change_none : {A : Type 0} (g : A → Bool) (new : A → A) (xs : List A) → T (every (λ x. not (g x)) xs) → map (λ x. if g x then new x else x) xs ≡ xs
unfolding every
change_none g new [] t = refl
change_none g new (x ∷ xs) t = go (g x) t (change_none g new xs)
  where
    go : (b : Bool) → T (not b && every (λ y. not (g y)) xs) → (T (every (λ y. not (g y)) xs) → map (λ y. if g y then new y else y) xs ≡ xs)
        → ((if b then new x else x) ∷ map (λ y. if g y then new y else y) xs) ≡ x ∷ xs
    go true u ih = absurd u
    go false u ih = ap (λ r. x ∷ r) (ih u)

-- a list cut where a test first holds, the test being made of the records

module _ {A : Type 0} (enc : A → List ℕ) (f : List ℕ → Bool) (g : A → Bool) (agree : (x : A) → f (enc x) ≡ g x) where
  -- one that passes stands before no other in the order
  module _ (order : A → A → Bool) (once : (x y : A) → g x ≡ true → T (order x y) → g y ≡ false) where
    others : (x : A) (xs : List A) → g x ≡ true → T (every (order x) xs) → T (every (λ y. not (g y)) xs)
    others x xs e o = every_weaker (order x) (λ y. not (g y)) (λ y t. rw (once x y e t) tt) xs o

    pub keep_cut : (xs : List A) → T (each_two order xs) → index_of f (map enc xs) < length xs
        → keep (λ x. not (g x)) xs ≡ take (index_of f (map enc xs)) xs ++ drop (suc (index_of f (map enc xs))) xs
    unfolding index_of keep
    keep_cut [] o h = absurd (not-suc-le-zero h)
    keep_cut (x ∷ xs) o h = rw (agree x) (go (g x) refl (rw (agree x) at h) (keep_cut xs (two_tail order x xs o)))
      where
        go : (b : Bool) → g x ≡ b → (if b then 0 else suc (index_of f (map enc xs))) < suc (length xs)
            → (index_of f (map enc xs) < length xs → keep (λ y. not (g y)) xs ≡ take (index_of f (map enc xs)) xs ++ drop (suc (index_of f (map enc xs))) xs)
            → (if not b then x ∷ keep (λ y. not (g y)) xs else keep (λ y. not (g y)) xs)
            ≡ take (if b then 0 else suc (index_of f (map enc xs))) (x ∷ xs) ++ drop (suc (if b then 0 else suc (index_of f (map enc xs)))) (x ∷ xs)
        go true e k ih = keep_every (λ y. not (g y)) xs (others x xs e (two_head order x xs o))
        go false e k ih = ap (λ (r : List A). x ∷ r) (ih (omega arith))

    -- each that passes replaced by one and the same
    pub change_cut : (new : A → A) (z : A) → ((x : A) → g x ≡ true → new x ≡ z) → (xs : List A) → T (each_two order xs) → index_of f (map enc xs) < length xs
        → map (λ x. if g x then new x else x) xs ≡ take (index_of f (map enc xs)) xs ++ (z ∷ drop (suc (index_of f (map enc xs))) xs)
    unfolding index_of
    change_cut new z is [] o h = absurd (not-suc-le-zero h)
    change_cut new z is (x ∷ xs) o h = rw (agree x) (go (g x) refl (rw (agree x) at h) (change_cut new z is xs (two_tail order x xs o)))
      where
        go : (b : Bool) → g x ≡ b → (if b then 0 else suc (index_of f (map enc xs))) < suc (length xs)
            → (index_of f (map enc xs) < length xs
            → map (λ y. if g y then new y else y) xs ≡ take (index_of f (map enc xs)) xs ++ (z ∷ drop (suc (index_of f (map enc xs))) xs))
            → ((if b then new x else x) ∷ map (λ y. if g y then new y else y) xs)
            ≡ take (if b then 0 else suc (index_of f (map enc xs))) (x ∷ xs) ++ (z ∷ drop (suc (if b then 0 else suc (index_of f (map enc xs)))) (x ∷ xs))
        go true e k ih = ap₂ (λ (a : A) (r : List A). a ∷ r) (is x e) (change_none g new xs (others x xs e (two_head order x xs o)))
        go false e k ih = ap (λ (r : List A). x ∷ r) (ih (omega arith))

  -- nowhere
  pub none_passes : (xs : List A) → length xs ≤ index_of f (map enc xs) → T (every (λ x. not (g x)) xs)
  unfolding index_of every
  none_passes [] h = tt
  none_passes (x ∷ xs) h = go (g x) (rw (agree x) at h) (none_passes xs)
    where
      go : (b : Bool) → suc (length xs) ≤ (if b then 0 else suc (index_of f (map enc xs)))
          → (length xs ≤ index_of f (map enc xs) → T (every (λ y. not (g y)) xs)) → T (not b && every (λ y. not (g y)) xs)
      go true k ih = absurd (not-suc-le-zero k)
      go false k ih = ih (omega arith)
