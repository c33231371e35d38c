-- Lists of findings that rise: numbers compared from the left, and each two of a list by its neighbours, as `below` is
-- transitive; so the stations of such a list do not fall. Assumes nothing.
use Prim.Native.Nat.{ℕ, zero, suc, ◌+◌, ◌*◌, ◌-◌, ◌/◌, ◌%◌, ◌≤◌}
use mathlib.Core.Path.{◌≡◌, refl, sym, ◌∙◌}
use mathlib.Core.Bool.{Bool, true, false, ◌&&◌, and-false, or-false, false≢true}
use mathlib.Core.List.{List, [], ◌∷◌}
use native.Mathlib.Omega.{arith}
use lib.Dec.{T, ltb, leb, eqb}
use lib.ListN.{length, drop, get_or}
use borrow.Author.Tests.{le-ltb, leb-true, leb-false, eq-eqb, ne_eqb}
use Rattle.base.specs.Lists.{every, each_two, below}
use Rattle.base.proofs.Tests.{by_value, T_true, true_T, and_l, and_r}
use Rattle.base.proofs.Sorted.{two_step, below_trans}
use Rattle.timetable.specs.Findings.{finding, numbers, findings_in}
use Rattle.timetable.specs.Recheck.{before, list_rises}
use Rattle.recheck.specs.Types.{Finding}
use Rattle.recheck.specs.between.Kept.{four_at, before_at, Ordered}
use Rattle.recheck.proofs.FourLaws.{finding_at, fours_next, fours_over}

-- two lists by their first numbers: these differ, are equal, or are the last

pub below_apart : (x y : ℕ) (xs ys : List ℕ) → (x ≡ y → ⊥) → below (x ∷ xs) (y ∷ ys) ≡ ltb x y
unfolding below
below_apart x y xs ys d = rw (ne_eqb x y d) (or-false (ltb x y))

pub below_on : (x y : ℕ) (xs ys : List ℕ) → x ≡ y → below (x ∷ xs) (y ∷ ys) ≡ below xs ys
unfolding below
below_on x y xs ys e = rw (le-ltb x y (omega arith), eq-eqb x y e)

pub below_last : (x y : ℕ) → below (x ∷ []) (y ∷ []) ≡ ltb x y
unfolding below
below_last x y = rw (and-false (eqb x y)) (or-false (ltb x y))

-- in an order, a list's each two are its first two and each two of its rest
pub two_next : {A : Type 0} (f : A → A → Bool) → ((x y z : A) → T (f x y) → T (f y z) → T (f x z))
    → (x y : A) (ys : List A) → each_two f (x ∷ y ∷ ys) ≡ (f x y && each_two f (y ∷ ys))
unfolding each_two every
two_next f across x y ys = go (f x y) refl (each_two f (y ∷ ys)) refl
  where
    go : (b : Bool) → f x y ≡ b → (d : Bool) → each_two f (y ∷ ys) ≡ d → each_two f (x ∷ y ∷ ys) ≡ (b && d)
    go false e d p = rw e
    go true e false p = rw p (and-false (every (f x) (y ∷ ys)))
    go true e true p =
        T_true (each_two f (x ∷ y ∷ ys)) (two_step f across x y ys (true_T (f x y) e) (true_T (each_two f (y ∷ ys)) p))

across : (f g h : Finding) → T (before f g) → T (before g h) → T (before f h)
across f g h = below_trans (numbers f) (numbers g) (numbers h)

-- a list of findings from the one before a place on, by its first two; and from a place where there is one at most
module _ (list : List ℕ) (i : ℕ) where
  pub rises_next : 4 ≤ i → i + 4 ≤ length list
      → each_two before (findings_in (drop (i - 4) list)) ≡ (before_at (i - 4) list i list && each_two before (findings_in (drop i list)))
  unfolding before_at four_at finding
  rises_next h k =
      let back : i - 4 + 4 ≡ i = omega arith in
      let here : findings_in (drop (i - 4) list) ≡ finding_at (i - 4) list ∷ findings_in (drop i list) = rw back at (fours_next (i - 4) list (omega arith)) in
      let there : findings_in (drop i list) ≡ finding_at i list ∷ findings_in (drop (i + 4) list) = fours_next i list k in
      rw (here, there) (two_next before across (finding_at (i - 4) list) (finding_at i list) (findings_in (drop (i + 4) list)))

  pub rises_over : length list ≤ i + 4 → each_two before (findings_in (drop i list)) ≡ true
  unfolding each_two every
  rises_over h = go (leb (i + 4) (length list)) refl
    where
      go : (b : Bool) → leb (i + 4) (length list) ≡ b → each_two before (findings_in (drop i list)) ≡ true
      go true e =
          rw (fours_next i list (leb-true (i + 4) (length list) e), fours_over (i + 4) list (omega arith))
      go false e = rw (fours_over i list (leb-false (i + 4) (length list) e))

-- a list that rises has stations that do not fall

below_first : (x y : ℕ) (xs ys : List ℕ) → below (x ∷ xs) (y ∷ ys) ≡ true → x ≤ y
below_first x y xs ys e =
    by_value (leb x y) (leb-true x y)
    (λ f. let gt = leb-false x y f in
    let no : ltb x y ≡ false = le-ltb x y (omega (arith, gt)) in
    absurd (false≢true (sym no ∙ sym (below_apart x y xs ys (λ q. omega (arith, gt, q))) ∙ e)))

module _ (list : List ℕ) (up : list_rises list ≡ true) where
  all_up : each_two before (findings_in list) ≡ true
  unfolding list_rises
  all_up = T_true _ (and_r (eqb (length list % 4) 0) (each_two before (findings_in list)) (true_T (list_rises list) up))

  -- a finding that is not the last, in a list that rises from it on
  next_up : (n : ℕ) → 4 * n + 8 ≤ length list → each_two before (findings_in (drop (4 * n) list)) ≡ true
      → (get_or list (4 * n) 0 ≤ get_or list (4 * n + 4) 0) × (each_two before (findings_in (drop (4 * n + 4) list)) ≡ true)
  unfolding before_at four_at
  next_up n h e =
      let back : 4 * n + 4 - 4 ≡ 4 * n = omega arith in
      let two = rw back at (rises_next list (4 * n + 4) (omega arith) (omega (arith, h))) in
      let first = before_at (4 * n) list (4 * n + 4) list in
      let rest = each_two before (findings_in (drop (4 * n + 4) list)) in
      let held = true_T (first && rest) (sym two ∙ e) in
      (below_first _ _ _ _ (T_true first (and_l first rest held)), T_true rest (and_r first rest held))

  up_from : (n : ℕ) → 4 * n + 4 ≤ length list → each_two before (findings_in (drop (4 * n) list)) ≡ true
  up_from zero h = all_up
  up_from (suc n) h = let e : 4 * suc n ≡ 4 * n + 4 = omega arith in rw e (next_up n (omega (arith, h)) (up_from n (omega (arith, h)))).1

  climbs : (k n : ℕ) → 4 * (n + k) + 4 ≤ length list → get_or list (4 * n) 0 ≤ get_or list (4 * (n + k)) 0
  climbs zero n h = let e : n + 0 ≡ n = omega arith in rw e (omega arith)
  climbs (suc k) n h =
      let e : 4 * (n + suc k) ≡ 4 * (n + k) + 4 = omega arith in
      let one = (next_up (n + k) (omega (arith, h)) (up_from (n + k) (omega (arith, h)))).0 in
      rw e (omega (arith, climbs k n (omega (arith, h)), one))

  pub rising_ordered : Ordered list
  rising_ordered i j h y z l =
      let from : 4 * (i / 4) ≡ i = omega (arith, y) in
      let to : 4 * (i / 4 + (j - i) / 4) ≡ j = omega (arith, h, y, z) in
      rw (from, to) at (climbs ((j - i) / 4) (i / 4) (omega (arith, to, l)))
