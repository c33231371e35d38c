-- The first order is a reordering of every list, whatever its edits name: a list's positions in order, by recursion on
-- the list. Then examples, with edits on a small network: two edits may change places if they name no common area, and
-- may not if they do; no position may stand twice or be left out. Assumes nothing.
use mathlib.Core.Path.{◌≡◌, refl, ap, ◌∙◌}
use mathlib.Core.Bool.{Bool, true, false, ◌&&◌, ◌||◌}
use mathlib.Core.List.{List, [], ◌∷◌, map, flat_map}
use Prim.Native.Nat.{ℕ, zero, suc, ◌≤◌, ◌<◌}
use native.Mathlib.Omega.{arith}
use lib.Dec.{T, eqb, lit<, lit≤, eqb-suc-suc, eqb-suc-zero}
use lib.ListN.{length}
use borrow.Author.Tests.{eqb-true}
use Rattle.base.specs.Lists.{count}
use Rattle.base.specs.Runs.{answers}
use Rattle.timetable.specs.Cases as Cases
use Rattle.timetable.specs.Cases.{net, plan, append}
use Rattle.timetable.specs.Cases.{place as placed}
use Rattle.timetable.specs.Machine.{nothing_placed, answer, after}
use Rattle.timetable.specs.Groups.{areas, names_group}
use Rattle.timetable.proofs.Locality.{names_none}
use Rattle.theory.specs.Types.{Edit, Answer}
use Rattle.theory.specs.Reordering as Reordering
use Rattle.theory.specs.Reordering.{times, place, at, along, Meet, Reordering}
use Rattle.theory.specs.Statements.{FirstOrderIsOne}
use Rattle.theory.proofs.Positions.{place_head, times_suc_zero, place_suc_zero, times_shift, times_shift_zero, place_shift, at_within, along_zero, along_shift}
use Rattle.theory.proofs.Divided.{named_group}

-- 0, 1, .. in order
unfoldable positions : ℕ → List ℕ
positions zero = []
positions (suc n) = 0 ∷ map suc (positions n)

-- read along them, a list is as it stands
along_positions : {A : Type 0} (l : List A) → along l (positions (length l)) ≡ l
unfolding positions along flat_map
along_positions [] = refl
along_positions (x ∷ l) = along_zero x l (map suc (positions (length l))) ∙ ap (λ (k : List _). x ∷ k) (along_shift x l (positions (length l)) ∙ along_positions l)

head_same : {A : Type 0} {x y : A} → x ∷ [] ≡ y ∷ [] → x ≡ y
head_same q = cc

module _ {Edit Group : Type 0} (names : Edit → Group → Bool) where
  -- one more edit in front, which stays there
  first_stays : (e : Edit) (es : List Edit) (ps : List ℕ) → Reordering names es ps → Reordering names (e ∷ es) (0 ∷ map suc ps)
  unfolding at count
  first_stays e es ps R = record { once = once; nothing_else = none; in_order = order }
    where
      once : (i : ℕ) → i < length (e ∷ es) → times i (0 ∷ map suc ps) ≡ 1
      once zero h = omega (arith, times_shift_zero ps)
      once (suc i) h = omega (arith, times_suc_zero i (map suc ps), times_shift i ps, R.once i (omega arith))

      none : (i : ℕ) → length (e ∷ es) ≤ i → times i (0 ∷ map suc ps) ≡ 0
      none zero h = absurd (omega arith)
      none (suc i) h = omega (arith, times_suc_zero i (map suc ps), times_shift i ps, R.nothing_else i (omega arith))

      order : (i j : ℕ) (x y : Edit) → at (e ∷ es) i ≡ x ∷ [] → at (e ∷ es) j ≡ y ∷ [] → i < j → Meet names x y
          → place i (0 ∷ map suc ps) < place j (0 ∷ map suc ps)
      order i zero x y p q h m = absurd (omega arith)
      order zero (suc j) x y p q h m = omega (arith, place_head 0 (map suc ps), place_suc_zero j (map suc ps))
      order (suc i) (suc j) x y p q h m =
          omega (arith, place_suc_zero i (map suc ps), place_suc_zero j (map suc ps), place_shift i ps, place_shift j ps, R.in_order i j x y p q (omega arith) m)

  first_order : (es : List Edit) → Reordering names es (positions (length es))
  unfolding positions count at
  first_order [] = record {
    once = λ i h. absurd (omega arith);
    nothing_else = λ i h. refl;
    in_order = λ i j x y p q h m. absurd (omega (arith, at_within {A = Edit} [] j y q));
  }
  first_order (e ∷ es) = first_stays e es (positions (length es)) (first_order es)

  -- two edits that name no common group may change places
  exchanged : (e f : Edit) → ¬ Meet names e f → Reordering names (e ∷ f ∷ []) (1 ∷ 0 ∷ [])
  unfolding at count place
  exchanged e f apart = record { once = once; nothing_else = none; in_order = order }
    where
      once : (i : ℕ) → i < 2 → times i (1 ∷ 0 ∷ []) ≡ 1
      once zero h = refl
      once (suc zero) h = refl
      once (suc (suc i)) h = absurd (omega arith)

      none : (i : ℕ) → 2 ≤ i → times i (1 ∷ 0 ∷ []) ≡ 0
      none zero h = absurd (omega arith)
      none (suc zero) h = absurd (omega arith)
      none (suc (suc i)) h = rw (eqb-suc-suc, eqb-suc-zero, eqb-suc-zero)

      order : (i j : ℕ) (x y : Edit) → at (e ∷ f ∷ []) i ≡ x ∷ [] → at (e ∷ f ∷ []) j ≡ y ∷ [] → i < j → Meet names x y
          → place i (1 ∷ 0 ∷ []) < place j (1 ∷ 0 ∷ [])
      order zero zero x y p q h m = absurd (omega arith)
      order zero (suc zero) x y p q h m = absurd (apart (rw (head_same p, head_same q) m))
      order zero (suc (suc j)) x y p q h m = absurd (omega (arith, at_within (e ∷ f ∷ []) (suc (suc j)) y q))
      order (suc i) j x y p q h m = absurd (omega (arith, at_within (e ∷ f ∷ []) j y q))

-- "the first order is one too"
pub first_order_is_one : FirstOrderIsOne
first_order_is_one n γ es = (positions (length es), first_order (names_group n γ) es, along_positions es)

-- examples, on the network of document 01's listing: station 1 in area 1, station 2 in area 2

-- visits at station 1 and at station 2, one at station 2 that is linked to the first, and one at a station that is not
-- listed
abbrev at_one : Edit
at_one = placed 1 7 1 100 102

abbrev at_two : Edit
at_two = placed 2 8 1 115 115

abbrev linked : Edit
linked = append (plan 2 7 1 115 115) 1 1 12

abbrev unknown : Edit
unknown = placed 3 9 1 100 102

abbrev Order : List Edit → List ℕ → Type 0
Order es ps = Reordering (names_group net (areas net)) es ps

-- edits of two areas may change places
apart_changes : Order (at_one ∷ at_two ∷ []) (1 ∷ 0 ∷ [])
unfolding Cases.opened
apart_changes =
    exchanged (names_group net (areas net)) at_one at_two
    (λ m. only (eqb m.0 1) (eqb m.0 2) m.1 m.2 (λ p q. omega (arith, eqb-true m.0 1 p, eqb-true m.0 2 q)))
  where
    -- b says that the group is area 1, c that it is area 2
    only : (b c : Bool) → T ((b && true) || ((c && false) || false)) → T ((b && false) || ((c && true) || false)) → ¬ (b ≡ true → c ≡ true → ⊥)
    only true true t u h = h refl refl
    only true false t u h = u
    only false true t u h = t
    only false false t u h = t

-- an edit that is refused with 7 names no area, and may change places with any
refused_changes : (f : Edit) → Order (unknown ∷ f ∷ []) (1 ∷ 0 ∷ [])
unfolding Cases.opened
refused_changes f =
    exchanged (names_group net (areas net)) unknown f
    (λ m. let (k, q, t) = named_group net (areas net) unknown m.0 m.1 in names_none net unknown nothing_placed tt k t)

-- edits with a common area may not
linked_stays : ¬ Order (at_one ∷ linked ∷ []) (1 ∷ 0 ∷ [])
unfolding Cases.opened place at
linked_stays R = omega (arith, R.in_order 0 1 at_one linked refl refl (lit< tt) (1, tt, tt))

-- and exchanged they answer otherwise: what is linked finds no visit to link to
linked_differs : let told : List Edit → List Answer = λ es. answers (after net) (answer net) es nothing_placed in
    ¬ (told (along (at_one ∷ linked ∷ []) (1 ∷ 0 ∷ [])) ≡ along (told (at_one ∷ linked ∷ [])) (1 ∷ 0 ∷ []))
unfolding Cases.opened Reordering.opened flat_map
linked_differs q = let z : ◌≡◌ {A = ℕ} 9 0 = ap (λ (l : List Answer). elim l [ [] ↦ 0 | a ∷ rest ↦ a.refusal ]) q in omega arith

-- equal edits are told apart
equal_stays : ¬ Order (at_one ∷ at_one ∷ []) (1 ∷ 0 ∷ [])
unfolding Cases.opened place at
equal_stays R = omega (arith, R.in_order 0 1 at_one at_one refl refl (lit< tt) (1, tt, tt))

-- a position twice, left out, too many
twice_not : ¬ Order (at_one ∷ []) (0 ∷ 0 ∷ [])
unfolding count
twice_not R = omega (arith, R.once 0 (lit< tt))

left_out_not : ¬ Order (at_one ∷ []) []
unfolding count
left_out_not R = omega (arith, R.once 0 (lit< tt))

too_many_not : ¬ Order (at_one ∷ []) (0 ∷ 1 ∷ [])
unfolding count
too_many_not R = omega (arith, R.nothing_else 1 (lit≤ tt))
