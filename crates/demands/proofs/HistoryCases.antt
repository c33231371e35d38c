-- Examples of histories, on the network of document 01's listing (station 1 in area 1, station 2 in area 2): edits of
-- two areas may change places, and one that is refused with 7 may stand anywhere; edits with a common area may not.
-- Assumes nothing.
use Prim.Native.Nat.{ℕ}
use mathlib.Core.Path.{◌≡◌, refl}
use mathlib.Core.List.{List, [], ◌∷◌, map}
use native.Mathlib.Omega.{arith}
use lib.ListN.{length}
use Rattle.base.specs.Lists.{keep}
use Rattle.timetable.specs.Cases as Cases
use Rattle.timetable.specs.Cases.{net, plan, place, append}
use Rattle.timetable.specs.Groups.{six}
use Rattle.demands.specs.Types.{Edit}
use Rattle.demands.specs.Histories.{history_of}

abbrev at_one : Edit
at_one = place 1 7 1 100 102

abbrev at_two : Edit
at_two = place 2 8 1 115 115

abbrev linked : Edit
linked = append (plan 2 7 1 115 115) 1 1 12

abbrev unknown : Edit
unknown = place 3 9 1 100 102

abbrev histories : List Edit → List (List Edit)
histories es = map (λ a. history_of net a es) six

apart_same : histories (at_one ∷ at_two ∷ []) ≡ histories (unknown ∷ at_two ∷ at_one ∷ [])
unfolding Cases.opened keep
apart_same = refl

-- the linked visit stands in both areas' histories
linked_both : map (λ (l : List Edit). length l) (histories (at_one ∷ linked ∷ unknown ∷ [])) ≡ 2 ∷ 1 ∷ 0 ∷ 0 ∷ 0 ∷ 0 ∷ []
unfolding Cases.opened keep
linked_both = refl

linked_stays : ¬ (history_of net 1 (at_one ∷ linked ∷ []) ≡ history_of net 1 (linked ∷ at_one ∷ []))
unfolding Cases.opened keep
linked_stays q =
    let heads : at_one ∷ linked ∷ [] ≡ linked ∷ at_one ∷ [] = q in
    let z : ◌≡◌ {A = ℕ} 0 1 = cc heads in
    omega (arith, z)
