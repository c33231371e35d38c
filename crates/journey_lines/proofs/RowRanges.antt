-- How many rows a projection has, at most 16, and how large their numbers are: an arrival of a whole timetable is a
-- minute, or at most 241 minutes behind the one before it, so that all are small. By induction over the visits left.
-- Assumes nothing.
use Prim.Native.Nat.{ℕ, zero, suc, ◌+◌, ◌-◌, ◌*◌, ◌≤◌, max}
use mathlib.Core.Path.{◌≡◌, refl, sym, ◌∙◌, ap}
use mathlib.Core.Bool.{Bool, true, false, cond}
use mathlib.Core.List.{List, [], ◌∷◌, flat_map}
use Rattle.std.specs.Prelude.{Option, None, Some}
use native.Mathlib.Omega.{arith}
use lib.Dec.{T, ltb, leb, leb→le}
use lib.IntN.{pos, negsuc, sub_ℕ}
use lib.ListN.{length}
use lib.Signed.{mag}
use borrow.Author.Tests.{le-leb}
use Rattle.base.specs.Choice.{◌if◌else◌}
use Rattle.std.specs.Prelude.{if◌then◌else◌}
use Rattle.std.specs.Prelude.{option_map}
use Rattle.base.specs.Lists.{every, first}
use Rattle.base.proofs.Tests.{by_value, true_T, and_r, parts, every_head, every_tail, every_append}
use Rattle.railway.specs.Ranges.{station_ok, train_ok, same_train}
use Rattle.network.specs.Networks.{network_refusal, listed}
use Rattle.timetable.specs.Tables.{Entry, Table, empty, visit_of}
use Rattle.timetable.specs.Machine.{Timetable}
use Rattle.timetable.specs.Good.{out_good, visit_good, entry_good, visits_good, table_good, Whole}
use Rattle.timetable.specs.Projection.{row, expected_arrival, expected_departure, from_departure, from_arrival}
use Rattle.timetable.specs.Rules.{out_answered}
use Rattle.timetable.specs.Visits.{arr, dep, stops_anyway, outs, with_out}
use Rattle.timetable.proofs.TableLaws.{GoodVisit, visit_facts}
use Rattle.network.proofs.AreaLaws.{listed_ok}
use Rattle.sheet.proofs.SheetLaws.{station_high}
use Rattle.projection.specs.Numbers.{row_numbers, rows_numbers}
use Rattle.journey_lines.specs.Types.{Station, Train, Visit, OutLink, Network, Row}
use Rattle.journey_lines.specs.between.Journeys.{small}

-- how many rows

pub numbers_many : (rs : List Row) → length (rows_numbers rs) ≡ 4 * length rs
unfolding rows_numbers row_numbers flat_map
numbers_many [] = refl
numbers_many (r ∷ rs) = omega (arith, numbers_many rs)

-- the rows by what was found, and by the link
abbrev from_found : (Station → ℕ → List Row) → Timetable → Train → Station → ℕ → Option Visit → List Row
from_found go_on m t s a found =
    elim found [
      | None ↦ []
      | Some v ↦
          row s v (expected_arrival v a)
          ∷ from_departure go_on m s t v (expected_departure v (expected_arrival v a))
    ]

departure_few : (k : ℕ) (go_on : Station → ℕ → List Row) → ((s : Station) (a : ℕ) → length (go_on s a) ≤ k) → (m : Timetable) (s : Station) (t : Train) (v : Visit) (d : ℕ)
    → length (from_departure go_on m s t v d) ≤ k
unfolding from_departure with_out
departure_few k go_on few m s t v d = go v.outward
  where
    go : (l : OutLink) → length (from_departure go_on m s t (with_out l v) d) ≤ k
    go OutLink.Nothing = omega arith
    go (OutLink.To o) = by_value (out_answered s t o (m o.station)) (λ e. rw e (few o.station (d + o.run))) (λ e. rw e (omega arith))

found_few : (k : ℕ) (go_on : Station → ℕ → List Row) → ((s : Station) (a : ℕ) → length (go_on s a) ≤ k) → (m : Timetable) (t : Train) (s : Station) (a : ℕ) (o : Option Visit)
    → length (from_found go_on m t s a o) ≤ suc k
found_few k go_on few m t s a None = omega arith
found_few k go_on few m t s a (Some v) = omega (arith, departure_few k go_on few m s t v (expected_departure v (expected_arrival v a)))

pub rows_few : (k : ℕ) (m : Timetable) (t : Train) (s : Station) (a : ℕ) → length (from_arrival k m t s a) ≤ k
unfolding from_arrival
rows_few zero m t s a = omega arith
rows_few (suc k) m t s a = found_few k (from_arrival k m t) (rows_few k m t) m t s a (visit_of t (m s))

-- how large their numbers are: an arrival of a whole timetable is a minute, or at most 241 minutes behind the one
-- before it

first_good : (ok f : Entry → Bool) (es : List Entry) (v : Visit) → T (every ok es) → option_map (λ (e : Entry). e.visit) (first f es) ≡ Some v → (e : Entry) × T (ok e) × (e.visit ≡ v)
unfolding first
first_good ok f [] v h q = let z : ◌≡◌ {A = ℕ} 0 1 = cc in absurd (omega arith)
first_good ok f (x ∷ xs) v h q = by_value (f x)
    (λ p. let y : Some x.visit ≡ Some v = rw p at q in (x, every_head ok x xs h, cc))
    (λ p. first_good ok f xs v (every_tail ok x xs h) (rw p at q))

late_small : (a b k : ℕ) → a ≤ k → b ≤ k → mag (sub_ℕ a b) ≤ k
late_small a b k p q = go (ltb a b) refl
  where
    go : (t : Bool) → ltb a b ≡ t → mag (cond t (negsuc (b - suc a)) (pos (a - b))) ≤ k
    go true e = omega arith
    go false e = omega arith

arrival_most : (v : Visit) (a k : ℕ) → arr v ≤ k → a ≤ k → expected_arrival v a ≤ k
unfolding expected_arrival
arrival_most v a k p q = go v.arrived
  where
    go : (x : Bool) → (if x then arr v else a) ≤ k
    go true = p
    go false = q

departure_most : (v : Visit) (a k : ℕ) → dep v ≤ k → a ≤ k → expected_departure v a ≤ k + 1
unfolding expected_departure
departure_most v a k p q = go v.departed (stops_anyway v) v.marked
  where
    go : (x y z : Bool) → (if x then dep v else if y then max (dep v) (a + 1) else if z then max (dep v) a else a) ≤ k + 1
    go true y z = omega arith
    go false true z = omega arith
    go false false true = omega arith
    go false false false = omega arith

row_small : (s : Station) (v : Visit) (a k : ℕ) → T (station_ok s) → arr v ≤ k → dep v ≤ k → a ≤ k → k ≤ 9999 → T (every small (row_numbers (row s v a)))
unfolding row_numbers row small every
row_small s v a k ok p q r h =
    rw (
      le-leb s.0 10000 (omega (arith, station_high s ok)),
      le-leb a 10000 (omega (arith, r, h)),
      le-leb (expected_departure v a) 10000 (omega (arith, h, departure_most v a k q r)),
      le-leb (mag (sub_ℕ a (arr v))) 10000 (omega (arith, h, late_small a (arr v) k r p)),
    ) tt

module _ (n : Network) (good : network_refusal n ≡ 0) (m : Timetable) (w : Whole n m) (t : Train) where
  -- a visit that is found stands at a listed station, and is good
  found_good : (s : Station) (v : Visit) → visit_of t (m s) ≡ Some v → T (listed n s) × GoodVisit n s v
  unfolding visit_of table_good visits_good entry_good empty first
  found_good s v q = by_value (listed n s) here bare
    where
      here : listed n s ≡ true → T (listed n s) × GoodVisit n s v
      here p =
          let l : T (listed n s) = true_T (listed n s) p in
          let all : T (table_good n s (m s)) = w.good s l in
          let each : T (every (entry_good n s) (m s).visits) = search parts in
          let (e, u, same) = first_good (entry_good n s) (λ e. same_train e.train t) (m s).visits v each q in
          (l, rw same at (visit_facts n s e.visit (and_r (train_ok e.train) (visit_good n s e.visit) u)))

      bare : listed n s ≡ false → T (listed n s) × GoodVisit n s v
      bare p =
          let b : m s ≡ empty = w.bare s (rw p tt) in
          let y : None ≡ Some v = sym (ap (λ (tab : Table). option_map (λ (e : Entry). e.visit) (first (λ e. same_train e.train t) tab.visits)) b) ∙ q in
          let z : ◌≡◌ {A = ℕ} 0 1 = cc in absurd (omega arith)

  module _ (j : ℕ) (low : j ≤ 15) (go_on : Station → ℕ → List Row) (later : (s : Station) (a : ℕ) → a ≤ 2879 + 241 * (j + 1) → T (every small (rows_numbers (go_on s a)))) where
    departure_small : (s : Station) (v : Visit) (d : ℕ) → T (every (out_good n s) (outs v)) → d ≤ 2880 + 241 * j → T (every small (rows_numbers (from_departure go_on m s t v d)))
    unfolding from_departure with_out outs out_good every rows_numbers flat_map
    departure_small s v d g h = go v.outward g
      where
        go : (l : OutLink) → T (every (out_good n s) (outs (with_out l v))) → T (every small (rows_numbers (from_departure go_on m s t (with_out l v) d)))
        go OutLink.Nothing u = tt
        go (OutLink.To o) u =
            let run : T (leb o.run 240) = search parts in
            by_value (out_answered s t o (m o.station))
            (λ e. rw e (later o.station (d + o.run) (omega (arith, h, leb→le o.run 240 run))))
            (λ e. rw e tt)

    found_small : (s : Station) (a : ℕ) → a ≤ 2879 + 241 * j → (o : Option Visit) → visit_of t (m s) ≡ o → T (every small (rows_numbers (from_found go_on m t s a o)))
    unfolding rows_numbers flat_map every
    found_small s a h None q = tt
    found_small s a h (Some v) q =
        let (l, g) = found_good s v q in
        let k : ℕ = 2879 + 241 * j in
        let p : arr v ≤ 2879 = leb→le (arr v) 2879 g.arrival in
        let r : dep v ≤ 2879 = leb→le (dep v) 2879 g.departure in
        let b : expected_arrival v a ≤ k = arrival_most v a k (omega (arith, p)) h in
        every_append small (row_numbers (row s v (expected_arrival v a))) (rows_numbers (from_departure go_on m s t v (expected_departure v (expected_arrival v a))))
        (row_small s v (expected_arrival v a) k (listed_ok n good s l) (omega (arith, p)) (omega (arith, r)) b (omega (arith, low)))
        (departure_small s v (expected_departure v (expected_arrival v a)) g.outward (omega (arith, departure_most v (expected_arrival v a) k (omega (arith, r)) b)))

  pub rows_small : (k j : ℕ) → k + j ≤ 16 → (s : Station) (a : ℕ) → a ≤ 2879 + 241 * j → T (every small (rows_numbers (from_arrival k m t s a)))
  unfolding from_arrival rows_numbers flat_map every
  rows_small zero j h s a q = tt
  rows_small (suc k) j h s a q =
      found_small j (omega arith) (from_arrival k m t) (λ s' a' q'. rows_small k (j + 1) (omega arith) s' a' q') s a q (visit_of t (m s)) refl
