-- The findings of a whole timetable rise strictly by their four numbers. A list put together of pieces rises if the
-- pieces are in the order of a number that all elements of a piece have, and each piece rises by the numbers behind it:
-- so for station, rule, first and second in turn, since stations, trains and ranks rise. Assumes nothing.
use Prim.Native.Nat.{ℕ, suc, ◌+◌, ◌≤◌}
use mathlib.Core.Bool.{Bool, true, false, ◌&&◌, ◌||◌}
use mathlib.Core.List.{List, [], ◌∷◌, ◌++◌, flat_map, append-nil}
use native.Mathlib.Omega.{arith}
use lib.Dec.{T, ltb, leb, eqb, eqb_refl, eqb→eq, ltb→lt, leb→le, lt→ltb, le→leb, lit≤}
use lib.ListN.{length}
use Rattle.base.specs.Lists.{every, each_two, below}
use Rattle.base.proofs.Tests.{and_l, and_r, both, or_l, or_r, by_value}
use Rattle.base.proofs.Tests.{every_append, every_each, every_flatMap, every_weaker, every_both}
use Rattle.base.proofs.Sorted.{two_head, two_tail, two_map, two_append, two_weaker}
use Rattle.railway.specs.declared.visit.Inward.{Inward}
use Rattle.railway.specs.declared.visit.Outward.{Outward}
use Rattle.railway.specs.declared.visit.InLink.{InLink}
use Rattle.railway.specs.declared.visit.OutLink.{OutLink}
use Rattle.railway.specs.declared.visit.Visit.{Visit}
use Rattle.railway.specs.declared.relation.Relation.{Relation}
use Rattle.network.specs.Networks.{stations_of, listed}
use Rattle.network.proofs.NetworkLaws.{network_facts}
use Rattle.timetable.specs.Visits.{ins, outs}
use Rattle.timetable.specs.Tables.{Entry, Table, empty}
use Rattle.timetable.specs.Machine.{Timetable}
use Rattle.timetable.specs.Good.{Whole}
use Rattle.timetable.specs.Findings.{Spanning, finding, one, by_one, by_two, by_rank, by_out, by_in, Rule, of_one, of_two, of_relation, of_out, of_in, of_facing}
use Rattle.timetable.specs.Findings.{rules, found_by, found_by_all, at_station, spanning, findings, numbers}
use Rattle.timetable.proofs.TableLaws.{table_facts}
use Rattle.theory.specs.Types.{Station, Network, Finding}
use Rattle.theory.specs.Statements.{GoodNetwork}
use Rattle.theory.proofs.Placed.{spot, anywhere, every_one, every_ones, every_by_two, every_by_rank, every-found, every_rule}

-- the number of x is j
abbrev has : {A : Type 0} → (A → ℕ) → ℕ → A → Bool
has κ j x = eqb (κ x) j

-- by the number first, then by the order r
unfoldable pub then_by : {A : Type 0} → (A → ℕ) → (A → A → Bool) → A → A → Bool
then_by κ r x y = ltb (κ x) (κ y) || (eqb (κ x) (κ y) && r x y)

module _ {A : Type 0} (κ : A → ℕ) (r : A → A → Bool) where
  none : T (each_two (then_by κ r) [])
  unfolding each_two
  none = tt

  -- elements that all have the number j
  level : (j : ℕ) (xs : List A) → T (every (has κ j) xs) → T (each_two r xs) → T (each_two (then_by κ r) xs)
  unfolding then_by
  level j xs =
      two_weaker r (then_by κ r) (has κ j)
      (λ x y t u v. or_r (ltb (κ x) (κ y)) (eqb (κ x) (κ y) && r x y)
      (both (eqb (κ x) (κ y)) (r x y) (rw (eqb→eq (κ x) j t, eqb→eq (κ y) j u) (eqb_refl j)) v)) xs

  -- elements with numbers below j before those with j or more
  join : (j : ℕ) (xs ys : List A) → T (every (λ x. ltb (κ x) j) xs) → T (every (λ y. leb j (κ y)) ys)
      → T (each_two (then_by κ r) xs) → T (each_two (then_by κ r) ys) → T (each_two (then_by κ r) (xs ++ ys))
  unfolding then_by
  join j xs ys t u v w =
      two_append (then_by κ r) (λ x. ltb (κ x) j) (λ y. leb j (κ y))
      (λ x y a b. or_l (ltb (κ x) (κ y)) (eqb (κ x) (κ y) && r x y) (lt→ltb (κ x) (κ y) (omega (arith, ltb→lt (κ x) j a, leb→le j (κ y) b)))) xs ys v w t u

  all_below : (j : ℕ) (xs : List A) → T (every (has κ j) xs) → T (every (λ x. ltb (κ x) (suc j)) xs)
  all_below j = every_weaker (has κ j) (λ x. ltb (κ x) (suc j)) (λ x t. lt→ltb (κ x) (suc j) (omega (arith, eqb→eq (κ x) j t)))

  all_from : (i j : ℕ) → i ≤ j → (xs : List A) → T (every (has κ j) xs) → T (every (λ x. leb i (κ x)) xs)
  all_from i j h = every_weaker (has κ j) (λ x. leb i (κ x)) (λ x t. le→leb i (κ x) (omega (arith, eqb→eq (κ x) j t)))

  -- pieces in the order of their numbers
  flat : {B : Type 0} (key : B → ℕ) (f : B → List A) → ((b : B) → T (every (has κ (key b)) (f b))) → ((b : B) → T (each_two r (f b)))
      → (bs : List B) → T (each_two (λ b c. ltb (key b) (key c)) bs) → T (each_two (then_by κ r) (flat_map f bs))
  unfolding flat_map
  flat key f same rises [] t = none
  flat key f same rises (b ∷ bs) t =
      join (suc (key b)) (f b) (flat_map f bs) (all_below (key b) (f b) (same b))
      (every_flatMap (λ x. leb (suc (key b)) (κ x)) f (λ c. ltb (key b) (key c))
      (λ c u. all_from (suc (key b)) (key c) (ltb→lt (key b) (key c) u) (f c) (same c)) bs (two_head (λ c d. ltb (key c) (key d)) b bs t))
      (level (key b) (f b) (same b) (rises b))
      (flat key f same rises bs (two_tail (λ c d. ltb (key c) (key d)) b bs t))

-- pieces by their ranges of numbers: all of xs have numbers from lo to below hi, and rise
record Ranged {A : Type 0} (κ : A → ℕ) (r : A → A → Bool) (lo hi : ℕ) (xs : List A) : Type 0 where
  rises : T (each_two (then_by κ r) xs)
  ranged : T (every (λ x. leb lo (κ x) && ltb (κ x) hi) xs)

module _ {A : Type 0} (κ : A → ℕ) (r : A → A → Bool) where
  ranged_one : (j : ℕ) (xs : List A) → T (every (has κ j) xs) → T (each_two r xs) → Ranged κ r j (suc j) xs
  ranged_one j xs t u = record {
    rises = level κ r j xs t u;
    ranged = every_both (λ x. leb j (κ x)) (λ x. ltb (κ x) (suc j)) xs (all_from κ r j j (omega arith) xs t) (all_below κ r j xs t);
  }

  ranged_append : (lo mid hi : ℕ) → lo ≤ mid → mid ≤ hi → (xs ys : List A) → Ranged κ r lo mid xs → Ranged κ r mid hi ys → Ranged κ r lo hi (xs ++ ys)
  ranged_append lo mid hi g h xs ys p q = record {
    rises =
        join κ r mid xs ys
        (every_weaker (λ x. leb lo (κ x) && ltb (κ x) mid) (λ x. ltb (κ x) mid) (λ x. and_r (leb lo (κ x)) (ltb (κ x) mid)) xs p.ranged)
        (every_weaker (λ x. leb mid (κ x) && ltb (κ x) hi) (λ x. leb mid (κ x)) (λ x. and_l (leb mid (κ x)) (ltb (κ x) hi)) ys q.ranged)
        p.rises q.rises;
    ranged =
        every_append (λ x. leb lo (κ x) && ltb (κ x) hi) xs ys
        (every_weaker (λ x. leb lo (κ x) && ltb (κ x) mid) (λ x. leb lo (κ x) && ltb (κ x) hi) (λ x. wide x lo mid lo hi (omega arith) h) xs p.ranged)
        (every_weaker (λ x. leb mid (κ x) && ltb (κ x) hi) (λ x. leb lo (κ x) && ltb (κ x) hi) (λ x. wide x mid hi lo hi g (omega arith)) ys q.ranged);
  }
    where
      wide : (x : A) (a b c d : ℕ) → c ≤ a → b ≤ d → T (leb a (κ x) && ltb (κ x) b) → T (leb c (κ x) && ltb (κ x) d)
      wide x a b c d u v t =
          both (leb c (κ x)) (ltb (κ x) d)
          (le→leb c (κ x) (omega (arith, leb→le a (κ x) (and_l (leb a (κ x)) (ltb (κ x) b) t))))
          (lt→ltb (κ x) d (omega (arith, ltb→lt (κ x) b (and_r (leb a (κ x)) (ltb (κ x) b) t))))

-- the four numbers of a finding, from the last to the first

abbrev second : Spanning → ℕ
second x = x.found.second

abbrev first : Spanning → ℕ
first x = x.found.first

abbrev rule : Spanning → ℕ
rule x = x.found.rule

abbrev station : Spanning → ℕ
station x = x.found.station.0

abbrev by_second : Spanning → Spanning → Bool
by_second = then_by second (λ x y. false)

abbrev by_first : Spanning → Spanning → Bool
by_first = then_by first by_second

abbrev by_rule : Spanning → Spanning → Bool
by_rule = then_by rule by_first

abbrev by_station : Spanning → Spanning → Bool
by_station = then_by station by_rule

-- visits in the order of their trains
abbrev TrainsRise : List Entry → Type 0
TrainsRise es = T (each_two (λ t u. ltb t.train.0 u.train.0) es)

one_rises : (r : Spanning → Spanning → Bool) (b : Bool) (p : Station) (f : Finding) → T (each_two r (one b p f))
unfolding one each_two every
one_rises r true p f = tt
one_rises r false p f = tt

-- one finding or none for each visit u, with u as second
seconds_rise : (f : Entry → Bool) (s p : Station) (k a : ℕ) (us : List Entry) → TrainsRise us
    → T (each_two by_second (flat_map (λ u. one (f u) p (finding s k a u.train.0)) us))
seconds_rise f s p k a =
    flat second (λ x y. false) (λ u. u.train.0) (λ u. one (f u) p (finding s k a u.train.0))
    (λ u. every_one (has second u.train.0) (f u) s p k a u.train.0 (eqb_refl u.train.0))
    (λ u. one_rises (λ x y. false) (f u) p (finding s k a u.train.0))

by_one_rises : (k : ℕ) (f : Entry → Bool) (second' : Entry → ℕ) (s : Station) (es : List Entry) → TrainsRise es → T (each_two by_first (by_one k f second' s es))
unfolding by_one
by_one_rises k f second' s =
    flat first by_second (λ t. t.train.0) (λ t. one (f t) s (finding s k t.train.0 (second' t)))
    (λ t. every_one (has first t.train.0) (f t) s s k t.train.0 (second' t) (eqb_refl t.train.0))
    (λ t. one_rises by_second (f t) s (finding s k t.train.0 (second' t)))

by_two_rises : (k : ℕ) (f : Visit → Visit → Bool) (s : Station) (es : List Entry) → TrainsRise es → T (each_two by_first (by_two k f s es))
unfolding by_two
by_two_rises k f s [] h = none first by_second
by_two_rises k f s (t ∷ us) h =
    let rest : TrainsRise us = two_tail (λ u w. ltb u.train.0 w.train.0) t us h in
    let same : T (every (has first t.train.0) (flat_map (λ u. one (f t.visit u.visit) s (finding s k t.train.0 u.train.0)) us)) =
    every_ones (has first t.train.0) (λ u. f t.visit u.visit) s s k (λ u. t.train.0) (λ u. u.train.0) (λ u. eqb_refl t.train.0) us in
    join first by_second (suc t.train.0) _ (by_two k f s us)
    (all_below first by_second t.train.0 _ same)
    (every_by_two (λ x. leb (suc t.train.0) (first x)) (λ u. ltb t.train.0 u.train.0) k f s (λ u v c. v) us
    (two_head (λ u w. ltb u.train.0 w.train.0) t us h))
    (level first by_second t.train.0 _ same (seconds_rise (λ u. f t.visit u.visit) s s k t.train.0 us rest))
    (by_two_rises k f s us rest)

by_rank_rises : (k : ℕ) (f : Relation → Bool) (s : Station) (i : ℕ) (rs : List Relation) → T (each_two by_first (by_rank k f s i rs))
unfolding by_rank
by_rank_rises k f s i [] = none first by_second
by_rank_rises k f s i (r ∷ rs) =
    join first by_second (suc i) (one (f r) s (finding s k i 0)) (by_rank k f s (i + 1) rs)
    (every_one (λ x. ltb (first x) (suc i)) (f r) s s k i 0 (lt→ltb i (suc i) (omega arith)))
    (every_by_rank (λ x. leb (suc i) (first x)) k f s (i + 1) (λ a h. le→leb (suc i) a (omega arith)) rs)
    (one_rises by_first (f r) s (finding s k i 0))
    (by_rank_rises k f s (i + 1) rs)

-- a visit has one link or none of each kind

outs_few : (v : Visit) → length (outs v) ≤ 1
unfolding outs
outs_few v = go v.outward
  where
    go : (l : OutLink) → length {A = Outward} (elim l [ OutLink.Nothing ↦ [] | OutLink.To o ↦ o ∷ [] ]) ≤ 1
    go OutLink.Nothing = lit≤ tt
    go (OutLink.To o) = lit≤ tt

ins_few : (v : Visit) → length (ins v) ≤ 1
unfolding ins
ins_few v = go v.inward
  where
    go : (l : InLink) → length {A = Inward} (elim l [ InLink.Nothing ↦ [] | InLink.From i ↦ i ∷ [] ]) ≤ 1
    go InLink.Nothing = lit≤ tt
    go (InLink.From i) = lit≤ tt

few_rise : (r : Spanning → Spanning → Bool) {L : Type 0} (f : L → List Spanning) → ((l : L) → T (each_two r (f l)))
    → (ls : List L) → length ls ≤ 1 → T (each_two r (flat_map f ls))
unfolding flat_map each_two
few_rise r f h [] few = tt
few_rise r f h (l ∷ []) few = rw (append-nil (f l)) (h l)
few_rise r f h (l ∷ k ∷ ls) few = absurd (omega arith)

-- at one station: each rule's list rises, and all of it has the rule's number

step : (k hi : ℕ) → suc k ≤ hi → {xs ys : List Spanning}
    → Ranged rule by_first k (suc k) xs → Ranged rule by_first (suc k) hi ys → Ranged rule by_first k hi (xs ++ ys)
step k hi g p q = ranged_append rule by_first k (suc k) hi (omega arith) g _ _ p q

module _ (m : Timetable) (rise : (k : Station) → TrainsRise (m k).visits) (s : Station) (here : Table) (h : TrainsRise here.visits) where
  -- a rule over the links of the visits, of which each has one or none
  linked : {L : Type 0} (links : Visit → List L) → ((v : Visit) → length (links v) ≤ 1) → (far : L → Station) (k : ℕ) (f : Entry → L → List Spanning)
      → ((q : Spanning → Bool) (t : Entry) (l : L) → ((c : ℕ) → T (q (spot s (far l) k t.train.0 c))) → T (every q (f t l)))
      → ((t : Entry) (l : L) → T (each_two by_second (f t l)))
      → T (each_two by_first (flat_map (λ t. flat_map (f t) (links t.visit)) here.visits))
  linked links few far k f all rises =
      flat first by_second (λ t. t.train.0) (λ t. flat_map (f t) (links t.visit))
      (λ t. every_each (has first t.train.0) (f t) (λ l. all (has first t.train.0) t l (λ c. eqb_refl t.train.0)) (links t.visit))
      (λ t. few_rise by_second (f t) (rises t) (links t.visit) (few t.visit)) here.visits h

  found_rises : (k : ℕ) (r : Rule) → T (each_two by_first (found_by m s here k r))
  unfolding found_by by_out by_in
  found_rises k (of_one f second') = by_one_rises k f second' s here.visits h
  found_rises k (of_two f) = by_two_rises k f s here.visits h
  found_rises k (of_relation f) = by_rank_rises k f s 1 here.relations
  found_rises k (of_out f) =
      linked outs outs_few (λ o. o.station) k _ (λ q t o g. every_one q _ s o.station k t.train.0 0 (g 0)) (λ t o. one_rises by_second _ o.station _)
  found_rises k (of_in f) =
      linked ins ins_few (λ i. i.station) k _ (λ q t i g. every_one q _ s i.station k t.train.0 0 (g 0)) (λ t i. one_rises by_second _ i.station _)
  found_rises k (of_facing f) =
      linked outs outs_few (λ o. o.station) k _
      (λ q t o g. every_ones q _ s o.station k (λ u. t.train.0) (λ u. u.train.0) (λ u. g u.train.0) (m o.station).visits)
      (λ t o. seconds_rise _ s o.station k t.train.0 (m o.station).visits (rise o.station))

  found_ranged : (k : ℕ) (r : Rule) → Ranged rule by_first k (suc k) (found_by m s here k r)
  found_ranged k r =
      ranged_one rule by_first k (found_by m s here k r)
      (every-found (has rule k) (λ p. true) m s here (anywhere here.visits) k (λ a c. eqb_refl k) (λ p v a c. eqb_refl k) r) (found_rises k r)

  rules_ranged : (k hi : ℕ) (rs : List Rule) → k + length rs ≤ hi → Ranged rule by_first k hi (found_by_all m s here k rs)
  unfolding found_by_all every
  rules_ranged k hi [] g = record { rises = none rule by_first; ranged = tt }
  rules_ranged k hi (r ∷ rs) g = step k hi (omega arith) (found_ranged k r) (rules_ranged (suc k) hi rs (omega arith))

-- in a whole timetable the trains of every station rise

empty_rise : TrainsRise empty.visits
unfolding empty each_two
empty_rise = tt

trains_rise : (n : Network) (m : Timetable) → Whole n m → (k : Station) → TrainsRise (m k).visits
trains_rise n m w k =
    by_value (listed n k) (λ e. (table_facts n k (m k) (w.good k (rw e tt))).visits.order) (λ e. rw (w.bare k (rw e tt)) empty_rise)

spanning_rises : (n : Network) → GoodNetwork n → (m : Timetable) → Whole n m → T (each_two by_station (spanning n m))
unfolding spanning at_station
spanning_rises n good m w =
    flat station by_rule (λ s. s.0) (λ s. found_by_all m s (m s) 1 (rules n s (m s)))
    (λ s. every_rule (has station s.0) (λ p. true) m s (m s) (anywhere (m s).visits) (λ k a c. eqb_refl s.0) (λ p u k a c. eqb_refl s.0) 1 (rules n s (m s)))
    (λ s. (rules_ranged m (trains_rise n m w) s (m s) (trains_rise n m w s) 1 (1 + length (rules n s (m s))) (rules n s (m s)) (omega arith)).rises)
    (stations_of n) (network_facts n good).stations_rise

-- "listed rising", strictly
pub findings_rise : (n : Network) → GoodNetwork n → (m : Timetable) → Whole n m → T (each_two (λ f g. below (numbers f) (numbers g)) (findings n m))
unfolding findings then_by below
findings_rise n good m w =
    rw (two_map (λ f g. below (numbers f) (numbers g)) (λ x. x.found) (spanning n m)) (spanning_rises n good m w)
