-- A test that every finding of a rule at a station would pass, whatever its trains, is passed by every finding listed
-- there. So in a whole timetable both stations of every finding are listed: the station is one of the network's, and a
-- good link leads to a listed one. Assumes nothing.
use Prim.Native.Nat.{ℕ, suc, ◌+◌, ◌≤◌}
use mathlib.Core.Path.{◌≡◌, refl, sym, ◌∙◌}
use mathlib.Core.Bool.{Bool, true, false, not, ◌&&◌, ◌||◌}
use mathlib.Core.List.{List, [], ◌∷◌, flat_map}
use native.Mathlib.Omega.{arith}
use lib.Dec.{T, ltb, eqb}
use borrow.Author.Tests.{eqb-true}
use Rattle.base.specs.Lists.{every}
use Rattle.base.proofs.Tests.{and_l, and_r, both, parts}
use Rattle.base.proofs.Tests.{every_head, every_tail, every_append, every_all, every_true, every_each, every_flatMap, every_weaker}
use Rattle.railway.specs.declared.visit.Inward.{Inward}
use Rattle.railway.specs.declared.visit.Outward.{Outward}
use Rattle.railway.specs.declared.visit.Visit.{Visit}
use Rattle.railway.specs.declared.relation.Relation.{Relation}
use Rattle.network.specs.Networks.{stations_of, listed}
use Rattle.network.proofs.NetworkLaws.{stations_listed}
use Rattle.timetable.specs.Visits.{ins, outs}
use Rattle.timetable.specs.Tables.{Entry, Table}
use Rattle.timetable.specs.Machine.{Timetable}
use Rattle.timetable.specs.Groups.{Grouping, in_group}
use Rattle.timetable.specs.Good.{in_good, out_good, entry_good, table_good, Whole}
use Rattle.timetable.specs.Findings.{Spanning, finding, one, by_one, by_two, by_rank, by_out, by_in, Rule, of_one, of_two, of_relation, of_out, of_in, of_facing}
use Rattle.timetable.specs.Findings.{rules, found_by, found_by_all, at_station, spanning, between}
use Rattle.timetable.proofs.Partition.{spans}
use Rattle.timetable.proofs.TableLaws.{GoodVisit, visit_facts, table_facts}
use Rattle.theory.specs.Types.{Station, Network}

-- a finding at s with the far station p
abbrev pub spot : Station → Station → ℕ → ℕ → ℕ → Spanning
spot s p rule a b = record { far = p; found = record { station = s; rule = rule; first = a; second = b } }

-- a station is not in two groups, so a finding that reads one station is in no pair
pub apart : (γ : Grouping) (g h : ℕ) → ¬ (g ≡ h) → (s : Station) (k a c : ℕ) → T (not (between γ g h (spot s s k a c)))
unfolding between in_group
apart γ g h d s k a c = go (eqb g (γ s)) refl (eqb h (γ s)) refl (ltb 0 g) (ltb 0 h)
  where
    go : (x : Bool) → eqb g (γ s) ≡ x → (y : Bool) → eqb h (γ s) ≡ y → (u v : Bool) → T (not (((u && x) && (v && y)) || ((v && y) && (u && x))))
    go true p true q u v = absurd (d (eqb-true g (γ s) p ∙ sym (eqb-true h (γ s) q)))
    go true p false q true true = tt
    go true p false q true false = tt
    go true p false q false true = tt
    go true p false q false false = tt
    go false p true q true true = tt
    go false p true q true false = tt
    go false p true q false true = tt
    go false p true q false false = tt
    go false p false q true true = tt
    go false p false q true false = tt
    go false p false q false true = tt
    go false p false q false false = tt

-- both links lead to stations that pass the test
abbrev leads_in : (Station → Bool) → Entry → Bool
leads_in h e = every (λ i. h i.station) (ins e.visit)

abbrev leads_out : (Station → Bool) → Entry → Bool
leads_out h e = every (λ o. h o.station) (outs e.visit)

unfoldable pub leads : (Station → Bool) → Entry → Bool
leads h e = leads_in h e && leads_out h e

module _ (q : Spanning → Bool) where
  every_none : T (every q [])
  unfolding every
  every_none = tt

  pub every_one : (b : Bool) (s p : Station) (rule a c : ℕ) → T (q (spot s p rule a c)) → T (every q (one b p (finding s rule a c)))
  unfolding every one finding
  every_one true s p rule a c t = both (q (spot s p rule a c)) true t tt
  every_one false s p rule a c t = tt

  -- from each of a list, one finding or none
  pub every_ones : {B : Type 0} (f : B → Bool) (s p : Station) (rule : ℕ) (a c : B → ℕ) → ((b : B) → T (q (spot s p rule (a b) (c b))))
      → (bs : List B) → T (every q (flat_map (λ b. one (f b) p (finding s rule (a b) (c b))) bs))
  every_ones f s p rule a c h bs =
      every_each q _ (λ b. every_one (f b) s p rule (a b) (c b) (h b)) bs

  pub every_by_one : (rule : ℕ) (f : Entry → Bool) (second : Entry → ℕ) (s : Station) → ((a c : ℕ) → T (q (spot s s rule a c)))
      → (es : List Entry) → T (every q (by_one rule f second s es))
  unfolding by_one
  every_by_one rule f second s h es = every_ones f s s rule (λ t. t.train.0) second (λ t. h t.train.0 (second t)) es

  -- p holds of the visits
  pub every_by_two : (p : Entry → Bool) (rule : ℕ) (f : Visit → Visit → Bool) (s : Station)
      → ((t : Entry) → T (p t) → (c : ℕ) → T (q (spot s s rule t.train.0 c)))
      → (es : List Entry) → T (every p es) → T (every q (by_two rule f s es))
  unfolding by_two
  every_by_two p rule f s h [] v = every_none
  every_by_two p rule f s h (t ∷ us) v =
      every_append q _ (by_two rule f s us)
      (every_ones (λ u. f t.visit u.visit) s s rule (λ u. t.train.0) (λ u. u.train.0) (λ u. h t (every_head p t us v) u.train.0) us)
      (every_by_two p rule f s h us (every_tail p t us v))

  -- i is the rank of the first
  pub every_by_rank : (rule : ℕ) (f : Relation → Bool) (s : Station) (i : ℕ) → ((a : ℕ) → i ≤ a → T (q (spot s s rule a 0)))
      → (rs : List Relation) → T (every q (by_rank rule f s i rs))
  unfolding by_rank
  every_by_rank rule f s i h [] = every_none
  every_by_rank rule f s i h (r ∷ rs) =
      every_append q _ (by_rank rule f s (i + 1) rs) (every_one (f r) s s rule i 0 (h i (omega arith)))
      (every_by_rank rule f s (i + 1) (λ a g. h a (omega arith)) rs)

  -- h holds of the stations where the links lead
  module _ (h : Station → Bool) where
    pub every_by_out : (f : Table → Entry → Outward → List Spanning) → ((tab : Table) (t : Entry) (o : Outward) → T (h o.station) → T (every q (f tab t o)))
        → (m : Timetable) (es : List Entry) → T (every (leads h) es) → T (every q (by_out f m es))
    unfolding by_out leads
    every_by_out f g m es =
        every_flatMap q _ (leads h)
        (λ t u. every_flatMap q _ (λ o. h o.station) (λ o. g (m o.station) t o) (outs t.visit) (and_r (leads_in h t) (leads_out h t) u)) es

    pub every_by_in : (f : Table → Entry → Inward → List Spanning) → ((tab : Table) (t : Entry) (i : Inward) → T (h i.station) → T (every q (f tab t i)))
        → (m : Timetable) (es : List Entry) → T (every (leads h) es) → T (every q (by_in f m es))
    unfolding by_in leads
    every_by_in f g m es =
        every_flatMap q _ (leads h)
        (λ t u. every_flatMap q _ (λ i. h i.station) (λ i. g (m i.station) t i) (ins t.visit) (and_l (leads_in h t) (leads_out h t) u)) es

    -- the findings of a rule at s: of s itself, or of a far station where a link leads
    module _ (m : Timetable) (s : Station) (here : Table) (u : T (every (leads h) here.visits)) where
      pub every-found : (k : ℕ) → ((a c : ℕ) → T (q (spot s s k a c))) → ((p : Station) → T (h p) → (a c : ℕ) → T (q (spot s p k a c)))
          → (r : Rule) → T (every q (found_by m s here k r))
      unfolding found_by
      every-found k own far (of_one f second) = every_by_one k f second s own here.visits
      every-found k own far (of_two f) = every_by_two (λ t. true) k f s (λ t v. own t.train.0) here.visits (every_true here.visits)
      every-found k own far (of_relation f) = every_by_rank k f s 1 (λ a g. own a 0) here.relations
      every-found k own far (of_out f) = every_by_out _ (λ tab t o v. every_one _ s o.station k t.train.0 0 (far o.station v t.train.0 0)) m here.visits u
      every-found k own far (of_in f) = every_by_in _ (λ tab t i v. every_one _ s i.station k t.train.0 0 (far i.station v t.train.0 0)) m here.visits u
      every-found k own far (of_facing f) =
          every_by_out _ (λ tab t o v. every_ones _ s o.station k (λ w. t.train.0) (λ w. w.train.0) (λ w. far o.station v t.train.0 w.train.0) tab.visits) m here.visits u

      pub every_rule : ((k a c : ℕ) → T (q (spot s s k a c))) → ((p : Station) → T (h p) → (k a c : ℕ) → T (q (spot s p k a c)))
          → (k : ℕ) (rs : List Rule) → T (every q (found_by_all m s here k rs))
      unfolding found_by_all
      every_rule own far k [] = every_none
      every_rule own far k (r ∷ rs) =
          every_append q _ (found_by_all m s here (suc k) rs) (every-found k (own k) (λ p v. far p v k) r) (every_rule own far (suc k) rs)

-- links may lead anywhere
pub anywhere : (es : List Entry) → T (every (leads (λ k. true)) es)
unfolding leads
anywhere es =
    every_all (leads (λ k. true))
    (λ e. both (leads_in (λ k. true) e) (leads_out (λ k. true) e)
    (every_true (ins e.visit)) (every_true (outs e.visit))) es

in_listed : (n : Network) (s : Station) (i : Inward) → T (in_good n s i) → T (listed n i.station)
unfolding in_good
in_listed n s i t = search parts

out_listed : (n : Network) (s : Station) (o : Outward) → T (out_good n s o) → T (listed n o.station)
unfolding out_good
out_listed n s o t = search parts

-- where the good links of a station lead to stations that pass a test, those of its good visits do
module _ (n : Network) (s : Station) (h : Station → Bool) (in-leads : (i : Inward) → T (in_good n s i) → T (h i.station))
    (out-leads : (o : Outward) → T (out_good n s o) → T (h o.station)) where
  entry_leads : (e : Entry) → T (entry_good n s e) → T (leads h e)
  unfolding leads entry_good
  entry_leads e t =
      let good : GoodVisit n s e.visit = visit_facts n s e.visit (search parts) in
      both (leads_in h e) (leads_out h e)
      (every_weaker (in_good n s) (λ i. h i.station) in-leads (ins e.visit) good.inward)
      (every_weaker (out_good n s) (λ o. h o.station) out-leads (outs e.visit) good.outward)

  pub table_leads : (tab : Table) → T (table_good n s tab) → T (every (leads h) tab.visits)
  table_leads tab t = every_weaker (entry_good n s) (leads h) entry_leads tab.visits (table_facts n s tab t).visits.each

pub placed : (n : Network) (m : Timetable) → Whole n m → T (every (spans (listed n)) (spanning n m))
unfolding spanning at_station
placed n m w =
    every_flatMap (spans (listed n)) _ (listed n)
    (λ s t.
    every_rule (spans (listed n)) (listed n) m s (m s) (table_leads n s (listed n) (in_listed n s) (out_listed n s) (m s) (w.good s t))
    (λ k a c. both (listed n s) (listed n s) t t) (λ p u k a c. both (listed n s) (listed n p) t u) 1 (rules n s (m s)))
    (stations_of n) (stations_listed n)
