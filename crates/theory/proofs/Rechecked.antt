-- What an edit does not make stale is found as before. At a station that it names all is stale. Any other keeps its
-- table, and its links run on lines that join the far stations; so no far table is changed, or the station is beside a
-- named one, and what the rules that read far tables find there is stale. Assumes nothing.
use Prim.Native.Nat.{ℕ, suc}
use mathlib.Core.Path.{◌≡◌, refl, sym, ◌∙◌, ap, ap₂}
use mathlib.Core.Bool.{Bool, true, false, not, ◌&&◌}
use mathlib.Core.List.{List, [], ◌∷◌, ◌++◌, map, flat_map}
use lib.Dec.{T, T_not, not_T}
use Rattle.base.specs.Lists.{every, keep}
use Rattle.base.proofs.Tests.{by_test, by_value, and_l, and_r, both, or_l, or_r, or_cases, parts, any_weaker, every_weaker, flatMap_same, first_any}
use Rattle.base.proofs.Counts.{keep_two, keep_flatMap, keep_none, keep_swap, keep_map}
use Rattle.base.proofs.Sorted.{two_map, two_keep}
use Rattle.railway.specs.Ranges.{same_station, same_line}
use Rattle.railway.specs.declared.sorts.Line.{Line}
use Rattle.railway.specs.declared.visit.Inward.{Inward}
use Rattle.railway.specs.declared.visit.Outward.{Outward}
use Rattle.railway.specs.declared.visit.Visit.{Visit}
use Rattle.network.specs.declared.LineRow.{LineRow}
use Rattle.network.specs.Networks.{stations_of, listed, line_rows, line_row, way_open, row_runs, runs}
use Rattle.timetable.specs.Visits.{ins, outs}
use Rattle.timetable.specs.Tables.{Entry, Table, empty}
use Rattle.timetable.specs.Machine.{Timetable, meaning, after}
use Rattle.timetable.specs.Groups.{names}
use Rattle.timetable.specs.Good.{in_good, out_good, Whole}
use Rattle.timetable.specs.Findings.{Spanning, by_out, by_in, Rule, of_one, of_two, of_relation, of_out, of_in, of_facing}
use Rattle.timetable.specs.Findings.{is_far, rules, found_by, found_by_all, at_station, spanning, picked, findings, inside, group_findings}
use Rattle.timetable.specs.Recheck.{row_joins, joined, beside, redoes_all, redone_at, stale, before, together, updated}
use Rattle.timetable.proofs.Locality.{same_station_equal, others_kept, names_listed}
use Rattle.theory.specs.Types.{Station, Edit, Network, Finding}
use Rattle.theory.specs.Rechecks.{elsewhere, Rechecked, RecheckIsNew}
use Rattle.theory.proofs.Placed.{leads, anywhere, every-found, every_rule, table_leads}
use Rattle.theory.proofs.Reach.{own_part}
use Rattle.theory.proofs.Rising.{findings_rise}
use Rattle.theory.proofs.Kept.{after_whole}
use Rattle.theory.proofs.ListsTogether.{Rises, parts_together}

-- timetables that agree at stations that pass h, and a station whose links lead to such stations
module _ (h : Station → Bool) (m m' : Timetable) (agree : (k : Station) → T (h k) → m k ≡ m' k) (s : Station) (here : Table) (u : T (every (leads h) here.visits)) where
  linked_alike : {L : Type 0} (links : Visit → List L) (far : L → Station) → ((t : Entry) → T (leads h t) → T (every (λ l. h (far l)) (links t.visit)))
      → (f : Table → Entry → L → List Spanning)
      → flat_map (λ t. flat_map (λ l. f (m (far l)) t l) (links t.visit)) here.visits
      ≡ flat_map (λ t. flat_map (λ l. f (m' (far l)) t l) (links t.visit)) here.visits
  linked_alike links far lead f =
      flatMap_same _ _ (leads h)
      (λ t v. flatMap_same _ _ (λ l. h (far l)) (λ l w. ap (λ (tab : Table). f tab t l) (agree (far l) w)) (links t.visit) (lead t v)) here.visits u

  out_alike : (f : Table → Entry → Outward → List Spanning) → by_out f m here.visits ≡ by_out f m' here.visits
  unfolding by_out leads
  out_alike = linked_alike outs (λ o. o.station) (λ t v. search parts)

  in_alike : (f : Table → Entry → Inward → List Spanning) → by_in f m here.visits ≡ by_in f m' here.visits
  unfolding by_in leads
  in_alike = linked_alike ins (λ i. i.station) (λ t v. search parts)

  found_alike : (k : ℕ) (r : Rule) → found_by m s here k r ≡ found_by m' s here k r
  unfolding found_by
  found_alike k (of_one f second) = refl
  found_alike k (of_two f) = refl
  found_alike k (of_relation f) = refl
  found_alike k (of_out f) = out_alike _
  found_alike k (of_in f) = in_alike _
  found_alike k (of_facing f) = out_alike _

  rules_alike : (k : ℕ) (rs : List Rule) → found_by_all m s here k rs ≡ found_by_all m' s here k rs
  unfolding found_by_all
  rules_alike k [] = refl
  rules_alike k (r ∷ rs) = ap₂ ◌++◌ (found_alike k r) (rules_alike (suc k) rs)

-- rules that read a far table have the numbers 7 to 10

abbrev far_numbered : ℕ → Rule → Bool
far_numbered k (of_one f second) = true
far_numbered k (of_two f) = true
far_numbered k (of_relation f) = true
far_numbered k (of_out f) = is_far k
far_numbered k (of_in f) = is_far k
far_numbered k (of_facing f) = is_far k

numbered : ℕ → List Rule → Bool
numbered k [] = true
numbered k (r ∷ rs) = far_numbered k r && numbered (suc k) rs

rules_numbered : (n : Network) (s : Station) (here : Table) → T (numbered 1 (rules n s here))
unfolding numbered rules is_far
rules_numbered n s here = tt

-- a line that runs joins its ends, either way

row_joined : (r : LineRow) (a b : Station) → T (row_runs r a b) → T (row_joins r a b)
unfolding row_runs way_open row_joins
row_joined r a b t =
    or_cases (way_open r.kind 2 r.first a r.second b) (way_open r.kind 1 r.second a r.first b) t
    (λ v. or_l (same_station r.first a && same_station r.second b) _ (search parts))
    (λ v. or_r (same_station r.first a && same_station r.second b) _ (search parts))

row_turned : (r : LineRow) (a b : Station) → T (row_joins r a b) → T (row_joins r b a)
unfolding row_joins
row_turned r a b t =
    or_cases (same_station r.first a && same_station r.second b) (same_station r.second a && same_station r.first b) t
    (λ v. or_r (same_station r.first b && same_station r.second a) _ (search (parts, both)))
    (λ v. or_l (same_station r.first b && same_station r.second a) _ (search (parts, both)))

runs_joins : (n : Network) (l : Line) (a b : Station) → T (runs n l a b) → T (joined n a b)
unfolding runs line_row joined
runs_joins n l a b t =
    any_weaker (λ r. row_runs r a b) (λ r. row_joins r a b) (λ r. row_joined r a b) (line_rows n)
    (first_any (λ r. same_line r.line l) (λ r. row_runs r a b) (line_rows n) t)

joined_turned : (n : Network) (a b : Station) → T (joined n a b) → T (joined n b a)
unfolding joined
joined_turned n a b = any_weaker (λ r. row_joins r a b) (λ r. row_joins r b a) (λ r. row_turned r a b) (line_rows n)

module _ (n : Network) (e : Edit) where
  -- the stations that the edit does not name
  abbrev other : Station → Bool
  other k = not (names n e k)

  beside_named : (s k : Station) → T (joined n k s) → T (names n e k) → T (beside n e s)
  unfolding beside listed
  beside_named s k j t =
      any_weaker (same_station k) (λ q. names n e q && joined n q s)
      (λ q u. rw (sym (same_station_equal k q u)) (both (names n e k) (joined n k s) t j))
      (stations_of n) (names_listed n e k t)

  -- the links at a station that is beside no named one lead to others
  links_other : (m : Timetable) → Whole n m → (s : Station) → ¬ T (beside n e s) → T (every (leads other) (m s).visits)
  unfolding in_good out_good empty every
  links_other m w s u =
      by_value (listed n s)
      (λ q.
      table_leads n s other
      (λ i t. away i.station (runs_joins n i.line i.station s (search parts)))
      (λ o t. away o.station (joined_turned n s o.station (runs_joins n o.line s o.station (search parts))))
      (m s) (w.good s (rw q tt)))
      (λ q. rw (w.bare s (rw q tt)) tt)
    where
      away : (k : Station) → T (joined n k s) → T (other k)
      away k j = not_T (names n e k) (λ t. u (beside_named s k j t))

  -- what is stale

  abbrev gone : Spanning → Bool
  gone x = stale n e x.found

  abbrev stays : Spanning → Bool
  stays x = not (gone x)

  keep_gone : (xs : List Spanning) → T (every gone xs) → keep stays xs ≡ []
  keep_gone xs t = keep_none stays xs (every_weaker gone (λ x. not (stays x)) (λ x. twice (gone x)) xs t)
    where
      twice : (b : Bool) → T b → T (not (not b))
      twice true t = t
      twice false t = t

  named_gone : (s : Station) → T (names n e s) → (k : ℕ) → T (redone_at n e s k)
  unfolding redone_at
  named_gone s t k = or_r (redoes_all (meaning e)) _ (or_l (names n e s) _ t)

  far_gone : (s : Station) → T (beside n e s) → (k : ℕ) → T (is_far k) → T (redone_at n e s k)
  unfolding redone_at
  far_gone s t k f = or_r (redoes_all (meaning e)) _ (or_r (names n e s) _ (both (is_far k) (beside n e s) f t))

  -- nothing stays at a station that is named
  none_stays : (m : Timetable) (s : Station) (here : Table) → T (names n e s) → keep stays (at_station n m s here) ≡ []
  unfolding at_station stale
  none_stays m s here t =
      keep_gone (found_by_all m s here 1 (rules n s here))
      (every_rule gone (λ p. true) m s here (anywhere here.visits) (λ k a c. named_gone s t k) (λ p u k a c. named_gone s t k) 1 (rules n s here))

  -- beside one that is named, what stays is found by rules that read one table
  module _ (m m' : Timetable) (s : Station) (here : Table) (t : T (beside n e s)) where
    none_far : (m'' : Timetable) (k : ℕ) → T (is_far k) → (r : Rule) → keep stays (found_by m'' s here k r) ≡ []
    unfolding stale
    none_far m'' k f r =
        keep_gone (found_by m'' s here k r)
        (every-found gone (λ p. true) m'' s here (anywhere here.visits) k (λ a c. far_gone s t k f) (λ p u a c. far_gone s t k f) r)

    same_far : (k : ℕ) → T (is_far k) → (r : Rule) → keep stays (found_by m s here k r) ≡ keep stays (found_by m' s here k r)
    same_far k f r = none_far m k f r ∙ sym (none_far m' k f r)

    same_found : (k : ℕ) (r : Rule) → T (far_numbered k r) → keep stays (found_by m s here k r) ≡ keep stays (found_by m' s here k r)
    unfolding found_by
    same_found k (of_one f second) u = refl
    same_found k (of_two f) u = refl
    same_found k (of_relation f) u = refl
    same_found k (of_out f) u = same_far k u (of_out f)
    same_found k (of_in f) u = same_far k u (of_in f)
    same_found k (of_facing f) u = same_far k u (of_facing f)

    same_rules : (k : ℕ) (rs : List Rule) → T (numbered k rs) → keep stays (found_by_all m s here k rs) ≡ keep stays (found_by_all m' s here k rs)
    unfolding found_by_all numbered
    same_rules k [] u = refl
    same_rules k (r ∷ rs) u =
        keep_two stays _ _ _ _ (same_found k r (and_l (far_numbered k r) (numbered (suc k) rs) u))
        (same_rules (suc k) rs (and_r (far_numbered k r) (numbered (suc k) rs) u))

  module _ (m : Timetable) (w : Whole n m) where
    unnamed_kept : (k : Station) → T (other k) → after n e m k ≡ m k
    unnamed_kept k t = others_kept n e m k (T_not (names n e k) t)

    same_at : (s : Station) → keep stays (at_station n (after n e m) s (after n e m s)) ≡ keep stays (at_station n m s (m s))
    unfolding at_station
    same_at s =
        by_test (names n e s)
        (λ t. none_stays (after n e m) s (after n e m s) t ∙ sym (none_stays m s (m s) t))
        (λ u. rw (others_kept n e m s u)
        (by_test (beside n e s)
        (λ t. same_rules (after n e m) m s (m s) t 1 (rules n s (m s)) (rules_numbered n s (m s)))
        (λ v. ap (keep stays) (rules_alike other (after n e m) m unnamed_kept s (m s) (links_other m w s v) 1 (rules n s (m s))))))

    same_kept : keep stays (spanning n (after n e m)) ≡ keep stays (spanning n m)
    unfolding spanning
    same_kept = keep_flatMap stays _ _ same_at (stations_of n)

-- a list that rises, and stays what it was elsewhere
rechecked : (n : Network) (e : Edit) (old new : List Finding) → elsewhere n e new ≡ elsewhere n e old → Rises new → Rechecked n e old new
unfolding updated elsewhere
rechecked n e old new s o = record {
  same_list = ap (λ (fs : List Finding). together fs (keep (stale n e) new)) (sym s) ∙ parts_together (stale n e) new o;
  same_elsewhere = s;
}

-- what lists of findings with their far stations tell elsewhere, and what is left of their order where some are picked
module _ (n : Network) (e : Edit) where
  told_elsewhere : (xs ys : List Spanning) → keep (stays n e) xs ≡ keep (stays n e) ys → elsewhere n e (map (λ x. x.found) xs) ≡ elsewhere n e (map (λ x. x.found) ys)
  unfolding elsewhere
  told_elsewhere xs ys s = told xs ∙ ap (map (λ (x : Spanning). x.found)) s ∙ sym (told ys)
    where
      told : (zs : List Spanning) → keep (λ f. not (stale n e f)) (map (λ x. x.found) zs) ≡ map (λ x. x.found) (keep (stays n e) zs)
      told = keep_map (λ f. not (stale n e f)) (λ x. x.found)

  picked_elsewhere : (q : Spanning → Bool) (xs ys : List Spanning) → keep (stays n e) xs ≡ keep (stays n e) ys → elsewhere n e (picked q xs) ≡ elsewhere n e (picked q ys)
  unfolding picked
  picked_elsewhere q xs ys s =
      told_elsewhere (keep q xs) (keep q ys) (keep_swap (stays n e) q xs ∙ ap (keep q) s ∙ sym (keep_swap (stays n e) q ys))

pub picked_rises : (q : Spanning → Bool) (xs : List Spanning) → Rises (map (λ x. x.found) xs) → Rises (picked q xs)
unfolding picked
picked_rises q xs o =
    rw (two_map before (λ x. x.found) (keep q xs))
    (two_keep (λ x y. before x.found y.found) q xs (rw (two_map before (λ (x : Spanning). x.found) xs) at o))

pub recheck_is_new : RecheckIsNew
unfolding findings group_findings
recheck_is_new n good γ gs G m w e = record {
  whole = rechecked n e (findings n m) (findings n (after n e m)) (told_elsewhere n e _ _ (same_kept n e m w)) rises;
  group = λ g.
      rw (own_part n γ m g, own_part n γ (after n e m) g)
      (rechecked n e _ _ (picked_elsewhere n e (inside γ g) _ _ (same_kept n e m w)) (picked_rises (inside γ g) _ rises));
}
  where
    rises : Rises (findings n (after n e m))
    rises = findings_rise n good (after n e m) (after_whole n m e w)
