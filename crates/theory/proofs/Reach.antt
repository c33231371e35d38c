-- A group's findings, and those of two groups, are read off the tables of those groups alone: what is kept at a station
-- with a far station reads only these two tables, and both stations are in the groups. So the lists formed from the
-- parts of a division are those of the whole timetable. Assumes nothing.
use Prim.Native.Nat.{ℕ, suc}
use mathlib.Core.Path.{◌≡◌, refl, sym, ◌∙◌, ap}
use mathlib.Core.Bool.{Bool, true, false, not, ◌&&◌, ◌||◌}
use mathlib.Core.List.{List, [], ◌∷◌, map}
use lib.Dec.{T, eqb, ltb, eqb_refl, eqb→eq, not_T}
use Rattle.std.specs.Prelude.{if◌then◌else◌}
use Rattle.base.specs.Lists.{every, keep}
use Rattle.base.proofs.Tests.{and_l, and_r, or_l, or_r, or_cases, by_test, by_value, if_yes}
use Rattle.base.proofs.Counts.{keep_two, keep_flatMap, keep_none}
use Rattle.railway.specs.declared.visit.Inward.{Inward}
use Rattle.railway.specs.declared.visit.Outward.{Outward}
use Rattle.network.specs.Networks.{stations_of}
use Rattle.timetable.specs.Visits.{ins, outs}
use Rattle.timetable.specs.Tables.{Entry, Table, empty}
use Rattle.timetable.specs.Machine.{Timetable}
use Rattle.timetable.specs.Groups.{Grouping, in_group, divide, merge, gather}
use Rattle.timetable.specs.Findings.{Spanning, by_out, by_in, Rule, of_one, of_two, of_relation, of_out, of_in, of_facing, rules, found_by, found_by_all, at_station, spanning, picked}
use Rattle.timetable.specs.Findings.{inside, group_findings, between, pair_findings, own_list, pair_list}
use Rattle.theory.specs.Types.{Station, Network}
use Rattle.theory.proofs.Placed.{anywhere, every_one, every_ones, every_rule}

-- g s p says whether findings at s with the far station p are kept; h says which stations are read: both ends of what
-- is kept. There the timetables agree
module _ (g : Station → Station → Bool) (h : Station → Bool) (near : (s p : Station) → T (g s p) → T (h s)) (away : (s p : Station) → T (g s p) → T (h p))
    (m m' : Timetable) (agree : (k : Station) → T (h k) → m k ≡ m' k) where
  abbrev kept : Spanning → Bool
  kept x = g x.found.station x.far

  abbrev left_out : Spanning → Bool
  left_out x = not (kept x)

  -- a list of the table at p, whose findings are at s with the far station p
  same_far : (s p : Station) (f : Table → List Spanning) → (T (not (g s p)) → (tab : Table) → T (every left_out (f tab)))
      → keep kept (f (m p)) ≡ keep kept (f (m' p))
  same_far s p f none =
      by_value (g s p)
      (λ e. rw (agree p (away s p (rw e tt))))
      (λ e. keep_none kept (f (m p)) (none (rw e tt) (m p)) ∙ sym (keep_none kept (f (m' p)) (none (rw e tt) (m' p))))

  same_by_out : (s : Station) (f : Table → Entry → Outward → List Spanning)
      → ((tab : Table) (t : Entry) (o : Outward) → T (not (g s o.station)) → T (every left_out (f tab t o)))
      → (es : List Entry) → keep kept (by_out f m es) ≡ keep kept (by_out f m' es)
  unfolding by_out
  same_by_out s f none es =
      keep_flatMap kept _ _ (λ t. keep_flatMap kept _ _ (λ o. same_far s o.station (λ tab. f tab t o) (λ u tab. none tab t o u)) (outs t.visit)) es

  same_by_in : (s : Station) (f : Table → Entry → Inward → List Spanning)
      → ((tab : Table) (t : Entry) (i : Inward) → T (not (g s i.station)) → T (every left_out (f tab t i)))
      → (es : List Entry) → keep kept (by_in f m es) ≡ keep kept (by_in f m' es)
  unfolding by_in
  same_by_in s f none es =
      keep_flatMap kept _ _ (λ t. keep_flatMap kept _ _ (λ i. same_far s i.station (λ tab. f tab t i) (λ u tab. none tab t i u)) (ins t.visit)) es

  same_found : (s : Station) (here : Table) (k : ℕ) (r : Rule) → keep kept (found_by m s here k r) ≡ keep kept (found_by m' s here k r)
  unfolding found_by
  same_found s here k (of_one f second) = refl
  same_found s here k (of_two f) = refl
  same_found s here k (of_relation f) = refl
  same_found s here k (of_out f) = same_by_out s _ (λ tab t o u. every_one left_out _ s o.station k t.train.0 0 u) here.visits
  same_found s here k (of_in f) = same_by_in s _ (λ tab t i u. every_one left_out _ s i.station k t.train.0 0 u) here.visits
  same_found s here k (of_facing f) =
      same_by_out s _ (λ tab t o u. every_ones left_out _ s o.station k (λ w. t.train.0) (λ w. w.train.0) (λ w. u) tab.visits) here.visits

  same_rules : (s : Station) (here : Table) (k : ℕ) (rs : List Rule) → keep kept (found_by_all m s here k rs) ≡ keep kept (found_by_all m' s here k rs)
  unfolding found_by_all
  same_rules s here k [] = refl
  same_rules s here k (r ∷ rs) = keep_two kept _ _ _ _ (same_found s here k r) (same_rules s here (suc k) rs)

  -- nothing is kept at a station that is not read
  none_at : (n : Network) (m'' : Timetable) (s : Station) (here : Table) → ¬ T (h s) → keep kept (at_station n m'' s here) ≡ []
  unfolding at_station
  none_at n m'' s here u =
      keep_none kept (found_by_all m'' s here 1 (rules n s here))
      (every_rule left_out (λ p. true) m'' s here (anywhere here.visits) (λ k a c. out s) (λ p v k a c. out p) 1 (rules n s here))
    where
      out : (p : Station) → T (not (g s p))
      out p = not_T (g s p) (λ v. u (near s p v))

  same_at : (n : Network) (s : Station) → keep kept (at_station n m s (m s)) ≡ keep kept (at_station n m' s (m' s))
  unfolding at_station
  same_at n s =
      by_test (h s)
      (λ u. same_rules s (m s) 1 (rules n s (m s)) ∙ ap (λ (tab : Table). keep kept (found_by_all m' s tab 1 (rules n s tab))) (agree s u))
      (λ u. none_at n m s (m s) u ∙ sym (none_at n m' s (m' s) u))

  same_kept : (n : Network) → keep kept (spanning n m) ≡ keep kept (spanning n m')
  unfolding spanning
  same_kept n = keep_flatMap kept _ _ (same_at n) (stations_of n)

-- a group's findings are those of any timetable that agrees on the group
group_local : (n : Network) (γ : Grouping) (g : ℕ) (m m' : Timetable) → ((k : Station) → T (in_group γ g k) → m k ≡ m' k)
    → group_findings n γ m g ≡ group_findings n γ m' g
unfolding group_findings picked inside
group_local n γ g m m' agree =
    ap (map (λ (x : Spanning). x.found))
    (same_kept (λ s p. in_group γ g s && in_group γ g p) (in_group γ g)
    (λ s p. and_l (in_group γ g s) (in_group γ g p)) (λ s p. and_r (in_group γ g s) (in_group γ g p)) m m' agree n)

-- those of two groups are those of any timetable that agrees on the two
pair_local : (n : Network) (γ : Grouping) (g h : ℕ) (m m' : Timetable) → ((k : Station) → T (in_group γ g k || in_group γ h k) → m k ≡ m' k)
    → pair_findings n γ m g h ≡ pair_findings n γ m' g h
unfolding pair_findings picked between
pair_local n γ g h m m' agree =
    ap (map (λ (x : Spanning). x.found))
    (same_kept (λ s p. (in_group γ g s && in_group γ h p) || (in_group γ h s && in_group γ g p)) (λ k. in_group γ g k || in_group γ h k)
    (λ s p. near_end (in_group γ g s) (in_group γ h p) (in_group γ h s) (in_group γ g p))
    (λ s p. far_end (in_group γ g s) (in_group γ h p) (in_group γ h s) (in_group γ g p)) m m' agree n)
  where
    near_end : (a b c d : Bool) → T ((a && b) || (c && d)) → T (a || c)
    near_end true b c d t = tt
    near_end false b true d t = tt
    near_end false b false d t = t

    far_end : (a b c d : Bool) → T ((a && b) || (c && d)) → T (d || b)
    far_end a b c true t = tt
    far_end a true c false t = tt
    far_end true false true false t = t
    far_end true false false false t = t
    far_end false false true false t = t
    far_end false false false false t = t

-- the lists from the parts

part : (γ : Grouping) (m : Timetable) (g : ℕ) (k : Station) → T (in_group γ g k) → divide γ m g k ≡ m k
unfolding divide
part γ m g k t = if_yes (in_group γ g k) (m k) empty t

pub own_part : (n : Network) (γ : Grouping) (m : Timetable) (g : ℕ) → own_list n γ (divide γ m) g ≡ group_findings n γ m g
unfolding own_list
own_part n γ m g = group_local n γ g (divide γ m g) m (part γ m g)

-- the parts of a station's group among those gathered
gathered : (γ : Grouping) (p : ℕ → Bool) (m : Timetable) (g : ℕ) (k : Station) → T (p g) → T (in_group γ g k) → gather γ p (divide γ m) k ≡ m k
unfolding gather merge in_group
gathered γ p m g k t u =
    let e : g ≡ γ k = eqb→eq g (γ k) (and_r (ltb 0 g) (eqb g (γ k)) u) in
    rw (← e)
    (if_yes (p g) (if ltb 0 g then divide γ m g k else empty) empty t
    ∙ if_yes (ltb 0 g) (divide γ m g k) empty (and_l (ltb 0 g) (eqb g (γ k)) u) ∙ part γ m g k u)

pub pair_part : (n : Network) (γ : Grouping) (m : Timetable) (gh : ℕ × ℕ) → pair_list n γ (divide γ m) gh ≡ pair_findings n γ m gh.0 gh.1
unfolding pair_list
pair_part n γ m gh =
    pair_local n γ gh.0 gh.1 _ m
    (λ k t. or_cases (in_group γ gh.0 k) (in_group γ gh.1 k) t
    (gathered γ _ m gh.0 k (search (or_l, or_r, eqb_refl)))
    (gathered γ _ m gh.1 k (search (or_l, or_r, eqb_refl))))
