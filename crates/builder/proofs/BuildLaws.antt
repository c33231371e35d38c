-- The lists that the builder puts, gone through from an index on: one entry or relation, then the rest. Assumes
-- nothing.
use Prim.Native.Nat.{ℕ, zero, suc, ◌+◌, ◌<◌, ◌≤◌}
use mathlib.Core.Path.{◌≡◌, refl, sym, ap, ◌∙◌}
use mathlib.Core.Bool.{Bool, true, false, not, ◌||◌}
use mathlib.Core.List.{List, [], ◌∷◌, ◌++◌, map, flat_map, append-nil}
use native.Mathlib.Omega.{arith}
use lib.Dec.{eqb}
use lib.ListN.{length, drop, get_or, length-take, drop_of_length-le}
use borrow.Author.Tests.{eqb-true, eq-eqb, ne_eqb}
use Rattle.base.specs.Choice.{◌if◌else◌}
use Rattle.std.specs.Prelude.{if◌then◌else◌}
use Rattle.base.proofs.Tests.{by_value}
use Rattle.base.proofs.Lengths.{drop_next}
use Rattle.network.specs.Networks.{station_rows, stations_of}
use Rattle.network.specs.declared.StationRow.{StationRow}
use Rattle.timetable.specs.Visits.{with_out, outs}
use Rattle.timetable.specs.Tables.{Entry, Table}
use Rattle.timetable.specs.Machine.{Timetable}
use Rattle.timetable.specs.Rules.{met}
use Rattle.timetable.specs.Findings.{is_far, rules}
use Rattle.page.specs.between.Changes.{table_in}
use Rattle.page.specs.between.Entries.{entry_at, relation_at}
use Rattle.page.proofs.EntryLaws.{entries_next, relations_next}
use Rattle.railway.specs.declared.visit.OutLink.{OutLink}
use Rattle.builder.specs.Types.{Station, Outward, Visit, Relation, Network}
use Rattle.scope.specs.declared.Scope.{Scope}
use Rattle.scope.specs.declared.redone.Marks.{Marks}
use Rattle.rule_tests.specs.between.Tests.{clash, broken, second_of}
use Rattle.builder.specs.between.Builder.{rule_count, told, against, unmet_numbers, facing, step, walk, rule_numbers, numbers_from}
use Rattle.builder.specs.declared.kinds.Rule.{Rule}
use Rattle.builder.specs.between.Kinds.{rule_number, counting, each_rule}
use Rattle.builder.specs.between.Builder.{station_numbers, all_numbers, first_rule, rules_redone, redone_station, redone_numbers}
use Rattle.scope.specs.Scopes.{takes}
use Rattle.scope.specs.Redone.{all_redone, level}

-- the rules that are gone through are those of document 01
pub rules_counted : (n : Network) (s : Station) (here : Table) → length (rules n s here) ≡ rule_count
unfolding rules
rules_counted n s here = refl

-- entries

module _ (n : Network) (here : Table) (s : Station) (rule : ℕ) (t : Entry) (page : List ℕ) (i k : ℕ) (many : k ≡ length (table_in page).visits) (h : i < k) where
  pub against_next : (u : Entry) (found : Bool) → u ≡ entry_at i page → found ≡ clash n here s rule t u
      → against n here s rule t (drop i (table_in page).visits)
      ≡ told found s rule t.train.0 u.train.0 ++ against n here s rule t (drop (i + 1) (table_in page).visits)
  unfolding against flat_map
  against_next u found e f =
      ap (against n here s rule t) (entries_next page i k many h)
      ∙ ap (λ (xs : List ℕ). xs ++ against n here s rule t (drop (i + 1) (table_in page).visits))
      (sym (ap (λ (b : Bool). told b s rule t.train.0 u.train.0) f ∙ ap (λ (x : Entry). told (clash n here s rule t x) s rule t.train.0 x.train.0) e))

pub against_none : (n : Network) (here : Table) (s : Station) (rule : ℕ) (t : Entry) (us : List Entry) → us ≡ [] → against n here s rule t us ≡ []
unfolding against flat_map
against_none n here s rule t us e = ap (against n here s rule t) e

-- relations

module _ (here : Table) (s : Station) (page : List ℕ) (i k : ℕ) (many : k ≡ length (table_in page).relations) (h : i < k) where
  pub unmet_next : (rank : ℕ) (q : Relation) (b : Bool) → q ≡ relation_at i page → b ≡ met here q
      → unmet_numbers here s rank (drop i (table_in page).relations)
      ≡ told (not b) s 4 rank 0 ++ unmet_numbers here s (rank + 1) (drop (i + 1) (table_in page).relations)
  unfolding unmet_numbers
  unmet_next rank q b e f =
      ap (unmet_numbers here s rank) (relations_next page i k many h)
      ∙ ap (λ (xs : List ℕ). xs ++ unmet_numbers here s (rank + 1) (drop (i + 1) (table_in page).relations))
      (sym (ap (λ (x : Bool). told (not x) s 4 rank 0) f ∙ ap (λ (x : Relation). told (not (met here x)) s 4 rank 0) e))

pub unmet_none : (here : Table) (s : Station) (rank : ℕ) (qs : List Relation) → qs ≡ [] → unmet_numbers here s rank qs ≡ []
unfolding unmet_numbers
unmet_none here s rank qs e = ap (unmet_numbers here s rank) e

-- a visit's link as a list

outs_at : (v : Visit) (o : Outward) → v.outward ≡ OutLink.To o → outs v ≡ o ∷ []
unfolding outs with_out
outs_at v o e = ap (λ (l : OutLink). outs (with_out l v)) e

outs_none : (v : Visit) → v.outward ≡ OutLink.Nothing → outs v ≡ []
unfolding outs with_out
outs_none v e = ap (λ (l : OutLink). outs (with_out l v)) e

module _ (n : Network) (scope : Scope) (m : Timetable) (here : Table) (s : Station) where
  pub facing_none : (t : Entry) → t.visit.outward ≡ OutLink.Nothing → facing n scope m here s t ≡ []
  unfolding facing flat_map
  facing_none t e = rw (outs_none t.visit e)

  facing_by : (t : Entry) (o : Outward) → t.visit.outward ≡ OutLink.To o
      → facing n scope m here s t ≡ (if takes n scope s o.station then against n here s 10 t (m o.station).visits else [])
  unfolding facing flat_map
  facing_by t o e = rw (outs_at t.visit o e) (append-nil (if takes n scope s o.station then against n here s 10 t (m o.station).visits else []))

  pub facing_at : (t : Entry) (o : Outward) (b : Bool) → t.visit.outward ≡ OutLink.To o → b ≡ takes n scope s o.station → b ≡ true
      → (there : Table) → there ≡ m o.station → against n here s 10 t there.visits ≡ facing n scope m here s t
  facing_at t o b e f g there q = sym (facing_by t o e ∙ rw (← f, g, ← q))

  pub facing_not : (t : Entry) (o : Outward) (b : Bool) → t.visit.outward ≡ OutLink.To o → b ≡ takes n scope s o.station → b ≡ false
      → [] ≡ facing n scope m here s t
  facing_not t o b e f g = sym (facing_by t o e ∙ rw (← f, g))

  -- a rule of one visit, which is read as x

  module _ (rule : ℕ) (e x : Entry) (us : List Entry) (same : x ≡ e) where
    pub step_paired : (eqb rule 2 || eqb rule 3) ≡ true → against n here s rule x us ≡ step n scope m here s rule e us
    unfolding step
    step_paired p = sym (rw (p, ← same))

    pub step_facing : rule ≡ 10 → facing n scope m here s x ≡ step n scope m here s rule e us
    unfolding step
    step_facing p = rw p (ap (facing n scope m here s) same)

    pub step_one : ¬ (rule ≡ 2) → ¬ (rule ≡ 3) → ¬ (rule ≡ 10) → (found : Bool) → found ≡ broken n scope m here s rule x → (second : ℕ) → second ≡ second_of rule x
        → told found s rule x.train.0 second ≡ step n scope m here s rule e us
    unfolding step
    step_one p q r found f second g = sym (rw (ne_eqb rule 2 p, ne_eqb rule 3 q, ne_eqb rule 10 r, ← same, ← f, ← g))

  pub walk_next : (rule : ℕ) (page : List ℕ) (i k : ℕ) → k ≡ length (table_in page).visits → i < k
      → walk n scope m here s rule (drop i (table_in page).visits)
      ≡ step n scope m here s rule (entry_at i page) (drop (i + 1) (table_in page).visits) ++ walk n scope m here s rule (drop (i + 1) (table_in page).visits)
  unfolding walk
  walk_next rule page i k many h = ap (walk n scope m here s rule) (entries_next page i k many h)

  pub walk_none : (rule : ℕ) (us : List Entry) → us ≡ [] → walk n scope m here s rule us ≡ []
  unfolding walk
  walk_none rule us e = ap (walk n scope m here s rule) e

  -- a rule at the station

  module _ (rule : ℕ) (b : Bool) (asked : b ≡ (is_far rule || takes n scope s s)) where
    pub rule_unmet : b ≡ true → rule ≡ 4 → unmet_numbers here s 1 here.relations ≡ rule_numbers n scope m here s rule
    unfolding rule_numbers
    rule_unmet p q = sym (rw (← asked, p, eq-eqb rule 4 q))

    pub rule_walk : b ≡ true → ¬ (rule ≡ 4) → walk n scope m here s rule here.visits ≡ rule_numbers n scope m here s rule
    unfolding rule_numbers
    rule_walk p q = sym (rw (← asked, p, ne_eqb rule 4 q))

    pub rule_none : b ≡ false → [] ≡ rule_numbers n scope m here s rule
    unfolding rule_numbers
    rule_none p = sym (rw (← asked, p))

-- what each puts, gone through from an index on
module _ {A : Type 0} (f : A → List ℕ) (xs : List A) (i : ℕ) where
  pub each_next : (d : A) → i < length xs → flat_map f (drop i xs) ≡ f (get_or xs i d) ++ flat_map f (drop (i + 1) xs)
  unfolding flat_map
  each_next d h = ap (flat_map f) (drop_next xs i d h)

  pub each_over : length xs ≤ i → flat_map f (drop i xs) ≡ []
  unfolding flat_map
  each_over h = ap (flat_map f) (drop_of_length-le xs {i = i} h)

pub flat_map_lem : {A B : Type 0} (f : B → List ℕ) (g : A → B) (xs : List A) → flat_map f (map g xs) ≡ flat_map (λ x. f (g x)) xs
unfolding flat_map
flat_map_lem f g [] = refl
flat_map_lem f g (x ∷ xs) = ap (λ (ys : List ℕ). f (g x) ++ ys) (flat_map_lem f g xs)

-- some of the rules
module _ (n : Network) (scope : Scope) (m : Timetable) (here : Table) (s : Station) where
  numbers_counted : (first count : ℕ) → numbers_from n scope m here s first count ≡ flat_map (rule_numbers n scope m here s) (counting first count)
  unfolding numbers_from counting flat_map
  numbers_counted first zero = refl
  numbers_counted first (suc count) = ap (λ (xs : List ℕ). rule_numbers n scope m here s first ++ xs) (numbers_counted (first + 1) count)

  -- those that are numbered on from a first
  pub rules_are : (rules : List Rule) (first count : ℕ) → map rule_number rules ≡ counting first count
      → each_rule n scope m here s rules ≡ numbers_from n scope m here s first count
  rules_are rules first count e =
      sym (flat_map_lem (rule_numbers n scope m here s) rule_number rules)
      ∙ ap (flat_map (rule_numbers n scope m here s)) e
      ∙ sym (numbers_counted first count)

-- what is redone at a station of a level: some of the rules
pub redone_range : (k : ℕ) → (1 ≤ first_rule k) × (first_rule k + rules_redone k ≤ rule_count + 1)
unfolding first_rule rules_redone
redone_range k = by_value (eqb k 1) yes no
  where
    yes : eqb k 1 ≡ true → (1 ≤ first_rule k) × (first_rule k + rules_redone k ≤ rule_count + 1)
    yes e = rw (eqb-true k 1 e) (omega arith, omega arith)

    no : eqb k 1 ≡ false → (1 ≤ first_rule k) × (first_rule k + rules_redone k ≤ rule_count + 1)
    no e = rw e (omega arith, go (eqb k 2))
      where
        go : (b : Bool) → 1 + (rule_count if b else 0) ≤ rule_count + 1
        go true = omega arith
        go false = omega arith

pub redone_is : (n : Network) (scope : Scope) (marks : Marks) (m : Timetable) (s : Station) (k first count : ℕ)
    → k ≡ level marks s.0 → first ≡ first_rule k → count ≡ rules_redone k → numbers_from n scope m (m s) s first count ≡ redone_station n scope marks m s
unfolding redone_station
redone_is n scope marks m s k first count e f g = rw (f, g, e)

-- a whole list is what is redone where all is
pub all_redone_is : (n : Network) (scope : Scope) (m : Timetable) → redone_numbers n scope all_redone m ≡ all_numbers n scope m
unfolding redone_numbers redone_station all_numbers station_numbers level first_rule rules_redone
all_redone_is n scope m = refl

-- all stations, by their rows
pub stations_are : (f : Station → List ℕ) (n : Network) → flat_map (λ r. f r.station) (station_rows n) ≡ flat_map f (stations_of n)
unfolding stations_of
stations_are f n = sym (flat_map_lem f (λ (r : StationRow). r.station) (station_rows n))

pub stations_few : (n : Network) → length n.stations ≡ 16 → length (station_rows n) ≤ 16
unfolding station_rows
stations_few n h = omega (arith, h, length-take {A = StationRow})
