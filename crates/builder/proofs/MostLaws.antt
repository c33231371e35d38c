-- How long what the builder puts is at most: a finding is four numbers, a visit has 24 findings under one rule, a
-- station 24 visits and 6 relations, whatever the bytes of its page are, and a list at most 16 stations. Assumes
-- nothing.
use Prim.Native.Nat.{ℕ, zero, suc, ◌+◌, ◌*◌, ◌-◌, ◌≤◌, min}
use mathlib.Core.Path.{◌≡◌, refl, ap}
use mathlib.Core.Bool.{Bool, true, false, not, ◌||◌}
use mathlib.Core.List.{List, [], ◌∷◌, flat_map}
use native.Mathlib.Omega.{arith}
use lib.Dec.{eqb}
use lib.ListN.{length, drop, get_or, length-append, length-map}
use Rattle.std.specs.Prelude.{if◌then◌else◌}
use Rattle.network.specs.Networks.{stations_of}
use Rattle.railway.specs.declared.visit.OutLink.{OutLink}
use Rattle.timetable.specs.Visits.{with_out, outs}
use Rattle.timetable.specs.Tables.{Entry, Table, empty}
use Rattle.timetable.specs.Machine.{Timetable}
use Rattle.timetable.specs.Rules.{met}
use Rattle.timetable.specs.Findings.{is_far}
use Rattle.records.specs.Records.{decode_entry, decode_relation}
use Rattle.page.specs.Pages.{records_of, visit_records, relation_records, visits_of, relations_of, decode_page}
use Rattle.page.specs.between.Changes.{table_in}
use Rattle.sheet.specs.Sheets.{station_part}
use Rattle.page.proofs.SlotLaws.{length_records}
use Rattle.builder.specs.Types.{Station, Outward, Visit, Relation, Network}
use Rattle.scope.specs.declared.Scope.{Scope}
use Rattle.builder.specs.between.Builder.{rule_count, visit_most, visits_most, relations_most, station_most, list_most}
use Rattle.rule_tests.specs.between.Tests.{held, clash, broken, second_of}
use Rattle.builder.specs.between.Builder.{told, against, unmet_numbers, facing, step, walk, rule_numbers, numbers_from, station_numbers, all_numbers}
use Rattle.scope.specs.Scopes.{takes}

-- lists of at most w numbers each
flat_most : {A : Type 0} (f : A → List ℕ) (w : ℕ) → ((x : A) → length (f x) ≤ w) → (xs : List A) → length (flat_map f xs) ≤ length xs * w
unfolding flat_map
flat_most f w h [] = omega arith
flat_most f w h (x ∷ xs) = omega (arith, length-append (f x) (flat_map f xs), h x, flat_most f w h xs)

told_most : (found : Bool) (s : Station) (rule a b : ℕ) → length (told found s rule a b) ≤ 4
unfolding told
told_most true s rule a b = omega arith
told_most false s rule a b = omega arith

against_most : (n : Network) (here : Table) (s : Station) (rule : ℕ) (t : Entry) (us : List Entry) → length us ≤ 24 → length (against n here s rule t us) ≤ visit_most
unfolding against
against_most n here s rule t us h =
    omega (arith, flat_most (λ u. told (clash n here s rule t u) s rule t.train.0 u.train.0) 4 (λ u. told_most (clash n here s rule t u) s rule t.train.0 u.train.0) us)

unmet_most : (here : Table) (s : Station) (k : ℕ) (qs : List Relation) → length (unmet_numbers here s k qs) ≤ 4 * length qs
unfolding unmet_numbers
unmet_most here s k [] = omega arith
unmet_most here s k (q ∷ qs) =
    omega (arith, length-append (told (not (met here q)) s 4 k 0) (unmet_numbers here s (k + 1) qs), told_most (not (met here q)) s 4 k 0, unmet_most here s (k + 1) qs)

outs_most : (v : Visit) → length (outs v) ≤ 1
unfolding outs with_out
outs_most v = go v.outward
  where
    go : (l : OutLink) → length (outs (with_out l v)) ≤ 1
    go OutLink.Nothing = omega arith
    go (OutLink.To o) = omega arith

-- what a rule puts at most, and some rules
unfoldable pub rule_most : ℕ → ℕ
rule_most rule = if eqb rule 4 then relations_most else visits_most

unfoldable pub most_from : ℕ → ℕ → ℕ
most_from rule zero = 0
most_from rule (suc left) = rule_most rule + most_from (rule + 1) left

most_append : (rule a b : ℕ) → most_from rule (a + b) ≡ most_from rule a + most_from (rule + a) b
unfolding most_from
most_append rule zero b =
    let same : 0 + b ≡ b = omega arith in
    let start : rule ≡ rule + 0 = omega arith in
    omega (arith, ap (most_from rule) same, ap (λ (k : ℕ). most_from k b) start)
most_append rule (suc a) b =
    let more : suc a + b ≡ suc (a + b) = omega arith in
    let next : rule + 1 + a ≡ rule + suc a = omega arith in
    omega (arith, ap (most_from rule) more, most_append (rule + 1) a b, ap (λ (k : ℕ). most_from k b) next)

-- some of the rules put no more than all
range_most : (first count : ℕ) → 1 ≤ first → first + count ≤ rule_count + 1 → most_from first count ≤ station_most
unfolding most_from rule_most
range_most first count low high =
    let rest : ℕ = rule_count + 1 - (first + count) in
    let start : 1 + (first - 1) ≡ first = omega arith in
    let all : first - 1 + (count + rest) ≡ rule_count = omega arith in
    let whole : most_from 1 rule_count ≡ station_most = refl in
    omega
    (arith, whole, ap (most_from 1) all, most_append 1 (first - 1) (count + rest), ap (λ (k : ℕ). most_from k (count + rest)) start, most_append first count rest)

-- a timetable within the limits of visits and relations at each station
module _ (n : Network) (scope : Scope) (m : Timetable) (few : (s : Station) → (length (m s).visits ≤ 24) × (length (m s).relations ≤ 6)) where
  module _ (here : Table) (s : Station) where
    facing_most : (t : Entry) → length (facing n scope m here s t) ≤ visit_most
    unfolding facing
    facing_most t = omega (arith, flat_most (λ o. by-taken o (takes n scope s o.station)) visit_most (λ o. one o (takes n scope s o.station)) (outs t.visit), outs_most t.visit)
      where
        by-taken : Outward → Bool → List ℕ
        by-taken o b = if b then against n here s 10 t (m o.station).visits else []

        one : (o : Outward) (b : Bool) → length (by-taken o b) ≤ visit_most
        one o true = against_most n here s 10 t (m o.station).visits (few o.station).0
        one o false = omega arith

    step_most : (rule : ℕ) (t : Entry) (us : List Entry) → length us ≤ 24 → length (step n scope m here s rule t us) ≤ visit_most
    unfolding step
    step_most rule t us h = go (eqb rule 2 || eqb rule 3) (eqb rule 10)
      where
        go : (x y : Bool) → length (if x then against n here s rule t us else if y then facing n scope m here s t else told (broken n scope m here s rule t) s rule t.train.0 (second_of rule t)) ≤ visit_most
        go true y = against_most n here s rule t us h
        go false true = facing_most t
        go false false = omega (arith, told_most (broken n scope m here s rule t) s rule t.train.0 (second_of rule t))

    walk_most : (rule : ℕ) (ts : List Entry) → length ts ≤ 24 → length (walk n scope m here s rule ts) ≤ visit_most * length ts
    unfolding walk
    walk_most rule [] h = omega arith
    walk_most rule (t ∷ us) h =
        let fewer : length us ≤ 24 = omega arith in
        omega (arith, length-append (step n scope m here s rule t us) (walk n scope m here s rule us), step_most rule t us fewer, walk_most rule us fewer)

    module _ (visits : length here.visits ≤ 24) (relations : length here.relations ≤ 6) where
      rule-bound : (rule : ℕ) → length (rule_numbers n scope m here s rule) ≤ rule_most rule
      unfolding rule_numbers rule_most
      rule-bound rule = go (is_far rule || takes n scope s s) (eqb rule 4)
        where
          go : (x y : Bool) → length (if x then (if y then unmet_numbers here s 1 here.relations else walk n scope m here s rule here.visits) else []) ≤ (if y then relations_most else visits_most)
          go true true = omega (arith, relations, unmet_most here s 1 here.relations)
          go true false = omega (arith, visits, walk_most rule here.visits visits)
          go false y = omega arith

      pub from-bound : (rule left : ℕ) → length (numbers_from n scope m here s rule left) ≤ most_from rule left
      unfolding numbers_from most_from
      from-bound rule zero = omega arith
      from-bound rule (suc left) =
          omega (arith, length-append (rule_numbers n scope m here s rule) (numbers_from n scope m here s (rule + 1) left), rule-bound rule, from-bound (rule + 1) left)

      pub rules-bound : (first count : ℕ) → 1 ≤ first → first + count ≤ rule_count + 1 → length (numbers_from n scope m here s first count) ≤ station_most
      rules-bound first count low high = omega (arith, from-bound first count, range_most first count low high)

  station_bound : (s : Station) → length (station_numbers n scope m s) ≤ station_most
  unfolding station_numbers
  station_bound s = rules-bound (m s) s (few s).0 (few s).1 1 rule_count (omega arith) (omega arith)

  pub all_most : length (stations_of n) ≤ 16 → length (all_numbers n scope m) ≤ list_most
  unfolding all_numbers
  all_most h = omega (arith, flat_most (station_numbers n scope m) station_most station_bound (stations_of n), h)

-- what bytes hold is within the limits

pub page_visits : (page : List ℕ) → length (decode_page page).visits ≤ 24
unfolding decode_page visits_of visit_records
page_visits page = omega (arith, length-map (records_of (min (get_or page 0 0) 24) (drop 32 page)) decode_entry, length_records (min (get_or page 0 0) 24) (drop 32 page))

pub page_relations : (page : List ℕ) → length (decode_page page).relations ≤ 6
unfolding decode_page relations_of relation_records
page_relations page = omega (arith, length-map (records_of (min (get_or page 1 0) 6) (drop 416 page)) decode_relation, length_records (min (get_or page 1 0) 6) (drop 416 page))

table_few : (page : List ℕ) → (length (table_in page).visits ≤ 24) × (length (table_in page).relations ≤ 6)
unfolding table_in empty
table_few page = go (eqb (length page) 512)
  where
    go : (b : Bool) → (length (if b then decode_page page else empty).visits ≤ 24) × (length (if b then decode_page page else empty).relations ≤ 6)
    go true = (page_visits page, page_relations page)
    go false = (omega arith, omega arith)

held_few : (sheet : List ℕ) (s : Station) → (length (held sheet s).visits ≤ 24) × (length (held sheet s).relations ≤ 6)
unfolding held
held_few sheet s = table_few (station_part sheet s)

-- some of the rules at the page of a station
pub page_bound : (n : Network) (scope : Scope) (sheet : List ℕ) (s : Station) (here : Table) → here ≡ held sheet s
    → (first count : ℕ) → 1 ≤ first → first + count ≤ rule_count + 1 → length (numbers_from n scope (held sheet) here s first count) ≤ station_most
page_bound n scope sheet s here same first count low high =
    rw same (rules-bound n scope (held sheet) (held_few sheet) (held sheet s) s (held_few sheet s).0 (held_few sheet s).1 first count low high)
