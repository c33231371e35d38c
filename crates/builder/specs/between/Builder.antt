-- What the functions that build a list put into the lent buffer: the numbers of its findings, station by station, rule
-- by rule. findings/proofs/ListsBuilt.antt says that these are the lists of document 01, RedoneBuilt.antt that what is
-- redone is what the lists have there. `here` is the table of s, m the timetable that the sheet holds. Assumes nothing.
use Rattle.std.specs.Prelude.{ℕ, zero, suc, ◌+◌, ◌*◌, ◌-◌, ◌/◌, Bool, not, ◌||◌, eqb}
use mathlib.Core.List.{List, [], ◌∷◌, ◌++◌, flat_map}
use Rattle.base.specs.Choice.{◌if◌else◌}
use Rattle.std.specs.Prelude.{if◌then◌else◌}
use Rattle.network.specs.Networks.{stations_of}
use Rattle.timetable.specs.Visits.{outs}
use Rattle.timetable.specs.Tables.{Entry, Table}
use Rattle.timetable.specs.Machine.{Timetable}
use Rattle.timetable.specs.Rules.{met}
use Rattle.timetable.specs.Findings.{is_far}
use Rattle.rule_tests.specs.between.Tests.{clash, broken, second_of}
use Rattle.builder.specs.Types.{Station, Relation, Network}
use Rattle.scope.specs.declared.Scope.{Scope}
use Rattle.scope.specs.declared.redone.Marks.{Marks}
use Rattle.scope.specs.Scopes.{takes}
use Rattle.scope.specs.Redone.{level}

-- how many numbers are put at most: the rules are counted here, and all bounds are computed from that

abbrev pub rule_count : ℕ
rule_count = 11

-- of a visit under one rule: 24 findings of four numbers
abbrev pub visit_most : ℕ
visit_most = 4 * 24

-- of the 24 visits, and of the 6 relations, under one rule
abbrev pub visits_most : ℕ
visits_most = 24 * visit_most

abbrev pub relations_most : ℕ
relations_most = 4 * 6

-- one rule speaks of relations
abbrev pub station_most : ℕ
station_most = (rule_count - 1) * visits_most + relations_most

-- a list: its numbers, and its findings
abbrev pub list_most : ℕ
list_most = 16 * station_most

abbrev pub findings_most : ℕ
findings_most = list_most / 4

-- the four numbers of a finding, where it is found
unfoldable pub told : Bool → Station → ℕ → ℕ → ℕ → List ℕ
told found s rule a b = if found then s.0 ∷ rule ∷ a ∷ b ∷ [] else []

-- rules 2, 3 and 10: of two trains
unfoldable pub against : Network → Table → Station → ℕ → Entry → List Entry → List ℕ
against n here s rule t us = flat_map (λ u. told (clash n here s rule t u) s rule t.train.0 u.train.0) us

-- rule 4: k is the rank of the first
unfoldable pub unmet_numbers : Table → Station → ℕ → List Relation → List ℕ
unmet_numbers here s k [] = []
unmet_numbers here s k (q ∷ qs) = told (not (met here q)) s 4 k 0 ++ unmet_numbers here s (k + 1) qs

module _ (n : Network) (scope : Scope) (m : Timetable) where
  module _ (here : Table) (s : Station) where
    -- rule 10: t with the trains at the far station of its out-link, where the list takes that
    unfoldable pub facing : Entry → List ℕ
    facing t = flat_map (λ o. if takes n scope s o.station then against n here s 10 t (m o.station).visits else []) (outs t.visit)

    -- a rule of one visit t, us being the visits behind it
    unfoldable pub step : ℕ → Entry → List Entry → List ℕ
    step rule t us =
        if eqb rule 2 || eqb rule 3 then against n here s rule t us
        else if eqb rule 10 then facing t
        else told (broken n scope m here s rule t) s rule t.train.0 (second_of rule t)

    unfoldable pub walk : ℕ → List Entry → List ℕ
    walk rule [] = []
    walk rule (t ∷ us) = step rule t us ++ walk rule us

    -- a rule at the station: where it speaks of the station alone, the list must take that
    unfoldable pub rule_numbers : ℕ → List ℕ
    rule_numbers rule =
        if is_far rule || takes n scope s s
        then (if eqb rule 4 then unmet_numbers here s 1 here.relations else walk rule here.visits)
        else []

    -- as many rules as are left, from a number on
    unfoldable pub numbers_from : ℕ → ℕ → List ℕ
    numbers_from rule zero = []
    numbers_from rule (suc left) = rule_numbers rule ++ numbers_from (rule + 1) left

  unfoldable pub station_numbers : Station → List ℕ
  station_numbers s = numbers_from (m s) s 1 rule_count

  unfoldable pub all_numbers : List ℕ
  all_numbers = flat_map station_numbers (stations_of n)

-- what is redone at a station of this level: its first rule, and how many
unfoldable pub first_rule : ℕ → ℕ
first_rule k = 7 if eqb k 1 else 1

unfoldable pub rules_redone : ℕ → ℕ
rules_redone k = rule_count if eqb k 2 else 4 if eqb k 1 else 0

module _ (n : Network) (scope : Scope) (marks : Marks) (m : Timetable) where
  unfoldable pub redone_station : Station → List ℕ
  redone_station s = numbers_from n scope m (m s) s (first_rule (level marks s.0)) (rules_redone (level marks s.0))

  -- what is redone at all stations
  unfoldable pub redone_numbers : List ℕ
  redone_numbers = flat_map redone_station (stations_of n)

-- The key ring of this module: `unfolding opened` opens every definition above.
unfoldable pub opened : Unit {0}
unfolding told against unmet_numbers facing step walk rule_numbers numbers_from station_numbers all_numbers first_rule rules_redone redone_station redone_numbers
opened = tt
