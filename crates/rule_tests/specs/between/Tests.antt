-- Which rules are broken by the visits of a sheet, by the rule's number. `here` is the table of s, m the timetable that
-- the sheet holds. findings/proofs/ListsBuilt.antt says that these are the rules of document 01. Assumes nothing.
use Rattle.std.specs.Prelude.{ℕ, Bool, not, ◌&&◌, List, [], ◌∷◌, eqb}
use Rattle.std.specs.Prelude.{if◌then◌else◌}
use Rattle.timetable.specs.Visits.{comes, leaves}
use Rattle.timetable.specs.Tables.{Entry, Table}
use Rattle.timetable.specs.Machine.{Timetable}
use Rattle.timetable.specs.Rules.{breaks_1, breaks_2, breaks_3, breaks_5, breaks_6, out_answered, in_answered, breaks_9, breaks_10, breaks_11, out_line}
use Rattle.page.specs.between.Changes.{table_in}
use Rattle.sheet.specs.Sheets.{station_part}
use Rattle.scope.specs.declared.Scope.{Scope}
use Rattle.scope.specs.Scopes.{takes}
use Rattle.rule_tests.specs.Types.{Station, Train, Inward, Outward, Network}

-- the tables of the pages that are found in some bytes: those of a sheet, or none
unfoldable pub held : List ℕ → Timetable
held sheet = λ s. table_in (station_part sheet s)

-- what stands beside a number in some rows; d where the number is in none
unfoldable pub beside : {A : Type 0} → ℕ → List (ℕ × A) → A → A
beside x [] d = d
beside x ((k, a) ∷ rows) d = if eqb x k then a else beside x rows d

-- rules 2, 3 and 10: of two trains

unfoldable pub clash : Network → Table → Station → ℕ → Entry → Entry → Bool
clash n here s rule t u =
    if eqb rule 2 then breaks_2 t.visit u.visit
    else if eqb rule 3 then breaks_3 n.headway t.visit u.visit
    else leaves (λ o. breaks_10 n s here t o u) t.visit

-- rules 1, 5, 6, 7, 8 and 9: of one train; the second number of what they find
unfoldable pub second_of : ℕ → Entry → ℕ
second_of rule t = beside rule ((11, out_line t.visit.outward) ∷ []) 0

module _ (n : Network) (scope : Scope) (m : Timetable) where
  -- rules 7, 8 and 9, where the list takes the far station

  unfoldable pub out_broken : Station → ℕ → Entry → Outward → Bool
  out_broken s rule t o =
      takes n scope s o.station
      && (if eqb rule 7 then not (out_answered s t.train o (m o.station)) else breaks_9 s t o (m o.station))

  unfoldable pub in_broken : Station → Train → Inward → Bool
  in_broken s t i = takes n scope s i.station && not (in_answered s t i (m i.station))

  unfoldable pub far_broken : Station → ℕ → Entry → Bool
  far_broken s rule t = if eqb rule 8 then comes (in_broken s t.train) t.visit else leaves (out_broken s rule t) t.visit

  -- rules 1, 5, 6 and 11: of the train's own station, each beside its number
  unfoldable pub own_broken : Table → Entry → List (ℕ × Bool)
  own_broken here t =
      (1, breaks_1 t.visit)
      ∷ (5, breaks_5 n t.train t.visit)
      ∷ (6, breaks_6 n here.visits t)
      ∷ (11, breaks_11 n t.visit)
      ∷ []

  unfoldable pub broken : Table → Station → ℕ → Entry → Bool
  broken here s rule t = beside rule (own_broken here t) (far_broken s rule t)

-- The key ring of this module: `unfolding opened` opens every definition above.
unfoldable pub opened : Unit {0}
unfolding held beside clash second_of out_broken in_broken far_broken own_broken broken
opened = tt
