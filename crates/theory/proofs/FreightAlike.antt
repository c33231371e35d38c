-- Of a line with one time for all trains the least time is that time, whatever the train; so rule 5 is the rule as it
-- was, the table of rules is the same, and so is each list. Assumes nothing.
use Prim.Native.Nat.{ℕ}
use mathlib.Core.Path.{◌≡◌, refl, sym, ap, fun_ext}
use mathlib.Core.Bool.{Bool, true, false}
use mathlib.Core.List.{List, [], ◌∷◌, ◌++◌, map, flat_map}
use lib.ListN.{take, drop}
use Rattle.std.specs.Prelude.{Some}
use lib.Dec.{T, ltb, eqb}
use borrow.Author.Tests.{eqb-true}
use Rattle.base.specs.Choice.{◌if◌else◌}
use Rattle.std.specs.Prelude.{if◌then◌else◌}
use Rattle.base.specs.Lists.{every, first, is}
use Rattle.base.proofs.Tests.{T_true, every_head, every_tail}
use Rattle.railway.specs.Ranges.{is_freight, same_line}
use Rattle.railway.specs.declared.sorts.Line.{Line}
use Rattle.railway.specs.declared.sorts.Train.{Train}
use Rattle.railway.specs.declared.visit.Outward.{Outward}
use Rattle.railway.specs.declared.visit.Visit.{Visit}
use Rattle.network.specs.declared.LineRow.{LineRow}
use Rattle.network.specs.Networks.{line_rows, line_row, least_time, same_times, stations_of}
use Rattle.timetable.specs.Visits.{leaves}
use Rattle.timetable.specs.Tables.{Entry, Table}
use Rattle.timetable.specs.Machine.{Timetable}
use Rattle.timetable.specs.Rules.{breaks_5}
use Rattle.timetable.specs.Findings.{Spanning, of_one, unused, rules, found_by_all, at_station, spanning, picked, findings, inside, group_findings, between, pair_findings}
use Rattle.theory.specs.Types.{Station, Network}
use Rattle.theory.specs.Freight.{broke_5, rules_had, found_had, OneTimeAlike}

-- one time is every train's
time_alike : (r : LineRow) → T (same_times r) → (t : Train) → least_time r t ≡ r.passenger
unfolding least_time same_times
time_alike r e t = go (is_freight t)
  where
    go : (b : Bool) → (r.freight if b else r.passenger) ≡ r.passenger
    go true = sym (eqb-true r.passenger r.freight (T_true (eqb r.passenger r.freight) e))
    go false = refl

module _ (n : Network) (one : T (every same_times (line_rows n))) where
  -- of the first row with a number, if there is one
  row_alike : (l : Line) (t : Train) (run : ℕ) (rs : List LineRow) → T (every same_times rs)
      → is (λ r. ltb run (least_time r t)) (first (λ r. same_line r.line l) rs) ≡ is (λ r. ltb run r.passenger) (first (λ r. same_line r.line l) rs)
  unfolding first every
  row_alike l t run [] o = refl
  row_alike l t run (r ∷ rs) o = go (same_line r.line l) (row_alike l t run rs (every_tail same_times r rs o))
    where
      go : (b : Bool) → is (λ r. ltb run (least_time r t)) (first (λ r. same_line r.line l) rs) ≡ is (λ r. ltb run r.passenger) (first (λ r. same_line r.line l) rs)
          → is (λ r. ltb run (least_time r t)) (if b then Some r else first (λ r. same_line r.line l) rs)
          ≡ is (λ r. ltb run r.passenger) (if b then Some r else first (λ r. same_line r.line l) rs)
      go true ih = ap (ltb run) (time_alike r (every_head same_times r rs o) t)
      go false ih = ih

  rule_alike : (t : Train) (v : Visit) → breaks_5 n t v ≡ broke_5 n v
  unfolding breaks_5 broke_5 line_row
  rule_alike t v = ap (λ (f : Outward → Bool). leaves f v) (fun_ext (λ o. row_alike o.line t o.run (line_rows n) one))

  rules_alike : (s : Station) (here : Table) → rules n s here ≡ rules_had n s here
  unfolding rules rules_had
  rules_alike s here =
      ap (λ (f : Entry → Bool). take 4 (rules n s here) ++ (of_one f unused ∷ drop 5 (rules n s here))) (fun_ext (λ t. rule_alike t.train t.visit))

  found_alike : (m : Timetable) → spanning n m ≡ found_had n m
  unfolding spanning at_station found_had
  found_alike m = ap (λ (f : Station → List Spanning). flat_map f (stations_of n)) (fun_ext (λ s. ap (found_by_all m s (m s) 1) (rules_alike s (m s))))

pub one_time_alike : OneTimeAlike
unfolding findings group_findings pair_findings
one_time_alike n one γ m = record {
  whole = ap (map (λ (x : Spanning). x.found)) (found_alike n one m);
  group = λ g. ap (picked (inside γ g)) (found_alike n one m);
  pair = λ g h. ap (picked (between γ g h)) (found_alike n one m);
}
