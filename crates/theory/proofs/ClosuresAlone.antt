-- Rules 1 to 10 find what they found, whatever is closed. The table of rules is its first ten rows and rule 11. The
-- first ten do not read closures, and each finding has the number of its rule, so a test of the number parts the two.
-- Rule 11 tells of its own station alone, which is not in two groups; without closures it finds nothing. Assumes
-- nothing.
use Prim.Native.Nat.{ℕ, suc, ◌+◌, ◌≤◌}
use mathlib.Core.Path.{◌≡◌, refl, sym, ◌∙◌, ap, fun_ext}
use mathlib.Core.Bool.{Bool, true, false, not, ◌&&◌}
use mathlib.Core.List.{List, [], ◌∷◌, ◌++◌, map, flat_map, append-nil, append_assoc}
use native.Mathlib.Omega.{arith}
use lib.Dec.{T, leb, le→leb}
use lib.ListN.{length, take}
use Rattle.base.specs.Lists.{any, every, keep}
use Rattle.base.proofs.Tests.{every_append, every_each}
use Rattle.base.proofs.Counts.{keep_append, keep_flatMap, keep_none, keep_every, keep_swap, keep_map}
use Rattle.network.specs.Networks.{line_rows, line_row, closure_rows, station_rows, stations_of}
use Rattle.railway.specs.declared.visit.OutLink.{OutLink}
use Rattle.railway.specs.declared.visit.Visit.{Visit}
use Rattle.timetable.specs.Visits.{leaves}
use Rattle.timetable.specs.Tables.{Entry, Table}
use Rattle.timetable.specs.Machine.{Timetable}
use Rattle.timetable.specs.Rules.{breaks_5, breaks_6, single, breaks_10, breaks_11, out_line}
use Rattle.timetable.specs.Findings.{Spanning, Rule, of_one, one, by_one, rules, found_by, found_by_all, at_station, spanning, picked, findings, inside, group_findings, between, pair_findings}
use Rattle.theory.specs.Types.{Station, Network}
use Rattle.theory.specs.Closures.{first_ten, reopened, of_first_ten, OnlyRule11}
use Rattle.theory.proofs.Placed.{spot, apart, anywhere, every_by_one, every-found}

-- the number of the rule, and its contrary
abbrev early : Spanning → Bool
early x = of_first_ten x.found

module _ (m : Timetable) (s : Station) (here : Table) where
  -- rules behind rules
  found_append : (k : ℕ) (xs ys : List Rule) → found_by_all m s here k (xs ++ ys) ≡ found_by_all m s here k xs ++ found_by_all m s here (k + length xs) ys
  unfolding found_by_all
  found_append k [] ys = let z : k + 0 ≡ k = omega arith in rw z
  found_append k (x ∷ xs) ys =
      let z : suc k + length xs ≡ k + suc (length xs) = omega arith in
      ap (λ (l : List Spanning). found_by m s here k x ++ l) (found_append (suc k) xs ys ∙ ap (λ (j : ℕ). found_by_all m s here (suc k) xs ++ found_by_all m s here j ys) z)
      ∙ sym (append_assoc (found_by m s here k x) (found_by_all m s here (suc k) xs) _)

  -- rules up to the tenth find with numbers up to 10
  early_all : (k : ℕ) (rs : List Rule) → k + length rs ≤ 11 → T (every early (found_by_all m s here k rs))
  unfolding found_by_all every
  early_all k [] h = tt
  early_all k (r ∷ rs) h =
      let ten : T (leb k 10) = le→leb k 10 (omega arith) in
      every_append early (found_by m s here k r) (found_by_all m s here (suc k) rs)
      (every-found early (λ p. true) m s here (anywhere here.visits) k (λ a c. ten) (λ p u a c. ten) r) (early_all (suc k) rs (omega arith))

module _ (n : Network) (m : Timetable) where
  abbrev eleventh : Rule
  eleventh = of_one (λ t. breaks_11 n t.visit) (λ t. out_line t.visit.outward)

  abbrev ten_at : Station → List Spanning
  ten_at s = found_by_all m s (m s) 1 (take 10 (rules n s (m s)))

  abbrev last_at : Station → List Spanning
  last_at s = found_by_all m s (m s) 11 (eleventh ∷ [])

  parts_at : (s : Station) → at_station n m s (m s) ≡ ten_at s ++ last_at s
  unfolding at_station rules
  parts_at s = found_append m s (m s) 1 (take 10 (rules n s (m s))) (eleventh ∷ [])

  ten_early : (s : Station) → T (every early (ten_at s))
  unfolding rules
  ten_early s = early_all m s (m s) 1 (take 10 (rules n s (m s))) (omega arith)

  -- what a test keeps of rule 11, if it keeps it nowhere
  module _ (q : Spanning → Bool) (none : (s : Station) (a c : ℕ) → T (not (q (spot s s 11 a c)))) where
    last_none : (s : Station) → keep q (last_at s) ≡ []
    unfolding found_by_all found_by keep
    last_none s =
        keep_append q (found_by m s (m s) 11 eleventh) [] ∙ ap (λ (l : List Spanning). l ++ keep q [])
        (keep_none q (found_by m s (m s) 11 eleventh) (every_by_one (λ x. not (q x)) 11 (λ t. breaks_11 n t.visit) (λ t. out_line t.visit.outward) s (none s) (m s).visits))

    kept_ten : keep q (spanning n m) ≡ keep q (first_ten n m)
    unfolding spanning first_ten
    kept_ten = keep_flatMap q _ _ (λ s. ap (keep q) (parts_at s) ∙ keep_append q (ten_at s) (last_at s) ∙ ap (λ (l : List Spanning). keep q (ten_at s) ++ l) (last_none s) ∙ append-nil (keep q (ten_at s))) (stations_of n)

  ten_kept : keep early (first_ten n m) ≡ first_ten n m
  unfolding first_ten
  ten_kept = keep_every early (first_ten n m) (every_each early ten_at ten_early (stations_of n))

  early_ten : keep early (spanning n m) ≡ first_ten n m
  early_ten = kept_ten early (λ s a c. tt) ∙ ten_kept

  -- without closures rule 11 finds nothing
  module _ (z : n.closurecount ≡ 0) where
    open_way : (v : Visit) → breaks_11 n v ≡ false
    unfolding breaks_11 leaves closure_rows any
    open_way v = rw z (go v.departed v.outward)
      where
        go : (b : Bool) (o : OutLink) → (not b && elim o [ OutLink.Nothing ↦ false | OutLink.To q ↦ false ]) ≡ false
        go true o = refl
        go false OutLink.Nothing = refl
        go false (OutLink.To q) = refl

    last_nothing : (s : Station) → last_at s ≡ []
    unfolding found_by_all found_by by_one one flat_map
    last_nothing s = append-nil _ ∙ ap (λ (f : Visit → Bool). by_one 11 (λ t. f t.visit) (λ t. out_line t.visit.outward) s (m s).visits) (fun_ext open_way) ∙ none_left (m s).visits
      where
        none_left : (es : List Entry) → by_one 11 (λ t. false) (λ t. out_line t.visit.outward) s es ≡ []
        none_left [] = refl
        none_left (e ∷ es) = none_left es

    only_ten : spanning n m ≡ first_ten n m
    unfolding spanning first_ten
    only_ten = ap (λ (f : Station → List Spanning). flat_map f (stations_of n)) (fun_ext (λ s. parts_at s ∙ ap (λ (l : List Spanning). ten_at s ++ l) (last_nothing s) ∙ append-nil (ten_at s)))

-- the first ten rows read no closure
reopened_ten : (n : Network) (m : Timetable) → first_ten n m ≡ first_ten (reopened n) m
unfolding first_ten reopened rules breaks_5 breaks_6 breaks_10 single line_row line_rows stations_of station_rows
reopened_ten n m = refl

pub closures_alone : OnlyRule11
unfolding findings group_findings pair_findings picked
closures_alone n γ m = record {
  same_ten = reopened_ten n m;
  whole_ten = keep_map of_first_ten (λ x. x.found) (spanning n m) ∙ ap (map (λ (x : Spanning). x.found)) (early_ten n m);
  group_ten = λ g.
      keep_map of_first_ten (λ x. x.found) (keep (inside γ g) (spanning n m))
      ∙ ap (map (λ (x : Spanning). x.found)) (keep_swap early (inside γ g) (spanning n m) ∙ ap (keep (inside γ g)) (early_ten n m));
  pair_ten = λ g h d. ap (map (λ (x : Spanning). x.found)) (kept_ten n m (between γ g h) (λ s a c. apart γ g h d s 11 a c));
  whole_had = λ z. ap (map (λ (x : Spanning). x.found)) (only_ten n m z);
  group_had = λ z g. ap (picked (inside γ g)) (only_ten n m z);
}
