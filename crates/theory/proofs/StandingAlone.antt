-- A standing train adds to rule 2 and to nothing else. Of two visits the new rule is the old one or W2's case; what is
-- found by the one is counted with what is found by the other alone, finding by finding, station by station. The other
-- rules are the same rows. Rule 2 tells of its own station alone, which is not in two groups. Assumes nothing.
use Prim.Native.Nat.{ℕ, ◌+◌}
use mathlib.Core.Path.{◌≡◌, refl, sym, ◌∙◌, ap, ap₂}
use mathlib.Core.Bool.{Bool, true, false, not, ◌&&◌, ◌||◌}
use mathlib.Core.List.{List, [], ◌∷◌, ◌++◌, map, flat_map}
use native.Mathlib.Omega.{arith}
use lib.Dec.{T}
use lib.ListN.{drop}
use Rattle.base.specs.Lists.{keep, count}
use Rattle.base.proofs.Tests.{every_true}
use Rattle.base.proofs.Counts.{count_append, count_map, count_kept, count_parted, keep_two, keep_flatMap, keep_none}
use Rattle.railway.specs.Ranges.{same_track}
use Rattle.railway.specs.declared.visit.Visit.{Visit}
use Rattle.network.specs.Networks.{stations_of}
use Rattle.timetable.specs.Tables.{Entry}
use Rattle.timetable.specs.Machine.{Timetable}
use Rattle.timetable.specs.Rules.{breaks_1, both_too_soon, stands_for, breaks_2}
use Rattle.timetable.specs.Findings.{Spanning, one, finding, by_one, by_two, unused, rules, found_by, found_by_all, at_station, spanning, picked, findings, inside, group_findings, between, pair_findings}
use Rattle.theory.specs.Types.{Station, Network, Finding}
use Rattle.theory.specs.Standing.{broke_2, holds_track, newly_breaks_2, rules_before, found_before, found_anew, OnlyStanding}
use Rattle.theory.proofs.Placed.{spot, apart, every_by_two}

-- the findings of a train with those behind it; at a station, those of rule 1, and those from rule 3 on
abbrev firsts : (Visit → Visit → Bool) → Station → Entry → List Entry → List Spanning
firsts f s t us = flat_map (λ u. one (f t.visit u.visit) s (finding s 2 t.train.0 u.train.0)) us

abbrev head_at : Timetable → Station → List Spanning
head_at m s = by_one 1 (λ t. breaks_1 t.visit) unused s (m s).visits

abbrev rest_at : Network → Timetable → Station → List Spanning
rest_at n m s = found_by_all m s (m s) 3 (drop 2 (rules n s (m s)))

-- of two visits
either_case : (v w : Visit) → breaks_2 v w ≡ (broke_2 v w || holds_track v w)
unfolding breaks_2 broke_2 holds_track
either_case v w = go (same_track v.track w.track)
  where
    go : (x : Bool) → (x && (both_too_soon v w || (stands_for v w || stands_for w v))) ≡ ((x && both_too_soon v w) || (x && (stands_for v w || stands_for w v)))
    go true = refl
    go false = refl

module _ (p : Spanning → Bool) where
  -- one finding: of the old case, or of the new one alone
  one_parted : (old new : Bool) (s : Station) (x : Finding) → count p (one (old || new) s x) ≡ count p (one old s x) + count p (one (not old && new) s x)
  unfolding one count
  one_parted true new s x = omega arith
  one_parted false new s x = omega arith

  -- each two visits of a station
  two_parted : (s : Station) (es : List Entry)
      → count p (by_two 2 breaks_2 s es) ≡ count p (by_two 2 broke_2 s es) + count p (by_two 2 newly_breaks_2 s es)
  unfolding by_two count newly_breaks_2
  two_parted s [] = refl
  two_parted s (t ∷ us) =
      let first =
      count_parted p (λ u. one (breaks_2 t.visit u.visit) s (finding s 2 t.train.0 u.train.0))
      (λ u. one (broke_2 t.visit u.visit) s (finding s 2 t.train.0 u.train.0))
      (λ u. one (not (broke_2 t.visit u.visit) && holds_track t.visit u.visit) s (finding s 2 t.train.0 u.train.0))
      (λ u. ap (λ (b : Bool). count p (one b s (finding s 2 t.train.0 u.train.0))) (either_case t.visit u.visit)
      ∙ one_parted (broke_2 t.visit u.visit) (holds_track t.visit u.visit) s (finding s 2 t.train.0 u.train.0)) us in
      omega
      (arith, first, two_parted s us, count_append p (firsts breaks_2 s t us) (by_two 2 breaks_2 s us), count_append p (firsts broke_2 s t us) (by_two 2 broke_2 s us), count_append p (firsts newly_breaks_2 s t us) (by_two 2 newly_breaks_2 s us))

  -- the one part in the place of the other
  swapped : (a b c b' d : List Spanning) → count p b ≡ count p b' + count p d → count p (a ++ (b ++ c)) ≡ count p (a ++ (b' ++ c)) + count p d
  swapped a b c b' d e = omega (arith, e, count_append p a (b ++ c), count_append p b c, count_append p a (b' ++ c), count_append p b' c)

  module _ (n : Network) (m : Timetable) where
    station_parted : (s : Station)
        → count p (at_station n m s (m s)) ≡ count p (found_by_all m s (m s) 1 (rules_before n s (m s))) + count p (by_two 2 newly_breaks_2 s (m s).visits)
    unfolding at_station rules rules_before found_by_all found_by
    station_parted s =
        swapped (head_at m s) (by_two 2 breaks_2 s (m s).visits) (rest_at n m s) (by_two 2 broke_2 s (m s).visits) (by_two 2 newly_breaks_2 s (m s).visits) (two_parted s (m s).visits)

    all_parted : count p (spanning n m) ≡ count p (found_before n m) + count p (found_anew n m)
    unfolding spanning found_before found_anew
    all_parted = count_parted p _ _ _ station_parted (stations_of n)

-- a test that keeps no finding of rule 2
module _ (q : Spanning → Bool) (none : (s : Station) (a c : ℕ) → T (not (q (spot s s 2 a c)))) (n : Network) (m : Timetable) where
  two_none : (f : Visit → Visit → Bool) (s : Station) (es : List Entry) → keep q (by_two 2 f s es) ≡ []
  two_none f s es = keep_none q (by_two 2 f s es) (every_by_two (λ x. not (q x)) (λ t. true) 2 f s (λ t u c. none s t.train.0 c) es (every_true es))

  kept_swapped : (a b c b' : List Spanning) → keep q b ≡ keep q b' → keep q (a ++ (b ++ c)) ≡ keep q (a ++ (b' ++ c))
  kept_swapped a b c b' e = keep_two q a (b ++ c) a (b' ++ c) refl (keep_two q b c b' c e refl)

  station_kept : (s : Station) → keep q (at_station n m s (m s)) ≡ keep q (found_by_all m s (m s) 1 (rules_before n s (m s)))
  unfolding at_station rules rules_before found_by_all found_by
  station_kept s =
      kept_swapped (head_at m s) (by_two 2 breaks_2 s (m s).visits) (rest_at n m s) (by_two 2 broke_2 s (m s).visits) (two_none breaks_2 s (m s).visits ∙ sym (two_none broke_2 s (m s).visits))

  all_kept : keep q (spanning n m) ≡ keep q (found_before n m)
  unfolding spanning found_before
  all_kept = keep_flatMap q _ _ station_kept (stations_of n)

pub standing_alone : OnlyStanding
unfolding findings group_findings pair_findings picked
standing_alone n γ m = record {
  of_two_visits = either_case;
  whole_more = λ q.
      count_map q (λ x. x.found) (spanning n m) ∙ all_parted (λ x. q x.found) n m
      ∙ sym (ap₂ ◌+◌ (count_map q (λ x. x.found) (found_before n m)) (count_map q (λ x. x.found) (found_anew n m)));
  group_more = λ q g. kept q (inside γ g) (spanning n m) ∙ all_parted (λ x. inside γ g x && q x.found) n m
      ∙ sym (ap₂ ◌+◌ (kept q (inside γ g) (found_before n m)) (kept q (inside γ g) (found_anew n m)));
  pair_as_before = λ g h d. ap (map (λ (x : Spanning). x.found)) (all_kept (between γ g h) (λ s a c. apart γ g h d s 2 a c) n m);
}
  where
    kept : (q : Finding → Bool) (f : Spanning → Bool) (xs : List Spanning) → count q (map (λ x. x.found) (keep f xs)) ≡ count (λ x. f x && q x.found) xs
    kept q f xs = count_map q (λ x. x.found) (keep f xs) ∙ count_kept (λ x. q x.found) f xs
