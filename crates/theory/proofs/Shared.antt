-- The findings of a whole timetable are shared out among the groups and their pairs, each list formed from the parts
-- alone: the parts give the lists of the whole timetable (Reach), these together have each finding as often as the
-- whole list (Partition, Placed), and there it stands once, since the list rises strictly (Rising). Assumes nothing.
use Prim.Native.Nat.{ℕ, ◌<◌}
use mathlib.Core.Path.{◌≡◌, fun_ext}
use mathlib.Core.Bool.{Bool}
use mathlib.Core.List.{List}
use native.Mathlib.Omega.{arith}
use lib.Dec.{T, ltb→lt}
use Rattle.base.specs.Lists.{count, below, same}
use Rattle.base.proofs.Counts.{count_append, count_flatMap, any_count, count_any}
use Rattle.base.proofs.Sorted.{two_once, same_equal, below_itself}
use Rattle.network.specs.Networks.{listed}
use Rattle.timetable.specs.Machine.{Timetable}
use Rattle.timetable.specs.Groups.{Grouping, divide}
use Rattle.timetable.specs.Good.{Whole}
use Rattle.timetable.specs.Findings.{spanning, findings, numbers, group_findings, pair_findings}
use Rattle.timetable.proofs.Partition.{partition}
use Rattle.theory.specs.Types.{Station, Network, Finding}
use Rattle.theory.specs.Statements.{Grouped, times_listed, all_lists, FindingsAreShared}
use Rattle.theory.proofs.Placed.{placed}
use Rattle.theory.proofs.Reach.{own_part, pair_part}
use Rattle.theory.proofs.Rising.{findings_rise}

-- whatever is counted, the groups' and the pairs' lists have it together as often as the whole list
pub counted_alike : (n : Network) (γ : Grouping) (gs : List ℕ) → Grouped n γ gs → (m : Timetable) → Whole n m
    → (q : Finding → Bool) → count q (all_lists n γ gs (divide γ m)) ≡ count q (findings n m)
unfolding all_lists findings group_findings pair_findings
counted_alike n γ gs G m w q =
    rw (fun_ext (own_part n γ m), fun_ext (pair_part n γ m), count_append, count_flatMap, count_flatMap)
    (partition γ gs (listed n) positive (λ k t. omega (arith, G.in_one k t)) q (spanning n m) (placed n m w))
  where
    positive : (k : Station) → T (listed n k) → 0 < γ k
    positive k t = ltb→lt 0 (γ k) (rw (G.in_none k) at t)

-- the test of being the finding f, by its four numbers
abbrev is_like : Finding → Finding → Bool
is_like f g = same (numbers f) (numbers g)

-- of two equal findings neither is below the other
not_below : (f g h : Finding) → T (is_like f g) → T (is_like f h) → ¬ T (below (numbers g) (numbers h))
not_below f g h t u v = below_itself (numbers f) (rw (← same_equal (numbers f) (numbers g) t, ← same_equal (numbers f) (numbers h) u) at v)

pub findings_shared : FindingsAreShared
unfolding times_listed
findings_shared n good γ gs G m w = record {
  rising = findings_rise n good m w;
  exactly_once = λ f t.
      omega (
        arith,
        counted_alike n γ gs G m w (is_like f),
        any_count (is_like f) (findings n m) t,
        two_once (λ g h. below (numbers g) (numbers h)) (is_like f) (not_below f) (findings n m) (findings_rise n good m w),
      );
  no_other = λ f t.
      count_any (is_like f) (findings n m)
      (omega (arith, counted_alike n γ gs G m w (is_like f), any_count (is_like f) (all_lists n γ gs (divide γ m)) t));
}
