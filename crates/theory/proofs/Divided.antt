-- A timetable divided by groups of stations is a state split by groups of places (Split), the places stations and the
-- parts tables: an edit on the named groups' parts is the edit on the whole, and dividing and merging undo each other.
-- A station that an edit names is listed, so it is in a group, which is named too. Assumes nothing.
use mathlib.Core.Path.{◌≡◌}
use mathlib.Core.Bool.{◌&&◌}
use mathlib.Core.List.{List}
use Prim.Native.Nat.{ℕ}
use lib.Dec.{T, eqb, ltb, eqb_refl, eqb→eq, T_not, not_T}
use Rattle.base.specs.Runs.{run, answers}
use Rattle.base.proofs.Tests.{and_l, and_r, both, any_weaker, any_one}
use Rattle.railway.specs.Ranges.{same_station}
use Rattle.network.specs.Networks.{stations_of, listed}
use Rattle.timetable.specs.Tables.{empty}
use Rattle.timetable.specs.Machine.{Timetable, answer, after}
use Rattle.timetable.specs.Groups.{Grouping, names, names_group, in_group, Divided, divide, merge, gather, divided_answer, divided_after}
use Rattle.timetable.specs.Good.{Whole, GoodDivision}
use Rattle.timetable.proofs.Locality.{same_station_equal, same_answer, same_change, others_kept, names_listed}
use Rattle.theory.specs.Types.{Station, Edit, Network}
use Rattle.theory.specs.Reordering.{Meet}
use Rattle.theory.proofs.Local.{LocalStep}
use Rattle.theory.proofs.Split as Split
use Rattle.theory.proofs.Split.{own_group, grouped_in, split_own, split_other, merged_grouped, merged_ungrouped}

-- every edit is local
pub local_step : (n : Network) → LocalStep (names n) (after n) (answer n)
local_step n = record { same_answer = same_answer n; same_change = same_change n; others_kept = others_kept n }

-- named groups

-- the group of a named station is named
pub group_named : (n : Network) (γ : Grouping) (e : Edit) (k : Station) → T (names n e k) → T (names_group n γ e (γ k))
unfolding names_group listed
group_named n γ e k r =
    any_weaker (same_station k) (λ s. eqb (γ k) (γ s) && names n e s)
    (λ s t. rw (← same_station_equal k s t) (both (eqb (γ k) (γ k)) (names n e k) (eqb_refl (γ k)) r))
    (stations_of n) (names_listed n e k r)

-- and no other group is
pub named_group : (n : Network) (γ : Grouping) (e : Edit) (g : ℕ) → T (names_group n γ e g) → (k : Station) × (g ≡ γ k) × T (names n e k)
unfolding names_group
named_group n γ e g t =
    let (k, u) = any_one (λ s. eqb g (γ s) && names n e s) (stations_of n) t in
    (k, eqb→eq g (γ k) (and_l (eqb g (γ k)) (names n e k) u), and_r (eqb g (γ k)) (names n e k) u)

-- edits that name no common group name no common station
pub groups_apart : (n : Network) (γ : Grouping) (e f : Edit) → ¬ Meet (names_group n γ) e f → (k : Station) → T (names n e k) → ¬ T (names n f k)
groups_apart n γ e f h k t u = h (γ k, group_named n γ e k t, group_named n γ f k u)

-- the edit on the named groups

module _ (n : Network) (γ : Grouping) (same-listed : (k : Station) → listed n k ≡ ltb 0 (γ k)) where
  placed : (e : Edit) (k : Station) → T (names n e k) → T (ltb 0 (γ k))
  placed e k t = rw (← same-listed k) (names_listed n e k t)

  pub answer_divided : (e : Edit) (m : Timetable) → divided_answer n γ e (divide γ m) ≡ answer n e m
  unfolding divided_answer divide merge gather in_group
  answer_divided = Split.same_answer empty γ (names n) (after n) (answer n) (local_step n) (names_group n γ) (group_named n γ) placed

  pub after_divided : (e : Edit) (m : Timetable) → divided_after n γ e (divide γ m) ≡ divide γ (after n e m)
  unfolding divided_after divide merge gather in_group
  after_divided = Split.same_step empty γ (names n) (after n) (answer n) (local_step n) (names_group n γ) (group_named n γ) placed

  pub run_divided : (es : List Edit) (m : Timetable) → run (divided_after n γ) es (divide γ m) ≡ divide γ (run (after n) es m)
  unfolding divided_after divide merge gather in_group
  run_divided = Split.same_run empty γ (names n) (after n) (answer n) (local_step n) (names_group n γ) (group_named n γ) placed

  pub answers_divided : (es : List Edit) (m : Timetable) → answers (divided_after n γ) (divided_answer n γ) es (divide γ m) ≡ answers (after n) (answer n) es m
  unfolding divided_after divided_answer divide merge gather in_group
  answers_divided = Split.same_answers empty γ (names n) (after n) (answer n) (local_step n) (names_group n γ) (group_named n γ) placed

-- there and back

module _ (n : Network) (γ : Grouping) (same-listed : (k : Station) → listed n k ≡ ltb 0 (γ k)) where
  pub merged_back : (m : Timetable) → Whole n m → merge γ (divide γ m) ≡ m
  unfolding divide merge in_group
  merged_back m W = Split.merged_back empty γ m (λ k t. W.bare k (rw (same-listed k) (not_T (ltb 0 (γ k)) t)))

  pub divided_back : (d : Divided) → GoodDivision n γ d → divide γ (merge γ d) ≡ d
  unfolding divide merge in_group
  divided_back d D = Split.split_back empty γ d (λ g k t. (D g).bare k (not_T (listed n k && in_group γ g k) (λ u. t (and_r (listed n k) (in_group γ g k) u))))

  pub divided_good : (m : Timetable) → Whole n m → GoodDivision n γ (divide γ m)
  unfolding divide in_group
  divided_good m W g = record {
    good = λ k t. rw (split_own empty γ m g k (and_r (listed n k) (in_group γ g k) t)) (W.good k (and_l (listed n k) (in_group γ g k) t));
    bare = λ k t. split_other empty γ m g k
        (λ u. T_not (listed n k && in_group γ g k) t (both (listed n k) (in_group γ g k) (rw (same-listed k) (grouped_in empty γ g k u)) u));
  }

  pub merged_whole : (d : Divided) → GoodDivision n γ d → Whole n (merge γ d)
  unfolding merge in_group
  merged_whole d D = record {
    good = λ k t.
        let u : T (ltb 0 (γ k)) = rw (← same-listed k) t in
        rw (merged_grouped empty γ d k u) ((D (γ k)).good k (both (listed n k) (in_group γ (γ k) k) t (own_group empty γ k u)));
    bare = λ k t. merged_ungrouped empty γ d k (λ u. T_not (listed n k) t (rw (same-listed k) u));
  }
