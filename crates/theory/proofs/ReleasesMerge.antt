-- Rooms at two releases merge to what the centre holds. As long as no visit at the older room's stations is marked, its
-- timetable handed over with mark 0 is its part of the division (Unmarked), so that the railway of both releases is the
-- divided machine, with the older room's part told without its marks (Forgetting): edit by edit it stays that of the
-- central timetable. The proviso speaks of the edits and their answers alone, so it holds in every order that keeps the
-- answers (Exchange). Assumes nothing.
use Prim.Native.Nat.{ℕ, zero, suc}
use mathlib.Core.Path.{◌≡◌, refl, sym, ap, ◌∙◌, fun_ext}
use mathlib.Core.Bool.{Bool, true, false, not, ◌&&◌, ◌||◌}
use mathlib.Core.List.{List, [], ◌∷◌, flat_map}
use native.Mathlib.Omega.{arith}
use lib.Dec.{T, eqb, ltb}
use lib.ListN.{length}
use borrow.Author.Tests.{eqb-true}
use Rattle.std.specs.Prelude.{if◌then◌else◌}
use Rattle.base.specs.Lists.{every}
use Rattle.base.specs.Runs.{run, answers}
use Rattle.base.proofs.Tests.{true_T, if_yes, and_l, and_r, both}
use Rattle.network.specs.Networks.{listed}
use Rattle.timetable.specs.Tables.{empty}
use Rattle.timetable.specs.Machine.{Timetable, meaning, sound, answer, after}
use Rattle.timetable.specs.Groups.{Grouping, reaches, names, names_group, in_group, Divided, divide, merge, gather, divided_answer, divided_after}
use Rattle.theory.specs.Types.{Station, Network, Edit, Answer}
use Rattle.theory.specs.Reordering.{at, along}
use Rattle.theory.specs.Statements.{AnyOrder}
use Rattle.theory.specs.Earlier as Earlier
use Rattle.theory.specs.Releases.{early_table, early_edit, unmarked_table, unmarked, Railway, handed, older_sees, older_after, both_after, newer_answer, older_answer, two_releases}
use Rattle.theory.specs.Releases.{UnmarkedThere, marks_there, none_marks, ReleasesMerge}
use Rattle.theory.proofs.Positions.{at_both, along_cons}
use Rattle.theory.proofs.Split.{which_group, grouped_in, merged_grouped}
use Rattle.theory.proofs.Divided.{named_group, answer_divided, after_divided}
use Rattle.theory.proofs.Ordered.{any_order, round_trip}
use Rattle.theory.proofs.Kept.{run_whole}
use Rattle.theory.proofs.Forgetting.{early, Judged, judged_sound, answer_early, after_early}
use Rattle.theory.proofs.Unmarked.{table_back, after_unmarked}

-- the railway of a central timetable

module _ (n : Network) (γ : Grouping) (g : ℕ) (m : Timetable) (plain : UnmarkedThere n γ g m) where
  abbrev rooms : Railway
  rooms = two_releases n γ g m

  older_part : rooms.older ≡ early (divide γ m g)
  unfolding two_releases
  older_part = refl

  part_back : (k : Station) → unmarked_table (early_table (divide γ m g k)) ≡ divide γ m g k
  unfolding divide empty every
  part_back k = table_back (divide γ m g k) (go (in_group γ g k) refl)
    where
      go : (b : Bool) → in_group γ g k ≡ b → T (every (λ e. not e.visit.marked) (if b then m k else empty).visits)
      go true q = plain k (true_T (in_group γ g k) q)
      go false q = tt

  -- what is handed over is the division
  handed_back : handed n γ g rooms ≡ divide γ m
  unfolding handed two_releases unmarked
  handed_back = fun_ext λ h. go h (eqb h g) refl
    where
      go : (h : ℕ) (b : Bool) → eqb h g ≡ b → (if b then unmarked (λ k. early_table (divide γ m g k)) else divide γ m h) ≡ divide γ m h
      go h true q = rw (eqb-true h g q) (fun_ext part_back)
      go h false q = refl

  module _ (e : Edit) where
    -- what the edit reads of the division
    abbrev read : Timetable
    read = gather γ (names_group n γ e) (divide γ m)

    read_own : T (names_group n γ e g) → (k : Station) → T (in_group γ g k) → read k ≡ divide γ m g k
    unfolding gather merge in_group
    read_own t k u =
        if_yes (names_group n γ e (γ k)) _ empty (rw (← which_group empty γ g k u) t)
        ∙ merged_grouped empty γ (divide γ m) k (grouped_in empty γ g k u) ∙ rw (← which_group empty γ g k u)

    -- the older room reads that without its marks
    sees_early : T (names_group n γ e g) → older_sees n γ g e rooms ≡ early read
    unfolding older_sees
    sees_early t = fun_ext λ k. go k (in_group γ g k) refl
      where
        go : (k : Station) (b : Bool) → in_group γ g k ≡ b
            → (if b then rooms.older k else early_table (gather γ (names_group n γ e) (handed n γ g rooms) k)) ≡ early_table (read k)
        go k true q = ap (λ (x : Earlier.Timetable). x k) older_part ∙ ap early_table (sym (read_own t k (true_T (in_group γ g k) q)))
        go k false q = ap (λ (d : Divided). early_table (gather γ (names_group n γ e) d k)) handed_back

    -- an edit that names a group is sound
    judged : T (names_group n γ e g) → Judged e
    unfolding names
    judged t = let (k, q, u) = named_group n γ e g t in judged_sound e (and_l (sound e) (reaches n (meaning e) k) u)

    older_early : older_after n γ g e rooms ≡ early (divided_after n γ e (divide γ m) g)
    unfolding older_after divided_after divide early_table empty Earlier.empty
    older_early = go (names_group n γ e g) refl
      where
        own : (k : Station) (b : Bool) → (if b then early_table (after n e read k) else Earlier.empty) ≡ early_table (if b then after n e read k else empty)
        own k true = refl
        own k false = refl

        go : (b : Bool) → names_group n γ e g ≡ b
            → (if b then (λ k. if in_group γ g k then Earlier.after n (early_edit e) (older_sees n γ g e rooms) k else Earlier.empty) else rooms.older)
            ≡ early (if b then divide γ (after n e read) g else divide γ m g)
        go true q =
            let t = true_T (names_group n γ e g) q in
            rw (sees_early t) (fun_ext λ k. rw (after_early n e read (judged t) k) (own k (in_group γ g k)))
        go false q = older_part

    newer_told : newer_answer n γ g e rooms ≡ divided_answer n γ e (divide γ m)
    unfolding newer_answer
    newer_told = ap (divided_answer n γ e) handed_back

    older_told : older_answer n γ g e rooms ≡ divided_answer n γ e (divide γ m)
    unfolding older_answer divided_answer
    older_told = go (names_group n γ e g) refl
      where
        go : (b : Bool) → names_group n γ e g ≡ b
            → (if b then Earlier.answer n (early_edit e) (older_sees n γ g e rooms) else newer_answer n γ g e rooms) ≡ answer n e read
        go true q = let t = true_T (names_group n γ e g) q in rw (sees_early t) (answer_early n e read (judged t))
        go false q = newer_told

-- the edits one after another

-- an edit that is refused, or does not mark at the older room's stations
abbrev spares : Network → Grouping → ℕ → Edit → Answer → Bool
spares n γ g e a = not (marks_there n γ g e) || not (eqb a.refusal 0)

module _ (n : Network) (γ : Grouping) (same-listed : (k : Station) → listed n k ≡ ltb 0 (γ k)) (g : ℕ) where
  pub answer_older : (e : Edit) (m : Timetable) → UnmarkedThere n γ g m → older_answer n γ g e (two_releases n γ g m) ≡ answer n e m
  answer_older e m plain = older_told n γ g m plain e ∙ answer_divided n γ same-listed e m

  answer_newer : (e : Edit) (m : Timetable) → UnmarkedThere n γ g m → newer_answer n γ g e (two_releases n γ g m) ≡ answer n e m
  answer_newer e m plain = newer_told n γ g m plain e ∙ answer_divided n γ same-listed e m

  -- an edit leaves the railway of the timetable that it leaves the centre
  pub step_both : (e : Edit) (m : Timetable) → UnmarkedThere n γ g m → both_after n γ g e (two_releases n γ g m) ≡ two_releases n γ g (after n e m)
  unfolding both_after two_releases
  step_both e m plain = λ i. record { older = older i; newer = newer i }
    where
      older : older_after n γ g e (two_releases n γ g m) ≡ early (divide γ (after n e m) g)
      older = older_early n γ g m plain e ∙ ap (λ (d : Divided). early (d g)) (after_divided n γ same-listed e m)

      newer : divided_after n γ e (handed n γ g (two_releases n γ g m)) ≡ divide γ (after n e m)
      newer = ap (divided_after n γ e) (handed_back n γ g m plain) ∙ after_divided n γ same-listed e m

  record Both (es : List Edit) (m : Timetable) : Type 0 where
    older_answers : answers (both_after n γ g) (older_answer n γ g) es (two_releases n γ g m) ≡ answers (after n) (answer n) es m
    newer_answers : answers (both_after n γ g) (newer_answer n γ g) es (two_releases n γ g m) ≡ answers (after n) (answer n) es m
    same_rooms : run (both_after n γ g) es (two_releases n γ g m) ≡ two_releases n γ g (run (after n) es m)
    still_unmarked : UnmarkedThere n γ g (run (after n) es m)

  runs_both : (es : List Edit) (m : Timetable) → UnmarkedThere n γ g m → T (none_marks n γ g es m) → Both es m
  unfolding run answers none_marks
  runs_both [] m plain h = record { older_answers = refl; newer_answers = refl; same_rooms = refl; still_unmarked = plain }
  runs_both (e ∷ es) m plain h =
      let spared : T (spares n γ g e (answer n e m)) = and_l (spares n γ g e (answer n e m)) (none_marks n γ g es (after n e m)) h in
      let later : Both es (after n e m) =
      runs_both es (after n e m) (after_unmarked n γ g m plain e spared) (and_r (spares n γ g e (answer n e m)) (none_marks n γ g es (after n e m)) h) in
      record {
        older_answers = rw (step_both e m plain, answer_older e m plain, later.older_answers);
        newer_answers = rw (step_both e m plain, answer_newer e m plain, later.newer_answers);
        same_rooms = rw (step_both e m plain) later.same_rooms;
        still_unmarked = later.still_unmarked;
      }

-- the proviso in another order

module _ {A B : Type 0} (f : A → B → Bool) where
  -- each two that stand at one position pass the test
  unfoldable beside : List A → List B → Bool
  beside [] ys = true
  beside (x ∷ xs) [] = true
  beside (x ∷ xs) (y ∷ ys) = f x y && beside xs ys

  beside_at : (xs : List A) (ys : List B) → length xs ≡ length ys → T (beside xs ys) → (i : ℕ) → T (beside (at xs i) (at ys i))
  unfolding beside at
  beside_at [] ys l h zero = tt
  beside_at [] ys l h (suc i) = tt
  beside_at (x ∷ xs) [] l h i = absurd (omega arith)
  beside_at (x ∷ xs) (y ∷ ys) l h zero = both (f x y) true (and_l (f x y) (beside xs ys) h) tt
  beside_at (x ∷ xs) (y ∷ ys) l h (suc i) = beside_at xs ys (omega arith) (and_r (f x y) (beside xs ys) h) i

  beside_along : (xs : List A) (ys : List B) → length xs ≡ length ys → T (beside xs ys) → (ps : List ℕ) → T (beside (along xs ps) (along ys ps))
  unfolding beside along flat_map
  beside_along xs ys l h [] = tt
  beside_along xs ys l h (p ∷ ps) =
      let ih : T (beside (along xs ps) (along ys ps)) = beside_along xs ys l h ps in
      let here : T (beside (at xs p) (at ys p)) = beside_at xs ys l h p in
      at_both xs ys l p
      (λ q r. rw (along_cons xs p ps, along_cons ys p ps, q, r) ih)
      (λ x y q r. rw (along_cons xs p ps, along_cons ys p ps, q, r) (both (f x y) (beside (along xs ps) (along ys ps)) (and_l (f x y) true (rw (q, r) at here)) ih))

answers_length : (n : Network) (es : List Edit) (m : Timetable) → length es ≡ length (answers (after n) (answer n) es m)
unfolding answers
answers_length n [] m = refl
answers_length n (e ∷ es) m = ap suc (answers_length n es (after n e m))

module _ (n : Network) (γ : Grouping) (g : ℕ) where
  -- the proviso is a test of the edits beside their answers
  none_beside : (es : List Edit) (m : Timetable) → none_marks n γ g es m ≡ beside (spares n γ g) es (answers (after n) (answer n) es m)
  unfolding none_marks answers beside
  none_beside [] m = refl
  none_beside (e ∷ es) m = ap (λ (b : Bool). spares n γ g e (answer n e m) && b) (none_beside es (after n e m))

  pub none_along : (es : List Edit) (m : Timetable) (ps : List ℕ) → AnyOrder n m es ps → T (none_marks n γ g es m) → T (none_marks n γ g (along es ps) m)
  none_along es m ps O h =
      rw (none_beside (along es ps) m, O.same_answers)
      (beside_along (spares n γ g) es (answers (after n) (answer n) es m) (answers_length n es m) (rw (none_beside es m) at h) ps)

-- THEOREM. In every order that demand 3 allows, the rooms of both releases answer as the central machine in the first
-- order, and merge to its timetable
pub releases_merge : ReleasesMerge
releases_merge n good γ gs G g m w plain es h ps R =
    let there : AnyOrder n m es ps = any_order n γ m es ps R in
    let last : Timetable = run (after n) es m in
    let ended : Both n γ G.in_none g (along es ps) m = runs_both n γ G.in_none g (along es ps) m plain (none_along n γ g es m ps there h) in
    record {
      older_answers = ended.older_answers ∙ there.same_answers;
      newer_answers = ended.newer_answers ∙ there.same_answers;
      same_rooms = ended.same_rooms ∙ ap (two_releases n γ g) there.same_timetable;
      still_unmarked = rw there.same_timetable at ended.still_unmarked;
      same_merged =
          ap (λ (x : Railway). merge γ (handed n γ g x)) ended.same_rooms
          ∙ ap (merge γ) (handed_back n γ g (run (after n) (along es ps) m) ended.still_unmarked)
          ∙ ap (λ (x : Timetable). merge γ (divide γ x)) there.same_timetable
          ∙ (round_trip n γ gs G).merged_back last (run_whole n es m w);
    }
