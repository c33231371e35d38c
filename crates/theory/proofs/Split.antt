-- A state that gives each place a part, split by groups of places: γ is the group of each place, 0 where it is in none.
-- Whatever the places, the parts and the edits, if edits are local then edits on the parts of the named groups are the
-- edits on the whole, and splitting and merging undo each other. A place that an edit touches is in a group that it
-- names, so the gathered parts hold all that it reads, and locality does the rest. Assumes nothing.
use mathlib.Core.Path.{◌≡◌, refl, sym, ◌∙◌, fun_ext}
use mathlib.Core.Bool.{Bool, ◌&&◌}
use mathlib.Core.List.{List, [], ◌∷◌}
use Prim.Native.Nat.{ℕ}
use lib.Dec.{T, eqb, ltb, eqb_refl, eqb→eq}
use Rattle.std.specs.Prelude.{if◌then◌else◌}
use Rattle.base.specs.Runs.{run, answers}
use Rattle.base.proofs.Tests.{by_test, if_yes, if_no, and_l, and_r, both}
use Rattle.theory.proofs.Local.{LocalStep}

module _ {Place Part : Type 0} (nothing : Part) (γ : Place → ℕ) where
  -- timetable Groups has these four of tables: in_group, divide, merge, gather

  abbrev inside : ℕ → Place → Bool
  inside g k = ltb 0 g && eqb g (γ k)

  abbrev split : (Place → Part) → ℕ → Place → Part
  split m = λ g k. if inside g k then m k else nothing

  abbrev merged : (ℕ → Place → Part) → Place → Part
  merged d = λ k. if ltb 0 (γ k) then d (γ k) k else nothing

  abbrev gathered : (ℕ → Bool) → (ℕ → Place → Part) → Place → Part
  gathered p d = λ k. if p (γ k) then merged d k else nothing

  pub own_group : (k : Place) → T (ltb 0 (γ k)) → T (inside (γ k) k)
  own_group k t = both (ltb 0 (γ k)) (eqb (γ k) (γ k)) t (eqb_refl (γ k))

  pub which_group : (g : ℕ) (k : Place) → T (inside g k) → g ≡ γ k
  which_group g k t = eqb→eq g (γ k) (and_r (ltb 0 g) (eqb g (γ k)) t)

  pub grouped_in : (g : ℕ) (k : Place) → T (inside g k) → T (ltb 0 (γ k))
  grouped_in g k t = rw (← which_group g k t) (and_l (ltb 0 g) (eqb g (γ k)) t)

  -- a place of a group: its part is there
  pub split_own : (m : Place → Part) (g : ℕ) (k : Place) → T (inside g k) → split m g k ≡ m k
  split_own m g k t = if_yes (inside g k) (m k) nothing t

  pub split_other : (m : Place → Part) (g : ℕ) (k : Place) → ¬ T (inside g k) → split m g k ≡ nothing
  split_other m g k t = if_no (inside g k) (m k) nothing t

  pub merged_grouped : (d : ℕ → Place → Part) (k : Place) → T (ltb 0 (γ k)) → merged d k ≡ d (γ k) k
  merged_grouped d k t = if_yes (ltb 0 (γ k)) (d (γ k) k) nothing t

  pub merged_ungrouped : (d : ℕ → Place → Part) (k : Place) → ¬ T (ltb 0 (γ k)) → merged d k ≡ nothing
  merged_ungrouped d k t = if_no (ltb 0 (γ k)) (d (γ k) k) nothing t

  -- what is split is known by the parts of its own places
  split_agree : (m m' : Place → Part) (g : ℕ) → ((k : Place) → T (inside g k) → m k ≡ m' k) → split m g ≡ split m' g
  split_agree m m' g h =
      fun_ext λ k. by_test (inside g k)
      (λ t. split_own m g k t ∙ h k t ∙ sym (split_own m' g k t))
      (λ t. split_other m g k t ∙ sym (split_other m' g k t))

  -- there and back

  -- a grouped place has its part back
  merged_split : (m : Place → Part) (k : Place) → T (ltb 0 (γ k)) → merged (split m) k ≡ m k
  merged_split m k t = merged_grouped (split m) k t ∙ split_own m (γ k) k (own_group k t)

  -- so has a place of a gathered group
  gathered_split : (p : ℕ → Bool) (m : Place → Part) (k : Place) → T (p (γ k)) → T (ltb 0 (γ k)) → gathered p (split m) k ≡ m k
  gathered_split p m k t u = if_yes (p (γ k)) (merged (split m) k) nothing t ∙ merged_split m k u

  pub merged_back : (m : Place → Part) → ((k : Place) → ¬ T (ltb 0 (γ k)) → m k ≡ nothing) → merged (split m) ≡ m
  merged_back m bare = fun_ext λ k. by_test (ltb 0 (γ k)) (merged_split m k) (λ t. merged_ungrouped (split m) k t ∙ sym (bare k t))

  pub split_back : (d : ℕ → Place → Part) → ((g : ℕ) (k : Place) → ¬ T (inside g k) → d g k ≡ nothing) → split (merged d) ≡ d
  split_back d bare =
      fun_ext λ g. fun_ext λ k. by_test (inside g k)
      (λ t. split_own (merged d) g k t ∙ merged_grouped d k (grouped_in g k t) ∙ rw (← which_group g k t))
      (λ t. split_other (merged d) g k t ∙ sym (bare g k t))

  -- groups of groups: c gives each group its centre, and a centre's part is gathered from those of its groups
  pub merged_by_centres : (c : ℕ → ℕ) → ((k : Place) → ltb 0 (c (γ k)) ≡ ltb 0 (γ k)) → (d : ℕ → Place → Part)
      → (λ k. if ltb 0 (c (γ k)) then gathered (λ g. eqb (c g) (c (γ k))) d k else nothing) ≡ merged d
  merged_by_centres c whole d =
      fun_ext λ k. by_test (ltb 0 (γ k))
      (λ t. if_yes (ltb 0 (c (γ k))) _ _ (rw (whole k) t) ∙ if_yes (eqb (c (γ k)) (c (γ k))) _ _ (eqb_refl (c (γ k))))
      (λ t. if_no (ltb 0 (c (γ k))) _ _ (λ u. t (rw (← whole k) u)) ∙ sym (merged_ungrouped d k t))

  -- edits on the named groups

  module _ {Edit Answer : Type 0} (touches : Edit → Place → Bool)
      (step : Edit → (Place → Part) → Place → Part) (answer : Edit → (Place → Part) → Answer) (L : LocalStep touches step answer)
      (names : Edit → ℕ → Bool) (named : (e : Edit) (k : Place) → T (touches e k) → T (names e (γ k)))
      (placed : (e : Edit) (k : Place) → T (touches e k) → T (ltb 0 (γ k))) where
    -- timetable Groups has these of the central machine: divided_answer, divided_after

    abbrev split_answer : Edit → (ℕ → Place → Part) → Answer
    split_answer e d = answer e (gathered (names e) d)

    abbrev split_step : Edit → (ℕ → Place → Part) → ℕ → Place → Part
    split_step e d = λ g. if names e g then split (step e (gathered (names e) d)) g else d g

    module _ (e : Edit) (m : Place → Part) where
      abbrev read : Place → Part
      read = gathered (names e) (split m)

      read-agree : (k : Place) → T (touches e k) → read k ≡ m k
      read-agree k t = gathered_split (names e) m k (named e k t) (placed e k t)

      pub same_answer : split_answer e (split m) ≡ answer e m
      same_answer = L.same_answer e read m read-agree

      -- a part of a named group afterwards
      named_part : (g : ℕ) → T (names e g) → (k : Place) → T (inside g k) → step e read k ≡ step e m k
      named_part g t k u =
          by_test (touches e k)
          (L.same_change e read m read-agree k)
          (λ r. L.others_kept e read k r ∙ gathered_split (names e) m k (rw (← which_group g k u) t) (grouped_in g k u) ∙ sym (L.others_kept e m k r))

      -- and of another
      other-part : (g : ℕ) → ¬ T (names e g) → (k : Place) → T (inside g k) → m k ≡ step e m k
      other-part g t k u = sym (L.others_kept e m k (λ r. t (rw (which_group g k u) (named e k r))))

      pub same_step : split_step e (split m) ≡ split (step e m)
      same_step =
          fun_ext λ g. by_test (names e g)
          (λ t. if_yes (names e g) (split (step e read) g) (split m g) t ∙ split_agree (step e read) (step e m) g (named_part g t))
          (λ t. if_no (names e g) (split (step e read) g) (split m g) t ∙ split_agree m (step e m) g (other-part g t))

    -- and one after another
    pub same_run : (es : List Edit) (m : Place → Part) → run split_step es (split m) ≡ split (run step es m)
    unfolding run
    same_run [] m = refl
    same_run (e ∷ es) m = rw (same_step e m) (same_run es (step e m))

    pub same_answers : (es : List Edit) (m : Place → Part) → answers split_step split_answer es (split m) ≡ answers step answer es m
    unfolding answers
    same_answers [] m = refl
    same_answers (e ∷ es) m = rw (same_step e m, same_answer e m, same_answers es (step e m))
