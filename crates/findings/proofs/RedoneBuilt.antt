-- What the builder puts where some rules are redone at each station: the numbers of the findings of a list that are
-- redone. All that a rule finds at a station has that station and that rule, so it is kept as a whole or not at all.
-- Assumes nothing.
use Prim.Native.Nat.{ℕ, zero, suc, ◌+◌}
use mathlib.Core.Path.{◌≡◌, refl, sym, ap, ap₂, ◌∙◌, fun_ext}
use mathlib.Core.Bool.{Bool, true, false, ◌&&◌, ◌||◌}
use mathlib.Core.List.{List, [], ◌∷◌, ◌++◌, map, flat_map}
use native.Mathlib.Numerals.{add-one}
use native.Mathlib.Omega.{arith}
use lib.Dec.{eqb}
use lib.ListN.{length}
use borrow.Author.Tests.{eqb-true}
use Rattle.base.specs.Choice.{◌if◌else◌}
use Rattle.base.specs.Lists.{keep}
use Rattle.base.proofs.Counts.{keep_append, keep_swap, keep_map}
use Rattle.network.specs.Networks.{stations_of, area_of}
use Rattle.timetable.specs.Visits.{ins, outs}
use Rattle.timetable.specs.Tables.{Entry, Table}
use Rattle.timetable.specs.Machine.{Timetable}
use Rattle.timetable.specs.declared.Finding.{Finding}
use Rattle.timetable.specs.Findings.{finding, numbers_of, is_far, Spanning, one, by_one, by_two, by_rank, by_out, by_in, Rule, of_one, of_two, of_relation, of_out, of_in, of_facing}
use Rattle.timetable.specs.Findings.{rules, found_by, found_by_all, at_station, spanning, picked, findings, inside, group_findings}
use Rattle.findings.specs.Types.{Station, Area, Inward, Outward, Visit, Relation, Network}
use Rattle.scope.specs.declared.Scope.{Scope}
use Rattle.scope.specs.declared.redone.Marks.{Marks}
use Rattle.scope.specs.Scopes.{takes}
use Rattle.scope.specs.Redone.{level, is_redone}
use Rattle.builder.specs.between.Builder.{rule_count, rule_numbers, numbers_from, first_rule, rules_redone, redone_station, redone_numbers}
use Rattle.builder.proofs.BuildLaws.{rules_counted}
use Rattle.findings.proofs.ListsBuilt.{gate, gate_none, gate_append, passes, shown, shown_none, shown_append, shown_flat, Each, over, ◌next◌, rules_shown, whole_picked}

keep_flat : {A B : Type 0} (f : B → Bool) (g : A → List B) (xs : List A) → keep f (flat_map g xs) ≡ flat_map (λ x. keep f (g x)) xs
unfolding flat_map keep
keep_flat f g [] = refl
keep_flat f g (x ∷ xs) = keep_append f (g x) (flat_map g xs) ∙ ap (λ ys. keep f (g x) ++ ys) (keep_flat f g xs)

-- what is kept by station and rule, of lists of findings of one station s and one rule k: all, or nothing

module _ (f : Station → ℕ → Bool) where
  abbrev chosen : Spanning → Bool
  chosen x = f x.found.station x.found.rule

  module _ (s : Station) (k : ℕ) where
    abbrev Alike : List Spanning → Type 0
    Alike xs = keep chosen xs ≡ gate (f s k) xs

    alike_none : Alike []
    unfolding keep
    alike_none = sym (gate_none (f s k))

    alike_append : (xs ys : List Spanning) → Alike xs → Alike ys → Alike (xs ++ ys)
    alike_append xs ys p q = keep_append chosen xs ys ∙ ap₂ ◌++◌ p q ∙ gate_append (f s k) xs ys

    alike_flat : {A : Type 0} (g : A → List Spanning) → ((x : A) → Alike (g x)) → (xs : List A) → Alike (flat_map g xs)
    unfolding flat_map
    alike_flat g h [] = alike_none
    alike_flat g h (x ∷ xs) = alike_append (g x) (flat_map g xs) (h x) (alike_flat g h xs)

    alike_one : (b : Bool) (p : Station) (a c : ℕ) → Alike (one b p (finding s k a c))
    unfolding one finding keep
    alike_one true p a c = refl
    alike_one false p a c = alike_none

    alike_two : (g : Visit → Visit → Bool) (es : List Entry) → Alike (by_two k g s es)
    unfolding by_two
    alike_two g [] = alike_none
    alike_two g (t ∷ us) =
        alike_append _ (by_two k g s us) (alike_flat _ (λ u. alike_one (g t.visit u.visit) s t.train.0 u.train.0) us) (alike_two g us)

    alike_rank : (g : Relation → Bool) (i : ℕ) (rs : List Relation) → Alike (by_rank k g s i rs)
    unfolding by_rank
    alike_rank g i [] = alike_none
    alike_rank g i (r ∷ rs) = alike_append _ (by_rank k g s (i + 1) rs) (alike_one (g r) s i 0) (alike_rank g (i + 1) rs)

    alike_out : (g : Table → Entry → Outward → List Spanning) → ((tab : Table) (t : Entry) (o : Outward) → Alike (g tab t o))
        → (m : Timetable) (es : List Entry) → Alike (by_out g m es)
    unfolding by_out
    alike_out g h m es = alike_flat _ (λ t. alike_flat _ (λ o. h (m o.station) t o) (outs t.visit)) es

    alike_in : (g : Table → Entry → Inward → List Spanning) → ((tab : Table) (t : Entry) (i : Inward) → Alike (g tab t i))
        → (m : Timetable) (es : List Entry) → Alike (by_in g m es)
    unfolding by_in
    alike_in g h m es = alike_flat _ (λ t. alike_flat _ (λ i. h (m i.station) t i) (ins t.visit)) es

    alike_found : (m : Timetable) (here : Table) (r : Rule) → Alike (found_by m s here k r)
    unfolding found_by by_one
    alike_found m here (of_one g second) = alike_flat _ (λ t. alike_one (g t) s t.train.0 (second t)) here.visits
    alike_found m here (of_two g) = alike_two g here.visits
    alike_found m here (of_relation g) = alike_rank g 1 here.relations
    alike_found m here (of_out g) = alike_out _ (λ there t o. alike_one (g there t o) o.station t.train.0 0) m here.visits
    alike_found m here (of_in g) = alike_in _ (λ there t i. alike_one (g there t i) i.station t.train.0 0) m here.visits
    alike_found m here (of_facing g) =
        alike_out _ (λ there t o. alike_flat _ (λ u. alike_one (g t o u) o.station t.train.0 u.train.0) there.visits) m here.visits

-- a scope's numbers, of what is kept

shown_gate : (p : Station → Station → Bool) (b : Bool) (xs : List Spanning) → shown p (gate b xs) ≡ gate b (shown p xs)
shown_gate p true xs = refl
shown_gate p false xs = shown_none p

module _ (n : Network) (scope : Scope) (m : Timetable) (here : Table) (s : Station) where
  -- the rules that a test chooses, of as many as are left, from a number on
  unfoldable chosen_from : (ℕ → Bool) → ℕ → ℕ → List ℕ
  chosen_from g rule zero = []
  chosen_from g rule (suc left) = gate (g rule) (rule_numbers n scope m here s rule) ++ chosen_from g (rule + 1) left

  module _ (f : Station → ℕ → Bool) where
    each_chosen : (k : ℕ) (rs : List Rule) → Each n scope m here s k rs
        → shown (takes n scope) (keep (chosen f) (found_by_all m s here k rs)) ≡ chosen_from (f s) k (length rs)
    unfolding found_by_all chosen_from keep
    each_chosen k [] over = shown_none (takes n scope)
    each_chosen k (r ∷ rs) (h next hs) =
        ap (shown (takes n scope)) (keep_append (chosen f) (found_by m s here k r) (found_by_all m s here (suc k) rs))
        ∙ shown_append (takes n scope) (keep (chosen f) (found_by m s here k r)) (keep (chosen f) (found_by_all m s here (suc k) rs))
        ∙ ap₂ (λ (x y : List ℕ). x ++ y)
        (ap (shown (takes n scope)) (alike_found f s k m here r) ∙ shown_gate (takes n scope) (f s k) (found_by m s here k r) ∙ ap (gate (f s k)) h)
        (each_chosen (suc k) rs hs ∙ ap (λ (j : ℕ). chosen_from (f s) j (length rs)) (sym (add-one k)))

    station_chosen : shown (takes n scope) (keep (chosen f) (at_station n m s here)) ≡ chosen_from (f s) 1 rule_count
    unfolding at_station
    station_chosen = each_chosen 1 (rules n s here) (rules_shown n scope m here s) ∙ ap (chosen_from (f s) 1) (rules_counted n s here)

  -- all rules at level 2, rules 7 to 10 at level 1, and nothing at any other
  level_chosen : (k : ℕ) → chosen_from (λ rule. eqb k 2 || (eqb k 1 && is_far rule)) 1 rule_count ≡ numbers_from n scope m here s (first_rule k) (rules_redone k)
  unfolding chosen_from numbers_from first_rule rules_redone is_far
  level_chosen k = go (eqb k 2) refl (eqb k 1) refl
    where
      go : (b : Bool) → eqb k 2 ≡ b → (c : Bool) → eqb k 1 ≡ c
          → chosen_from (λ rule. b || (c && is_far rule)) 1 rule_count ≡ numbers_from n scope m here s (7 if c else 1) (rule_count if b else 4 if c else 0)
      go true p true q = absurd (omega (arith, eqb-true k 2 p, eqb-true k 1 q))
      go true p false q = refl
      go false p true q = refl
      go false p false q = refl

-- THE LAW, over any scope

abbrev pub redone : Marks → Finding → Bool
redone marks f = is_redone marks f.station.0 f.rule

module _ (n : Network) (marks : Marks) (m : Timetable) where
  pub redone_taken : (scope : Scope) → redone_numbers n scope marks m ≡ numbers_of (keep (redone marks) (picked (passes (takes n scope)) (spanning n m)))
  unfolding picked shown redone_numbers redone_station spanning is_redone
  redone_taken scope =
      sym
      (ap numbers_of
      (keep_map (redone marks) (λ x. x.found) (keep (passes (takes n scope)) (spanning n m))
      ∙ ap (map (λ (x : Spanning). x.found)) (keep_swap (λ x. redone marks x.found) (passes (takes n scope)) (spanning n m)))
      ∙ ap (shown (takes n scope)) (keep_flat (λ x. redone marks x.found) (λ s. at_station n m s (m s)) (stations_of n))
      ∙ shown_flat (takes n scope) (λ s. keep (λ x. redone marks x.found) (at_station n m s (m s))) (stations_of n)
      ∙ ap (λ (g : Station → List ℕ). flat_map g (stations_of n))
      (fun_ext (λ s. station_chosen n scope m (m s) s (λ k. is_redone marks k.0) ∙ level_chosen n scope m (m s) s (level marks s.0))))

  pub redone_whole : redone_numbers n Scope.Whole marks m ≡ numbers_of (keep (redone marks) (findings n m))
  redone_whole = redone_taken Scope.Whole ∙ ap (λ (fs : List Finding). numbers_of (keep (redone marks) fs)) (sym (whole_picked n m))

  pub redone_within : (a : Area) → redone_numbers n (Scope.Within a) marks m ≡ numbers_of (keep (redone marks) (group_findings n (area_of n) m a.0))
  unfolding group_findings inside takes
  redone_within a = redone_taken (Scope.Within a)
