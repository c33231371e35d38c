-- What the builder puts are the lists of document 01: the numbers of the findings that a scope takes, rule by rule, are
-- what each walk puts. Assumes nothing.
use Prim.Native.Nat.{ℕ, suc, ◌+◌}
use mathlib.Core.Path.{◌≡◌, refl, sym, ap, ap₂, ◌∙◌, fun_ext}
use mathlib.Core.Bool.{Bool, true, false, not, ◌&&◌}
use mathlib.Core.List.{List, [], ◌∷◌, ◌++◌, map, flat_map, append-nil, append_assoc}
use native.Mathlib.Numerals.{add-one}
use lib.ListN.{length}
use Rattle.std.specs.Prelude.{if◌then◌else◌}
use Rattle.base.specs.Lists.{keep}
use Rattle.base.proofs.Tests.{every_true}
use Rattle.base.proofs.Counts.{keep_append, keep_every}
use Rattle.network.specs.Networks.{stations_of, area_of}
use Rattle.railway.specs.declared.visit.InLink.{InLink}
use Rattle.railway.specs.declared.visit.OutLink.{OutLink}
use Rattle.timetable.specs.Visits.{ins, outs, comes, leaves, with_in, with_out}
use Rattle.timetable.specs.Tables.{Entry, Table}
use Rattle.timetable.specs.Machine.{Timetable}
use Rattle.timetable.specs.Rules.{breaks_1, breaks_2, breaks_3, met, breaks_5, breaks_6, out_answered, in_answered, breaks_9, breaks_10, breaks_11, out_line}
use Rattle.timetable.specs.Findings.{finding, numbers, numbers_of, is_far, Spanning, Rule, one, by_one, by_two, by_rank, by_out, by_in, of_out, of_in, of_facing, unused, rules, found_by, found_by_all, at_station, spanning, picked, findings, inside, group_findings, between, pair_findings}
use Rattle.findings.specs.Types.{Station, Area, Inward, Outward, Visit, Relation, Network}
use Rattle.scope.specs.declared.Scope.{Scope}
use Rattle.rule_tests.specs.between.Tests.{beside, clash, out_broken, in_broken, far_broken, own_broken, broken, second_of}
use Rattle.builder.specs.between.Builder.{rule_count, told, against, unmet_numbers, facing, step, walk, rule_numbers, numbers_from, station_numbers, all_numbers}
use Rattle.scope.specs.Scopes.{takes}
use Rattle.builder.proofs.BuildLaws.{rules_counted}

-- lists in a row

module _ {A : Type 0} (f : A → List ℕ) where
  flat_append : (xs ys : List A) → flat_map f (xs ++ ys) ≡ flat_map f xs ++ flat_map f ys
  unfolding flat_map
  flat_append [] ys = refl
  flat_append (x ∷ xs) ys = ap (λ (zs : List ℕ). f x ++ zs) (flat_append xs ys) ∙ sym (append_assoc (f x) (flat_map f xs) (flat_map f ys))

map_append : {A B : Type 0} (f : A → B) (xs ys : List A) → map f (xs ++ ys) ≡ map f xs ++ map f ys
map_append f [] ys = refl
map_append f (x ∷ xs) ys = ap (λ zs. f x ∷ zs) (map_append f xs ys)

-- all of a list, or nothing of it

module _ {A : Type 0} where
  abbrev pub gate : Bool → List A → List A
  gate b xs = if b then xs else []

  pub gate_none : (b : Bool) → gate b [] ≡ []
  gate_none true = refl
  gate_none false = refl

  pub gate_append : (b : Bool) (xs ys : List A) → gate b xs ++ gate b ys ≡ gate b (xs ++ ys)
  gate_append true xs ys = refl
  gate_append false xs ys = refl

nothing_flat : {A : Type 0} (es : List A) → flat_map {B = ℕ} (λ e. []) es ≡ []
unfolding flat_map
nothing_flat [] = refl
nothing_flat (e ∷ es) = nothing_flat es

told_one : (b c : Bool) (s : Station) (rule x y : ℕ) → told (b && c) s rule x y ≡ gate b (told c s rule x y)
unfolding told
told_one true c s rule x y = refl
told_one false c s rule x y = refl

told_gate : (b : Bool) (f : Entry → Bool) (s : Station) (rule : ℕ) (x y : Entry → ℕ) (es : List Entry)
    → flat_map (λ e. told (b && f e) s rule (x e) (y e)) es ≡ gate b (flat_map (λ e. told (f e) s rule (x e) (y e)) es)
unfolding told
told_gate true f s rule x y es = refl
told_gate false f s rule x y es = nothing_flat es

-- each two of a list, the one before the other
unfoldable two_from : ℕ → (Entry → Entry → Bool) → Station → List Entry → List ℕ
two_from rule f s [] = []
two_from rule f s (t ∷ us) = flat_map (λ u. told (f t u) s rule t.train.0 u.train.0) us ++ two_from rule f s us

-- a finding of a link, as a list of one or none

told_out : (f : Outward → Bool) (s : Station) (rule x y : ℕ) (v : Visit) → flat_map (λ o. told (f o) s rule x y) (outs v) ≡ told (leaves f v) s rule x y
unfolding outs leaves with_out flat_map told
told_out f s rule x y v = go v.outward
  where
    go : (l : OutLink) → flat_map (λ o. told (f o) s rule x y) (outs (with_out l v)) ≡ told (leaves f (with_out l v)) s rule x y
    go OutLink.Nothing = refl
    go (OutLink.To o) = append-nil (told (f o) s rule x y)

told_in : (f : Inward → Bool) (s : Station) (rule x y : ℕ) (v : Visit) → flat_map (λ i. told (f i) s rule x y) (ins v) ≡ told (comes f v) s rule x y
unfolding ins comes with_in flat_map told
told_in f s rule x y v = go v.inward
  where
    go : (l : InLink) → flat_map (λ i. told (f i) s rule x y) (ins (with_in l v)) ≡ told (comes f (with_in l v)) s rule x y
    go InLink.Nothing = refl
    go (InLink.From i) = append-nil (told (f i) s rule x y)

-- the numbers of the findings that pass a test of station and far station

module _ (p : Station → Station → Bool) where
  abbrev pub passes : Spanning → Bool
  passes x = p x.found.station x.far

  unfoldable pub shown : List Spanning → List ℕ
  shown xs = numbers_of (picked passes xs)

  pub shown_none : shown [] ≡ []
  unfolding shown picked numbers_of keep flat_map
  shown_none = refl

  pub shown_append : (xs ys : List Spanning) → shown (xs ++ ys) ≡ shown xs ++ shown ys
  unfolding shown picked numbers_of
  shown_append xs ys =
      ap (λ (zs : List Spanning). flat_map numbers (map (λ x. x.found) zs)) (keep_append passes xs ys)
      ∙ ap (flat_map numbers) (map_append (λ (x : Spanning). x.found) (keep passes xs) (keep passes ys))
      ∙ flat_append numbers (map (λ x. x.found) (keep passes xs)) (map (λ x. x.found) (keep passes ys))

  pub shown_flat : {A : Type 0} (f : A → List Spanning) (xs : List A) → shown (flat_map f xs) ≡ flat_map (λ x. shown (f x)) xs
  unfolding flat_map
  shown_flat f [] = shown_none
  shown_flat f (x ∷ xs) = shown_append (f x) (flat_map f xs) ∙ ap (λ (zs : List ℕ). shown (f x) ++ zs) (shown_flat f xs)

  shown_one : (b : Bool) (q s : Station) (rule a c : ℕ) → shown (one b q (finding s rule a c)) ≡ told (p s q && b) s rule a c
  unfolding shown picked numbers_of keep one finding told flat_map
  shown_one true q s rule a c = go (p s q)
    where
      go : (d : Bool) → flat_map numbers (map (λ (x : Spanning). x.found) (if d then record { far = q; found = record { station = s; rule = rule; first = a; second = c } } ∷ [] else []))
          ≡ (if d && true then s.0 ∷ rule ∷ a ∷ c ∷ [] else [])
      go true = refl
      go false = refl
  shown_one false q s rule a c = go (p s q)
    where
      go : (d : Bool) → [] ≡ (if d && false then s.0 ∷ rule ∷ a ∷ c ∷ [] else [])
      go true = refl
      go false = refl

  -- findings at s of s itself: all are taken, or none

  shown_by_one : (rule : ℕ) (f : Entry → Bool) (second : Entry → ℕ) (s : Station) (es : List Entry)
      → shown (by_one rule f second s es) ≡ gate (p s s) (flat_map (λ t. told (f t) s rule t.train.0 (second t)) es)
  unfolding by_one
  shown_by_one rule f second s es =
      shown_flat (λ t. one (f t) s (finding s rule t.train.0 (second t))) es
      ∙ ap (λ (g : Entry → List ℕ). flat_map g es) (fun_ext (λ t. shown_one (f t) s s rule t.train.0 (second t)))
      ∙ told_gate (p s s) f s rule (λ t. t.train.0) second es

  shown_by_two : (rule : ℕ) (f : Visit → Visit → Bool) (s : Station) (es : List Entry)
      → shown (by_two rule f s es) ≡ gate (p s s) (two_from rule (λ t u. f t.visit u.visit) s es)
  unfolding by_two two_from
  shown_by_two rule f s [] = shown_none ∙ sym (gate_none (p s s))
  shown_by_two rule f s (t ∷ us) =
      shown_append (flat_map (λ u. one (f t.visit u.visit) s (finding s rule t.train.0 u.train.0)) us) (by_two rule f s us)
      ∙ ap₂ (λ (x y : List ℕ). x ++ y)
      (shown_flat (λ u. one (f t.visit u.visit) s (finding s rule t.train.0 u.train.0)) us
      ∙ ap (λ (g : Entry → List ℕ). flat_map g us) (fun_ext (λ u. shown_one (f t.visit u.visit) s s rule t.train.0 u.train.0))
      ∙ told_gate (p s s) (λ u. f t.visit u.visit) s rule (λ u. t.train.0) (λ u. u.train.0) us)
      (shown_by_two rule f s us)
      ∙ gate_append (p s s) (flat_map (λ u. told (f t.visit u.visit) s rule t.train.0 u.train.0) us) (two_from rule (λ t u. f t.visit u.visit) s us)

  shown_unmet : (tab : Table) (s : Station) (k : ℕ) (qs : List Relation) → shown (by_rank 4 (λ q. not (met tab q)) s k qs) ≡ gate (p s s) (unmet_numbers tab s k qs)
  unfolding by_rank unmet_numbers
  shown_unmet tab s k [] = shown_none ∙ sym (gate_none (p s s))
  shown_unmet tab s k (q ∷ qs) =
      shown_append (one (not (met tab q)) s (finding s 4 k 0)) (by_rank 4 (λ q. not (met tab q)) s (k + 1) qs)
      ∙ ap₂ (λ (x y : List ℕ). x ++ y)
      (shown_one (not (met tab q)) s s 4 k 0 ∙ told_one (p s s) (not (met tab q)) s 4 k 0)
      (shown_unmet tab s (k + 1) qs)
      ∙ gate_append (p s s) (told (not (met tab q)) s 4 k 0) (unmet_numbers tab s (k + 1) qs)

  -- findings of a link: by its far station

  shown_out : (rule : ℕ) (f : Table → Entry → Outward → List Spanning) (g : Entry → Outward → Bool) (s : Station) (m : Timetable)
      → ((t : Entry) (o : Outward) → shown (f (m o.station) t o) ≡ told (g t o) s rule t.train.0 0)
      → (es : List Entry) → shown (by_out f m es) ≡ flat_map (λ t. told (leaves (g t) t.visit) s rule t.train.0 0) es
  unfolding by_out
  shown_out rule f g s m h es =
      shown_flat (λ t. flat_map (λ o. f (m o.station) t o) (outs t.visit)) es
      ∙ ap (λ (k : Entry → List ℕ). flat_map k es)
      (fun_ext (λ t.
      shown_flat (λ o. f (m o.station) t o) (outs t.visit)
      ∙ ap (λ (k : Outward → List ℕ). flat_map k (outs t.visit)) (fun_ext (h t))
      ∙ told_out (g t) s rule t.train.0 0 t.visit))

  shown_in : (rule : ℕ) (f : Table → Entry → Inward → List Spanning) (g : Entry → Inward → Bool) (s : Station) (m : Timetable)
      → ((t : Entry) (i : Inward) → shown (f (m i.station) t i) ≡ told (g t i) s rule t.train.0 0)
      → (es : List Entry) → shown (by_in f m es) ≡ flat_map (λ t. told (comes (g t) t.visit) s rule t.train.0 0) es
  unfolding by_in
  shown_in rule f g s m h es =
      shown_flat (λ t. flat_map (λ i. f (m i.station) t i) (ins t.visit)) es
      ∙ ap (λ (k : Entry → List ℕ). flat_map k es)
      (fun_ext (λ t.
      shown_flat (λ i. f (m i.station) t i) (ins t.visit)
      ∙ ap (λ (k : Inward → List ℕ). flat_map k (ins t.visit)) (fun_ext (h t))
      ∙ told_in (g t) s rule t.train.0 0 t.visit))

-- what the builder walks

module _ (n : Network) (scope : Scope) (m : Timetable) (here : Table) (s : Station) where
  walk_one : (rule : ℕ) (g : Entry → List ℕ) → ((t : Entry) (us : List Entry) → step n scope m here s rule t us ≡ g t)
      → (es : List Entry) → flat_map g es ≡ walk n scope m here s rule es
  unfolding walk flat_map
  walk_one rule g h [] = refl
  walk_one rule g h (t ∷ us) = ap₂ (λ (x y : List ℕ). x ++ y) (sym (h t us)) (walk_one rule g h us)

  walk_two : (rule : ℕ) (f : Entry → Entry → Bool)
      → ((t : Entry) (us : List Entry) → step n scope m here s rule t us ≡ flat_map (λ u. told (f t u) s rule t.train.0 u.train.0) us)
      → (es : List Entry) → two_from rule f s es ≡ walk n scope m here s rule es
  unfolding walk two_from
  walk_two rule f h [] = refl
  walk_two rule f h (t ∷ us) = ap₂ (λ (x y : List ℕ). x ++ y) (sym (h t us)) (walk_two rule f h us)

  abbrev taken : Station → Station → Bool
  taken = takes n scope

  -- a rule of each kind: what is left to say of it is what a step of the walk is

  own_one : (rule : ℕ) (f : Entry → Bool) (second : Entry → ℕ)
      → ((t : Entry) (us : List Entry) → step n scope m here s rule t us ≡ told (f t) s rule t.train.0 (second t))
      → shown taken (by_one rule f second s here.visits) ≡ gate (taken s s) (walk n scope m here s rule here.visits)
  own_one rule f second h = shown_by_one taken rule f second s here.visits ∙ ap (gate (taken s s)) (walk_one rule _ h here.visits)

  own_two : (rule : ℕ) (f : Visit → Visit → Bool)
      → ((t : Entry) (us : List Entry) → step n scope m here s rule t us ≡ flat_map (λ u. told (f t.visit u.visit) s rule t.train.0 u.train.0) us)
      → shown taken (by_two rule f s here.visits) ≡ gate (taken s s) (walk n scope m here s rule here.visits)
  own_two rule f h = shown_by_two taken rule f s here.visits ∙ ap (gate (taken s s)) (walk_two rule _ h here.visits)

  far_out : (rule : ℕ) (f : Table → Entry → Outward → Bool)
      → ((t : Entry) (us : List Entry) → step n scope m here s rule t us ≡ told (leaves (λ o. taken s o.station && f (m o.station) t o) t.visit) s rule t.train.0 0)
      → shown taken (found_by m s here rule (of_out f)) ≡ walk n scope m here s rule here.visits
  unfolding found_by
  far_out rule f h =
      shown_out taken rule _ (λ t o. taken s o.station && f (m o.station) t o) s m (λ t o. shown_one taken (f (m o.station) t o) o.station s rule t.train.0 0) here.visits
      ∙ walk_one rule _ h here.visits

  far_in : (rule : ℕ) (f : Table → Entry → Inward → Bool)
      → ((t : Entry) (us : List Entry) → step n scope m here s rule t us ≡ told (comes (λ i. taken s i.station && f (m i.station) t i) t.visit) s rule t.train.0 0)
      → shown taken (found_by m s here rule (of_in f)) ≡ walk n scope m here s rule here.visits
  unfolding found_by
  far_in rule f h =
      shown_in taken rule _ (λ t i. taken s i.station && f (m i.station) t i) s m (λ t i. shown_one taken (f (m i.station) t i) i.station s rule t.train.0 0) here.visits
      ∙ walk_one rule _ h here.visits

  -- rule 10: by the link of t
  facing_is : (t : Entry)
      → flat_map (λ o. shown taken (flat_map (λ u. one (breaks_10 n s here t o u) o.station (finding s 10 t.train.0 u.train.0)) (m o.station).visits)) (outs t.visit)
      ≡ facing n scope m here s t
  unfolding facing against clash outs leaves with_out flat_map
  facing_is t =
      ap (λ (k : Outward → List ℕ). flat_map k (outs t.visit))
      (fun_ext (λ o.
      shown_flat taken (λ u. one (breaks_10 n s here t o u) o.station (finding s 10 t.train.0 u.train.0)) (m o.station).visits
      ∙ ap (λ (g : Entry → List ℕ). flat_map g (m o.station).visits) (fun_ext (λ u. shown_one taken (breaks_10 n s here t o u) o.station s 10 t.train.0 u.train.0))
      ∙ told_gate (taken s o.station) (breaks_10 n s here t o) s 10 (λ u. t.train.0) (λ u. u.train.0) (m o.station).visits))
      ∙ go t.visit.outward
    where
      go : (l : OutLink)
          → flat_map (λ o. gate (taken s o.station) (flat_map (λ u. told (breaks_10 n s here t o u) s 10 t.train.0 u.train.0) (m o.station).visits)) (outs (with_out l t.visit))
          ≡ flat_map (λ o. if taken s o.station then flat_map (λ u. told (leaves (λ q. breaks_10 n s here t q u) (with_out l t.visit)) s 10 t.train.0 u.train.0) (m o.station).visits else []) (outs (with_out l t.visit))
      go OutLink.Nothing = refl
      go (OutLink.To o) = refl

  far_facing : shown taken (found_by m s here 10 (of_facing (breaks_10 n s here))) ≡ walk n scope m here s 10 here.visits
  unfolding found_by by_out step
  far_facing =
      shown_flat taken _ here.visits
      ∙ ap (λ (k : Entry → List ℕ). flat_map k here.visits) (fun_ext (λ t. shown_flat taken _ (outs t.visit) ∙ facing_is t))
      ∙ walk_one 10 _ (λ t us. refl) here.visits

  -- each of some rules, numbered from k on: what the builder puts under its number is what it finds
  infixr 20 ◌next◌
  pub data Each : ℕ → List Rule → Type 0 where
    over : {k : ℕ} → Each k []
    ◌next◌ : {k : ℕ} {r : Rule} {rs : List Rule} → shown taken (found_by m s here k r) ≡ rule_numbers n scope m here s k → Each (suc k) rs → Each k (r ∷ rs)

  each_shown : (k : ℕ) (rs : List Rule) → Each k rs → shown taken (found_by_all m s here k rs) ≡ numbers_from n scope m here s k (length rs)
  unfolding found_by_all numbers_from
  each_shown k [] over = shown_none taken
  each_shown k (r ∷ rs) (h next hs) =
      shown_append taken (found_by m s here k r) (found_by_all m s here (suc k) rs)
      ∙ ap₂ (λ (x y : List ℕ). x ++ y) h (each_shown (suc k) rs hs ∙ ap (λ (j : ℕ). numbers_from n scope m here s j (length rs)) (sym (add-one k)))

  -- THE RULES, one line each
  pub rules_shown : Each 1 (rules n s here)
  unfolding rules found_by rule_numbers is_far step beside own_broken broken second_of far_broken out_broken in_broken against clash
  rules_shown =
      own_one 1 (λ t. breaks_1 t.visit) unused (λ t us. refl)
      next own_two 2 breaks_2 (λ t us. refl)
      next own_two 3 (breaks_3 n.headway) (λ t us. refl)
      next shown_unmet taken here s 1 here.relations
      next own_one 5 (λ t. breaks_5 n t.train t.visit) unused (λ t us. refl)
      next own_one 6 (breaks_6 n here.visits) unused (λ t us. refl)
      next far_out 7 (λ there t o. not (out_answered s t.train o there)) (λ t us. refl)
      next far_in 8 (λ there t i. not (in_answered s t.train i there)) (λ t us. refl)
      next far_out 9 (λ there t o. breaks_9 s t o there) (λ t us. refl)
      next far_facing
      next own_one 11 (λ t. breaks_11 n t.visit) (λ t. out_line t.visit.outward) (λ t us. refl)
      next over

  shown_station : shown taken (at_station n m s here) ≡ numbers_from n scope m here s 1 rule_count
  unfolding at_station
  shown_station = each_shown 1 (rules n s here) rules_shown ∙ ap (numbers_from n scope m here s 1) (rules_counted n s here)

module _ (n : Network) (scope : Scope) (m : Timetable) where
  shown_all : shown (takes n scope) (spanning n m) ≡ all_numbers n scope m
  unfolding spanning all_numbers station_numbers
  shown_all =
      shown_flat (takes n scope) (λ s. at_station n m s (m s)) (stations_of n)
      ∙ ap (λ (g : Station → List ℕ). flat_map g (stations_of n)) (fun_ext (λ s. shown_station n scope m (m s) s))

-- the lists

-- the whole list takes every finding
pub whole_picked : (n : Network) (m : Timetable) → findings n m ≡ picked (passes (takes n Scope.Whole)) (spanning n m)
unfolding findings picked takes
whole_picked n m = ap (map (λ (x : Spanning). x.found)) (sym (keep_every (λ (x : Spanning). true) (spanning n m) (every_true (spanning n m))))

pub whole_numbers : (n : Network) (m : Timetable) → numbers_of (findings n m) ≡ all_numbers n Scope.Whole m
unfolding shown
whole_numbers n m = ap numbers_of (whole_picked n m) ∙ shown_all n Scope.Whole m

pub area_numbers : (n : Network) (m : Timetable) (a : Area) → numbers_of (group_findings n (area_of n) m a.0) ≡ all_numbers n (Scope.Within a) m
unfolding group_findings inside shown takes
area_numbers n m a = shown_all n (Scope.Within a) m

pub pair_numbers : (n : Network) (m : Timetable) (a b : Area) → numbers_of (pair_findings n (area_of n) m a.0 b.0) ≡ all_numbers n (Scope.Between a b) m
unfolding pair_findings between shown takes
pair_numbers n m a b = shown_all n (Scope.Between a b) m
