-- Lists of what belongs to stations, over stations that rise: gathered station by station they rise, and each station
-- keeps its own; and a list that rises is gathered from what its stations keep. By induction on the stations. Assumes
-- nothing.
use Prim.Native.Nat.{ℕ, ◌≤◌, ◌<◌}
use mathlib.Core.Path.{◌≡◌, refl, sym, ◌∙◌, ap, ap₂, subst}
use mathlib.Core.Bool.{Bool, true, false, not, ◌&&◌}
use mathlib.Core.List.{List, [], ◌∷◌, ◌++◌, flat_map, append-nil}
use native.Mathlib.Omega.{arith}
use lib.Dec.{T, ltb, leb, eqb, not_T, leb→le, le→leb, eqb→eq, ltb→lt, lt→ltb}
use borrow.Author.Tests.{eqb-true, eqb-false, ltb-true, ltb-false}
use Rattle.std.specs.Prelude.{if◌then◌else◌}
use Rattle.base.specs.Lists.{any, every, keep, each_two}
use Rattle.base.proofs.Tests.{true_T, not_T_false, by_value, and_l, and_r, or_cases, every_head, every_tail, every_weaker, every_flatMap, flatMap_same}
use Rattle.base.proofs.Counts.{keep_append, keep_none, keep_every}
use Rattle.base.proofs.Sorted.{smaller, two_head, two_tail, two_keep, two_append, below_smaller, below_cases}
use Rattle.railway.specs.Ranges.{same_station}
use Rattle.network.proofs.NetworkLaws.{station_number}
use Rattle.roundtrips.specs.Types.{Station}
use Rattle.roundtrips.proofs.ListLaws.{kept_both, keep_keep, none_any}
use Rattle.roundtrips.proofs.OrderLaws.{before}
use Rattle.roundtrips.proofs.EnterLaws.{station_same, at}

-- a station behind another
abbrev later : Station → Station → Bool
later s k = smaller station_number s k

-- a station among those behind another is behind it
among_later : (s k : Station) (ss : List Station) → T (every (later s) ss) → T (any (same_station k) ss) → s.0 < k.0
unfolding any
among_later s k [] t u = absurd u
among_later s k (x ∷ ss) t u =
    or_cases (same_station k x) (any (same_station k) ss) u
    (λ e. omega (arith, eqb→eq k.0 x.0 e, ltb→lt s.0 x.0 (every_head (later s) x ss t)))
    (λ v. among_later s k ss (every_tail (later s) x ss t) v)

module _ {A : Type 0} (station : A → Station) (more : A → List ℕ) where
  abbrev pub by_station : A → List ℕ
  by_station x = (station x).0 ∷ more x

  -- gathered

  module _ (g : Station → List A) (own : (s : Station) → T (every (at station s) (g s))) where
    behind : (s : Station) (ss : List Station) → T (every (later s) ss) → T (every (λ x. ltb s.0 (station x).0) (flat_map g ss))
    behind s ss t =
        every_flatMap (λ x. ltb s.0 (station x).0) g (later s)
        (λ k l. every_weaker (at station k) (λ x. ltb s.0 (station x).0)
        (λ x e. lt→ltb s.0 (station x).0 (omega (arith, ltb→lt s.0 k.0 l, eqb→eq (station x).0 k.0 e))) (g k) (own k))
        ss t

    pub gathered_order : (p : Station → Bool) → ((s : Station) → T (p s) → T (each_two (before by_station) (g s))) → (ss : List Station) → T (every p ss)
        → T (each_two (smaller station_number) ss) → T (each_two (before by_station) (flat_map g ss))
    unfolding flat_map each_two
    gathered_order p h [] t r = tt
    gathered_order p h (s ∷ ss) t r =
        two_append (before by_station) (at station s) (λ x. ltb s.0 (station x).0)
        (λ x y e l. below_smaller (station x).0 (station y).0 (more x) (more y) (omega (arith, eqb→eq (station x).0 s.0 e, ltb→lt s.0 (station y).0 l)))
        (g s) (flat_map g ss) (h s (every_head p s ss t)) (gathered_order p h ss (every_tail p s ss t) (two_tail (smaller station_number) s ss r))
        (own s) (behind s ss (two_head (smaller station_number) s ss r))

    -- another station keeps nothing of a station's own
    pub others_none : (k s : Station) → ¬ (k.0 ≡ s.0) → keep (at station k) (g s) ≡ []
    others_none k s d =
        keep_none (at station k) (g s) (every_weaker (at station s) (λ x. not (at station k x))
        (λ x q. not_T (at station k x) (λ u. d (sym (eqb→eq (station x).0 k.0 u) ∙ eqb→eq (station x).0 s.0 q))) (g s) (own s))

    -- a station that is not among them has nothing
    pub gathered_none : (k : Station) (ss : List Station) → any (same_station k) ss ≡ false → keep (at station k) (flat_map g ss) ≡ []
    unfolding flat_map keep any
    gathered_none k [] e = refl
    gathered_none k (s ∷ ss) e =
        let d : same_station k s ≡ false = not_T_false (same_station k s) (every_head (λ s. not (same_station k s)) s ss (none_any (same_station k) (s ∷ ss) e)) in
        keep_append (at station k) (g s) (flat_map g ss)
        ∙ ap₂ ◌++◌ (others_none k s (eqb-false k.0 s.0 d)) (gathered_none k ss (rw d at e))

    -- and any other has its own
    pub gathered_own : (k : Station) (ss : List Station) → T (each_two (smaller station_number) ss) → T (any (same_station k) ss) → keep (at station k) (flat_map g ss) ≡ g k
    unfolding flat_map any
    gathered_own k [] r t = absurd t
    gathered_own k (s ∷ ss) r t =
        keep_append (at station k) (g s) (flat_map g ss)
        ∙ by_value (same_station k s)
        (λ e.
        let q : s ≡ k = sym (station_same k s (true_T (same_station k s) e)) in
        ap₂ ◌++◌ (subst (λ (k : Station). keep (at station k) (g s) ≡ g k) q (keep_every (at station s) (g s) (own s)))
        (keep_none (at station k) (flat_map g ss)
        (every_weaker (λ x. ltb s.0 (station x).0) (λ x. not (at station k x))
        (λ x l. not_T (at station k x) (λ u. omega (arith, ltb→lt s.0 (station x).0 l, eqb→eq (station x).0 k.0 u, eqb-true k.0 s.0 e)))
        (flat_map g ss) (behind s ss (two_head (smaller station_number) s ss r))))
        ∙ append-nil (g k))
        (λ e.
        ap₂ ◌++◌ (others_none k s (eqb-false k.0 s.0 e)) (gathered_own k ss (two_tail (smaller station_number) s ss r) (rw e at t)))

  -- taken apart and gathered again

  ordered : (x y : A) → T (before by_station x y) → (station x).0 ≤ (station y).0
  ordered x y t = below_cases (station x).0 (station y).0 (more x) (more y) t (λ h. omega arith) (λ e u. omega arith)

  abbrev after : Station → A → Bool
  after s x = ltb s.0 (station x).0

  -- the first station's come first
  split : (s : Station) (xs : List A) → T (every (λ x. leb s.0 (station x).0) xs) → T (each_two (before by_station) xs) → xs ≡ keep (at station s) xs ++ keep (after s) xs
  unfolding keep
  split s [] t r = refl
  split s (x ∷ xs) t r =
      go (eqb (station x).0 s.0) refl (ltb s.0 (station x).0) refl
      (split s xs (every_tail (λ x. leb s.0 (station x).0) x xs t) (two_tail (before by_station) x xs r))
    where
      least : s.0 ≤ (station x).0
      least = leb→le s.0 (station x).0 (every_head (λ x. leb s.0 (station x).0) x xs t)

      all_after : s.0 < (station x).0 → T (every (after s) xs)
      all_after h = every_weaker (before by_station x) (after s) (λ y b. lt→ltb s.0 (station y).0 (omega (arith, ordered x y b))) xs (two_head (before by_station) x xs r)

      go : (b : Bool) → eqb (station x).0 s.0 ≡ b → (c : Bool) → ltb s.0 (station x).0 ≡ c → xs ≡ keep (at station s) xs ++ keep (after s) xs
          → x ∷ xs ≡ (if b then x ∷ keep (at station s) xs else keep (at station s) xs) ++ (if c then x ∷ keep (after s) xs else keep (after s) xs)
      go true e true f ih = absurd (omega (arith, eqb-true (station x).0 s.0 e, ltb-true s.0 (station x).0 f))
      go true e false f ih = ap (λ (l : List A). x ∷ l) ih
      go false e true f ih =
          let u : T (every (after s) xs) = all_after (ltb-true s.0 (station x).0 f) in
          let none : keep (at station s) xs ≡ [] = keep_none (at station s) xs
          (every_weaker (after s) (λ y. not (at station s y))
          (λ y l. not_T (at station s y) (λ v. omega (arith, ltb→lt s.0 (station y).0 l, eqb→eq (station y).0 s.0 v))) xs u) in
          rw (none, keep_every (after s) xs u)
      go false e false f ih = absurd (omega (arith, least, eqb-false (station x).0 s.0 e, ltb-false s.0 (station x).0 f))

  pub regathered : (ss : List Station) (xs : List A) → T (each_two (smaller station_number) ss) → T (every (λ x. any (same_station (station x)) ss) xs)
      → T (each_two (before by_station) xs) → flat_map (λ s. keep (at station s) xs) ss ≡ xs
  unfolding flat_map any
  regathered [] [] r t o = refl
  regathered [] (x ∷ xs) r t o = absurd (every_head (λ x. false) x xs t)
  regathered (s ∷ ss) xs r t o =
      ap (λ (l : List A). keep (at station s) xs ++ l)
      (flatMap_same (λ k. keep (at station k) xs) (λ k. keep (at station k) (keep (after s) xs)) (later s)
      (λ k l. sym (keep_keep (at station k) (after s) (λ x e. lt→ltb s.0 (station x).0 (omega (arith, ltb→lt s.0 k.0 l, eqb→eq (station x).0 k.0 e))) xs)) ss behind-s
      ∙ regathered ss (keep (after s) xs) (two_tail (smaller station_number) s ss r) among (two_keep (before by_station) (after s) xs o))
      ∙ sym (split s xs least o)
    where
      behind-s : T (every (later s) ss)
      behind-s = two_head (smaller station_number) s ss r

      least : T (every (λ x. leb s.0 (station x).0) xs)
      least =
          every_weaker (λ x. any (same_station (station x)) (s ∷ ss)) (λ x. leb s.0 (station x).0)
          (λ x u. le→leb s.0 (station x).0 (or_cases (same_station (station x) s) (any (same_station (station x)) ss) u
          (λ e. omega (arith, eqb→eq (station x).0 s.0 e)) (λ v. omega (arith, among_later s (station x) ss behind-s v)))) xs t

      among : T (every (λ x. any (same_station (station x)) ss) (keep (after s) xs))
      among =
          every_weaker (λ x. after s x && any (same_station (station x)) (s ∷ ss)) (λ x. any (same_station (station x)) ss)
          (λ x u. or_cases (same_station (station x) s) (any (same_station (station x)) ss) (and_r (after s x) (any (same_station (station x)) (s ∷ ss)) u)
          (λ e. absurd (omega (arith, eqb→eq (station x).0 s.0 e, ltb→lt s.0 (station x).0 (and_l (after s x) (any (same_station (station x)) (s ∷ ss)) u)))) (λ v. v))
          (keep (after s) xs)
          (kept_both (after s) (λ x. any (same_station (station x)) (s ∷ ss)) xs t)
