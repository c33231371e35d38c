-- Entries rise if each is above the floor that the one before it sets. Above a floor is below the other way round,
-- number by number; a relation's numbers are its key without the places not used, and as the count stands before the
-- trains, both order alike. Assumes nothing.
use Prim.Native.Nat.{ℕ, ◌≤◌}
use mathlib.Core.Path.{◌≡◌, refl, sym, ap, subst}
use mathlib.Core.Bool.{Bool, true, false, ◌&&◌, ◌||◌}
use mathlib.Core.List.{List, [], ◌∷◌, ◌++◌, append-nil}
use native.Mathlib.Omega.{arith}
use lib.Dec.{T, ltb, eqb}
use lib.ListN.{length}
use borrow.Author.Tests.{eqb-true, eqb-false, eq-eqb, ne_eqb}
use Rattle.std.specs.Prelude.{if◌then◌else◌}
use Rattle.base.specs.Lists.{every, each_two, below}
use Rattle.base.proofs.Tests.{T_false, and_l, and_r, parts, every_head, every_tail, every_cons, every_weaker, every_both}
use Rattle.base.proofs.Sorted.{two_head, two_tail, two_step, below_smaller, below_equal, below_cases, below_itself, below_trans}
use Rattle.railway.specs.Relations.{relation_ok, key}
use Rattle.railway.specs.Edits.{station_relation_ok}
use Rattle.timetable.specs.declared.FileForm.{FileForm}
use Rattle.timetable.specs.Formats.{least, floor_after}
use Rattle.timetable.specs.EditsFile.{station_relation_numbers}
use Rattle.timetable.specs.TimetableFile.{StationVisit}
use Rattle.roundtrips.specs.Types.{StationRelation}
use Rattle.roundtrips.proofs.RowsWalked.{Over, over_none, Chain}
use Rattle.roundtrips.proofs.RelationWalks.{relation_numbered, unused, StationRelationFits}
use Rattle.roundtrips.proofs.VisitWalks.{visit_row, visit_ok, said, visit_fits, VisitFits}

-- one number of the floor, and then the next
module _ (b c : ℕ) (bs : List ℕ) (n : ℕ) (ns : List ℕ) (xs ys : List ℕ) where
  step_to : (b ≡ n → T (below xs ys) → Over (c ∷ bs) ns) → T (below (b ∷ xs) (n ∷ ys)) → Over (b ∷ c ∷ bs) (n ∷ ns)
  unfolding Over least floor_after
  step_to f t =
      below_cases b n xs ys t
      (λ h. (omega arith, rw (ne_eqb n b (λ e. omega arith)) (over_none ns)))
      (λ e u. (omega arith, rw (eq-eqb n b (sym e)) (f e u)))

  step_from : (b ≡ n → Over (c ∷ bs) ns → T (below xs ys)) → Over (b ∷ c ∷ bs) (n ∷ ns) → T (below (b ∷ xs) (n ∷ ys))
  unfolding Over least floor_after
  step_from f (h, o) = go (eqb n b) refl o
    where
      go : (t : Bool) → eqb n b ≡ t → Over (if t then c ∷ bs else []) ns → T (below (b ∷ xs) (n ∷ ys))
      go true e o = let q : b ≡ n = sym (eqb-true n b e) in below_equal b n xs ys q (f q o)
      go false e o = below_smaller b n xs ys (omega (arith, eqb-false n b e))

-- the last number of the floor
last_to : (b n : ℕ) (ns : List ℕ) → T (below (b ∷ []) (n ∷ [])) → Over (b ∷ []) (n ∷ ns)
unfolding Over least floor_after below
last_to b n ns t = below_cases b n [] [] t (λ h. (omega arith, over_none ns)) (λ e u. absurd u)

last_from : (b n : ℕ) (ns : List ℕ) → Over (b ∷ []) (n ∷ ns) → T (below (b ∷ []) (n ∷ []))
unfolding Over least floor_after
last_from b n ns (h, o) = below_smaller b n [] [] (omega arith)

-- a floor as long as the numbers that are compared with it, others behind them
pub below_over : (floor ns more : List ℕ) → length floor ≡ length ns → T (below floor ns) → Over floor (ns ++ more)
unfolding below
below_over [] [] more l t = absurd t
below_over [] (n ∷ ns) more l t = absurd (omega arith)
below_over (b ∷ bs) [] more l t = absurd (omega arith)
below_over (b ∷ []) (n ∷ []) more l t = last_to b n more t
below_over (b ∷ []) (n ∷ m ∷ ns) more l t = absurd (omega arith)
below_over (b ∷ c ∷ bs) (n ∷ []) more l t = absurd (omega arith)
below_over (b ∷ c ∷ bs) (n ∷ m ∷ ns) more l t =
    step_to b c bs n (m ∷ ns ++ more) (c ∷ bs) (m ∷ ns) (λ e u. below_over (c ∷ bs) (m ∷ ns) more (omega arith) u) t

pub over_below : (b : ℕ) (bs ns more : List ℕ) → length (b ∷ bs) ≡ length ns → Over (b ∷ bs) (ns ++ more) → T (below (b ∷ bs) ns)
over_below b bs [] more l o = absurd (omega arith)
over_below b [] (n ∷ []) more l o = last_from b n more o
over_below b [] (n ∷ m ∷ ns) more l o = absurd (omega arith)
over_below b (c ∷ bs) (n ∷ []) more l o = absurd (omega arith)
over_below b (c ∷ bs) (n ∷ m ∷ ns) more l o =
    step_from b c bs n (m ∷ ns ++ more) (c ∷ bs) (m ∷ ns) (λ e u. over_below c bs (m ∷ ns) more (omega arith) u) o

-- entries that rise by a key

module _ {A : Type 0} (key : A → List ℕ) where
  abbrev pub before : A → A → Bool
  before x y = below (key x) (key y)

  pub before_across : (x y z : A) → T (before x y) → T (before y z) → T (before x z)
  before_across x y z t u = below_trans (key x) (key y) (key z) t u

  -- what follows an entry in range is above its floor just if its key is above
  pub record Keyed (ok : A → Bool) (floor_by : A → List ℕ) (Fits : List ℕ → A → Type 0) : Type 0 where
    pub good : (floor : List ℕ) (x : A) → Fits floor x → T (ok x)
    pub starts : (x : A) → T (ok x) → Fits [] x
    pub follows : (x y : A) → T (ok x) → T (ok y) → T (before x y) → Fits (floor_by x) y
    pub above : (x y : A) → T (ok x) → Fits (floor_by x) y → T (before x y)

  module _ (ok : A → Bool) (floor_by : A → List ℕ) (Fits : List ℕ → A → Type 0) (law : Keyed ok floor_by Fits) where
    chain_behind : (x : A) (xs : List A) → T (ok x) → T (every ok xs) → T (each_two before (x ∷ xs)) → Chain floor_by Fits (floor_by x) xs
    unfolding Chain
    chain_behind x [] t u r = tt
    chain_behind x (y ∷ xs) t u r =
        let v = every_head ok y xs u in
        (law.follows x y t v (every_head (before x) y xs (two_head before x (y ∷ xs) r)), chain_behind y xs v (every_tail ok y xs u) (two_tail before x (y ∷ xs) r))

    pub ordered_chain : (xs : List A) → T (every ok xs) → T (each_two before xs) → Chain floor_by Fits [] xs
    unfolding Chain
    ordered_chain [] u r = tt
    ordered_chain (x ∷ xs) u r = (law.starts x (every_head ok x xs u), chain_behind x xs (every_head ok x xs u) (every_tail ok x xs u) r)

    behind_ordered : (x : A) (xs : List A) → T (ok x) → Chain floor_by Fits (floor_by x) xs → T (every ok xs) × T (each_two before (x ∷ xs))
    unfolding Chain every each_two
    behind_ordered x [] t c = (tt, tt)
    behind_ordered x (y ∷ xs) t (f, c) =
        let v = law.good (floor_by x) y f in
        let (u, r) = behind_ordered y xs v c in
        (every_cons ok y xs v u, two_step before before_across x y xs (law.above x y t f) r)

    pub chain_ordered : (xs : List A) → Chain floor_by Fits [] xs → T (every ok xs) × T (each_two before xs)
    unfolding Chain every each_two
    chain_ordered [] c = (tt, tt)
    chain_ordered (x ∷ xs) (f, c) =
        let t = law.good [] x f in
        let (u, r) = behind_ordered x xs t c in
        (every_cons ok x xs t u, r)

-- visits

-- "rising by s and t alone"
abbrev pub visit_key : StationVisit → List ℕ
visit_key e = e.station.0 ∷ e.train.0 ∷ []

module _ (form : FileForm) where
  visit_keyed : Keyed visit_key (visit_fits form) visit_key (VisitFits form)
  visit_keyed = record {
    good = λ floor x f. f.0;
    starts = λ x t. (t, over_none (visit_row form x));
    follows = λ x y t u r. (u, below_over (visit_key x) (visit_key y) _ refl r);
    above = λ x y t f. over_below _ _ (visit_key y) _ refl f.1;
  }

  pub visits_chain : (xs : List StationVisit) → T (every visit_ok xs) → T (every (said form) xs) → T (each_two (before visit_key) xs) → Chain visit_key (VisitFits form) [] xs
  visits_chain xs t u r = ordered_chain visit_key (visit_fits form) visit_key (VisitFits form) visit_keyed xs (every_both (said form) visit_ok xs u t) r

  pub chain_visits : (xs : List StationVisit) → Chain visit_key (VisitFits form) [] xs → T (every visit_ok xs) × T (every (said form) xs) × T (each_two (before visit_key) xs)
  chain_visits xs c =
      let (t, r) = chain_ordered visit_key (visit_fits form) visit_key (VisitFits form) visit_keyed xs c in (
        every_weaker (visit_fits form) visit_ok (λ x u. and_r (said form x) (visit_ok x) u) xs t,
        every_weaker (visit_fits form) (said form) (λ x u. and_l (said form x) (visit_ok x) u) xs t,
        r,
      )

-- relations

below_pad : (xs ys zs : List ℕ) → length xs ≡ length ys → below (xs ++ zs) (ys ++ zs) ≡ below xs ys
unfolding below
below_pad [] [] zs l = T_false (below zs zs) (below_itself zs)
below_pad [] (y ∷ ys) zs l = absurd (omega arith)
below_pad (x ∷ xs) [] zs l = absurd (omega arith)
below_pad (x ∷ xs) (y ∷ ys) zs l = ap (λ (b : Bool). ltb x y || (eqb x y && b)) (below_pad xs ys zs (omega arith))

-- trains with their count before them
abbrev counted : List ℕ → List ℕ
counted ts = length ts ∷ ts

abbrev counted_key : List ℕ → List ℕ
counted_key ts = length ts ∷ (ts ++ unused (length ts))

trains_to : (t : ℕ) (us ts : List ℕ) → T (below (counted_key (t ∷ us)) (counted_key ts)) → Over (counted (t ∷ us)) (counted ts)
trains_to t us ts =
    step_to (length (t ∷ us)) t us (length ts) ts (t ∷ us ++ unused (length (t ∷ us))) (ts ++ unused (length ts))
    (λ e u. subst (Over (t ∷ us)) (append-nil ts) (below_over (t ∷ us) ts [] e
    (subst T (below_pad (t ∷ us) ts (unused (length ts)) e) (subst (λ (k : ℕ). T (below (t ∷ us ++ unused k) (ts ++ unused (length ts)))) e u))))

trains_from : (t : ℕ) (us ts : List ℕ) → Over (counted (t ∷ us)) (counted ts) → T (below (counted_key (t ∷ us)) (counted_key ts))
trains_from t us ts =
    step_from (length (t ∷ us)) t us (length ts) ts (t ∷ us ++ unused (length (t ∷ us))) (ts ++ unused (length ts))
    (λ e o. subst (λ (k : ℕ). T (below (t ∷ us ++ unused k) (ts ++ unused (length ts)))) (sym e)
    (subst T (sym (below_pad (t ∷ us) ts (unused (length ts)) e)) (over_below t us ts [] e (subst (Over (t ∷ us)) (sym (append-nil ts)) o))))

-- station, kind, interval before them
module _ (s k i : ℕ) (ts : List ℕ) (s' k' i' : ℕ) (ts' : List ℕ) (some : 1 ≤ length ts) where
  numbers_to : T (below (s ∷ k ∷ i ∷ counted_key ts) (s' ∷ k' ∷ i' ∷ counted_key ts')) → Over (s ∷ k ∷ i ∷ counted ts) (s' ∷ k' ∷ i' ∷ counted ts')
  numbers_to = go ts some
    where
      go : (ts : List ℕ) → 1 ≤ length ts → T (below (s ∷ k ∷ i ∷ counted_key ts) (s' ∷ k' ∷ i' ∷ counted_key ts')) → Over (s ∷ k ∷ i ∷ counted ts) (s' ∷ k' ∷ i' ∷ counted ts')
      go [] h = absurd (omega arith)
      go (t ∷ us) h =
          step_to s k (i ∷ counted (t ∷ us)) s' (k' ∷ i' ∷ counted ts') (k ∷ i ∷ counted_key (t ∷ us)) (k' ∷ i' ∷ counted_key ts')
          (λ e. step_to k i (counted (t ∷ us)) k' (i' ∷ counted ts') (i ∷ counted_key (t ∷ us)) (i' ∷ counted_key ts')
          (λ e. step_to i (length (t ∷ us)) (t ∷ us) i' (counted ts') (counted_key (t ∷ us)) (counted_key ts')
          (λ e. trains_to t us ts')))

  numbers_from : Over (s ∷ k ∷ i ∷ counted ts) (s' ∷ k' ∷ i' ∷ counted ts') → T (below (s ∷ k ∷ i ∷ counted_key ts) (s' ∷ k' ∷ i' ∷ counted_key ts'))
  numbers_from = go ts some
    where
      go : (ts : List ℕ) → 1 ≤ length ts → Over (s ∷ k ∷ i ∷ counted ts) (s' ∷ k' ∷ i' ∷ counted ts') → T (below (s ∷ k ∷ i ∷ counted_key ts) (s' ∷ k' ∷ i' ∷ counted_key ts'))
      go [] h = absurd (omega arith)
      go (t ∷ us) h =
          step_from s k (i ∷ counted (t ∷ us)) s' (k' ∷ i' ∷ counted ts') (k ∷ i ∷ counted_key (t ∷ us)) (k' ∷ i' ∷ counted_key ts')
          (λ e. step_from k i (counted (t ∷ us)) k' (i' ∷ counted ts') (i ∷ counted_key (t ∷ us)) (i' ∷ counted_key ts')
          (λ e. step_from i (length (t ∷ us)) (t ∷ us) i' (counted ts') (counted_key (t ∷ us)) (counted_key ts')
          (λ e. trains_from t us ts')))

-- "each with its station before it, rising"
abbrev pub relation_key : StationRelation → List ℕ
relation_key r = r.station.0 ∷ key r.relation

module _ (x y : StationRelation) (t : T (relation_ok x.relation)) (u : T (relation_ok y.relation)) where
  relations_to : T (before relation_key x y) → Over (station_relation_numbers x) (station_relation_numbers y)
  unfolding station_relation_numbers
  relations_to b =
      let m = relation_numbered x.relation t in
      let l = relation_numbered y.relation u in
      rw (m.written, l.written)
      (numbers_to x.station.0 m.kind m.interval m.trains y.station.0 l.kind l.interval l.trains (omega (arith, m.within.many.low))
      (rw (m.keyed, l.keyed) at b))

  relations_from : Over (station_relation_numbers x) (station_relation_numbers y) → T (before relation_key x y)
  unfolding station_relation_numbers
  relations_from o =
      let m = relation_numbered x.relation t in
      let l = relation_numbered y.relation u in
      rw (m.keyed, l.keyed)
      (numbers_from x.station.0 m.kind m.interval m.trains y.station.0 l.kind l.interval l.trains (omega (arith, m.within.many.low))
      (rw (m.written, l.written) at o))

relation_part : (x : StationRelation) → T (station_relation_ok x) → T (relation_ok x.relation)
unfolding station_relation_ok
relation_part x t = search parts

relation_keyed : Keyed relation_key station_relation_ok station_relation_numbers StationRelationFits
relation_keyed = record {
  good = λ floor x f. f.good;
  starts = λ x t. record { good = t; above = over_none (station_relation_numbers x) };
  follows = λ x y t u r. record { good = u; above = relations_to x y (relation_part x t) (relation_part y u) r };
  above = λ x y t f. relations_from x y (relation_part x t) (relation_part y f.good) f.above;
}

pub relations_chain : (xs : List StationRelation) → T (every station_relation_ok xs) → T (each_two (before relation_key) xs)
    → Chain station_relation_numbers StationRelationFits [] xs
relations_chain = ordered_chain relation_key station_relation_ok station_relation_numbers StationRelationFits relation_keyed

pub chain_relations : (xs : List StationRelation) → Chain station_relation_numbers StationRelationFits [] xs
    → T (every station_relation_ok xs) × T (each_two (before relation_key) xs)
chain_relations = chain_ordered relation_key station_relation_ok station_relation_numbers StationRelationFits relation_keyed
