-- What the functions on a table's lists keep: the order, the limits, and every test of the entries or relations. By
-- induction on the lists; for a train taken from a relation, the trains that stay are in order and the four places hold
-- them. Assumes nothing.
use Prim.Native.Nat.{ℕ, suc, ◌+◌, ◌≤◌, ◌<◌}
use mathlib.Core.Path.{◌≡◌, refl, sym, ◌∙◌, ap, ap₂}
use mathlib.Core.Bool.{Bool, true, false, not, ◌&&◌, ◌||◌}
use mathlib.Core.List.{List, [], ◌∷◌, map}
use mathlib.Core.Logic.{◌⊎◌, inl, inr}
use Rattle.std.specs.Prelude.{option_map}
use Rattle.std.specs.Prelude.{Option, None, Some}
use native.Mathlib.Omega.{arith}
use lib.Dec.{T, ltb, leb, eqb, ltb→lt, lt→ltb, leb→le, le→leb, eqb→eq, not_T}
use lib.ListN.{length, length-map}
use borrow.Author.Tests.{ltb-false, leb-false, eqb-true, eqb-false, lt-ltb, eq-eqb}
use Rattle.base.specs.Choice.{◌if◌else◌}
use Rattle.std.specs.Prelude.{if◌then◌else◌}
use Rattle.base.specs.Lists.{any, every, keep, first, is, each_two, rising}
use Rattle.base.proofs.Tests.{true_T, not_T_false, both, or_l, or_r, or_cases, parts}
use Rattle.base.proofs.Tests.{every_head, every_tail, every_cons, every_weaker, every_keep, every_mapped}
use Rattle.base.proofs.Lengths.{keep_no_longer}
use Rattle.base.proofs.Counts.{keep_every}
use Rattle.base.proofs.Sorted.{two_head, two_tail, two_cons, two_step, two_keep, smaller, smaller_across, rising_map, below_trans, below_total}
use Rattle.railway.specs.Ranges.{same_train, train_ok, track_ok, minute_ok, interval_ok}
use Rattle.railway.specs.Relations.{present, used, further_ok, trains_ok, relation_ok, key, precedes, same_relation}
use Rattle.network.specs.Networks.{track_known}
use Rattle.timetable.specs.Types.{Station, Train, Line, Minute, InLink, OutLink, Visit, Trains, Relation, Connection, Disconnection, Dependency, Plan, Network}
use Rattle.timetable.specs.Visits.{ins, outs, with_in, with_out, planned, amended, arrived_at, departed_at, from, onward}
use Rattle.timetable.specs.Tables.{Entry, Table, visit_of, has_visit, enter, add_visit, change_entry, change_visit, insert, add_relation, drop_relation}
use Rattle.timetable.specs.Tables.{packed, fewer, lose, insert_if, lose_all, without, full_visits, full_relations}
use Rattle.timetable.specs.Good.{in_good, out_good, links_good, values_good, visit_good, entry_good, visits_good, relations_good, table_good}

-- visits

abbrev pub number : Entry → ℕ
number e = e.train.0

-- no entry is the train's
abbrev pub lacking : Train → List Entry → Bool
lacking t es = every (λ e. not (same_train e.train t)) es

-- an entry is the train's, as `has_visit` finds it
abbrev pub among : Train → List Entry → Bool
among t es = is (λ v. true) (option_map (λ (e : Entry). e.visit) (first (λ e. same_train e.train t) es))

pub none_among : (t : Train) (es : List Entry) → among t es ≡ false → T (lacking t es)
unfolding first every
none_among t [] q = tt
none_among t (x ∷ xs) q = go (same_train x.train t) q (none_among t xs)
  where
    go : (b : Bool) → is (λ v. true) (option_map (λ (e : Entry). e.visit) (if b then Some x else first (λ e. same_train e.train t) xs)) ≡ false
        → (among t xs ≡ false → T (lacking t xs)) → T (not b && lacking t xs)
    go true p ih = absurd (true_T false (sym p))
    go false p ih = ih p

pub absent : (t : Train) (tab : Table) → has_visit t tab ≡ false → T (lacking t tab.visits)
unfolding has_visit visit_of
absent t tab e = none_among t tab.visits e

pub enter_length : (e : Entry) (es : List Entry) → length (enter e es) ≡ suc (length es)
unfolding enter
enter_length e [] = refl
enter_length e (x ∷ xs) = go (smaller number e x) (enter_length e xs)
  where
    go : (b : Bool) → length (enter e xs) ≡ suc (length xs) → length (if b then e ∷ x ∷ xs else (x ∷ enter e xs)) ≡ suc (suc (length xs))
    go true p = refl
    go false p = ap suc p

pub enter_every : (f : Entry → Bool) (e : Entry) (es : List Entry) → T (f e) → T (every f es) → T (every f (enter e es))
unfolding enter
enter_every f e [] t u = every_cons f e [] t u
enter_every f e (x ∷ xs) t u = go (smaller number e x) (enter_every f e xs t (every_tail f x xs u))
  where
    go : (b : Bool) → T (every f (enter e xs)) → T (every f (if b then e ∷ x ∷ xs else (x ∷ enter e xs)))
    go true ih = every_cons f e (x ∷ xs) t u
    go false ih = every_cons f x (enter e xs) (every_head f x xs u) ih

-- an entry of another train keeps the order
pub enter_order : (e : Entry) (es : List Entry) → T (lacking e.train es) → T (each_two (smaller number) es) → T (each_two (smaller number) (enter e es))
unfolding enter each_two every
enter_order e [] l o = tt
enter_order e (x ∷ xs) l o = go (smaller number e x) refl (enter_order e xs (every_tail other x xs l) (two_tail (smaller number) x xs o))
  where
    other : Entry → Bool
    other y = not (same_train y.train e.train)

    go : (b : Bool) → smaller number e x ≡ b → T (each_two (smaller number) (enter e xs)) → T (each_two (smaller number) (if b then e ∷ x ∷ xs else (x ∷ enter e xs)))
    go true p ih = two_step (smaller number) (smaller_across number) e x xs (true_T (smaller number e x) p) o
    go false p ih =
        let differ : same_train x.train e.train ≡ false = not_T_false (same_train x.train e.train) (every_head other x xs l) in
        let before : T (smaller number x e) = lt→ltb (number x) (number e) (omega (arith, ltb-false (number e) (number x) p, eqb-false (number x) (number e) differ)) in
        two_cons (smaller number) x (enter e xs) (enter_every (smaller number x) e xs before (two_head (smaller number) x xs o)) ih

-- a train stands at most once in a list in order, so leaving it out leaves out one entry or none
pub leave_length : (t : Train) (es : List Entry) → T (each_two (smaller number) es)
    → length (keep (λ e. not (same_train e.train t)) es) + (1 if among t es else 0) ≡ length es
unfolding keep first
leave_length t [] o = omega arith
leave_length t (x ∷ xs) o = go (same_train x.train t) refl (leave_length t xs (two_tail (smaller number) x xs o))
  where
    other : Entry → Bool
    other e = not (same_train e.train t)

    later : same_train x.train t ≡ true → T (lacking t xs)
    later q = every_weaker (smaller number x) other
        (λ e l. not_T (same_train e.train t) (λ p. omega (arith, eqb-true (number x) t.0 q, eqb→eq (number e) t.0 p, ltb→lt (number x) (number e) l)))
        xs (two_head (smaller number) x xs o)

    go : (b : Bool) → same_train x.train t ≡ b → length (keep other xs) + (1 if among t xs else 0) ≡ length xs
        → length (if not b then x ∷ keep other xs else keep other xs)
        + (1 if is (λ v. true) (option_map (λ (e : Entry). e.visit) (if b then Some x else first (λ e. same_train e.train t) xs)) else 0)
        ≡ suc (length xs)
    go true q ih = rw (keep_every other xs (later q)) (omega arith)
    go false q ih = omega arith

-- a changed visit keeps its train
pub change_train : (t : Train) (f : Visit → Visit) (e : Entry) → (change_entry t f e).train ≡ e.train
unfolding change_entry
change_train t f e = go (same_train e.train t)
  where
    go : (b : Bool) → (if b then record { train = e.train; visit = f e.visit } else e).train ≡ e.train
    go true = refl
    go false = refl

pub change_trains : (t : Train) (f : Visit → Visit) (es : List Entry) → map number (map (change_entry t f) es) ≡ map number es
change_trains t f [] = refl
change_trains t f (e ∷ es) = ap₂ (λ (u : Train) (l : List ℕ). u.0 ∷ l) (change_train t f e) (change_trains t f es)

pub change_order : (t : Train) (f : Visit → Visit) (es : List Entry) → each_two (smaller number) (map (change_entry t f) es) ≡ each_two (smaller number) es
change_order t f es = sym (rising_map number (map (change_entry t f) es)) ∙ ap rising (change_trains t f es) ∙ rising_map number es

-- relations

pub precedes_across : (r q p : Relation) → T (precedes r q) → T (precedes q p) → T (precedes r p)
unfolding precedes
precedes_across r q p t u = below_trans (key r) (key q) (key p) t u

-- of two relations one precedes, or they are the same
pub precedes_total : (r q : Relation) → precedes r q ≡ false → same_relation r q ≡ false → T (precedes q r)
unfolding precedes same_relation
precedes_total r q p s = below_total (key r) (key q) (λ t. rw p at t) (λ t. rw s at t)

pub insert_length : (r : Relation) (rs : List Relation) → length (insert r rs) ≤ suc (length rs)
unfolding insert
insert_length r [] = omega arith
insert_length r (x ∷ xs) = go (precedes r x) (same_relation r x) (insert_length r xs)
  where
    go : (b c : Bool) → length (insert r xs) ≤ suc (length xs) → length (if b then r ∷ x ∷ xs else if c then x ∷ xs else (x ∷ insert r xs)) ≤ suc (suc (length xs))
    go true c ih = omega arith
    go false true ih = omega arith
    go false false ih = omega arith

pub insert_every : (f : Relation → Bool) (r : Relation) (rs : List Relation) → T (f r) → T (every f rs) → T (every f (insert r rs))
unfolding insert
insert_every f r [] t u = every_cons f r [] t u
insert_every f r (x ∷ xs) t u = go (precedes r x) (same_relation r x) (insert_every f r xs t (every_tail f x xs u))
  where
    go : (b c : Bool) → T (every f (insert r xs)) → T (every f (if b then r ∷ x ∷ xs else if c then x ∷ xs else (x ∷ insert r xs)))
    go true c ih = every_cons f r (x ∷ xs) t u
    go false true ih = u
    go false false ih = every_cons f x (insert r xs) (every_head f x xs u) ih

pub insert_order : (r : Relation) (rs : List Relation) → T (each_two precedes rs) → T (each_two precedes (insert r rs))
unfolding insert each_two every
insert_order r [] o = tt
insert_order r (x ∷ xs) o = go (precedes r x) refl (same_relation r x) refl (insert_order r xs (two_tail precedes x xs o))
  where
    go : (b : Bool) → precedes r x ≡ b → (c : Bool) → same_relation r x ≡ c → T (each_two precedes (insert r xs))
        → T (each_two precedes (if b then r ∷ x ∷ xs else if c then x ∷ xs else (x ∷ insert r xs)))
    go true p c q ih = two_step precedes precedes_across r x xs (true_T (precedes r x) p) o
    go false p true q ih = o
    go false p false q ih =
        two_cons precedes x (insert r xs) (insert_every (precedes x) r xs (precedes_total r x p q) (two_head precedes x xs o)) ih

-- a relation or none, put in

pub insert_if_length : (o : Option Relation) (rs : List Relation) → length (insert_if o rs) ≤ suc (length rs)
unfolding insert_if
insert_if_length None rs = omega arith
insert_if_length (Some r) rs = insert_length r rs

pub insert_if_order : (o : Option Relation) (rs : List Relation) → T (each_two precedes rs) → T (each_two precedes (insert_if o rs))
unfolding insert_if
insert_if_order None rs t = t
insert_if_order (Some r) rs t = insert_order r rs t

-- the test holds of what is there; true where nothing is
abbrev pub if_any : {A : Type 0} → (A → Bool) → Option A → Bool
if_any f None = true
if_any f (Some x) = f x

pub insert_if_every : (f : Relation → Bool) (o : Option Relation) (rs : List Relation) → T (if_any f o) → T (every f rs) → T (every f (insert_if o rs))
unfolding insert_if
insert_if_every f None rs t u = u
insert_if_every f (Some r) rs t u = insert_every f r rs t u

-- taking a train out of all relations

pub lose_all_length : (t : Train) (rs : List Relation) → length (lose_all t rs) ≤ length rs
unfolding lose_all
lose_all_length t [] = omega arith
lose_all_length t (r ∷ rs) = omega (arith, insert_if_length (lose t r) (lose_all t rs), lose_all_length t rs)

-- whatever order they were in
pub lose_all_order : (t : Train) (rs : List Relation) → T (each_two precedes (lose_all t rs))
unfolding lose_all each_two
lose_all_order t [] = tt
lose_all_order t (r ∷ rs) = insert_if_order (lose t r) (lose_all t rs) (lose_all_order t rs)

pub lose_all_every : (f g : Relation → Bool) (t : Train) → ((r : Relation) → T (f r) → T (if_any g (lose t r)))
    → (rs : List Relation) → T (every f rs) → T (every g (lose_all t rs))
unfolding lose_all every
lose_all_every f g t h [] u = tt
lose_all_every f g t h (r ∷ rs) u =
    insert_if_every g (lose t r) (lose_all t rs) (h r (every_head f r rs u)) (lose_all_every f g t h rs (every_tail f r rs u))

-- the trains of a relation

abbrev pub digits : Train → ℕ
digits t = t.0

-- a list of 2 to 4 trains, rising, in their range
pub record GroupOf (ts : List Train) : Type 0 where
  pub least : 2 ≤ length ts
  pub most : length ts ≤ 4
  pub order : T (each_two (smaller digits) ts)
  pub each : T (every train_ok ts)

-- a train's range as numbers, both ways
pub train_low : (t : Train) → T (train_ok t) → 1 ≤ t.0
train_low t h = leb→le 1 t.0 (search parts)

pub train_high : (t : Train) → T (train_ok t) → t.0 ≤ 9999
train_high t h = leb→le t.0 9999 (search parts)

pub train_fits : (t : Train) → 1 ≤ t.0 → t.0 ≤ 9999 → T (train_ok t)
train_fits t l h = both (leb 1 t.0) (leb t.0 9999) (le→leb 1 t.0 l) (le→leb t.0 9999 h)

-- a further place is empty, or holds a train above the one before it
abbrev pub Further : Train → Train → Type 0
Further t u = (u.0 ≡ 0) ⊎ ((1 ≤ t.0) × (t.0 < u.0) × (u.0 ≤ 9999))

pub further : (t u : Train) → T (further_ok t u) → Further t u
unfolding further_ok
further t u h =
    or_cases (eqb u.0 0) ((present t && ltb t.0 u.0) && train_ok u) h
    (λ e. inl (eqb→eq u.0 0 e))
    (λ r. inr (ltb→lt 0 t.0 (search parts), ltb→lt t.0 u.0 (search parts), train_high u (search parts)))

pub further_fits : (t u : Train) → Further t u → T (further_ok t u)
unfolding further_ok
further_fits t u (inl e) = or_l (eqb u.0 0) ((present t && ltb t.0 u.0) && train_ok u) (true_T (eqb u.0 0) (eq-eqb u.0 0 e))
further_fits t u (inr f) =
    let before : T (present t) = lt→ltb 0 t.0 f.0 in
    let above : T (ltb t.0 u.0) = lt→ltb t.0 u.0 f.1 in
    let fits : T (train_ok u) = train_fits u (omega arith) f.2 in
    or_r (eqb u.0 0) ((present t && ltb t.0 u.0) && train_ok u) (search both)

-- the four places as numbers
pub record Places (ts : Trains) : Type 0 where
  pub first_low : 1 ≤ ts.a.0
  pub second_above : ts.a.0 < ts.b.0
  pub second_high : ts.b.0 ≤ 9999
  pub third : Further ts.b ts.c
  pub fourth : Further ts.c ts.d

pub places : (ts : Trains) → T (trains_ok ts) → Places ts
unfolding trains_ok
places ts h = record {
  first_low = train_low ts.a (search parts);
  second_above = ltb→lt ts.a.0 ts.b.0 (search parts);
  second_high = train_high ts.b (search parts);
  third = further ts.b ts.c (search parts);
  fourth = further ts.c ts.d (search parts);
}

pub places_fit : (ts : Trains) → Places ts → T (trains_ok ts)
unfolding trains_ok
places_fit ts p =
    let first : T (train_ok ts.a) = train_fits ts.a p.first_low (omega arith) in
    let above : T (ltb ts.a.0 ts.b.0) = lt→ltb ts.a.0 ts.b.0 p.second_above in
    let second : T (train_ok ts.b) = train_fits ts.b (omega arith) p.second_high in
    let third : T (further_ok ts.b ts.c) = further_fits ts.b ts.c p.third in
    let fourth : T (further_ok ts.c ts.d) = further_fits ts.c ts.d p.fourth in
    search both

-- the list of the places in use, by how many they are
pub used_two : (ts : Trains) → Places ts → ts.c.0 ≡ 0 → ts.d.0 ≡ 0 → used ts ≡ ts.a ∷ ts.b ∷ []
unfolding used keep
used_two ts p e f = rw (lt-ltb 0 ts.a.0 (omega arith), lt-ltb 0 ts.b.0 (omega arith), e, f)

pub used_three : (ts : Trains) → Places ts → 1 ≤ ts.c.0 → ts.d.0 ≡ 0 → used ts ≡ ts.a ∷ ts.b ∷ ts.c ∷ []
unfolding used keep
used_three ts p e f = rw (lt-ltb 0 ts.a.0 (omega arith), lt-ltb 0 ts.b.0 (omega arith), lt-ltb 0 ts.c.0 (omega arith), f)

pub used_four : (ts : Trains) → Places ts → 1 ≤ ts.c.0 → 1 ≤ ts.d.0 → used ts ≡ ts.a ∷ ts.b ∷ ts.c ∷ ts.d ∷ []
unfolding used keep
used_four ts p e f = rw (lt-ltb 0 ts.a.0 (omega arith), lt-ltb 0 ts.b.0 (omega arith), lt-ltb 0 ts.c.0 (omega arith), lt-ltb 0 ts.d.0 (omega arith))

-- a train below the first of a list in order may stand before it
chain : (t u : Train) (us : List Train) → t.0 < u.0 → T (each_two (smaller digits) (u ∷ us)) → T (each_two (smaller digits) (t ∷ u ∷ us))
chain t u us h o = two_step (smaller digits) (smaller_across digits) t u us (lt→ltb t.0 u.0 h) o

placed_group : (ts : Trains) → Places ts → Further ts.b ts.c → Further ts.c ts.d → GroupOf (used ts)
unfolding each_two every
placed_group ts p (inl e) (inl f) =
    let first : T (train_ok ts.a) = train_fits ts.a (omega arith) (omega arith) in
    let second : T (train_ok ts.b) = train_fits ts.b (omega arith) (omega arith) in
    rw (used_two ts p e f) (record {
      least = omega arith;
      most = omega arith;
      order = chain ts.a ts.b [] p.second_above tt;
      each = search both;
    })
placed_group ts p (inl e) (inr f) = absurd (omega arith)
placed_group ts p (inr e) (inl f) =
    let first : T (train_ok ts.a) = train_fits ts.a (omega arith) (omega arith) in
    let second : T (train_ok ts.b) = train_fits ts.b (omega arith) (omega arith) in
    let third : T (train_ok ts.c) = train_fits ts.c (omega arith) (omega arith) in
    rw (used_three ts p (omega arith) f) (record {
      least = omega arith;
      most = omega arith;
      order = chain ts.a ts.b (ts.c ∷ []) p.second_above (chain ts.b ts.c [] e.1 tt);
      each = search both;
    })
placed_group ts p (inr e) (inr f) =
    let first : T (train_ok ts.a) = train_fits ts.a (omega arith) (omega arith) in
    let second : T (train_ok ts.b) = train_fits ts.b (omega arith) (omega arith) in
    let third : T (train_ok ts.c) = train_fits ts.c (omega arith) (omega arith) in
    let fourth : T (train_ok ts.d) = train_fits ts.d (omega arith) (omega arith) in
    rw (used_four ts p (omega arith) (omega arith)) (record {
      least = omega arith;
      most = omega arith;
      order = chain ts.a ts.b (ts.c ∷ ts.d ∷ []) p.second_above (chain ts.b ts.c (ts.d ∷ []) e.1 (chain ts.c ts.d [] f.1 tt));
      each = search both;
    })

-- the trains of a good relation are a group
pub used_group : (ts : Trains) → T (trains_ok ts) → GroupOf (used ts)
used_group ts h = placed_group ts (places ts h) (places ts h).third (places ts h).fourth

-- and the four places of a group are good
pub packed_ok : (ts : List Train) → GroupOf ts → T (trains_ok (packed ts))
unfolding packed each_two every
packed_ok [] g = absurd (omega arith)
packed_ok (a ∷ []) g = absurd (omega arith)
packed_ok (a ∷ b ∷ []) g = places_fit (packed (a ∷ b ∷ [])) (record {
  first_low = train_low a (search parts);
  second_above = ltb→lt a.0 b.0 (search parts);
  second_high = train_high b (search parts);
  third = inl refl;
  fourth = inl refl;
})
packed_ok (a ∷ b ∷ c ∷ []) g = places_fit (packed (a ∷ b ∷ c ∷ [])) (record {
  first_low = train_low a (search parts);
  second_above = ltb→lt a.0 b.0 (search parts);
  second_high = train_high b (search parts);
  third = inr (train_low b (search parts), ltb→lt b.0 c.0 (search parts), train_high c (search parts));
  fourth = inl refl;
})
packed_ok (a ∷ b ∷ c ∷ d ∷ []) g = places_fit (packed (a ∷ b ∷ c ∷ d ∷ [])) (record {
  first_low = train_low a (search parts);
  second_above = ltb→lt a.0 b.0 (search parts);
  second_high = train_high b (search parts);
  third = inr (train_low b (search parts), ltb→lt b.0 c.0 (search parts), train_high c (search parts));
  fourth = inr (train_low c (search parts), ltb→lt c.0 d.0 (search parts), train_high d (search parts));
})
packed_ok (a ∷ b ∷ c ∷ d ∷ e ∷ ts) g = absurd (omega arith)

-- what is left of a relation that loses a train is good

pub group_keep : (p : Train → Bool) (ts : List Train) → GroupOf ts → 2 ≤ length (keep p ts) → GroupOf (keep p ts)
group_keep p ts g h = record {
  least = h;
  most = omega (arith, keep_no_longer p ts);
  order = two_keep (smaller digits) p ts g.order;
  each = every_keep train_ok p ts g.each;
}

-- a relation of a group, made from the trains that stay
pub fewer_ok : (make : Trains → Relation) → ((ts : Trains) → T (trains_ok ts) → T (relation_ok (make ts))) → (p : Train → Bool) (ts : List Train) → GroupOf ts
    → T (if_any relation_ok (fewer make (keep p ts)))
unfolding fewer
fewer_ok make ok p ts g = go (ltb (length (keep p ts)) 2) refl
  where
    go : (b : Bool) → ltb (length (keep p ts)) 2 ≡ b → T (if_any relation_ok (if b then None else Some (make (packed (keep p ts)))))
    go true e = tt
    go false e = ok (packed (keep p ts)) (packed_ok (keep p ts) (group_keep p ts g (ltb-false (length (keep p ts)) 2 e)))

pub group_loses : (make : Trains → Relation) → ((us : Trains) → T (trains_ok us) → T (relation_ok (make us))) → (t : Train) (ts : Trains) → T (trains_ok ts)
    → T (if_any relation_ok (if any (same_train t) (used ts) then fewer make (keep (λ u. not (same_train t u)) (used ts)) else Some (make ts)))
group_loses make ok t ts h = go (any (same_train t) (used ts))
  where
    go : (b : Bool) → T (if_any relation_ok (if b then fewer make (keep (λ u. not (same_train t u)) (used ts)) else Some (make ts)))
    go true = fewer_ok make ok (λ u. not (same_train t u)) (used ts) (used_group ts h)
    go false = ok ts h

pub lose_ok : (t : Train) (r : Relation) → T (relation_ok r) → T (if_any relation_ok (lose t r))
unfolding lose relation_ok
lose_ok t (Connection i ts) h =
    let span : T (interval_ok i) = search parts in
    group_loses (Connection i) (λ us k. both (interval_ok i) (trains_ok us) span k) t ts (search parts)
lose_ok t (Disconnection i ts) h =
    let span : T (interval_ok i) = search parts in
    group_loses (Disconnection i) (λ us k. both (interval_ok i) (trains_ok us) span k) t ts (search parts)
lose_ok t (Dependency i p) h = go (same_train t p.arriver || same_train t p.departer)
  where
    go : (b : Bool) → T (if_any relation_ok (if b then None else Some (Dependency i p)))
    go true = tt
    go false = h

-- good visits

pub record GoodVisit (n : Network) (s : Station) (v : Visit) : Type 0 where
  pub track : T (track_ok v.track && track_known n s v.track)
  pub arrival : T (minute_ok v.arrival)
  pub departure : T (minute_ok v.departure)
  pub inward : T (every (in_good n s) (ins v))
  pub outward : T (every (out_good n s) (outs v))

pub visit_facts : (n : Network) (s : Station) (v : Visit) → T (visit_good n s v) → GoodVisit n s v
unfolding visit_good values_good links_good
visit_facts n s v h = record { track = search parts; arrival = search parts; departure = search parts; inward = search parts; outward = search parts }

pub visit_fits : (n : Network) (s : Station) (v : Visit) → GoodVisit n s v → T (visit_good n s v)
unfolding visit_good values_good links_good
visit_fits n s v g = search both

pub planned_good : (n : Network) (s : Station) (p : Plan) → T (track_ok p.track && track_known n s p.track)
    → T (minute_ok p.arrival) → T (minute_ok p.departure) → GoodVisit n s (planned p)
unfolding planned ins outs every
planned_good n s p t a d = record { track = t; arrival = a; departure = d; inward = tt; outward = tt }

pub amended_good : (n : Network) (s : Station) (p : Plan) (v : Visit) → T (track_ok p.track && track_known n s p.track)
    → T (minute_ok p.arrival) → T (minute_ok p.departure) → GoodVisit n s v → GoodVisit n s (amended p v)
unfolding amended ins outs
amended_good n s p v t a d g = record { track = t; arrival = a; departure = d; inward = g.inward; outward = g.outward }

pub arrived_good : (n : Network) (s : Station) (m : Minute) (v : Visit) → T (minute_ok m) → GoodVisit n s v → GoodVisit n s (arrived_at m v)
unfolding arrived_at ins outs
arrived_good n s m v h g = record { track = g.track; arrival = h; departure = g.departure; inward = g.inward; outward = g.outward }

pub departed_good : (n : Network) (s : Station) (m : Minute) (v : Visit) → T (minute_ok m) → GoodVisit n s v → GoodVisit n s (departed_at m v)
unfolding departed_at ins outs
departed_good n s m v h g = record { track = g.track; arrival = g.arrival; departure = h; inward = g.inward; outward = g.outward }

-- with a good link, or with none

pub from_good : (n : Network) (s o : Station) (l : Line) (v : Visit) → T (in_good n s (record { station = o; line = l })) → GoodVisit n s v → GoodVisit n s (with_in (from o l) v)
unfolding with_in from ins outs every
from_good n s o l v h g = record {
  track = g.track;
  arrival = g.arrival;
  departure = g.departure;
  inward = both (in_good n s (record { station = o; line = l })) true h tt;
  outward = g.outward;
}

pub onward_good : (n : Network) (s o : Station) (l : Line) (r : ℕ) (v : Visit) → T (out_good n s (record { station = o; line = l; run = r })) → GoodVisit n s v
    → GoodVisit n s (with_out (onward o l r) v)
unfolding with_out onward ins outs every
onward_good n s o l r v h g = record {
  track = g.track;
  arrival = g.arrival;
  departure = g.departure;
  inward = g.inward;
  outward = both (out_good n s (record { station = o; line = l; run = r })) true h tt;
}

pub unlinked_in_good : (n : Network) (s : Station) (v : Visit) → GoodVisit n s v → GoodVisit n s (with_in InLink.Nothing v)
unfolding with_in ins outs every
unlinked_in_good n s v g = record { track = g.track; arrival = g.arrival; departure = g.departure; inward = tt; outward = g.outward }

pub unlinked_out_good : (n : Network) (s : Station) (v : Visit) → GoodVisit n s v → GoodVisit n s (with_out OutLink.Nothing v)
unfolding with_out ins outs every
unlinked_out_good n s v g = record { track = g.track; arrival = g.arrival; departure = g.departure; inward = g.inward; outward = tt }

-- good lists of visits

pub record GoodVisits (n : Network) (s : Station) (es : List Entry) : Type 0 where
  pub few : length es ≤ 24
  pub order : T (each_two (smaller number) es)
  pub each : T (every (entry_good n s) es)

pub visits_facts : (n : Network) (s : Station) (es : List Entry) → T (visits_good n s es) → GoodVisits n s es
unfolding visits_good
visits_facts n s es h =
    let up : T (rising (map number es)) = search parts in
    record { few = leb→le (length es) 24 (search parts); order = rw (rising_map number es) at up; each = search parts }

pub visits_fit : (n : Network) (s : Station) (es : List Entry) → GoodVisits n s es → T (visits_good n s es)
unfolding visits_good
visits_fit n s es g =
    let few : T (leb (length es) 24) = le→leb (length es) 24 g.few in
    let up : T (rising (map number es)) = rw (rising_map number es) g.order in
    search both

pub enter_good : (n : Network) (s : Station) (e : Entry) (es : List Entry) → T (entry_good n s e) → T (lacking e.train es) → length es < 24
    → GoodVisits n s es → GoodVisits n s (enter e es)
enter_good n s e es t l f g = record {
  few = omega (arith, enter_length e es);
  order = enter_order e es l g.order;
  each = enter_every (entry_good n s) e es t g.each;
}

-- a visit changed to a good one
pub change_good : (n : Network) (s : Station) (t : Train) (f : Visit → Visit) → ((v : Visit) → GoodVisit n s v → GoodVisit n s (f v))
    → (es : List Entry) → GoodVisits n s es → GoodVisits n s (map (change_entry t f) es)
unfolding change_entry entry_good
change_good n s t f h es g = record {
  few = rw (length-map es (change_entry t f)) g.few;
  order = rw (change_order t f es) g.order;
  each = every_mapped (entry_good n s) (entry_good n s) (change_entry t f) (λ e k. go e k (same_train e.train t)) es g.each;
}
  where
    go : (e : Entry) → T (entry_good n s e) → (b : Bool) → T (entry_good n s (if b then record { train = e.train; visit = f e.visit } else e))
    go e k true =
        let who : T (train_ok e.train) = search parts in
        let what : T (visit_good n s (f e.visit)) = visit_fits n s (f e.visit) (h e.visit (visit_facts n s e.visit (search parts))) in
        search both
    go e k false = k

pub keep_good : (n : Network) (s : Station) (p : Entry → Bool) (es : List Entry) → GoodVisits n s es → GoodVisits n s (keep p es)
keep_good n s p es g = record {
  few = omega (arith, keep_no_longer p es);
  order = two_keep (smaller number) p es g.order;
  each = every_keep (entry_good n s) p es g.each;
}

-- good lists of relations

pub record GoodRelations (rs : List Relation) : Type 0 where
  pub few : length rs ≤ 6
  pub order : T (each_two precedes rs)
  pub each : T (every relation_ok rs)

pub relations_facts : (rs : List Relation) → T (relations_good rs) → GoodRelations rs
unfolding relations_good
relations_facts rs h = record { few = leb→le (length rs) 6 (search parts); order = search parts; each = search parts }

pub relations_fit : (rs : List Relation) → GoodRelations rs → T (relations_good rs)
unfolding relations_good
relations_fit rs g =
    let few : T (leb (length rs) 6) = le→leb (length rs) 6 g.few in
    search both

pub insert_good : (r : Relation) (rs : List Relation) → T (relation_ok r) → length rs < 6 → GoodRelations rs → GoodRelations (insert r rs)
insert_good r rs t f g = record {
  few = omega (arith, insert_length r rs);
  order = insert_order r rs g.order;
  each = insert_every relation_ok r rs t g.each;
}

pub keep_relations_good : (p : Relation → Bool) (rs : List Relation) → GoodRelations rs → GoodRelations (keep p rs)
keep_relations_good p rs g = record {
  few = omega (arith, keep_no_longer p rs);
  order = two_keep precedes p rs g.order;
  each = every_keep relation_ok p rs g.each;
}

pub lose_all_good : (t : Train) (rs : List Relation) → GoodRelations rs → GoodRelations (lose_all t rs)
lose_all_good t rs g = record {
  few = omega (arith, lose_all_length t rs);
  order = lose_all_order t rs;
  each = lose_all_every relation_ok relation_ok t (lose_ok t) rs g.each;
}

-- good tables

pub record GoodTable (n : Network) (s : Station) (tab : Table) : Type 0 where
  pub visits : GoodVisits n s tab.visits
  pub relations : GoodRelations tab.relations

pub table_facts : (n : Network) (s : Station) (tab : Table) → T (table_good n s tab) → GoodTable n s tab
unfolding table_good
table_facts n s tab h = record { visits = visits_facts n s tab.visits (search parts); relations = relations_facts tab.relations (search parts) }

pub table_fits : (n : Network) (s : Station) (tab : Table) → GoodTable n s tab → T (table_good n s tab)
unfolding table_good
table_fits n s tab g =
    both (visits_good n s tab.visits) (relations_good tab.relations) (visits_fit n s tab.visits g.visits) (relations_fit tab.relations g.relations)

-- what the functions on tables do to the number of visits, and that they keep a table good

pub add_visit_length : (t : Train) (v : Visit) (tab : Table) → length (add_visit t v tab).visits ≡ suc (length tab.visits)
unfolding add_visit
add_visit_length t v tab = enter_length (record { train = t; visit = v }) tab.visits

pub change_visit_length : (t : Train) (f : Visit → Visit) (tab : Table) → length (change_visit t f tab).visits ≡ length tab.visits
unfolding change_visit
change_visit_length t f tab = length-map tab.visits (change_entry t f)

pub without_length : (t : Train) (tab : Table) → T (each_two (smaller number) tab.visits)
    → length (without t tab).visits + (1 if has_visit t tab else 0) ≡ length tab.visits
unfolding without has_visit visit_of
without_length t tab o = leave_length t tab.visits o

-- a train that has no visit gets one, where there is room
pub add_visit_good : (n : Network) (s : Station) (t : Train) (v : Visit) (tab : Table) → T (train_ok t) → GoodVisit n s v
    → has_visit t tab ≡ false → full_visits tab ≡ false → GoodTable n s tab → GoodTable n s (add_visit t v tab)
unfolding add_visit full_visits entry_good
add_visit_good n s t v tab h k a f g = record {
  visits = enter_good n s (record { train = t; visit = v }) tab.visits (both (train_ok t) (visit_good n s v) h (visit_fits n s v k)) (absent t tab a)
      (leb-false 24 (length tab.visits) f) g.visits;
  relations = g.relations;
}

pub change_visit_good : (n : Network) (s : Station) (t : Train) (f : Visit → Visit) → ((v : Visit) → GoodVisit n s v → GoodVisit n s (f v))
    → (tab : Table) → GoodTable n s tab → GoodTable n s (change_visit t f tab)
unfolding change_visit
change_visit_good n s t f h tab g = record {
  visits = change_good n s t f h tab.visits g.visits;
  relations = g.relations;
}

pub add_relation_good : (n : Network) (s : Station) (r : Relation) (tab : Table) → T (relation_ok r) → full_relations tab ≡ false
    → GoodTable n s tab → GoodTable n s (add_relation r tab)
unfolding add_relation full_relations
add_relation_good n s r tab h f g = record {
  visits = g.visits;
  relations = insert_good r tab.relations h (leb-false 6 (length tab.relations) f) g.relations;
}

pub drop_relation_good : (n : Network) (s : Station) (r : Relation) (tab : Table) → GoodTable n s tab → GoodTable n s (drop_relation r tab)
unfolding drop_relation
drop_relation_good n s r tab g = record {
  visits = g.visits;
  relations = keep_relations_good (λ q. not (same_relation r q)) tab.relations g.relations;
}

pub without_good : (n : Network) (s : Station) (t : Train) (tab : Table) → GoodTable n s tab → GoodTable n s (without t tab)
unfolding without
without_good n s t tab g = record {
  visits = keep_good n s (λ e. not (same_train e.train t)) tab.visits g.visits;
  relations = lose_all_good t tab.relations g.relations;
}
