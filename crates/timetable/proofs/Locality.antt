-- An edit reads and changes only the tables of the stations that it names, and one refused with 3, 7 or 15 names none.
-- An edit's meaning sees the tables of s and p alone, so each fact is proved once for all meanings, by the tests that
-- decide what an edit names: its values do not refuse it (`sound`), its network knows it (`known`), and the station is
-- s or p. Assumes nothing.
use Prim.Native.Nat.{ℕ, ◌+◌}
use mathlib.Core.Path.{◌≡◌, refl, sym, ◌∙◌, ap, ap₂}
use mathlib.Core.Bool.{Bool, true, false, not, ◌&&◌, ◌||◌}
use mathlib.Core.List.{List, [], ◌∷◌}
use native.Mathlib.Omega.{arith}
use lib.Dec.{T, eqb, eqb_refl, eqb→eq}
use borrow.Author.Tests.{ne_eqb, eqb-false}
use Rattle.base.specs.Choice.{◌if◌else◌}
use Rattle.std.specs.Prelude.{if◌then◌else◌}
use Rattle.base.specs.Lists.{any, count, is}
use Rattle.base.proofs.Tests.{if_yes, if_no, and_l, and_r, or_l, or_r, or_cases}
use Rattle.railway.specs.Ranges.{same_station}
use Rattle.network.specs.Networks.{stations_of, listed}
use Rattle.timetable.specs.Types.{Station, Network, Answer}
use Rattle.timetable.specs.Types.{Edit, Place, Prepend, Append, DeleteFirst, DeleteLast, Amend}
use Rattle.timetable.specs.Types.{ReportArrival, ReportDeparture, AddRelation, RemoveRelation, DeleteTrain}
use Rattle.timetable.specs.Visits.{lacks_in, lacks_out, first_stands, last_stands, alters}
use Rattle.timetable.specs.Tables.{Table, without, visit_of, has_visit, has_relation, full_visits, full_relations}
use Rattle.timetable.specs.Machine.{Timetable, put, Action, Meaning, local, throughout, meaning, known, room, edit_refusal, sound, refused_as, refusal, changed, removed_by, answer, after}
use Rattle.timetable.specs.Groups.{reaches, names, naming_none}

pub same_station_equal : (k s : Station) → T (same_station k s) → k ≡ s
same_station_equal k s t = λ i. record { 0 = eqb→eq k.0 s.0 t i }

-- the station is s or p of the action
abbrev at_ends : Action → Station → Bool
at_ends a k = same_station k a.home || same_station k a.away

home_at_end : (a : Action) → T (at_ends a a.home)
home_at_end a = or_l (same_station a.home a.home) (same_station a.home a.away) (eqb_refl a.home.0)

away_at_end : (a : Action) → T (at_ends a a.away)
away_at_end a = or_r (same_station a.away a.home) (same_station a.away a.away) (eqb_refl a.away.0)

-- counts by tests that agree at the stations of the list
count_agree : (f g : Station → Bool) (ss : List Station) → ((k : Station) → T (any (same_station k) ss) → f k ≡ g k) → count f ss ≡ count g ss
unfolding count any
count_agree f g [] h = refl
count_agree f g (s ∷ ss) h =
    ap₂ (λ (b : Bool) (k : ℕ). (1 if b else 0) + k)
    (h s (or_l (same_station s s) (any (same_station s) ss) (eqb_refl s.0)))
    (count_agree f g ss (λ k r. h k (or_r (same_station k s) (any (same_station k) ss) r)))

-- what an edit reads

module _ (n : Network) (m m' : Timetable) where
  -- the two agree at the stations that a meaning reaches, where b says that the edit's values are in range
  abbrev Agree : Bool → Meaning → Type 0
  Agree b μ = (k : Station) → T (b && reaches n μ k) → m k ≡ m' k

  -- c says that the network knows the action
  refuses_agree : (a : Action) (c : Bool)
      → ((k : Station) → T (c && at_ends a k) → m k ≡ m' k)
      → (7 if not c else a.refuses n (m a.home) (m a.away)) ≡ (7 if not c else a.refuses n (m' a.home) (m' a.away))
  refuses_agree a false h = refl
  refuses_agree a true h = ap₂ (a.refuses n) (h a.home (home_at_end a)) (h a.away (away_at_end a))

  refusal_agree : (b : Bool) (v : ℕ) (μ : Meaning) → Agree b μ → (if b then refused_as n μ m else v) ≡ (if b then refused_as n μ m' else v)
  unfolding refused_as reaches
  refusal_agree false v μ h = refl
  refusal_agree true v (throughout t) h = refl
  refusal_agree true v (local a) h = refuses_agree a (known n a) h

  removed_agree : (μ : Meaning) → Agree true μ → removed_by n μ m ≡ removed_by n μ m'
  unfolding removed_by reaches listed
  removed_agree (local a) h = refl
  removed_agree (throughout t) h = count_agree (λ s. has_visit t (m s)) (λ s. has_visit t (m' s)) (stations_of n) (λ k r. ap (has_visit t) (h k r))

  put_agree : (a : Action) (k : Station) (c : Bool)
      → ((q : Station) → T (c && at_ends a q) → m q ≡ m' q)
      → T (c && at_ends a k)
      → put a.home (a.here (m a.home)) (put a.away (a.there (m a.away)) m) k
      ≡ put a.home (a.here (m' a.home)) (put a.away (a.there (m' a.away)) m') k
  unfolding put
  put_agree a k false h r = absurd r
  put_agree a k true h r = λ i.
      if same_station k a.home then a.here (h a.home (home_at_end a) i)
      else if same_station k a.away then a.there (h a.away (away_at_end a) i)
      else h k r i

  changed_agree : (b : Bool) (μ : Meaning) → Agree b μ → (k : Station) → T (b && reaches n μ k) → changed n μ m k ≡ changed n μ m' k
  unfolding changed reaches
  changed_agree false μ h k r = absurd r
  changed_agree true (throughout t) h k r = if_yes (listed n k) _ _ r ∙ ap (without t) (h k r) ∙ sym (if_yes (listed n k) _ _ r)
  changed_agree true (local a) h k r = put_agree a k (known n a) h r

  -- an edit that is not refused is in range
  removal_agree : (b : Bool) (v : ℕ) (μ : Meaning) → (b ≡ false → ¬ (v ≡ 0)) → Agree b μ
      → (if eqb (if b then refused_as n μ m else v) 0 then removed_by n μ m else 0)
      ≡ (if eqb (if b then refused_as n μ m else v) 0 then removed_by n μ m' else 0)
  removal_agree false v μ z h = rw (ne_eqb v 0 (z refl))
  removal_agree true v μ z h = λ i. if eqb (refused_as n μ m) 0 then removed_agree μ h i else 0

  -- z says that the edit is not refused
  accepted_agree : (z b : Bool) (μ : Meaning) → Agree b μ → (k : Station) → T (b && reaches n μ k)
      → (if z then changed n μ m else m) k ≡ (if z then changed n μ m' else m') k
  accepted_agree true b μ h k r = changed_agree b μ h k r
  accepted_agree false b μ h k r = h k r

-- the timetables agree at the stations that the edit names
abbrev pub AgreeOn : Network → Edit → Timetable → Timetable → Type 0
AgreeOn n e m m' = (k : Station) → T (names n e k) → m k ≡ m' k

pub same_refusal : (n : Network) (e : Edit) (m m' : Timetable) → AgreeOn n e m m' → refusal n e m ≡ refusal n e m'
unfolding refusal names
same_refusal n e m m' h = refusal_agree n m m' (sound e) (edit_refusal e) (meaning e) h

pub same_answer : (n : Network) (e : Edit) (m m' : Timetable) → AgreeOn n e m m' → answer n e m ≡ answer n e m'
unfolding answer refusal names
same_answer n e m m' h =
    (λ i. record { refusal = refusal n e m; removed = removal_agree n m m' (sound e) (edit_refusal e) (meaning e) (eqb-false (edit_refusal e) 0) h i })
    ∙ ap (λ (r : ℕ). told r) (same_refusal n e m m' h)
  where
    told : ℕ → Answer
    told r = record { refusal = r; removed = if eqb r 0 then removed_by n (meaning e) m' else 0 }

-- what an edit leaves at the stations that it names depends on those alone
pub same_change : (n : Network) (e : Edit) (m m' : Timetable) → AgreeOn n e m m' → (k : Station) → T (names n e k) → after n e m k ≡ after n e m' k
unfolding after names
same_change n e m m' h k r =
    accepted_agree n m m' (eqb (refusal n e m) 0) (sound e) (meaning e) h k r
    ∙ ap (λ (q : ℕ). (if eqb q 0 then changed n (meaning e) m' else m') k) (same_refusal n e m m' h)

-- what an edit changes

elsewhere_kept : (a : Action) (m : Timetable) (k : Station) → ¬ T (at_ends a k)
    → put a.home (a.here (m a.home)) (put a.away (a.there (m a.away)) m) k ≡ m k
unfolding put
elsewhere_kept a m k away =
    if_no (same_station k a.home) _ _ (λ t. away (or_l (same_station k a.home) (same_station k a.away) t))
    ∙ if_no (same_station k a.away) _ _ (λ t. away (or_r (same_station k a.home) (same_station k a.away) t))

-- c says that the network knows the action, r is what its tables refuse it with
action_kept : (c : Bool) (r : ℕ) (a : Action) (m : Timetable) (k : Station) → ¬ T (c && at_ends a k)
    → (if eqb (7 if not c else r) 0 then put a.home (a.here (m a.home)) (put a.away (a.there (m a.away)) m) else m) k ≡ m k
action_kept false r a m k away = refl
action_kept true r a m k away = go (eqb r 0)
  where
    go : (z : Bool) → (if z then put a.home (a.here (m a.home)) (put a.away (a.there (m a.away)) m) else m) k ≡ m k
    go true = elsewhere_kept a m k away
    go false = refl

meaning_kept : (n : Network) (m : Timetable) (b : Bool) (v : ℕ) (μ : Meaning) (k : Station) → (b ≡ false → ¬ (v ≡ 0)) → ¬ T (b && reaches n μ k)
    → (if eqb (if b then refused_as n μ m else v) 0 then changed n μ m else m) k ≡ m k
unfolding reaches refused_as changed
meaning_kept n m false v μ k z away = rw (ne_eqb v 0 (z refl))
meaning_kept n m true v (throughout t) k z away = if_no (listed n k) _ _ away
meaning_kept n m true v (local a) k z away = action_kept (known n a) (a.refuses n (m a.home) (m a.away)) a m k away

-- an edit leaves every table that it does not name
pub others_kept : (n : Network) (e : Edit) (m : Timetable) (k : Station) → ¬ T (names n e k) → after n e m k ≡ m k
unfolding after refusal names
others_kept n e m k away = meaning_kept n m (sound e) (edit_refusal e) (meaning e) k (eqb-false (edit_refusal e) 0) away

-- what an edit names

-- 3, 7 and 15 are decided before any table is read: what the tables say is none of them, edit by edit

abbrev Later : ℕ → Type 0
Later r = ¬ T (naming_none r)

either : (r : ℕ) (b : Bool) (q : ℕ) → Later r → Later q → Later (r if b else q)
either r true q x y = x
either r false q x y = y

no : ¬ ⊥
no t = t

abbrev TablesLater : Meaning → Type 0
TablesLater (local a) = (n : Network) (here there : Table) → Later (a.refuses n here there)
TablesLater (throughout t) = Unit {0}

room_later : (n : Network) (s : Station) (tab : Table) → Later (room n s tab)
unfolding room
room_later n s tab = either 12 (full_visits tab) 0 no no

tables_later : (e : Edit) → TablesLater (meaning e)
unfolding meaning
tables_later (Place p) = λ n here there. either 8 (has_visit p.train here) _ no (room_later n _ here)
tables_later (Prepend x) = λ n here there.
    either 8 (has_visit x.plan.train here) _ no
    (either 9 (not (has_visit x.plan.train there)) _ no
    (either 10 (not (is lacks_in (visit_of x.plan.train there))) _ no
    (room_later n _ here)))
tables_later (Append x) = λ n here there.
    either 8 (has_visit x.plan.train here) _ no
    (either 9 (not (has_visit x.plan.train there)) _ no
    (either 10 (not (is lacks_out (visit_of x.plan.train there))) _ no
    (room_later n _ here)))
tables_later (DeleteFirst d) = λ n here there.
    either 9 (not (has_visit d.train here && has_visit d.train there)) _ no
    (either 10 (not (is (λ v. is (first_stands d.station d.other v) (visit_of d.train there)) (visit_of d.train here))) 0 no no)
tables_later (DeleteLast d) = λ n here there.
    either 9 (not (has_visit d.train here && has_visit d.train there)) _ no
    (either 10 (not (is (λ v. is (last_stands d.station d.other v) (visit_of d.train there)) (visit_of d.train here))) 0 no no)
tables_later (Amend p) = λ n here there.
    either 9 (not (has_visit p.train here)) _ no
    (either 11 (is (alters p) (visit_of p.train here)) 0 no no)
tables_later (ReportArrival r) = λ n here there. either 9 (not (has_visit r.train here)) 0 no no
tables_later (ReportDeparture r) = λ n here there. either 9 (not (has_visit r.train here)) 0 no no
tables_later (AddRelation r) = λ n here there. either 8 (has_relation r.relation here) _ no (either 12 (full_relations here) 0 no no)
tables_later (RemoveRelation r) = λ n here there. either 9 (not (has_relation r.relation here)) 0 no no
tables_later (DeleteTrain c) = tt

-- 15 is said by no network and no table
meaning_past : (n : Network) (μ : Meaning) (m : Timetable) → TablesLater μ → ¬ (refused_as n μ m ≡ 15)
unfolding refused_as
meaning_past n (throughout t) m later q = omega (arith, q)
meaning_past n (local a) m later q = go (known n a) q
  where
    go : (c : Bool) → ¬ ((7 if not c else a.refuses n (m a.home) (m a.away)) ≡ 15)
    go true r = later n (m a.home) (m a.away) (rw r tt)
    go false r = omega (arith, r)

pub tables_past : (n : Network) (e : Edit) (m : Timetable) → ¬ (refused_as n (meaning e) m ≡ 15)
tables_past n e m = meaning_past n (meaning e) m (tables_later e)

-- c says that the network knows the action, r is what its tables refuse it with
unknown_none : (a : Action) (c : Bool) (r : ℕ) (k : Station) → Later r → T (naming_none (7 if not c else r)) → ¬ T (c && at_ends a k)
unknown_none a true r k later t u = later t
unknown_none a false r k later t u = u

-- b says that the edit's values are in range
meaning_none : (n : Network) (b : Bool) (v : ℕ) (μ : Meaning) (m : Timetable) (k : Station) → TablesLater μ
    → T (naming_none (if b then refused_as n μ m else v)) → ¬ T (b && reaches n μ k)
unfolding refused_as reaches
meaning_none n false v μ m k later t u = u
meaning_none n true v (local a) m k later t u =
    unknown_none a (known n a) (a.refuses n (m a.home) (m a.away)) k (later n (m a.home) (m a.away)) t u
meaning_none n true v (throughout x) m k later t u = t

-- "one refused with 3 or 7 names none"; 15: "such an edit names no area"
pub names_none : (n : Network) (e : Edit) (m : Timetable) → T (naming_none (refusal n e m)) → (k : Station) → ¬ T (names n e k)
unfolding refusal names
names_none n e m t k = meaning_none n (sound e) (edit_refusal e) (meaning e) m k (tables_later e) t

reached_listed : (n : Network) (μ : Meaning) (k : Station) → T (reaches n μ k) → T (listed n k)
unfolding reaches known
reached_listed n (throughout t) k r = r
reached_listed n (local a) k r =
    or_cases (same_station k a.home) (same_station k a.away) (and_r (known n a) (at_ends a k) r)
    (λ q. rw (same_station_equal k a.home q) (and_l (listed n a.home) (listed n a.away) ends))
    (λ q. rw (same_station_equal k a.away q) (and_r (listed n a.home) (listed n a.away) ends))
  where
    ends : T (listed n a.home && listed n a.away)
    ends = and_l (listed n a.home && listed n a.away) (a.fits n) (and_l (known n a) (at_ends a k) r)

-- a station that an edit names is listed
pub names_listed : (n : Network) (e : Edit) (k : Station) → T (names n e k) → T (listed n k)
unfolding names
names_listed n e k r = reached_listed n (meaning e) k (and_r (sound e) (reaches n (meaning e) k) r)
