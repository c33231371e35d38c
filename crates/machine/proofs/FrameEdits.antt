-- An edit on pages in a row is the central machine's edit on their tables. A buffer holds a timetable at some stations
-- if each one's page is that of its table; a page that is changed puts one table anew, and leaves every other page. An
-- edit at one or two stations is one such change or two, edit 11 one for each listed station, all different. Assumes
-- nothing.
use Prim.Native.Nat.{ℕ, ◌+◌, ◌*◌, ◌≤◌}
use mathlib.Core.Path.{◌≡◌, refl, sym, ◌∙◌, ap, ap₂, fun_ext}
use mathlib.Core.Bool.{Bool, true, false, ◌||◌}
use mathlib.Core.List.{List, [], ◌∷◌, map}
use native.Mathlib.Omega.{arith}
use lib.Dec.{T, eqb, ltb→lt, eqb_refl}
use lib.ListN.{length}
use borrow.Author.Tests.{eqb-true, eqb-false, eq-eqb, ne_eqb}
use Rattle.base.specs.Choice.{◌if◌else◌}
use Rattle.std.specs.Prelude.{if◌then◌else◌}
use Rattle.base.specs.Lists.{any, every, each_two, count}
use Rattle.base.proofs.Tests.{by_value, T_true, true_T, T_false, or_l, or_r, both, parts, every_head, every_tail, every_weaker, every_any}
use Rattle.base.proofs.Sorted.{smaller, two_head, two_tail}
use Rattle.railway.specs.Ranges.{same_station}
use Rattle.network.specs.Networks.{network_refusal, stations_of, listed}
use Rattle.network.proofs.NetworkLaws.{network_facts}
use Rattle.timetable.specs.Tables.{Table, has_visit, without}
use Rattle.timetable.specs.Machine.{Timetable, put, Action, Meaning, local, throughout, meaning, known, sound, refused_as, refusal, changed, removed_by, answer, after}
use Rattle.timetable.specs.Groups.{reaches, names}
use Rattle.timetable.specs.Good.{table_good}
use Rattle.timetable.proofs.Locality.{same_station_equal}
use Rattle.timetable.proofs.TableLaws.{table_facts, table_fits, without_good}
use Rattle.theory.proofs.Kept.{KeepsTables, Keeps, keeps, sound_ok}
use Rattle.page.specs.Pages.{encode_page}
use Rattle.page.specs.between.Changes.{table_in}
use Rattle.page.proofs.PageLaws.{Coded, page_length, good_coded}
use Rattle.actions.specs.between.Shapes.{shape_of}
use Rattle.actions.specs.Early.{fits_network}
use Rattle.edit_changes.specs.between.EditPages.{page_without, here_page, there_page}
use Rattle.machine.specs.Types.{Layout, Station, Train, Edit, Network}
use Rattle.page_edits.specs.between.PageEdits.{place_of, sweep, visits_on, swept}
use Rattle.sheet.specs.between.Frames.{frame, change_frame}
use Rattle.page_edits.specs.between.PageEdits.{pair_refusal, pair_answer, far_changed, pair_after, frames_answer, frames_after}
use Rattle.sheet.proofs.FrameLaws.{change_size, change_same, change_other}
use Rattle.machine.proofs.PageSteps.{PageSteps, page_steps, pages_refuse, table_here, without_page}

-- the buffer has the page of each station that passes the test at its place
pub record Holds (at : Station → ℕ) (p : Station → Bool) (m : Timetable) (b : List ℕ) : Type 0 where
  pub room : (k : Station) → T (p k) → 512 * at k + 512 ≤ length b
  pub page : (k : Station) → T (p k) → frame (at k) b ≡ encode_page (m k)

-- afterwards it has those of another timetable, and every other page is as it was
pub record Step (at : Station → ℕ) (p : Station → Bool) (m : Timetable) (b b' : List ℕ) : Type 0 where
  pub holds : Holds at p m b'
  pub size : length b' ≡ length b
  pub other : (c : ℕ) → ((k : Station) → T (p k) → ¬ (at k ≡ c)) → frame c b' ≡ frame c b

put_twice : (s : Station) (tab old : Table) (m : Timetable) → put s tab (put s old m) ≡ put s tab m
unfolding put
put_twice s tab old m = fun_ext λ k. by_value (same_station k s) (λ e. rw e) (λ e. rw e)

put_else : (s k : Station) (tab : Table) (m : Timetable) → same_station k s ≡ false → put s tab m k ≡ m k
unfolding put
put_else s k tab m e = rw e

put_here : (s : Station) (tab : Table) (m : Timetable) → put s tab m s ≡ tab
unfolding put
put_here s tab m = rw (eq-eqb s.0 s.0 refl)

module _ (at : Station → ℕ) (p : Station → Bool) where
  pub still : (m : Timetable) (b : List ℕ) → Holds at p m b → Step at p m b b
  still m b h = record { holds = h; size = refl; other = λ c away. refl }

  next : (m m' : Timetable) (b b' b'' : List ℕ) → Step at p m b b' → Step at p m' b' b'' → Step at p m' b b''
  next m m' b b' b'' x y = record { holds = y.holds; size = y.size ∙ x.size; other = λ c away. y.other c away ∙ x.other c away }

  module _ (apart : (k j : Station) → T (p k) → T (p j) → at k ≡ at j → k ≡ j) where
    differ : (s k : Station) → T (p s) → T (p k) → same_station k s ≡ false → ¬ (at s ≡ at k)
    differ s k t u e q = eqb-false k.0 s.0 e (ap (λ (j : Station). j.0) (sym (apart s k t u q)))

    -- one page changed
    pub one : (m : Timetable) (b : List ℕ) → Holds at p m b → (s : Station) → T (p s) → (f : List ℕ → List ℕ) (tab : Table)
        → f (encode_page (m s)) ≡ encode_page tab → Coded tab → Step at p (put s tab m) b (change_frame (at s) f b)
    one m b h s t f tab e c = record {
      holds = record { room = λ k u. rw grown (h.room k u); page = page };
      size = grown;
      other = λ i away. change_other (at s) f b (encode_page tab) (h.room s t) is long i (away s t);
    }
      where
        long : length (encode_page tab) ≡ 512
        long = page_length tab c

        is : f (frame (at s) b) ≡ encode_page tab
        is = ap f (h.page s t) ∙ e

        grown : length (change_frame (at s) f b) ≡ length b
        grown = change_size (at s) f b (encode_page tab) (h.room s t) is long

        page : (k : Station) → T (p k) → frame (at k) (change_frame (at s) f b) ≡ encode_page (put s tab m k)
        page k u = by_value (same_station k s)
            (λ q. let r = same_station_equal k s (true_T (same_station k s) q) in
            rw r (change_same (at s) f b (encode_page tab) (h.room s t) is long ∙ ap encode_page (sym (put_here s tab m))))
            (λ q. change_other (at s) f b (encode_page tab) (h.room s t) is long (at k) (differ s k t u q) ∙ h.page k u ∙ ap encode_page (sym (put_else s k tab m q)))

    -- the pages of two stations, or of one
    pub two : (m : Timetable) (b : List ℕ) → Holds at p m b → (home away : Station) → T (p home) → T (p away)
        → (f g : List ℕ → List ℕ) (tab far : Table) → f (encode_page (m home)) ≡ encode_page tab → g (encode_page (m away)) ≡ encode_page far
        → Coded tab → Coded far
        → Step at p (put home tab (put away far m)) b (change_frame (at home) f (if eqb (at home) (at away) then b else change_frame (at away) g b))
    two m b h home away t u f g tab far e d c k = by_value (eqb (at home) (at away))
        (λ q. let r = apart home away t u (eqb-true (at home) (at away) q) in
        rw (q, ← r, put_twice home tab far m) (one m b h home t f tab e c))
        (λ q. let first = one m b h away u g far d k in
        rw q (next (put away far m) (put home tab (put away far m)) b (change_frame (at away) g b) (change_frame (at home) f (change_frame (at away) g b)) first
        (one (put away far m) (change_frame (at away) g b) first.holds home t f tab (ap (λ (x : Table). f (encode_page x)) (put_else away home far m (unlike q)) ∙ e) c)))
      where
        unlike : eqb (at home) (at away) ≡ false → same_station home away ≡ false
        unlike q = ne_eqb home.0 away.0 (λ r. eqb-false (at home) (at away) q (ap at (λ i. record { 0 = r i })))

-- edit 11

-- the train taken out of the tables of some stations
unfoldable pub cleared : Train → List Station → Timetable → Timetable
cleared t ss m = λ k. if any (same_station k) ss then without t (m k) else m k

abbrev code : Station → ℕ
code s = s.0

-- a station below all others of a list is none of them
not_among : (s : Station) (ss : List Station) → T (every (smaller code s) ss) → any (same_station s) ss ≡ false
unfolding any
not_among s [] t = refl
not_among s (x ∷ xs) t =
    rw (ne_eqb s.0 x.0 (λ e. omega (arith, ltb→lt s.0 x.0 (every_head (smaller code s) x xs t))), not_among s xs (every_tail (smaller code s) x xs t))

cleared_next : (t : Train) (s : Station) (ss : List Station) (m : Timetable) → any (same_station s) ss ≡ false
    → cleared t ss (put s (without t (m s)) m) ≡ cleared t (s ∷ ss) m
unfolding cleared any put
cleared_next t s ss m away = fun_ext λ k. by_value (same_station k s)
    (λ e. let r = same_station_equal k s (true_T (same_station k s) e) in rw (r, away, eq-eqb s.0 s.0 refl))
    (λ e. rw e)

-- a station of the list is another than s, so its table is still the one before
among_other : (s k : Station) (ss : List Station) → any (same_station s) ss ≡ false → T (any (same_station k) ss) → same_station k s ≡ false
among_other s k ss away t =
    T_false (same_station k s) (λ q. let r = same_station_equal k s q in let z : T false = rw away at (rw r at t) in z)

count_among : (f g : Station → Bool) (ss : List Station) → ((k : Station) → T (any (same_station k) ss) → f k ≡ g k) → count f ss ≡ count g ss
unfolding count any
count_among f g [] h = refl
count_among f g (s ∷ ss) h =
    ap₂ (λ (b : Bool) (k : ℕ). (1 if b else 0) + k)
    (h s (or_l (same_station s s) (any (same_station s) ss) (eqb_refl s.0)))
    (count_among f g ss (λ k r. h k (or_r (same_station k s) (any (same_station k) ss) r)))

module _ (at : Station → ℕ) (p : Station → Bool) (apart : (k j : Station) → T (p k) → T (p j) → at k ≡ at j → k ≡ j) where
  module _ (n : Network) (t : Train) where
    left_coded : (s : Station) (tab : Table) → T (table_good n s tab) → Coded (without t tab)
    left_coded s tab g = good_coded n s (without t tab) (table_fits n s (without t tab) (without_good n s t tab (table_facts n s tab g)))

    abbrev GoodAt : List Station → Timetable → Type 0
    GoodAt ss m = (k : Station) → T (any (same_station k) ss) → T (table_good n k (m k))

    first_good : (s : Station) (ss : List Station) (m : Timetable) → GoodAt (s ∷ ss) m → T (table_good n s (m s))
    unfolding any
    first_good s ss m g = g s (or_l (same_station s s) (any (same_station s) ss) (eqb_refl s.0))

    rest_good : (s : Station) (ss : List Station) (m : Timetable) → any (same_station s) ss ≡ false → GoodAt (s ∷ ss) m → GoodAt ss (put s (without t (m s)) m)
    unfolding any
    rest_good s ss m away g k u =
        rw (put_else s k (without t (m s)) m (among_other s k ss away u)) (g k (or_r (same_station k s) (any (same_station k) ss) u))

    first_step : (s : Station) (ss : List Station) (m : Timetable) (b : List ℕ) → Holds at p m b → T (p s) → GoodAt (s ∷ ss) m
        → Step at p (put s (without t (m s)) m) b (change_frame (at s) (page_without t) b)
    first_step s ss m b h u g =
        let fine = first_good s ss m g in
        one at p apart m b h s u (page_without t) (without t (m s)) (without_page n s (m s) fine t) (left_coded s (m s) fine)

    pub sweep_step : (ss : List Station) (m : Timetable) (b : List ℕ) → Holds at p m b → T (every p ss) → T (each_two (smaller code) ss) → GoodAt ss m
        → Step at p (cleared t ss m) b (sweep t (map at ss) b)
    unfolding cleared any sweep
    sweep_step [] m b h ps o g = still at p m b h
    sweep_step (s ∷ ss) m b h ps o g =
        let away = not_among s ss (two_head (smaller code) s ss o) in
        let x = first_step s ss m b h (every_head p s ss ps) g in
        let m1 = put s (without t (m s)) m in
        let b1 = change_frame (at s) (page_without t) b in
        let y = sweep_step ss m1 b1 x.holds (every_tail p s ss ps) (two_tail (smaller code) s ss o) (rest_good s ss m away g) in
        let z : Step at p (cleared t ss m1) b (sweep t (map at ss) b1) = next at p m1 (cleared t ss m1) b b1 (sweep t (map at ss) b1) x y in
        rw (cleared_next t s ss m away) at z

    pub swept_count : (ss : List Station) (m : Timetable) (b : List ℕ) → Holds at p m b → T (every p ss) → T (each_two (smaller code) ss) → GoodAt ss m
        → swept t (map at ss) b ≡ count (λ s. has_visit t (m s)) ss
    unfolding swept visits_on count
    swept_count [] m b h ps o g = refl
    swept_count (s ∷ ss) m b h ps o g =
        let away = not_among s ss (two_head (smaller code) s ss o) in
        let x = first_step s ss m b h (every_head p s ss ps) g in
        let m1 = put s (without t (m s)) m in
        let b1 = change_frame (at s) (page_without t) b in
        let y = swept_count ss m1 b1 x.holds (every_tail p s ss ps) (two_tail (smaller code) s ss o) (rest_good s ss m away g) in
        let same : table_in (frame (at s) b) ≡ m s = ap table_in (h.page s (every_head p s ss ps)) ∙ table_here n s (m s) (first_good s ss m g) in
        let rest : count (λ k. has_visit t (m1 k)) ss ≡ count (λ k. has_visit t (m k)) ss =
        count_among (λ k. has_visit t (m1 k)) (λ k. has_visit t (m k)) ss
        (λ k u. ap (has_visit t) (put_else s k (without t (m s)) m (among_other s k ss away u))) in
        ap₂ (λ (x : ℕ) (y : ℕ). x + y)
        (ap (λ (tab : Table). 1 if has_visit t tab else 0) same) (y ∙ rest)

-- what an edit in range, known to its network, does to a timetable

module _ (n : Network) (e : Edit) (ok : T (sound e)) (fits : T (fits_network n (meaning e))) (m : Timetable) where
  in_range : sound e ≡ true
  in_range = T_true (sound e) ok

  module _ (a : Action) (mean : meaning e ≡ local a) where
    is_known : T (known n a)
    unfolding fits_network
    is_known = let x : T (fits_network n (local a)) = rw mean at fits in x

    named : (k : Station) → T (same_station k a.home || same_station k a.away) → T (names n e k)
    unfolding names reaches
    named k t = rw (in_range, mean) (both (known n a) (same_station k a.home || same_station k a.away) is_known t)

    pub home_named : T (names n e a.home)
    home_named = named a.home (or_l (same_station a.home a.home) (same_station a.home a.away) (eqb_refl a.home.0))

    pub away_named : T (names n e a.away)
    away_named = named a.away (or_r (same_station a.away a.home) (same_station a.away a.away) (eqb_refl a.away.0))

    tables_refuse : ℕ
    tables_refuse = a.refuses n (m a.home) (m a.away)

    refusal_local : refusal n e m ≡ tables_refuse
    unfolding refusal refused_as tables_refuse
    refusal_local = rw (in_range, mean, T_true (known n a) is_known)

    after_local : after n e m ≡ (if eqb tables_refuse 0 then put a.home (a.here (m a.home)) (put a.away (a.there (m a.away)) m) else m)
    unfolding after changed
    after_local = rw (refusal_local, mean)

    answer_local : answer n e m ≡ record { refusal = tables_refuse; removed = if eqb tables_refuse 0 then a.removes else 0 }
    unfolding answer removed_by
    answer_local = rw (refusal_local, mean)

  module _ (t : Train) (mean : meaning e ≡ throughout t) where
    refusal_all : refusal n e m ≡ 0
    unfolding refusal refused_as
    refusal_all = rw (in_range, mean)

    after_all : after n e m ≡ cleared t (stations_of n) m
    unfolding after changed cleared listed
    after_all = rw (refusal_all, mean)

    answer_all : answer n e m ≡ record { refusal = 0; removed = count (λ s. has_visit t (m s)) (stations_of n) }
    unfolding answer removed_by
    answer_all = rw (refusal_all, mean)

    names_all : (k : Station) → names n e k ≡ listed n k
    unfolding names reaches
    names_all k = rw (in_range, mean)

-- a good network's stations rise
pub stations_apart : (n : Network) → network_refusal n ≡ 0 → T (each_two (smaller code) (stations_of n))
stations_apart n good = (network_facts n good).stations_rise

pub every_listed : (n : Network) → T (every (listed n) (stations_of n))
unfolding listed
every_listed n = every_any same_station (λ k. eqb_refl k.0) (stations_of n)

module _ (n : Network) (good : network_refusal n ≡ 0) (layout : Layout) (e : Edit) (ok : T (sound e)) (fits : T (fits_network n (meaning e)))
    (apart : (k j : Station) → T (names n e k) → T (names n e j) → place_of layout n k ≡ place_of layout n j → k ≡ j)
    (m : Timetable) (tables : (k : Station) → T (names n e k) → T (table_good n k (m k)))
    (b : List ℕ) (h : Holds (place_of layout n) (names n e) m b) where
  abbrev at : Station → ℕ
  at = place_of layout n

  module _ (a : Action) (mean : meaning e ≡ local a) where
    home_good : T (table_good n a.home (m a.home))
    home_good = tables a.home (home_named n e ok fits m a mean)

    away_good : T (table_good n a.away (m a.away))
    away_good = tables a.away (away_named n e ok fits m a mean)

    same_refusal : pair_refusal n e (at a.home) (at a.away) b ≡ tables_refuse n e ok fits m a mean
    unfolding pair_refusal tables_refuse
    same_refusal =
        rw (mean, h.page a.home (home_named n e ok fits m a mean), h.page a.away (away_named n e ok fits m a mean))
        (pages_refuse n a (m a.home) (m a.away) home_good away_good)

    pair_answers : frames_answer layout n e b ≡ answer n e m
    unfolding frames_answer pair_answer shape_of
    pair_answers = rw (mean, same_refusal) (sym (answer_local n e ok fits m a mean))

    keeps_both : KeepsTables n a
    unfolding known
    keeps_both =
        let k : Keeps n (local a) = rw mean at (keeps n e (sound_ok e ok)) in
        let q = is_known n e ok fits m a mean in
        k (search parts) (search parts) (search parts)

    accepted : tables_refuse n e ok fits m a mean ≡ 0
        → Step at (names n e) (put a.home (a.here (m a.home)) (put a.away (a.there (m a.away)) m)) b
        (change_frame (at a.home) (here_page e) (far_changed e (at a.home) (at a.away) b))
    unfolding far_changed tables_refuse
    accepted r =
        let s : PageSteps n e (local a) = rw mean at (page_steps n e) in
        let pages = s (m a.home) (m a.away) home_good away_good r in
        let here = keeps_both.here (m a.home) (m a.away) r (table_facts n a.home (m a.home) home_good) in
        let there = keeps_both.there (m a.away) (table_facts n a.away (m a.away) away_good) in
        two at (names n e) apart m b h a.home a.away (home_named n e ok fits m a mean) (away_named n e ok fits m a mean)
        (here_page e) (there_page e) (a.here (m a.home)) (a.there (m a.away)) pages.0 pages.1
        (good_coded n a.home (a.here (m a.home)) (table_fits n a.home (a.here (m a.home)) here))
        (good_coded n a.away (a.there (m a.away)) (table_fits n a.away (a.there (m a.away)) there))

    pair_step : Step at (names n e) (after n e m) b (frames_after layout n e b)
    unfolding frames_after pair_after shape_of
    pair_step =
        rw (after_local n e ok fits m a mean, mean, same_refusal)
        (by_value (eqb (tables_refuse n e ok fits m a mean) 0)
        (λ q. rw q (accepted (eqb-true (tables_refuse n e ok fits m a mean) 0 q)))
        (λ q. rw q (still at (names n e) m b h)))

  module _ (t : Train) (mean : meaning e ≡ throughout t) where
    all_named : (k : Station) → T (listed n k) → T (names n e k)
    all_named k l = rw (names_all n e ok fits m t mean k) l

    named_stations : T (every (names n e) (stations_of n))
    named_stations = every_weaker (listed n) (names n e) all_named (stations_of n) (every_listed n)

    good_there : (k : Station) → T (any (same_station k) (stations_of n)) → T (table_good n k (m k))
    unfolding listed
    good_there k u = tables k (all_named k u)

    sweep_answers : frames_answer layout n e b ≡ answer n e m
    unfolding frames_answer shape_of
    sweep_answers =
        rw (mean, swept_count at (names n e) apart n t (stations_of n) m b h named_stations (stations_apart n good) good_there)
        (sym (answer_all n e ok fits m t mean))

    all_step : Step at (names n e) (after n e m) b (frames_after layout n e b)
    unfolding frames_after shape_of
    all_step =
        rw (mean, after_all n e ok fits m t mean)
        (sweep_step at (names n e) apart n t (stations_of n) m b h named_stations (stations_apart n good) good_there)

  -- the edit on the pages answers as the central machine does on their tables
  pub frames_answers : frames_answer layout n e b ≡ answer n e m
  frames_answers = go (meaning e) refl
    where
      go : (μ : Meaning) → meaning e ≡ μ → frames_answer layout n e b ≡ answer n e m
      go (local a) q = pair_answers a q
      go (throughout t) q = sweep_answers t q

  -- and leaves its tables on them, and every other page as it was
  pub frames_step : Step at (names n e) (after n e m) b (frames_after layout n e b)
  frames_step = go (meaning e) refl
    where
      go : (μ : Meaning) → meaning e ≡ μ → Step at (names n e) (after n e m) b (frames_after layout n e b)
      go (local a) q = pair_step a q
      go (throughout t) q = all_step t q
