-- The marks of an edit say what it has redone, whatever the station's number: of an edit that a good network knows, the
-- two stations are listed, and lines join listed stations alone, so that no number outside 1..16 is named or joined.
-- So the list that is written is the update. Assumes nothing.
use Prim.Native.Nat.{ℕ, zero, suc, ◌+◌, ◌-◌, ◌<◌, ◌≤◌}
use mathlib.Core.Path.{◌≡◌, refl, sym, ◌∙◌, ap, ap₂, subst, fun_ext}
use mathlib.Core.Bool.{Bool, true, false, not, ◌&&◌, ◌||◌, and-true, and-false}
use mathlib.Core.List.{List, [], ◌∷◌, ◌++◌, map}
use native.Mathlib.Numerals.{add-one}
use native.Mathlib.Omega.{arith}
use lib.Dec.{T, eqb, eqb→eq, eqb_refl}
use lib.ListN.{length, take, get_or, set, length-map}
use lib.Seq.{take_all, take-suc, take-suc-set}
use Rattle.base.specs.Choice.{◌if◌else◌}
use Rattle.std.specs.Prelude.{if◌then◌else◌}
use Rattle.base.specs.Lists.{any, every, keep}
use Rattle.base.proofs.Tests.{T_true, T_false, true_T, and_l, and_r, both, or_l, or_r, or_cases, every_head, every_tail, any_one, any_weaker}
use Rattle.railway.specs.Ranges.{station_ok, same_station}
use Rattle.network.specs.Networks.{network_refusal, line_rows, stations_of, listed, ends_listed}
use Rattle.network.proofs.NetworkLaws.{network_facts}
use Rattle.network.proofs.AreaLaws.{listed_ok}
use Rattle.timetable.specs.Machine.{Meaning, local, throughout, meaning, known, sound}
use Rattle.timetable.specs.Groups.{reaches, names}
use Rattle.timetable.specs.Findings.{numbers_of, is_far, findings_in}
use Rattle.timetable.specs.Recheck.{row_joins, joined, beside, redoes_all, redone_at, stale, together, updated, updated_numbers}
use Rattle.actions.specs.Early.{fits_network}
use Rattle.actions.specs.between.Shapes.{shape_of}
use Rattle.scope.specs.Redone.{level, is_redone}
use Rattle.sheet.specs.Sheets.{sixteen}
use Rattle.sheet.proofs.PassLaws.{same_test}
use Rattle.sheet.proofs.SheetLaws.{mk, station_at, station_here, station_low, station_high, sixteen_long}
use Rattle.recheck.specs.Types.{Station, Network, Edit, Finding}
use Rattle.recheck.specs.between.Marks.{level_at, levels_of, marks_of}
use Rattle.recheck.specs.between.Kept.{kept, list_with}
use Rattle.recheck.proofs.FourLaws.{fours_numbers}

-- an element that passes one test, where each passes another
among : {A : Type 0} (f p : A → Bool) (xs : List A) → T (any f xs) → T (every p xs) → (x : A) × T (f x) × T (p x)
unfolding any
among f p [] t u = absurd t
among f p (x ∷ xs) t u =
    or_cases (f x) (any f xs) t (λ v. (x, v, every_head p x xs u)) (λ v. among f p xs v (every_tail p x xs u))

-- an element of a list that is made of another
map_at : {A B : Type 0} (f : A → B) (xs : List A) (i : ℕ) (d : A) (e : B) → i < length xs → get_or (map f xs) i e ≡ f (get_or xs i d)
map_at f [] i d e h = absurd (omega arith)
map_at f (x ∷ xs) zero d e h = refl
map_at f (x ∷ xs) (suc i) d e h = map_at f xs i d e (omega arith)

-- levels written one station after the other: one more, and all

module _ (f : Station → ℕ) (levels : List ℕ) (i : ℕ) where
  pub levels_next : (v : ℕ) → i < 16 → length levels ≡ 16 → v ≡ f (mk (i + 1)) → take i levels ≡ take i (map f sixteen)
      → take (i + 1) (set levels i v) ≡ take (i + 1) (map f sixteen)
  levels_next v h e q p =
      let long : i < length (map f sixteen) = simp length-map (sixteen_long i h) in
      let here : get_or (map f sixteen) i 0 ≡ f (mk (i + 1)) = map_at f sixteen i (mk 0) 0 (sixteen_long i h) ∙ ap f (station_at i h) in
      rw (add-one i) (take-suc-set levels i v (omega arith) ∙ ap₂ (λ (l : List ℕ) (x : ℕ). l ++ (x ∷ [])) p (q ∙ sym here) ∙ sym (take-suc (map f sixteen) i 0 long))

  pub levels_whole : 16 ≤ i → length levels ≡ 16 → take i levels ≡ take i (map f sixteen) → levels ≡ map f sixteen
  unfolding sixteen
  levels_whole h e p = sym (take_all i levels (omega arith)) ∙ p ∙ take_all i (map f sixteen) h

-- stations of one number are one
same : (a b : Station) → T (same_station a b) → a ≡ b
same a b t = ap mk (eqb→eq a.0 b.0 t)

-- what is redone at a level
abbrev by_level : ℕ → ℕ → Bool
by_level l rule = eqb l 2 || (eqb l 1 && is_far rule)

-- what is redone at a station by an edit at two

module _ (n : Network) (home away s : Station) where
  abbrev touched : Bool
  touched = same_station s home || same_station s away

  abbrev joins : Bool
  joins = joined n home s || joined n away s

  abbrev by_two : ℕ → Bool
  by_two rule = touched || (is_far rule && joins)

  level_two : (rule : ℕ) → by_level (level_at n home away s) rule ≡ by_two rule
  unfolding level_at
  level_two rule = go touched joins (is_far rule)
    where
      go : (t j f : Bool)
          → (eqb (2 if t else 1 if j else 0) 2 || (eqb (2 if t else 1 if j else 0) 1 && f)) ≡ (t || (f && j))
      go true j f = refl
      go false true f = sym (and-true f)
      go false false f = sym (and-false f)

module _ (n : Network) (good : network_refusal n ≡ 0) where
  -- lines join listed stations
  joined_listed : (a s : Station) → T (joined n a s) → T (listed n s)
  unfolding joined row_joins ends_listed
  joined_listed a s t =
      let x = among (λ r. row_joins r a s) (ends_listed n) (line_rows n) t (network_facts n good).ends_listed in
      let r = x.0 in
      let first = listed n r.first in
      let second = listed n r.second in
      let apart = not (same_station r.first r.second) in
      or_cases (same_station r.first a && same_station r.second s) (same_station r.second a && same_station r.first s) x.1
      (λ e. rw (same r.second s (and_r (same_station r.first a) (same_station r.second s) e)) at (and_l second apart (and_r first (second && apart) x.2)))
      (λ e. rw (same r.first s (and_r (same_station r.second a) (same_station r.first s) e)) at (and_l first (second && apart) x.2))

  module _ (home away : Station) (h : T (listed n home)) (k : T (listed n away)) (s : Station) where
    -- what is redone is redone at a listed station
    redone_listed : (rule : ℕ) → T (by_two n home away s rule) → T (listed n s)
    redone_listed rule t =
        or_cases (touched n home away s) (is_far rule && joins n home away s) t
        (λ u. or_cases (same_station s home) (same_station s away) u (λ e. rw (same s home e) h) (λ e. rw (same s away e) k))
        (λ u. or_cases (joined n home s) (joined n away s) (and_r (is_far rule) (joins n home away s) u) (joined_listed home s) (joined_listed away s))

    -- the mark of a station's number, and of a number that no station has
    marked_two : (rule : ℕ)
        → by_level (if station_ok s then get_or (levels_of n home away) (s.0 - 1) 0 else 0) rule ≡ by_two n home away s rule
    unfolding levels_of
    marked_two rule = go (station_ok s) refl
      where
        go : (b : Bool) → station_ok s ≡ b
            → by_level (if b then get_or (map (level_at n home away) sixteen) (s.0 - 1) 0 else 0) rule ≡ by_two n home away s rule
        go true e =
            let t = true_T (station_ok s) e in
            let i : s.0 - 1 < 16 = omega (arith, station_low s t, station_high s t) in
            rw (map_at (level_at n home away) sixteen (s.0 - 1) (mk 0) 0 (sixteen_long (s.0 - 1) i), station_here s t) (level_two n home away s rule)
        go false e =
            sym (T_false (by_two n home away s rule) (λ t. true_T false (sym e ∙ T_true (station_ok s) (listed_ok n good s (redone_listed rule t)))))

    -- the stations beside an edit at two
    beside_two : any (λ j. touched n home away j && joined n j s) (stations_of n) ≡ joins n home away s
    unfolding listed
    beside_two =
        same_test (any at_two (stations_of n)) (joins n home away s)
        (λ t. let x = any_one at_two (stations_of n) t in found x.0 x.1)
        (λ t. or_cases (joined n home s) (joined n away s) t
        (λ u. any_weaker (same_station home) at_two (λ j e. here home j e (or_l (same_station home home) (same_station home away) (eqb_refl home.0)) u) (stations_of n) h)
        (λ u. any_weaker (same_station away) at_two (λ j e. here away j e (or_r (same_station away home) (same_station away away) (eqb_refl away.0)) u) (stations_of n) k))
      where
        at_two : Station → Bool
        at_two j = touched n home away j && joined n j s

        found : (j : Station) → T (at_two j) → T (joins n home away s)
        found j t =
            let u = and_r (touched n home away j) (joined n j s) t in
            or_cases (same_station j home) (same_station j away) (and_l (touched n home away j) (joined n j s) t)
            (λ e. or_l (joined n home s) (joined n away s) (rw (same j home e) at u))
            (λ e. or_r (joined n home s) (joined n away s) (rw (same j away e) at u))

        here : (i j : Station) → T (same_station i j) → T (touched n home away i) → T (joined n i s) → T (at_two j)
        here i j e t u = subst (λ (x : Station). T (at_two x)) (same i j e) (both (touched n home away i) (joined n i s) t u)

  -- of any meaning that the network knows
  marked : (μ : Meaning) → T (fits_network n μ) → (k rule : ℕ)
      → is_redone (marks_of n (shape_of μ)) k rule
      ≡ (redoes_all μ || (reaches n μ (mk k) || (is_far rule && any (λ j. reaches n μ j && joined n j (mk k)) (stations_of n))))
  unfolding is_redone level marks_of levels_of shape_of reaches fits_network known
  marked (throughout t) f k rule = refl
  marked (local a) f k rule =
      let ends : T (listed n a.home && listed n a.away) = and_l (listed n a.home && listed n a.away) (a.fits n) f in
      let home = and_l (listed n a.home) (listed n a.away) ends in
      let away = and_r (listed n a.home) (listed n a.away) ends in
      marked_two a.home a.away home away (mk k) rule
      ∙ sym (rw (T_true (known n a) f, beside_two a.home a.away home away (mk k)))

  module _ (e : Edit) (ok : T (sound e)) (fits : T (fits_network n (meaning e))) where
    pub marks_redo : (k rule : ℕ) → is_redone (marks_of n (shape_of (meaning e))) k rule ≡ redone_at n e (mk k) rule
    unfolding redone_at names beside
    marks_redo k rule = marked (meaning e) fits k rule ∙ sym (rw (T_true (sound e) ok))

    pub kept_redone : (fs : List Finding) → kept (marks_of n (shape_of (meaning e))) fs ≡ keep (λ f. not (stale n e f)) fs
    unfolding kept stale
    kept_redone fs = ap (λ p. keep p fs) (fun_ext (λ f. ap not (marks_redo f.station.0 f.rule)))

    -- the list that is written is the update
    pub list_updated : (list : List ℕ) (new : List Finding)
        → list_with (marks_of n (shape_of (meaning e))) list (numbers_of (keep (stale n e) new)) ≡ updated_numbers n e list new
    unfolding list_with updated_numbers updated
    list_updated list new =
        ap₂ (λ (fs gs : List Finding). numbers_of (together fs gs)) (kept_redone (findings_in list)) (fours_numbers (keep (stale n e) new))
