-- Entries put into the sheet of a timetable are entries put into the timetable: the bytes are those of the timetable
-- reached, and the first refused entry is the same. Assumes nothing.
use Prim.Native.Nat.{ℕ, suc, ◌+◌, ◌*◌, ◌-◌, ◌<◌, ◌≤◌}
use mathlib.Core.Path.{◌≡◌, refl, sym, ◌∙◌, ap}
use mathlib.Core.Bool.{Bool, true, false, false≢true, not, ◌&&◌, ◌||◌}
use mathlib.Core.List.{List, [], ◌∷◌, ◌++◌, flat_map}
use native.Mathlib.Omega.{arith}
use lib.Dec.{T, ltb, leb, eqb, leb→le}
use lib.ListN.{length, replicate-append-replicate}
use borrow.Author.Tests.{lt-ltb, eqb-true, eqb-false, ne_eqb, leb-false}
use Rattle.base.specs.Choice.{◌if◌else◌}
use Rattle.std.specs.Prelude.{if◌then◌else◌}
use Rattle.base.specs.Lists.{any, every, each_two, same}
use Rattle.base.proofs.Tests.{by_value, T_false, true_T, parts, both, every_head, every_tail}
use Rattle.base.proofs.Sorted.{two_head, two_tail, same_equal, below_itself}
use Rattle.railway.specs.Ranges.{station_ok, same_station}
use Rattle.railway.specs.Relations.{key, precedes, same_relation}
use Rattle.network.specs.Networks.{listed, track_known}
use Rattle.timetable.specs.Formats.{Outcome, accepted, refused, behind, Placed}
use Rattle.timetable.specs.Good.{in_good, out_good, links_good}
use Rattle.timetable.specs.Tables.{Table, empty, add_visit, has_relation, insert, add_relation, full_visits, full_relations}
use Rattle.timetable.specs.Machine.{Timetable, put, nothing_placed}
use Rattle.timetable.specs.TimetableFile.{StationVisit, Entries, visit_refusal, relation_refusal, enter_visit, enter_relation, entered, timetable_of}
use Rattle.timetable.proofs.TableLaws.{precedes_across, enter_every, add_visit_length, insert_length, insert_order}
use Rattle.records.specs.Bytes.{zeros}
use Rattle.records.specs.Records.{named_in, named_out, named}
use Rattle.page.specs.Pages.{encode_page}
use Rattle.page.specs.between.Changes.{table_in, page_add_visit}
use Rattle.sheet.specs.between.Passes.{in_passes, out_passes}
use Rattle.sheet.specs.Sheets.{sixteen, page_at, encode_sheet, decode_sheet}
use Rattle.page.proofs.PageLaws.{linked, Coded, page_length, page_back, blank_page, empty_coded}
use Rattle.sheet.proofs.PassLaws.{links_pass}
use Rattle.page.proofs.SlotLaws.{table_of_page}
use Rattle.page.proofs.ChangeLaws.{Fitting, add_visit_page, add_relation_page}
use Rattle.sheet.proofs.SheetLaws.{station_low, station_high, sheets_equal, encoded_size, encoded_page, sheet_back}
use Rattle.sheet.specs.between.Frames.{frame, change_frame}
use Rattle.sheet.proofs.FrameLaws.{change_size, change_same, change_other, sheet_frame}
use Rattle.timetable_entries.specs.Types.{Station, Train, InLink, OutLink, Visit, Relation, StationRelation, Network}
use Rattle.timetable.specs.declared.Fault.{Fault}
use Rattle.timetable_entries.specs.between.Entering.{page_with_relation, Progress, no_fault, step_with, visit_step, relation_step, through, all_through}

abbrev pub progress : List ℕ → Fault → Progress
progress sheet fault = record { sheet = sheet; fault = fault }

abbrev pub fault_at : ℕ → ℕ → Fault
fault_at k place = record { number = k; place = place }

-- tables within the layout's limits, their relations in order
pub record Kept (tab : Table) : Type 0 where
  pub coded : Coded tab
  pub order : T (each_two precedes tab.relations)

abbrev pub Fits : Timetable → Type 0
Fits m = (k : Station) → T (station_ok k) → Kept (m k)

all_coded : (m : Timetable) → Fits m → (k : Station) → T (station_ok k) → Coded (m k)
all_coded m f k t = (f k t).coded

fitting : (tab : Table) → Kept tab → Fitting tab
fitting tab w = record { visits_fit = w.coded.visits; relations_fit = w.coded.relations }

-- one table changed

module _ (m : Timetable) (fits : Fits m) (s : Station) (ok : T (station_ok s)) (tab : Table) (kept : Kept tab) where
  pub put_fits : Fits (put s tab m)
  unfolding put
  put_fits k t = go (same_station k s)
    where
      go : (b : Bool) → Kept (if b then tab else m k)
      go true = kept
      go false = fits k t

  module _ (f : List ℕ → List ℕ) (is : f (encode_page (m s)) ≡ encode_page tab) where
    room : 512 * (s.0 - 1) + 512 ≤ length (encode_sheet m)
    room = omega (arith, station_low s ok, station_high s ok, encoded_size m (all_coded m fits))

    here : f (frame (s.0 - 1) (encode_sheet m)) ≡ encode_page tab
    here = ap f (sym (sheet_frame (encode_sheet m) s) ∙ encoded_page m (all_coded m fits) s ok) ∙ is

    wide : length (encode_page tab) ≡ 512
    wide = page_length tab kept.coded

    pub put_sheet : change_frame (s.0 - 1) f (encode_sheet m) ≡ encode_sheet (put s tab m)
    unfolding put
    put_sheet =
        sheets_equal (change_frame (s.0 - 1) f (encode_sheet m)) (encode_sheet (put s tab m))
        (change_size (s.0 - 1) f (encode_sheet m) (encode_page tab) room here wide ∙ encoded_size m (all_coded m fits))
        (encoded_size (put s tab m) (all_coded (put s tab m) put_fits)) page
      where
        page : (k : Station) → T (station_ok k) → page_at (change_frame (s.0 - 1) f (encode_sheet m)) k ≡ page_at (encode_sheet (put s tab m)) k
        page k t =
            sheet_frame (change_frame (s.0 - 1) f (encode_sheet m)) k
            ∙ by_value (same_station k s)
            (λ e. let q : k.0 - 1 ≡ s.0 - 1 = ap (λ (x : ℕ). x - 1) (eqb-true k.0 s.0 e) in
            rw (q, e) (change_same (s.0 - 1) f (encode_sheet m) (encode_page tab) room here wide))
            (λ e. let d : ¬ (s.0 - 1 ≡ k.0 - 1) = λ q. eqb-false k.0 s.0 e (omega (arith, station_low k t, station_low s ok)) in
            rw e (change_other (s.0 - 1) f (encode_sheet m) (encode_page tab) room here wide (k.0 - 1) d
            ∙ sym (sheet_frame (encode_sheet m) k) ∙ encoded_page m (all_coded m fits) k t))
            ∙ sym (encoded_page (put s tab m) (all_coded (put s tab m) put_fits) k t)

-- a visit

links_named : (n : Network) (s : Station) (v : Visit) → T (links_good n s v) → T (named v)
unfolding named named_in named_out in_passes out_passes in_good out_good
links_named n s v t =
    let u : T (in_passes n s v.inward && out_passes n s v.outward) = rw (links_pass n s v) at t in
    both (named_in v.inward) (named_out v.outward) (into v.inward (search parts)) (onto v.outward (search parts))
  where
    into : (l : InLink) → T (in_passes n s l) → T (named_in l)
    into InLink.Nothing u = tt
    into (InLink.From i) u = true_T (ltb 0 i.station.0) (lt-ltb 0 i.station.0 (leb→le 1 i.station.0 (search parts)))

    onto : (l : OutLink) → T (out_passes n s l) → T (named_out l)
    onto OutLink.Nothing u = tt
    onto (OutLink.To o) u = true_T (ltb 0 o.station.0) (lt-ltb 0 o.station.0 (leb→le 1 o.station.0 (search parts)))

visit_kept : (t : Train) (v : Visit) (tab : Table) → Kept tab → length tab.visits < 24 → T (named v) → Kept (add_visit t v tab)
unfolding add_visit
visit_kept t v tab w room l = record {
  coded = record {
    visits = omega (arith, add_visit_length t v tab);
    relations = w.coded.relations;
    links = enter_every linked (record { train = t; visit = v }) tab.visits l w.coded.links;
  };
  order = w.order;
}

-- a relation

-- what comes before another is not it
before_other : (q x : Relation) → T (precedes q x) → same_relation q x ≡ false
unfolding precedes same_relation
before_other q x t = T_false (same (key q) (key x)) (λ u. below_itself (key x) (rw (same_equal (key q) (key x) u) at t))

before_all : (q x : Relation) (xs : List Relation) → T (precedes q x) → T (every (precedes x) xs) → any (same_relation q) xs ≡ false
unfolding any
before_all q x [] t u = refl
before_all q x (y ∷ ys) t u =
    rw (before_other q y (precedes_across q x y t (every_head (precedes x) y ys u))) (before_all q x ys t (every_tail (precedes x) y ys u))

-- one that is there already stays one
insert_there : (q : Relation) (rs : List Relation) → T (each_two precedes rs) → any (same_relation q) rs ≡ true → insert q rs ≡ rs
unfolding insert any
insert_there q [] o e = absurd (false≢true e)
insert_there q (x ∷ xs) o e = go (precedes q x) refl (same_relation q x) refl e (insert_there q xs (two_tail precedes x xs o))
  where
    go : (b : Bool) → precedes q x ≡ b → (d : Bool) → same_relation q x ≡ d → (d || any (same_relation q) xs) ≡ true
        → (any (same_relation q) xs ≡ true → insert q xs ≡ xs) → (if b then q ∷ x ∷ xs else (if d then x ∷ xs else (x ∷ insert q xs))) ≡ x ∷ xs
    go true p d s u ih =
        let t = true_T (precedes q x) p in
        let a : d ≡ false = sym s ∙ before_other q x t in
        absurd (false≢true (sym (rw (a, before_all q x xs t (two_head precedes x xs o))) ∙ u))
    go false p true s u ih = refl
    go false p false s u ih = ap (λ (l : List Relation). x ∷ l) (ih u)

relation_kept : (q : Relation) (tab : Table) → Kept tab → length tab.relations < 6 → Kept (add_relation q tab)
unfolding add_relation
relation_kept q tab w room = record {
  coded = record {
    visits = w.coded.visits;
    relations = omega (arith, insert_length q tab.relations);
    links = w.coded.links;
  };
  order = insert_order q tab.relations w.order;
}

relation_page : (q : Relation) (tab : Table) → Kept tab → length tab.relations < 6 → page_with_relation q (encode_page tab) ≡ encode_page (add_relation q tab)
unfolding page_with_relation add_relation has_relation
relation_page q tab w room =
    rw back (by_value (has_relation q tab)
    (λ e. rw e (ap (λ (rs : List Relation). encode_page (record { visits = tab.visits; relations = rs })) (sym (there e))))
    (λ e. rw e (add_relation_page q tab (fitting tab w) room e)))
  where
    back : table_in (encode_page tab) ≡ tab
    back = table_of_page (encode_page tab) (page_length tab w.coded) ∙ page_back tab w.coded

    there : has_relation q tab ≡ true → insert q tab.relations ≡ tab.relations
    there e = insert_there q tab.relations w.order e

-- entries of any kind, first to last

unfoldable pub Held : Outcome Timetable → Progress → Type 0
Held (accepted m next) g = (g ≡ progress (encode_sheet m) no_fault) × Fits m
Held (refused k p) g = (g.fault ≡ fault_at k p) × (¬ (k ≡ 0))

module _ {A : Type 0} (ok : A → Bool) (refusal : A → Timetable → ℕ) (enter : A → Timetable → Timetable) (change : A → List ℕ → List ℕ)
    (step : Placed A → Progress → Progress)
    (is : (p : Placed A) (g : Progress) → step p g ≡ step_with (refusal p.entry (decode_sheet g.sheet)) (change p.entry g.sheet) p.place g)
    (told : (a : A) (m : Timetable) → T (ok a) → Fits m → refusal a (decode_sheet (encode_sheet m)) ≡ refusal a m)
    (made : (a : A) (m : Timetable) → T (ok a) → Fits m → refusal a m ≡ 0 → (change a (encode_sheet m) ≡ encode_sheet (enter a m)) × Fits (enter a m)) where
  stuck : (ps : List (Placed A)) (g : Progress) → ¬ (g.fault.number ≡ 0) → through step ps g ≡ g
  unfolding through step_with
  stuck [] g d = refl
  stuck (p ∷ ps) g d =
      let e : step p g ≡ g = is p g ∙ rw (ne_eqb g.fault.number 0 d) in
      ap (through step ps) e ∙ stuck ps g d

  pub held : (ps : List (Placed A)) → T (every (λ p. ok p.entry) ps) → (m : Timetable) (next : ℕ) → Fits m
      → Held (entered refusal enter ps m next) (through step ps (progress (encode_sheet m) no_fault))
  unfolding entered through Held step_with
  held [] t m next f = (refl, f)
  held (p ∷ ps) t m next f =
      go (eqb (refusal p.entry m) 0) refl (held ps (every_tail (λ p. ok p.entry) p ps t))
    where
      here : T (ok p.entry)
      here = every_head (λ p. ok p.entry) p ps t

      stepped : step p (progress (encode_sheet m) no_fault) ≡ step_with (refusal p.entry m) (change p.entry (encode_sheet m)) p.place (progress (encode_sheet m) no_fault)
      stepped = is p (progress (encode_sheet m) no_fault) ∙ ap (λ (k : ℕ). step_with k (change p.entry (encode_sheet m)) p.place (progress (encode_sheet m) no_fault)) (told p.entry m here f)

      go : (b : Bool) → eqb (refusal p.entry m) 0 ≡ b
          → ((m : Timetable) (next : ℕ) → Fits m → Held (entered refusal enter ps m next) (through step ps (progress (encode_sheet m) no_fault)))
          → Held (if b then entered refusal enter ps (enter p.entry m) next else refused (refusal p.entry m) p.place) (through step ps (step p (progress (encode_sheet m) no_fault)))
      go true e ih =
          let (q, w) = made p.entry m here f (eqb-true (refusal p.entry m) 0 e) in
          let s : step p (progress (encode_sheet m) no_fault) ≡ progress (encode_sheet (enter p.entry m)) no_fault = stepped ∙ rw (e, q) in
          rw s (ih (enter p.entry m) next w)
      go false e ih =
          let d = eqb-false (refusal p.entry m) 0 e in
          let s : step p (progress (encode_sheet m) no_fault) ≡ progress (encode_sheet m) (fault_at (refusal p.entry m) p.place) = stepped ∙ rw e in
          (ap (λ (x : Progress). x.fault) (ap (through step ps) s ∙ stuck ps (progress (encode_sheet m) (fault_at (refusal p.entry m) p.place)) d), d)

-- visits

visit_done : (n : Network) (e : StationVisit) (m : Timetable) → T (station_ok e.station) → Fits m → visit_refusal n e m ≡ 0
    → (change_frame (e.station.0 - 1) (page_add_visit e.train e.visit) (encode_sheet m) ≡ encode_sheet (enter_visit e m)) × Fits (enter_visit e m)
unfolding enter_visit visit_refusal full_visits
visit_done n e m ok f z = go (track_known n e.station e.visit.track && links_good n e.station e.visit) refl (leb 24 (length (m e.station).visits)) refl z
  where
    go : (a : Bool) → (track_known n e.station e.visit.track && links_good n e.station e.visit) ≡ a → (b : Bool) → leb 24 (length (m e.station).visits) ≡ b
        → (7 if not a else 12 if b else 0) ≡ 0
        → (change_frame (e.station.0 - 1) (page_add_visit e.train e.visit) (encode_sheet m) ≡ encode_sheet (enter_visit e m)) × Fits (enter_visit e m)
    go false p b q u = absurd (omega arith)
    go true p true q u = absurd (omega arith)
    go true p false q u =
        let t : T (track_known n e.station e.visit.track && links_good n e.station e.visit) = true_T _ p in
        let l = links_named n e.station e.visit (search parts) in
        let room : length (m e.station).visits < 24 = omega (arith, leb-false 24 (length (m e.station).visits) q) in
        let w = f e.station ok in
        let kept = visit_kept e.train e.visit (m e.station) w room l in (
          put_sheet m f e.station ok (add_visit e.train e.visit (m e.station)) kept (page_add_visit e.train e.visit) (add_visit_page e.train (m e.station) (fitting (m e.station) w) e.visit room),
          put_fits m f e.station ok (add_visit e.train e.visit (m e.station)) kept,
        )

pub visits_held : (n : Network) (ps : List (Placed StationVisit)) → T (every (λ p. station_ok p.entry.station) ps) → (m : Timetable) (next : ℕ) → Fits m
    → Held (entered (visit_refusal n) enter_visit ps m next) (through (visit_step n) ps (progress (encode_sheet m) no_fault))
unfolding visit_step visit_refusal
visits_held n ps t m next f =
    held (λ e. station_ok e.station) (visit_refusal n) enter_visit (λ e. change_frame (e.station.0 - 1) (page_add_visit e.train e.visit)) (visit_step n)
    same told (visit_done n) ps t m next f
  where
    same : (p : Placed StationVisit) (g : Progress)
        → visit_step n p g ≡ step_with (visit_refusal n p.entry (decode_sheet g.sheet)) (change_frame (p.entry.station.0 - 1) (page_add_visit p.entry.train p.entry.visit) g.sheet) p.place g
    same p g = refl

    told : (e : StationVisit) (m : Timetable) → T (station_ok e.station) → Fits m → visit_refusal n e (decode_sheet (encode_sheet m)) ≡ visit_refusal n e m
    told e m ok f = rw (sheet_back m (all_coded m f) e.station ok)

-- relations

relation_done : (n : Network) (x : StationRelation) (m : Timetable) → T (station_ok x.station) → Fits m → relation_refusal n x m ≡ 0
    → (change_frame (x.station.0 - 1) (page_with_relation x.relation) (encode_sheet m) ≡ encode_sheet (enter_relation x m)) × Fits (enter_relation x m)
unfolding enter_relation relation_refusal full_relations
relation_done n x m ok f z = go (listed n x.station) (leb 6 (length (m x.station).relations)) refl z
  where
    go : (a b : Bool) → leb 6 (length (m x.station).relations) ≡ b → (7 if not a else 12 if b else 0) ≡ 0
        → (change_frame (x.station.0 - 1) (page_with_relation x.relation) (encode_sheet m) ≡ encode_sheet (enter_relation x m)) × Fits (enter_relation x m)
    go false b q u = absurd (omega arith)
    go true true q u = absurd (omega arith)
    go true false q u =
        let room : length (m x.station).relations < 6 = omega (arith, leb-false 6 (length (m x.station).relations) q) in
        let w = f x.station ok in
        let kept = relation_kept x.relation (m x.station) w room in (
          put_sheet m f x.station ok (add_relation x.relation (m x.station)) kept (page_with_relation x.relation) (relation_page x.relation (m x.station) w room),
          put_fits m f x.station ok (add_relation x.relation (m x.station)) kept,
        )

pub relations_held : (n : Network) (ps : List (Placed StationRelation)) → T (every (λ p. station_ok p.entry.station) ps) → (m : Timetable) (next : ℕ) → Fits m
    → Held (entered (relation_refusal n) enter_relation ps m next) (through (relation_step n) ps (progress (encode_sheet m) no_fault))
unfolding relation_step relation_refusal
relations_held n ps t m next f =
    held (λ x. station_ok x.station) (relation_refusal n) enter_relation (λ x. change_frame (x.station.0 - 1) (page_with_relation x.relation)) (relation_step n)
    same told (relation_done n) ps t m next f
  where
    same : (p : Placed StationRelation) (g : Progress)
        → relation_step n p g ≡ step_with (relation_refusal n p.entry (decode_sheet g.sheet)) (change_frame (p.entry.station.0 - 1) (page_with_relation p.entry.relation) g.sheet) p.place g
    same p g = refl

    told : (x : StationRelation) (m : Timetable) → T (station_ok x.station) → Fits m → relation_refusal n x (decode_sheet (encode_sheet m)) ≡ relation_refusal n x m
    told x m ok f = rw (sheet_back m (all_coded m f) x.station ok)

-- a fault once found stays
pub fault_stays : (n : Network) (ps : List (Placed StationRelation)) (g : Progress) → ¬ (g.fault.number ≡ 0) → through (relation_step n) ps g ≡ g
unfolding through relation_step step_with
fault_stays n [] g d = refl
fault_stays n (p ∷ ps) g d = ap (through (relation_step n) ps) (still p) ∙ fault_stays n ps g d
  where
    still : (p : Placed StationRelation) → relation_step n p g ≡ g
    still p = rw (ne_eqb g.fault.number 0 d)

-- visits and then relations, from an empty sheet

empty_fits : Fits nothing_placed
unfolding nothing_placed empty each_two
empty_fits k t = record { coded = empty_coded; order = tt }

all_zeros : (xs : List Station) → flat_map (λ k. zeros 512) xs ≡ zeros (512 * length xs)
unfolding flat_map
all_zeros [] = refl
all_zeros (x ∷ xs) =
    let e : 512 + 512 * length xs ≡ 512 * suc (length xs) = omega arith in
    ap (λ (l : List ℕ). zeros 512 ++ l) (all_zeros xs) ∙ replicate-append-replicate 512 (512 * length xs) 0 ∙ ap zeros e

pub empty_sheet : encode_sheet nothing_placed ≡ zeros 8192
unfolding encode_sheet nothing_placed sixteen
empty_sheet = ap (λ (b : List ℕ). flat_map (λ k. b) sixteen) blank_page ∙ all_zeros sixteen

pub timetable_held : (n : Network) (x : Entries) → T (every (λ p. station_ok p.entry.station) x.visits) → T (every (λ p. station_ok p.entry.station) x.relations)
    → (next : ℕ) → Held (timetable_of n x next) (all_through n x (progress (zeros 8192) no_fault))
unfolding timetable_of all_through behind Held
timetable_held n x t u next =
    rw (← empty_sheet) (go (entered (visit_refusal n) enter_visit x.visits nothing_placed next) (through (visit_step n) x.visits (progress (encode_sheet nothing_placed) no_fault))
    (visits_held n x.visits t nothing_placed next empty_fits))
  where
    go : (o : Outcome Timetable) (g : Progress) → Held o g
        → Held (behind o (λ m next. entered (relation_refusal n) enter_relation x.relations m next)) (through (relation_step n) x.relations g)
    go (accepted m next) g (e, f) = rw e (relations_held n x.relations u m next f)
    go (refused k p) g (e, d) =
        let s : ¬ (g.fault.number ≡ 0) = λ z. d (sym (ap (λ (x : Fault). x.number) e) ∙ z) in
        (ap (λ (x : Progress). x.fault) (fault_stays n x.relations g s) ∙ e, d)
