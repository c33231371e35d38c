-- Histories decide, to the byte. A division is looked at as its six sheets, a state of six places; edits are local
-- there (LocalityHolds), so that what holds of local edits holds of it: any order that keeps the order at common areas
-- (theory Exchange), any two lists with the same histories (theory Histories), and edits done at positions that rise in
-- each area (theory Serialized). For a set of areas, only edits that name no other area count. Assumes nothing.
use Prim.Native.Nat.{ℕ, zero, suc}
use mathlib.Core.Path.{◌≡◌, refl, sym, ◌∙◌, ap, ap₂, subst, fun_ext}
use mathlib.Core.Bool.{Bool, true, false, not, ◌&&◌, ◌||◌}
use mathlib.Core.List.{List, [], ◌∷◌, map, flat_map}
use lib.Dec.{T, eqb}
use lib.ListN.{length}
use borrow.Author.Tests.{eqb-true, eq-eqb}
use Rattle.std.specs.Prelude.{if◌then◌else◌}
use Rattle.base.specs.Lists.{every, keep}
use Rattle.base.specs.Runs.{run, answers}
use Rattle.base.proofs.Tests.{by_test, by_value, T_true, true_T, T_false, if_no, and_l, and_r, both, or_l, or_r, every_all, every_head, every_tail}
use Rattle.railway.specs.Ranges.{area_ok}
use Rattle.network.specs.Networks.{area_of}
use Rattle.timetable.specs.Groups.{six, names_group}
use Rattle.theory.specs.Reordering.{at, along, history, Meet, Reordering}
use Rattle.theory.specs.Serial.{Work, Serial, numbered}
use Rattle.theory.proofs.Local.{LocalStep}
use Rattle.theory.proofs.Exchange.{same_answers, same_state}
use Rattle.theory.proofs.Histories.{said, same_history, reordered}
use Rattle.theory.proofs.Serialized.{serial_run, serial_answers, after_first, run_serial}
use Rattle.sheet.specs.Sheets.{sheet_at}
use Rattle.sheet.proofs.SheetLaws.{area_number, each_area, sheet_size, sheet_in, division_size, divisions_equal}
use Rattle.machine.specs.Calls.{division_answer, division_after}
use Rattle.demands.specs.Types.{Area, Edit, Network, Answer}
use Rattle.demands.specs.Histories.{history_of, told, SameBytes, AnyOrderOfBytes, ReorderingsKeepHistories, HistoriesDecide, keeps_to, keeps_off, takes_sides, SameWithin, AreasByThemselves}
use Rattle.demands.specs.Histories.{names_area, Sheets, standing, written, AsListed, PositionsDecide, EveryRunHasPositions}
use Rattle.demands.proofs.LocalityHolds.{edits_are_local}

-- a division as six sheets; base is any division, of which a sheet stands in where a state has none of the right length
module _ (n : Network) (own : ℕ → Bool) (base : List ℕ) (base-size : length base ≡ 49152) where
  abbrev State : Type 0
  State = ℕ → List ℕ

  abbrev named : Edit → ℕ → Bool
  named e a = names_group n (area_of n) e a

  abbrev or_base : ℕ → List ℕ → List ℕ
  or_base a s = if eqb (length s) 8192 then s else sheet_at base a

  or_size : (a : ℕ) → T (area_number a) → (s : List ℕ) → length (or_base a s) ≡ 8192
  or_size a t s = by_value (eqb (length s) 8192) (λ q. rw q (eqb-true (length s) 8192 q)) (λ q. rw q (sheet_size base a base-size t))

  unfoldable whole : State → List ℕ
  whole st = flat_map (λ a. or_base a (st a)) six

  whole_size : (st : State) → length (whole st) ≡ 49152
  unfolding whole
  whole_size st = division_size (λ a. or_base a (st a)) (λ a t. or_size a t (st a))

  whole_sheet : (st : State) (a : ℕ) → T (area_number a) → sheet_at (whole st) a ≡ or_base a (st a)
  unfolding whole
  whole_sheet st a t = sheet_in (λ c. or_base c (st c)) (λ c u. or_size c u (st c)) a t

  whole_same : (st st' : State) (a : ℕ) → T (area_number a) → st a ≡ st' a → sheet_at (whole st) a ≡ sheet_at (whole st') a
  whole_same st st' a t q = whole_sheet st a t ∙ ap (or_base a) q ∙ sym (whole_sheet st' a t)

  -- an edit that names no area outside the set touches those that it names; any other touches nothing
  unfoldable touches : Edit → ℕ → Bool
  touches e a = keeps_to n own e && (area_number a && named e a)

  unfoldable step : Edit → State → State
  step e st a = if touches e a then sheet_at (division_after n e (whole st)) a else st a

  unfoldable says : Edit → State → Answer
  says e st = division_answer n e (if keeps_to n own e then whole st else base)

  touching : (e : Edit) → T (keeps_to n own e) → (a : ℕ) → T (area_number a) → T (named e a) → T (touches e a)
  unfolding touches
  touching e k a t u = both (keeps_to n own e) (area_number a && named e a) k (both (area_number a) (named e a) t u)

  touched_to : (e : Edit) (a : ℕ) → T (touches e a) → T (keeps_to n own e)
  unfolding touches
  touched_to e a t = and_l (keeps_to n own e) (area_number a && named e a) t

  touched_number : (e : Edit) (a : ℕ) → T (touches e a) → T (area_number a)
  unfolding touches
  touched_number e a t = and_l (area_number a) (named e a) (and_r (keeps_to n own e) (area_number a && named e a) t)

  -- what is touched is one of the six areas
  inside : (e : Edit) (a : ℕ) → T (touches e a) → (f : ℕ → Bool) → T (every f six) → T (f a)
  inside e a t f all-six = each_area f all-six a (touched_number e a t)

  touched_named : (e : Edit) (a : ℕ) → T (touches e a) → T (named e a)
  unfolding touches
  touched_named e a t = and_r (area_number a) (named e a) (and_r (keeps_to n own e) (area_number a && named e a) t)

  local_step : LocalStep touches step says
  unfolding step says
  local_step = record { same_answer = same_answer; same_change = same_change; others_kept = λ e st a t. if_no (touches e a) _ _ t }
    where
      agreed : (e : Edit) (st st' : State) → ((a : ℕ) → T (touches e a) → st a ≡ st' a) → T (keeps_to n own e)
          → (a : Area) → T (area_ok a) → T (named e a.0) → sheet_at (whole st) a.0 ≡ sheet_at (whole st') a.0
      agreed e st st' h k a t u = whole_same st st' a.0 t (h a.0 (touching e k a.0 t u))

      same_answer : (e : Edit) (st st' : State) → ((a : ℕ) → T (touches e a) → st a ≡ st' a)
          → division_answer n e (if keeps_to n own e then whole st else base) ≡ division_answer n e (if keeps_to n own e then whole st' else base)
      same_answer e st st' h = by_value (keeps_to n own e)
          (λ q. rw q ((edits_are_local n e).same_answer (whole st) (whole st') (whole_size st) (whole_size st') (agreed e st st' h (true_T (keeps_to n own e) q))))
          (λ q. rw q)

      same_change : (e : Edit) (st st' : State) → ((a : ℕ) → T (touches e a) → st a ≡ st' a) → (a : ℕ) → T (touches e a)
          → (if touches e a then sheet_at (division_after n e (whole st)) a else st a) ≡ (if touches e a then sheet_at (division_after n e (whole st')) a else st' a)
      same_change e st st' h a t =
          rw (T_true (touches e a) t) ((edits_are_local n e).same_change (whole st) (whole st') (whole_size st) (whole_size st')
          (agreed e st st' h (touched_to e a t)) (record { 0 = a }) (touched_number e a t) (touched_named e a t))

  -- a division and a state that agree at the set
  pub record Held (d : List ℕ) (st : State) : Type 0 where
    pub size : length d ≡ 49152
    pub same : (a : ℕ) → T (area_number a) → T (own a) → sheet_at d a ≡ st a

  -- an area that an edit of the set names is of the set
  named_own : (e : Edit) → T (keeps_to n own e) → (a : ℕ) → T (area_number a) → T (named e a) → T (own a)
  unfolding keeps_to
  named_own e k a t u =
      let x : T (not (named e a) || own a) = each_area (λ c. not (named e c) || own c) k a t in
      rw (T_true (named e a) u) at x

  off_own : (e : Edit) → T (keeps_off n own e) → (a : ℕ) → T (area_number a) → T (own a) → ¬ T (named e a)
  unfolding keeps_off
  off_own e k a t u v =
      let x : T (not (named e a && own a)) = each_area (λ c. not (named e c && own c)) k a t in
      rw (T_true (named e a) v, T_true (own a) u) at x

  -- at an area of the set an edit that takes sides touches what it names
  touches_is : (e : Edit) → T (takes_sides n own e) → (a : ℕ) → T (area_number a) → T (own a) → touches e a ≡ named e a
  unfolding touches
  touches_is e s a t u = by_value (keeps_to n own e)
      (λ q. rw (q, T_true (area_number a) t))
      (λ q. rw q (sym (T_false (named e a) (off_own e (rw q at s) a t u))))

  touches_none : (e : Edit) (a : ℕ) → ¬ (T (area_number a) × T (own a)) → touches e a ≡ false
  touches_none e a h = T_false (touches e a)
      (λ t. h (touched_number e a t, named_own e (touched_to e a t) a (touched_number e a t) (touched_named e a t)))

  -- the whole of such a state agrees at the areas that an edit of the set names
  held_agree : (d : List ℕ) (st : State) → Held d st → (e : Edit) → T (keeps_to n own e)
      → (a : Area) → T (area_ok a) → T (named e a.0) → sheet_at d a.0 ≡ sheet_at (whole st) a.0
  held_agree d st H e k a t u =
      let same : sheet_at d a.0 ≡ st a.0 = H.same a.0 t (named_own e k a.0 t u) in
      let fits : eqb (length (sheet_at d a.0)) 8192 ≡ true = eq-eqb (length (sheet_at d a.0)) 8192 (sheet_size d a.0 H.size t) in
      sym (whole_sheet st a.0 t ∙ ap (or_base a.0) (sym same) ∙ rw fits)

  held_answer : (d : List ℕ) (st : State) → Held d st → (e : Edit) → T (keeps_to n own e) → division_answer n e d ≡ says e st
  unfolding says
  held_answer d st H e k =
      rw (T_true (keeps_to n own e) k) ((edits_are_local n e).same_answer d (whole st) H.size (whole_size st) (held_agree d st H e k))

  held_step : (d : List ℕ) (st : State) → Held d st → (e : Edit) → T (takes_sides n own e) → Held (division_after n e d) (step e st)
  unfolding step
  held_step d st H e s = record { size = (edits_are_local n e).same_length d ∙ H.size; same = same }
    where
      same : (a : ℕ) → T (area_number a) → T (own a) → sheet_at (division_after n e d) a ≡ (if touches e a then sheet_at (division_after n e (whole st)) a else st a)
      same a t u = by_test (touches e a)
          (λ v. rw (T_true (touches e a) v) ((edits_are_local n e).same_change d (whole st) H.size (whole_size st)
          (held_agree d st H e (touched_to e a v)) (record { 0 = a }) t (touched_named e a v)))
          (λ v. rw (T_false (touches e a) v)
          ((edits_are_local n e).others_kept d (record { 0 = a }) t (λ w. v (true_T (touches e a) (touches_is e s a t u ∙ T_true (named e a) w))) ∙ H.same a t u))

  held_run : (es : List Edit) → T (every (takes_sides n own) es) → (d : List ℕ) (st : State) → Held d st → Held (run (division_after n) es d) (run step es st)
  unfolding run
  held_run [] s d st H = H
  held_run (e ∷ es) s d st H =
      held_run es (every_tail (takes_sides n own) e es s) (division_after n e d) (step e st) (held_step d st H e (every_head (takes_sides n own) e es s))

  held_answers : (es : List Edit) → T (every (keeps_to n own) es) → (d : List ℕ) (st : State) → Held d st
      → answers (division_after n) (division_answer n) es d ≡ answers step says es st
  unfolding answers
  held_answers [] s d st H = refl
  held_answers (e ∷ es) s d st H =
      let k : T (keeps_to n own e) = every_head (keeps_to n own) e es s in
      ap₂ (λ (x : Answer) (l : List Answer). x ∷ l) (held_answer d st H e k)
      (held_answers es (every_tail (keeps_to n own) e es s) (division_after n e d) (step e st)
      (held_step d st H e (or_l (keeps_to n own e) (keeps_off n own e) k)))

  -- what is said at an area of the set
  held_told : (a : ℕ) → T (area_number a) → T (own a) → (es : List Edit) → T (every (takes_sides n own) es) → (d : List ℕ) (st : State) → Held d st
      → told n a es d ≡ said touches step says local_step six inside a es st
  unfolding told said
  held_told a t u [] s d st H = refl
  held_told a t u (e ∷ es) s d st H =
      let side : T (takes_sides n own e) = every_head (takes_sides n own) e es s in
      let later = held_told a t u es (every_tail (takes_sides n own) e es s) (division_after n e d) (step e st) (held_step d st H e side) in
      by_value (touches e a)
      (λ q. rw (q, sym (touches_is e side a t u) ∙ q, held_answer d st H e (touched_to e a (true_T (touches e a) q)), later))
      (λ q. rw (q, sym (touches_is e side a t u) ∙ q, later))

  -- its history is the edits that touch it
  held_seen : (a : ℕ) → T (area_number a) → T (own a) → (es : List Edit) → T (every (takes_sides n own) es)
      → history touches a es ≡ history_of n a es
  unfolding keep
  held_seen a t u [] s = refl
  held_seen a t u (e ∷ es) s =
      let later = held_seen a t u es (every_tail (takes_sides n own) e es s) in
      rw (touches_is e (every_head (takes_sides n own) e es s) a t u) (ap (λ (l : List Edit). if named e a then e ∷ l else l) later)

  outside_seen : (a : ℕ) → ¬ (T (area_number a) × T (own a)) → (es : List Edit) → history touches a es ≡ []
  unfolding keep
  outside_seen a h [] = refl
  outside_seen a h (e ∷ es) = rw (touches_none e a h) (outside_seen a h es)

  -- the areas of the set

  module _ (d d' : List ℕ) (st : State) (H : Held d st) (H' : Held d' st) (es es' : List Edit)
      (s : T (every (takes_sides n own) es)) (s' : T (every (takes_sides n own) es'))
      (h : (a : Area) → T (area_ok a) → T (own a.0) → history_of n a.0 es ≡ history_of n a.0 es') where
    seen_same : (a : ℕ) → history touches a es ≡ history touches a es'
    seen_same a = by_test (area_number a && own a)
        (λ t.
        let u = and_l (area_number a) (own a) t in
        let v = and_r (area_number a) (own a) t in
        held_seen a u v es s ∙ h (record { 0 = a }) u v ∙ sym (held_seen a u v es' s'))
        (λ t.
        let none : ¬ (T (area_number a) × T (own a)) = λ x. t (both (area_number a) (own a) x.0 x.1) in
        outside_seen a none es ∙ sym (outside_seen a none es'))

    within : SameWithin n own d d' es es'
    within =
        let (ends, alike) = same_history touches step says local_step six inside es es' seen_same st in
        record {
          same_sheets = λ a t u. (held_run es s d st H).same a.0 t u ∙ ap (λ (x : State). x a.0) ends ∙ sym ((held_run es' s' d' st H').same a.0 t u);
          same_told = λ a t u. held_told a.0 t u es s d st H ∙ alike a.0 ∙ sym (held_told a.0 t u es' s' d' st H');
        }

pub areas_by_themselves : AreasByThemselves
areas_by_themselves n own d d' size size' same es es' s s' h =
    within n own d size d d' (sheet_at d)
    (record { size = size; same = λ a t u. refl })
    (record { size = size'; same = λ a t u. sym (same (record { 0 = a }) t u) })
    es es' s s' h

-- all areas

abbrev all : ℕ → Bool
all a = true

keeps_to_all : (n : Network) (e : Edit) → T (keeps_to n all e)
unfolding keeps_to
keeps_to_all n e = every_all (λ a. not (names_group n (area_of n) e a) || true) (λ a. or_r (not (names_group n (area_of n) e a)) true tt) six

sides_all : (n : Network) (es : List Edit) → T (every (takes_sides n all) es)
sides_all n es = every_all (takes_sides n all) (λ e. or_l (keeps_to n all e) (keeps_off n all e) (keeps_to_all n e)) es

same_length : (n : Network) (es : List Edit) (d : List ℕ) → length (run (division_after n) es d) ≡ length d
unfolding run
same_length n [] d = refl
same_length n (e ∷ es) d = same_length n es (division_after n e d) ∙ (edits_are_local n e).same_length d

pub histories_decide : HistoriesDecide
histories_decide n d size es es' h =
    let W : SameWithin n all d d es es' = areas_by_themselves n all d d size size (λ a t u. refl) es es' (sides_all n es) (sides_all n es') (λ a t u. h a t) in
    record {
      same_division = divisions_equal (run (division_after n) es d) (run (division_after n) es' d)
          (same_length n es d ∙ size) (same_length n es' d ∙ size) (λ a t. W.same_sheets (record { 0 = a }) t tt);
      same_told = λ a t. W.same_told a t tt;
    }

pub any_order_of_bytes : AnyOrderOfBytes
any_order_of_bytes n d size es ps R =
    let st : ℕ → List ℕ = sheet_at d in
    let H : Held n all d size d st = record { size = size; same = λ a t u. refl } in
    let here : Held n all d size (run (division_after n) es d) (run (step n all d size) es st) = held_run n all d size es (sides_all n es) d st H in
    let there : Held n all d size (run (division_after n) (along es ps) d) (run (step n all d size) (along es ps) st) =
    held_run n all d size (along es ps) (sides_all n (along es ps)) d st H in
    let ends : run (step n all d size) (along es ps) st ≡ run (step n all d size) es st =
    same_state (touches n all d size) (step n all d size) (says n all d size) (local_step n all d size) (names_group n (area_of n)) apart es ps st R in
    record {
      same_answers =
          held_answers n all d size (along es ps) (every_all (keeps_to n all) (keeps_to_all n) (along es ps)) d st H
          ∙ same_answers (touches n all d size) (step n all d size) (says n all d size) (local_step n all d size) (names_group n (area_of n)) apart es ps st R
          ∙ ap (λ (l : List Answer). along l ps) (sym (held_answers n all d size es (every_all (keeps_to n all) (keeps_to_all n) es) d st H));
      same_division = divisions_equal (run (division_after n) (along es ps) d) (run (division_after n) es d) there.size here.size
          (λ a t. there.same a t tt ∙ ap (λ (x : ℕ → List ℕ). x a) ends ∙ sym (here.same a t tt));
    }
  where
    apart : (e f : Edit) → ¬ Meet (names_group n (area_of n)) e f → (a : ℕ) → T (touches n all d size e a) → ¬ T (touches n all d size f a)
    apart e f h a t u = h (a, touched_named n all d size e a t, touched_named n all d size f a u)

pub reorderings_keep_histories : ReorderingsKeepHistories
reorderings_keep_histories n es ps R a = reordered (names_group n (area_of n)) es ps R a

-- areas apart

module _ (versions : ℕ → ℕ → List ℕ) (sized : Sheets versions) (p : ℕ → ℕ) where
  standing_size : length (standing versions p) ≡ 49152
  unfolding standing
  standing_size = division_size (λ a. versions a (p a)) (λ a t. sized (record { 0 = a }) t (p a))

  standing_sheet : (a : ℕ) → T (area_number a) → sheet_at (standing versions p) a ≡ versions a (p a)
  unfolding standing
  standing_sheet a t = sheet_in (λ c. versions c (p c)) (λ c u. sized (record { 0 = c }) u (p c)) a t

-- sheets in versions, beside any division
module _ (n : Network) (versions : ℕ → ℕ → List ℕ) (sized : Sheets versions) (base : List ℕ) (size : length base ≡ 49152) where
  abbrev sheets : (ℕ → ℕ) → ℕ → List ℕ
  sheets p = λ a. versions a (p a)

  -- the sheets that stand at the positions, as a state, are that division
  whole_standing : (p : ℕ → ℕ) → whole n all base size (sheets p) ≡ standing versions p
  whole_standing p = divisions_equal (whole n all base size (sheets p)) (standing versions p) (whole_size n all base size (sheets p)) (standing_size versions sized p)
      (λ a t. whole_sheet n all base size (sheets p) a t ∙ rw (eq-eqb (length (versions a (p a))) 8192 (sized (record { 0 = a }) t (p a))) (sym (standing_sheet versions sized p a t)))

  touches_area : (e : Edit) (a : ℕ) → touches n all base size e a ≡ names_area n e a
  unfolding touches
  touches_area e a = rw (T_true (keeps_to n all e) (keeps_to_all n e))

  to_area : (e : Edit) (a : ℕ) → T (touches n all base size e a) → T (names_area n e a)
  to_area e a t = subst T (touches_area e a) t

  from_area : (e : Edit) (a : ℕ) → T (names_area n e a) → T (touches n all base size e a)
  from_area e a t = subst T (sym (touches_area e a)) t

  made : (x : Work Edit ℕ) (a : ℕ) → T (touches n all base size x.edit a) → written n versions x a ≡ step n all base size x.edit (sheets x.position) a
  unfolding step
  made x a t = rw (T_true (touches n all base size x.edit a) t) (ap (λ (d : List ℕ). sheet_at (division_after n x.edit d) a) (sym (whole_standing x.position)))

  says_standing : (x : Work Edit ℕ) → says n all base size x.edit (sheets x.position) ≡ division_answer n x.edit (standing versions x.position)
  unfolding says
  says_standing x = rw (T_true (keeps_to n all x.edit) (keeps_to_all n x.edit)) (ap (division_answer n x.edit) (whole_standing x.position))

  -- such work on the bytes is such work on the state of six places, and the other way round

  abbrev OnSheets : (ℕ → ℕ) → (ℕ → ℕ) → List (Work Edit ℕ) → Type 0
  OnSheets first last xs = Serial (touches n all base size) versions (λ x a. step n all base size x.edit (sheets x.position) a) first last xs

  on_sheets : (first last : ℕ → ℕ) (xs : List (Work Edit ℕ)) → Serial (names_area n) versions (written n versions) first last xs → OnSheets first last xs
  on_sheets first last xs S = record {
    rising = λ i j x y p q h a t u. S.rising i j x y p q h a (to_area x.edit a t) (to_area y.edit a u);
    from_first = λ i x q a t. S.from_first i x q a (to_area x.edit a t);
    up_to_last = λ i x q a t. S.up_to_last i x q a (to_area x.edit a t);
    onward = S.onward;
    writes = λ i x q a t. S.writes i x q a (to_area x.edit a t) ∙ made x a t;
    nothing_else = λ a t p free. S.nothing_else a t p (λ i x q u. free i x q (from_area x.edit a u));
  }

  on_bytes : (first last : ℕ → ℕ) (xs : List (Work Edit ℕ)) → OnSheets first last xs → Serial (names_area n) versions (written n versions) first last xs
  on_bytes first last xs S = record {
    rising = λ i j x y p q h a t u. S.rising i j x y p q h a (from_area x.edit a t) (from_area y.edit a u);
    from_first = λ i x q a t. S.from_first i x q a (from_area x.edit a t);
    up_to_last = λ i x q a t. S.up_to_last i x q a (from_area x.edit a t);
    onward = S.onward;
    writes = λ i x q a t. S.writes i x q a (from_area x.edit a t) ∙ sym (made x a (from_area x.edit a t));
    nothing_else = λ a t p free. S.nothing_else a t p (λ i x q u. free i x q (to_area x.edit a u));
  }

module _ (n : Network) (versions : ℕ → ℕ → List ℕ) (sized : Sheets versions) (first last : ℕ → ℕ) (xs : List (Work Edit ℕ))
    (S : Serial (names_area n) versions (written n versions) first last xs) where
  abbrev base : List ℕ
  base = standing versions first

  abbrev size : length base ≡ 49152
  size = standing_size versions sized first

  abbrev es : List Edit
  es = map (λ x. x.edit) xs

  abbrev given : ℕ → List ℕ
  given = λ a. versions a (first a)

  start : Held n all base size base given
  start = record { size = size; same = λ a t u. standing_sheet versions sized first a t }

  done : OnSheets n versions sized base size first last xs
  done = on_sheets n versions sized base size first last xs S

  ends : run (division_after n) es base ≡ standing versions last
  ends =
      let H : Held n all base size (run (division_after n) es base) (run (step n all base size) es given) = held_run n all base size es (sides_all n es) base given start in
      divisions_equal (run (division_after n) es base) (standing versions last) H.size (standing_size versions sized last)
      (λ a t. H.same a t tt
      ∙ ap (λ (st : ℕ → List ℕ). st a) (serial_run (touches n all base size) (step n all base size) (says n all base size) (local_step n all base size) versions xs first last done)
      ∙ sym (standing_sheet versions sized last a t))

  says_all : answers (division_after n) (division_answer n) es base ≡ map (λ x. division_answer n x.edit (standing versions x.position)) xs
  says_all =
      held_answers n all base size es (every_all (keeps_to n all) (keeps_to_all n) es) base given start
      ∙ serial_answers (touches n all base size) (step n all base size) (says n all base size) (local_step n all base size) versions xs first last done
      ∙ ap (λ (f : Work Edit ℕ → Answer). map f xs) (fun_ext (says_standing n versions sized base size))

  as_listed : (ps : List ℕ) → Reordering (names_group n (area_of n)) es ps → AsListed n versions first last xs ps
  as_listed ps R =
      let B : SameBytes n base es ps = any_order_of_bytes n base size es ps R in
      record {
        same_answers = B.same_answers ∙ ap (λ (l : List Answer). along l ps) says_all;
        same_division = B.same_division ∙ ends;
      }

pub positions_decide : PositionsDecide
positions_decide n versions sized first last xs S ps R = as_listed n versions sized first last xs S ps R

-- edits one after another

module _ (n : Network) (d : List ℕ) (size : length d ≡ 49152) (es : List Edit) where
  -- the division after the first t edits, and its sheets
  unfoldable division_at : ℕ → List ℕ
  division_at zero = d
  division_at (suc t) = run (division_after n) (at es t) (division_at t)

  abbrev versions : ℕ → ℕ → List ℕ
  versions a t = after_first (touches n all d size) (step n all d size) (says n all d size) (local_step n all d size) es (sheet_at d) t a

  held_at : (t : ℕ) → Held n all d size (division_at t) (λ a. versions a t)
  unfolding division_at after_first
  held_at zero = record { size = size; same = λ a t u. refl }
  held_at (suc t) = held_run n all d size (at es t) (sides_all n (at es t)) (division_at t) (λ a. versions a t) (held_at t)

  sized : Sheets versions
  sized a u t = ap length (sym ((held_at t).same a.0 u tt)) ∙ sheet_size (division_at t) a.0 (held_at t).size u

  starts : standing versions (λ a. 0) ≡ d
  unfolding after_first
  starts = divisions_equal (standing versions (λ a. 0)) d (standing_size versions sized (λ a. 0)) size
      (λ a t. standing_sheet versions sized (λ c. 0) a t)

  serial : Serial (names_area n) versions (written n versions) (λ a. 0) (λ a. length es) (numbered 0 es)
  serial = on_bytes n versions sized d size (λ a. 0) (λ a. length es) (numbered 0 es)
      (run_serial (touches n all d size) (step n all d size) (says n all d size) (local_step n all d size) es (sheet_at d))

pub every_run_has_positions : EveryRunHasPositions
every_run_has_positions n d size es = (versions n d size es, record { sheets = sized n d size es; start = starts n d size es; serial = serial n d size es })
