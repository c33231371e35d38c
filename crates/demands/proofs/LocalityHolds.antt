-- Edits on a division are local to the byte. What refuses an edit, and the timetable that it works on, depend on the
-- named sheets alone; an accepted edit leaves a row of six sheets of 8,192 bytes, so that each can be looked at by
-- itself. Assumes nothing.
use Prim.Native.Nat.{ℕ}
use mathlib.Core.Path.{◌≡◌, refl, sym, ◌∙◌, ap, ap₂, fun_ext}
use mathlib.Core.Bool.{Bool, true, false, not, ◌&&◌, ◌||◌}
use mathlib.Core.List.{List, [], ◌∷◌}
use lib.Dec.{T, ltb, eqb, eqb→eq}
use lib.ListN.{length, length-replicate}
use borrow.Author.Tests.{eqb-true, eqb-false}
use Rattle.base.specs.Choice.{◌if◌else◌}
use Rattle.std.specs.Prelude.{if◌then◌else◌}
use Rattle.base.specs.Lists.{every}
use Rattle.base.proofs.Tests.{by_value, T_true, true_T, T_false, and_l, and_r, every_head, every_tail}
use Rattle.railway.specs.Ranges.{station_ok}
use Rattle.network.specs.Networks.{network_refusal, listed, area_of}
use Rattle.timetable.specs.Tables.{empty}
use Rattle.timetable.specs.Machine.{Timetable, nothing_placed, refusal, answer, after}
use Rattle.timetable.specs.Groups.{six, in_group, names, names_group, divide, merge, gather, divided_answer, divided_after, naming_none}
use Rattle.timetable.specs.Good.{Whole, table_good}
use Rattle.timetable.proofs.Locality.{names_none, others_kept}
use Rattle.timetable.specs.Refusals.{call_refusal}
use Rattle.timetable.proofs.RefusalLaws.{call_short, call_early, call_bad, call_late, call_passed}
use Rattle.actions.specs.Early.{early_refusal}
use Rattle.actions.proofs.EarlyLaws.{early_facts}
use Rattle.theory.proofs.Kept.{after_whole}
use Rattle.theory.proofs.Divided.{named_group}
use Rattle.page.specs.Pages.{encode_page}
use Rattle.sheet.specs.Sheets.{page_at, encode_sheet, decode_sheet, good_sheet, sheet_at}
use Rattle.network.proofs.AreaLaws.{listed_placed, listed_ok}
use Rattle.page.proofs.PageLaws.{Coded, empty_coded, blank_page, good_bytes}
use Rattle.sheet.proofs.SheetLaws.{area_number, all_areas, each_area, page_good, page_zeros, encoded_size, encoded_page, decoded_page, good_all_coded, sheet_size, sheet_in, division_size}
use Rattle.machine.specs.Calls.{sheet_refusal, sheet_after, named_good, parts, division_refusal, division_answer, division_after}
use Rattle.machine.proofs.EditCalls.{sheet_is, sheet_not, division_is, division_not}
use Rattle.machine.proofs.ByteEdits.{in_listed, page_of, whole_later}
use Rattle.machine.proofs.CentralEdits.{early_same}
use Rattle.demands.specs.Types.{Station, Edit, Network}
use Rattle.demands.specs.Locality.{Agree, lent, named_alone, EditsAreLocal, PagesAreLocal, NamedSheetsSuffice}
use Rattle.demands.proofs.Gathered.{over, placed_number, own_good, gather_whole}

every_agree : (f g ok : ℕ → Bool) → ((x : ℕ) → T (ok x) → f x ≡ g x) → (xs : List ℕ) → T (every ok xs) → every f xs ≡ every g xs
unfolding every
every_agree f g ok h [] t = refl
every_agree f g ok h (x ∷ xs) t = ap₂ (λ (a b : Bool). a && b) (h x (every_head ok x xs t)) (every_agree f g ok h xs (every_tail ok x xs t))

-- 3, 7 and 15 come before a sheet is looked at
early_said : (fits : Bool) (k : ℕ) (sheets : Bool) → T (naming_none (call_refusal fits k sheets 0))
    → (call_refusal fits k sheets 0 ≡ k) × ¬ (k ≡ 0)
early_said false k sheets t = absurd (rw (call_short false k sheets 0 refl) at t)
early_said true k sheets t = by_value (eqb k 0)
    (λ q. absurd (looked sheets (eqb-true k 0 q) t))
    (λ q. (call_early true k sheets 0 refl (eqb-false k 0 q), eqb-false k 0 q))
  where
    looked : (b : Bool) → k ≡ 0 → ¬ T (naming_none (call_refusal true k b 0))
    looked true z u = rw (call_late true k true 0 refl z refl) at u
    looked false z u = rw (call_bad true k false 0 refl z refl) at u

module _ (n : Network) (e : Edit) where
  abbrev γ : Station → ℕ
  γ = area_of n

  abbrev named : ℕ → Bool
  named = names_group n γ e

  -- what an accepted edit leaves of an area's sheet
  abbrev left : List ℕ → ℕ → List ℕ
  left d a = if named a then encode_sheet (divided_after n γ e (parts d) a) else sheet_at d a

  -- an accepted edit

  module _ (d : List ℕ) (r : division_refusal n e d ≡ 0) where
    passed : (eqb (length d) 49152 ≡ true) × (early_refusal n e ≡ 0) × (named_good n e d ≡ true) × (◌≡◌ {A = ℕ} 0 0)
    unfolding division_refusal
    passed = call_passed (eqb (length d) 49152) (early_refusal n e) (named_good n e d) 0 r

    size_of : length d ≡ 49152
    size_of = eqb-true (length d) 49152 passed.0

    good_of : network_refusal n ≡ 0
    good_of = (early_facts n e passed.1).network

    area_fine : (a : ℕ) → T (area_number a) → named a ≡ true → T (good_sheet n (over n good_of a) (sheet_at d a))
    unfolding named_good
    area_fine a t q =
        let x : T (not (named a) || good_sheet n (over n good_of a) (sheet_at d a)) =
        each_area (λ c. not (named c) || good_sheet n (over n good_of c) (sheet_at d c)) (true_T (named_good n e d) passed.2) a t in
        rw q at x

    gathered_whole : Whole n (gather γ named (parts d))
    unfolding parts
    gathered_whole = gather_whole n good_of named (λ a. decode_sheet (sheet_at d a)) tables
      where
        number : (k : Station) → T (listed n k) → T (area_number (γ k))
        number k l = placed_number n good_of k (sym (listed_placed n good_of k) ∙ T_true (listed n k) l)

        tables : (k : Station) → T (listed n k) → named (γ k) ≡ true → T (table_good n k (decode_sheet (sheet_at d (γ k)) k))
        tables k l q = own_good n good_of (γ k) (sheet_at d (γ k)) (sheet_size d (γ k) size_of (number k l)) (area_fine (γ k) (number k l) q) k l refl

    later_whole : Whole n (after n e (gather γ named (parts d)))
    later_whole = after_whole n (gather γ named (parts d)) e gathered_whole

    named_size : (a : ℕ) → named a ≡ true → length (encode_sheet (divided_after n γ e (parts d) a)) ≡ 8192
    unfolding divided_after divide
    named_size a q = rw q (encoded_size (λ k. if in_group γ a k then after n e (gather γ named (parts d)) k else empty) (λ k s. coded k (in_group γ a k)))
      where
        coded : (k : Station) (b : Bool) → Coded (if b then after n e (gather γ named (parts d)) k else empty)
        coded k true = good_all_coded n (listed n) (listed_ok n good_of) (after n e (gather γ named (parts d))) later_whole k
        coded k false = empty_coded

    left_size : (a : ℕ) → T (area_number a) → length (left d a) ≡ 8192
    left_size a t = by_value (named a) (λ q. rw q (named_size a q)) (λ q. rw q (sheet_size d a size_of t))

    pub taken_sheet : (a : ℕ) → T (area_number a) → sheet_at (division_after n e d) a ≡ left d a
    taken_sheet a t = ap (λ (b : List ℕ). sheet_at b a) (division_is n e d r).1 ∙ sheet_in (left d) left_size a t

    taken_length : length (division_after n e d) ≡ length d
    taken_length = ap length (division_is n e d r).1 ∙ division_size (left d) left_size ∙ sym size_of

  -- any edit

  others : (d : List ℕ) (a : ℕ) → T (area_number a) → named a ≡ false → sheet_at (division_after n e d) a ≡ sheet_at d a
  others d a t q = by_value (eqb (division_refusal n e d) 0)
      (λ b. taken_sheet d (eqb-true (division_refusal n e d) 0 b) a t ∙ rw q)
      (λ b. ap (λ (x : List ℕ). sheet_at x a) (division_not n e d (division_refusal n e d) refl (eqb-false (division_refusal n e d) 0 b)).1)

  same_length : (d : List ℕ) → length (division_after n e d) ≡ length d
  same_length d = by_value (eqb (division_refusal n e d) 0)
      (λ b. taken_length d (eqb-true (division_refusal n e d) 0 b))
      (λ b. ap length (division_not n e d (division_refusal n e d) refl (eqb-false (division_refusal n e d) 0 b)).1)

  -- two divisions that agree at the named areas

  module _ (d d' : List ℕ) (size : length d ≡ 49152) (size' : length d' ≡ 49152)
      (agree : (a : ℕ) → T (area_number a) → T (named a) → sheet_at d a ≡ sheet_at d' a) where
    good_same : named_good n e d ≡ named_good n e d'
    unfolding named_good
    good_same = every_agree
        (λ a. not (named a) || good_sheet n (λ k. listed n k && in_group γ a k) (sheet_at d a))
        (λ a. not (named a) || good_sheet n (λ k. listed n k && in_group γ a k) (sheet_at d' a))
        area_number each six all_areas
      where
        each : (a : ℕ) → T (area_number a)
            → (not (named a) || good_sheet n (λ k. listed n k && in_group γ a k) (sheet_at d a))
            ≡ (not (named a) || good_sheet n (λ k. listed n k && in_group γ a k) (sheet_at d' a))
        each a t = by_value (named a)
            (λ q. ap (λ (s : List ℕ). not (named a) || good_sheet n (λ k. listed n k && in_group γ a k) s) (agree a t (true_T (named a) q)))
            (λ q. rw q)

    refusal_same : division_refusal n e d ≡ division_refusal n e d'
    unfolding division_refusal
    refusal_same = ap₂ (λ (l : ℕ) (b : Bool). call_refusal (eqb l 49152) (early_refusal n e) b 0) (size ∙ sym size') good_same

    gathered_same : network_refusal n ≡ 0 → gather γ named (parts d) ≡ gather γ named (parts d')
    unfolding gather merge parts
    gathered_same good = fun_ext λ k. by_value (named (γ k))
        (λ q. by_value (ltb 0 (γ k))
        (λ p. rw (q, p) (ap (λ (s : List ℕ). decode_sheet s k) (agree (γ k) (placed_number n good k p) (true_T (named (γ k)) q))))
        (λ p. rw (q, p)))
        (λ q. rw q)

    answer_same : division_answer n e d ≡ division_answer n e d'
    unfolding divided_answer
    answer_same = by_value (eqb (division_refusal n e d) 0)
        (λ b.
        let r : division_refusal n e d ≡ 0 = eqb-true (division_refusal n e d) 0 b in
        (division_is n e d r).0 ∙ ap (answer n e) (gathered_same (good_of d r)) ∙ sym (division_is n e d' (sym refusal_same ∙ r)).0)
        (λ b.
        let z = eqb-false (division_refusal n e d) 0 b in
        (division_not n e d (division_refusal n e d) refl z).0 ∙ sym (division_not n e d' (division_refusal n e d) (sym refusal_same) z).0)

    part_same : network_refusal n ≡ 0 → (a : ℕ) → named a ≡ true → divided_after n γ e (parts d) a ≡ divided_after n γ e (parts d') a
    unfolding divided_after
    part_same good a q = rw q (ap (λ (m : Timetable). divide γ (after n e m) a) (gathered_same good))

    left_same : network_refusal n ≡ 0 → (a : ℕ) → named a ≡ true → left d a ≡ left d' a
    left_same good a q = rw q (ap encode_sheet (part_same good a q))

    sheet_same : (a : ℕ) → T (area_number a) → T (named a) → sheet_at (division_after n e d) a ≡ sheet_at (division_after n e d') a
    sheet_same a t u =
        let q : named a ≡ true = T_true (named a) u in
        by_value (eqb (division_refusal n e d) 0)
        (λ b.
        let r : division_refusal n e d ≡ 0 = eqb-true (division_refusal n e d) 0 b in
        taken_sheet d r a t ∙ left_same (good_of d r) a q ∙ sym (taken_sheet d' (sym refusal_same ∙ r) a t))
        (λ b.
        let z = eqb-false (division_refusal n e d) 0 b in
        ap (λ (x : List ℕ). sheet_at x a) (division_not n e d (division_refusal n e d) refl z).1 ∙ agree a t u
        ∙ sym (ap (λ (x : List ℕ). sheet_at x a) (division_not n e d' (division_refusal n e d) (sym refusal_same) z).1))

  -- 3, 7 and 15 of the edit alone

  told_early : network_refusal n ≡ 0 → (d : List ℕ) → T (naming_none (division_answer n e d).refusal)
      → (m : Timetable) × T (naming_none (refusal n e m))
  unfolding division_refusal divided_answer answer
  told_early good d t = by_value (eqb (division_refusal n e d) 0)
      (λ b. (gather γ named (parts d), rw (division_is n e d (eqb-true (division_refusal n e d) 0 b)).0 at t))
      (λ b.
      let u : T (naming_none (division_refusal n e d)) =
      (rw (division_not n e d (division_refusal n e d) refl (eqb-false (division_refusal n e d) 0 b)).0 at t) in
      let (same, z) = early_said (eqb (length d) 49152) (early_refusal n e) (named_good n e d) u in
      (nothing_placed, rw (early_same n good e nothing_placed z, ← same) u))

  none_named : network_refusal n ≡ 0 → (d : List ℕ) → T (naming_none (division_answer n e d).refusal)
      → (a : ℕ) → ¬ T (named a)
  none_named good d t a u =
      let (m, v) = told_early good d t in
      let (k, q, w) = named_group n γ e a u in
      names_none n e m v k w

  -- pages

  sheet_page : (sheet : List ℕ) (k : Station) → T (station_ok k) → ¬ T (names n e k) → page_at (sheet_after n e sheet) k ≡ page_at sheet k
  unfolding sheet_refusal
  sheet_page sheet k s away = by_value (eqb (sheet_refusal n e sheet) 0)
      (λ b.
      let r : sheet_refusal n e sheet ≡ 0 = eqb-true (sheet_refusal n e sheet) 0 b in
      let p = call_passed (eqb (length sheet) 8192) (early_refusal n e) (good_sheet n (listed n) sheet) 0 r in
      let good : network_refusal n ≡ 0 = (early_facts n e p.1).network in
      let size : length sheet ≡ 8192 = eqb-true (length sheet) 8192 p.0 in
      let fine : T (good_sheet n (listed n) sheet) = true_T (good_sheet n (listed n) sheet) p.2 in
      let later : Timetable = after n e (decode_sheet sheet) in
      ap (λ (x : List ℕ). page_at x k) (sheet_is n e sheet r).1
      ∙ encoded_page later (λ j u. good_all_coded n (listed n) (listed_ok n good) later (whole_later n good sheet size fine e) j) k s
      ∙ ap encode_page (others_kept n e (decode_sheet sheet) k away) ∙ sym (page_of n good sheet size fine k s))
      (λ b. ap (λ (x : List ℕ). page_at x k) (sheet_not n e sheet (sheet_refusal n e sheet) refl (eqb-false (sheet_refusal n e sheet) 0 b)).1)

  -- of a named area's sheet
  module _ (d : List ℕ) (r : division_refusal n e d ≡ 0) (a : ℕ) (t : T (area_number a)) (q : named a ≡ true) (k : Station) (s : T (station_ok k)) where
    page_left : page_at (encode_sheet (divided_after n γ e (parts d) a)) k ≡ encode_page (if in_group γ a k then after n e (gather γ named (parts d)) k else empty)
    unfolding divided_after divide
    page_left = rw q (encoded_page (λ j. if in_group γ a j then after n e (gather γ named (parts d)) j else empty) (λ j u. coded j (in_group γ a j)) k s)
      where
        coded : (j : Station) (b : Bool) → Coded (if b then after n e (gather γ named (parts d)) j else empty)
        coded j true = good_all_coded n (listed n) (listed_ok n (good_of d r)) (after n e (gather γ named (parts d))) (later_whole d r) j
        coded j false = empty_coded

    page_inside : ¬ T (names n e k) → in_group γ a k ≡ true → encode_page (after n e (gather γ named (parts d)) k) ≡ page_at (sheet_at d a) k
    unfolding in_group gather merge parts
    page_inside away y =
        let g = true_T (ltb 0 a && eqb a (γ k)) y in
        let area : a ≡ γ k = eqb→eq a (γ k) (and_r (ltb 0 a) (eqb a (γ k)) g) in
        let l : T (listed n k) = in_listed n (good_of d r) a k g in
        let own : (listed n k && (ltb 0 a && eqb a (γ k))) ≡ true = rw (T_true (listed n k) l, y) in
        let held : gather γ named (parts d) k ≡ decode_sheet (sheet_at d a) k =
        rw (← area) (rw (q, T_true (ltb 0 a) (and_l (ltb 0 a) (eqb a (γ k)) g))) in
        ap encode_page (others_kept n e (gather γ named (parts d)) k away ∙ held ∙ decoded_page (sheet_at d a) k s)
        ∙ sym (good_bytes n k (page_at (sheet_at d a) k) (page_good n (over n (good_of d r) a) (sheet_at d a) (area_fine d r a t q) k s own))

    page_outside : in_group γ a k ≡ false → encode_page empty ≡ page_at (sheet_at d a) k
    page_outside y =
        let none : (listed n k && in_group γ a k) ≡ false = by_value (listed n k) (λ l. rw (l, y)) (λ l. rw l) in
        blank_page ∙ sym (page_zeros n (over n (good_of d r) a) (sheet_at d a) (area_fine d r a t q) k s (sheet_size d a (size_of d r) t) none)

    page_kept : ¬ T (names n e k) → page_at (encode_sheet (divided_after n γ e (parts d) a)) k ≡ page_at (sheet_at d a) k
    page_kept away = page_left ∙ by_value (in_group γ a k) (λ y. rw y (page_inside away y)) (λ y. rw y (page_outside y))

  division_page : (d : List ℕ) (a : ℕ) → T (area_number a) → (k : Station) → T (station_ok k) → ¬ T (names n e k)
      → page_at (sheet_at (division_after n e d) a) k ≡ page_at (sheet_at d a) k
  division_page d a t k s away = by_value (eqb (division_refusal n e d) 0)
      (λ b.
      let r : division_refusal n e d ≡ 0 = eqb-true (division_refusal n e d) 0 b in
      ap (λ (x : List ℕ). page_at x k) (taken_sheet d r a t) ∙ by_value (named a) (λ q. rw q (page_kept d r a t q k s away)) (λ q. rw q))
      (λ b. ap (λ (x : List ℕ). page_at (sheet_at x a) k) (division_not n e d (division_refusal n e d) refl (eqb-false (division_refusal n e d) 0 b)).1)

pub pages_are_local : PagesAreLocal
pages_are_local n e = record {
  of_sheet = sheet_page n e;
  of_division = λ d a t k s away. division_page n e d a.0 t k s away;
}

pub edits_are_local : EditsAreLocal
edits_are_local n e = record {
  same_answer = λ d d' size size' agree. answer_same n e d d' size size' (λ a t u. agree (record { 0 = a }) t u);
  same_change = λ d d' size size' agree a t u. sheet_same n e d d' size size' (λ c v w. agree (record { 0 = c }) v w) a.0 t u;
  others_kept = λ d a t u. others n e d a.0 t (T_false (names_group n (area_of n) e a.0) u);
  same_length = same_length n e;
  names_none = none_named n e;
}

-- the named sheets alone

pub named_sheets_suffice : NamedSheetsSuffice
unfolding lent named_alone
named_sheets_suffice n e d size = record {
  same_answer = (edits_are_local n e).same_answer (named_alone n e d) d whole size agree;
  same_sheets = (edits_are_local n e).same_change (named_alone n e d) d whole size agree;
  others_empty = λ a t u. (edits_are_local n e).others_kept (named_alone n e d) a t u ∙ sheet a.0 t ∙ rw (T_false (names_group n (area_of n) e a.0) u);
}
  where
    wide : (a : ℕ) → T (area_number a) → length (lent n e d a) ≡ 8192
    wide a t = by_value (names_group n (area_of n) e a) (λ q. rw q (sheet_size d a size t)) (λ q. rw q (length-replicate {A = ℕ} 8192 0))

    whole : length (named_alone n e d) ≡ 49152
    whole = division_size (lent n e d) wide

    sheet : (a : ℕ) → T (area_number a) → sheet_at (named_alone n e d) a ≡ lent n e d a
    sheet a t = sheet_in (lent n e d) wide a t

    agree : Agree n e (named_alone n e d) d
    agree a t u = sheet a.0 t ∙ rw (T_true (names_group n (area_of n) e a.0) u)
