-- What the code's tests say of a call: the areas whose sheets it tests are those that the edit names, so that what it
-- asks of them is what the definition asks; and the refusals that it meets, in its order, are the definition's. Assumes
-- nothing.
use Prim.Native.Nat.{ℕ}
use mathlib.Core.Path.{◌≡◌, refl, sym, ◌∙◌, ap, ap₂}
use mathlib.Core.Bool.{Bool, true, not, ◌&&◌, ◌||◌}
use mathlib.Core.List.{List, [], ◌∷◌}
use lib.Dec.{T, leb, eqb, leb→le, eqb_refl}
use lib.ListN.{length}
use borrow.Author.Tests.{eqb-true, eqb-false, eq-eqb, ne_eqb}
use Rattle.base.specs.Choice.{◌if◌else◌}
use Rattle.std.specs.Prelude.{if◌then◌else◌, Result, Ok, Err, MatchResult}
use Rattle.base.specs.RefusalNumbers.{number_of, refusal_number}
use Rattle.base.specs.declared.refusal.Refusal.{Refusal}
use Rattle.timetable.proofs.OutputLaws.{number_there}
use Rattle.base.specs.Lists.{any, every}
use Rattle.base.proofs.Tests.{by_value, held, T_true, true_T, and_l, or_l, or_r, every_head, every_tail}
use Rattle.railway.specs.Ranges.{same_station}
use Rattle.network.specs.Networks.{stations_of, listed, area_of, network_refusal}
use Rattle.timetable.specs.Machine.{Meaning, local, throughout, meaning, known, sound, edit_refusal}
use Rattle.timetable.specs.Refusals.{or_else, early, call_refusal}
use Rattle.timetable.specs.Groups.{six, reaches, names, names_group, in_group}
use Rattle.timetable.proofs.RefusalLaws as laws
use Rattle.timetable.proofs.RefusalLaws.{or_first, or_later, or_passed, early_not, early_only}
use Rattle.actions.specs.between.Shapes.{touches}
use Rattle.actions.specs.Early.{fits_network, unknown_refusal, early_refusal}
use Rattle.actions.proofs.EarlyLaws.{Early, early_facts}
use Rattle.sheet.specs.Sheets.{good_sheet, sheet_at}
use Rattle.sheet.specs.between.Passes.{covers, sheet_passes}
use Rattle.sheet.specs.declared.test.Extent.{Extent}
use Rattle.sheet.proofs.PassLaws.{over_all, over_own}
use Rattle.sheet.proofs.SheetLaws.{area_number, sheet_size, all_areas}
use Rattle.railway.specs.declared.sorts.Station.{Station}
use Rattle.railway.specs.declared.edit.Edit.{Edit}
use Rattle.network.specs.declared.Network.{Network}
use Rattle.machine.specs.Calls.{refused_with, sheet_refusal, sheet_answer, sheet_after}
use Rattle.machine.specs.Calls.{named_good, division_refusal, division_answer, division_after}
use Rattle.page_edits.specs.between.PageEdits.{bytes_of, frames_answer, frames_after}
use Rattle.page_edits.specs.declared.Layout.{Layout}
use Rattle.named_sheets.specs.between.Named.{touches_at, touches_area, area_passes, named_pass, named_refusal}
use Rattle.machine.proofs.ByteEdits.{call_good}
use Rattle.machine.proofs.EditCalls.{sheet_answers, sheet_bytes, division_answers, division_bytes, sheet_is, division_is, sheet_not, division_not}
use Rattle.edit_calls.specs.between.Layouts.{call_answer, call_after, call_refused, sheets_refusal}

-- the areas that the code tests are those that the edit names

any_among : (f g : Station → Bool) (ss : List Station) → ((k : Station) → T (any (same_station k) ss) → f k ≡ g k) → any f ss ≡ any g ss
unfolding any
any_among f g [] h = refl
any_among f g (s ∷ ss) h =
    ap₂ (λ (x y : Bool). x || y)
    (h s (or_l (same_station s s) (any (same_station s) ss) (eqb_refl s.0)))
    (any_among f g ss (λ k r. h k (or_r (same_station k s) (any (same_station k) ss) r)))

every_agree : (f g ok : ℕ → Bool) → ((x : ℕ) → T (ok x) → f x ≡ g x) → (xs : List ℕ) → T (every ok xs) → every f xs ≡ every g xs
unfolding every
every_agree f g ok h [] t = refl
every_agree f g ok h (x ∷ xs) t = ap₂ (λ (a b : Bool). a && b) (h x (every_head ok x xs t)) (every_agree f g ok h xs (every_tail ok x xs t))

touched_reached : (n : Network) (k : Station) → T (listed n k) → (μ : Meaning) → T (fits_network n μ) → touches μ k ≡ reaches n μ k
unfolding touches reaches fits_network
touched_reached n k l (local a) f = sym (rw (T_true (known n a) f))
touched_reached n k l (throughout t) f = sym (T_true (listed n k) l)

is_listed : (n : Network) (k : Station) → T (any (same_station k) (stations_of n)) → T (listed n k)
unfolding listed
is_listed n k t = t

module _ (n : Network) (e : Edit) (early : Early n e) where
  names_touched : (k : Station) → T (listed n k) → touches (meaning e) k ≡ names n e k
  unfolding names
  names_touched k l = rw (T_true (sound e) early.ok) (touched_reached n k l (meaning e) early.fits)

  pub area_named : (a : ℕ) → touches_area n e a ≡ names_group n (area_of n) e a
  unfolding touches_area touches_at names_group
  area_named a =
      any_among (λ s. eqb a (area_of n s) && touches (meaning e) s) (λ s. eqb a (area_of n s) && names n e s) (stations_of n)
      (λ k l. ap (λ (b : Bool). eqb a (area_of n k) && b) (names_touched k (is_listed n k l)))

  pub named_same : (division : List ℕ) → length division ≡ 49152 → named_pass n e division ≡ named_good n e division
  unfolding named_pass named_good area_passes sheet_passes
  named_same division size = rw (eq-eqb (length division) 49152 size) (every_agree
      (λ a. if touches_area n e a then eqb (length (sheet_at division a)) 8192 && good_sheet n (covers n (Extent.Of (record { 0 = a }))) (sheet_at division a) else true)
      (λ a. not (names_group n (area_of n) e a) || good_sheet n (λ k. listed n k && in_group (area_of n) a k) (sheet_at division a))
      area_number each six all_areas)
    where
      each : (a : ℕ) → T (area_number a)
          → (if touches_area n e a then eqb (length (sheet_at division a)) 8192 && good_sheet n (covers n (Extent.Of (record { 0 = a }))) (sheet_at division a) else true)
          ≡ (not (names_group n (area_of n) e a) || good_sheet n (λ k. listed n k && in_group (area_of n) a k) (sheet_at division a))
      each a t =
          rw (area_named a, eq-eqb (length (sheet_at division a)) 8192 (sheet_size division a size t), over_own n (record { 0 = a }) (leb→le 1 a (and_l (leb 1 a) (leb a 6) t)))
          (by_value (names_group n (area_of n) e a) (λ q. rw q) (λ q. rw q))

-- what the code's tests say of a call

-- an edit that nothing refuses under a good network is refused early as its network is
module _ (n : Network) (e : Edit) where
  pub refused_early : ¬ (early (edit_refusal e) 0 (unknown_refusal n e) ≡ 0) → ¬ (early_refusal n e ≡ 0)
  unfolding early_refusal
  refused_early = early_not (edit_refusal e) (network_refusal n) (unknown_refusal n e)

  -- and the first that refuses it so is its early refusal
  pub told_early : (u : Result Unit Refusal) (a : Refusal) → u ≡ Err a → refusal_number u ≡ early (edit_refusal e) 0 (unknown_refusal n e)
      → (r : Result Unit Refusal) → refusal_number r ≡ early_refusal n e
      → MatchResult r (λ x. early (edit_refusal e) 0 (unknown_refusal n e) ≡ 0) (λ b. number_of b ≡ early_refusal n e)
  told_early u a q p (Ok x) s = absurd (refused_early (λ z. number_there a (rw q at p ∙ z)) (sym s))
  told_early u a q p (Err b) s = s

  early_network_only : early (edit_refusal e) 0 (unknown_refusal n e) ≡ 0 → early_refusal n e ≡ network_refusal n
  unfolding early_refusal
  early_network_only = early_only (edit_refusal e) (network_refusal n) (unknown_refusal n e)

  -- so a call is refused as its network and its sheets are, where what is asked of them is what the call asks
  call_under : (fits good pass : Bool) → fits ≡ true → early (edit_refusal e) 0 (unknown_refusal n e) ≡ 0 → (early_refusal n e ≡ 0 → pass ≡ good)
      → call_refusal fits (early_refusal n e) good 0 ≡ or_else (network_refusal n) (6 if not pass else 0)
  unfolding call_refusal
  call_under fits good pass f h same =
      rw f (by_value (eqb (early_refusal n e) 0)
      (λ t. let z = eqb-true (early_refusal n e) 0 t in
      or_later (early_refusal n e) (6 if not good else 0) z ∙ ap (λ (b : Bool). 6 if not b else 0) (sym (same z))
      ∙ sym (or_later (network_refusal n) (6 if not pass else 0) (sym (early_network_only h) ∙ z)))
      (λ t. let z = eqb-false (early_refusal n e) 0 t in
      or_first (early_refusal n e) (6 if not good else 0) z ∙ early_network_only h
      ∙ sym (or_first (network_refusal n) (6 if not pass else 0) (λ y. z (early_network_only h ∙ y)))))

  passed_under : (pass : Bool) (k : ℕ) → early (edit_refusal e) 0 (unknown_refusal n e) ≡ 0 → k ≡ or_else (network_refusal n) (6 if not pass else 0) → k ≡ 0
      → (early_refusal n e ≡ 0) × (pass ≡ true)
  passed_under pass k h q z =
      let x = or_passed (network_refusal n) (6 if not pass else 0) (sym q ∙ z) in
      (early_network_only h ∙ x.0, T_true pass (held 5 pass 0 x.1))

module _ (n : Network) (e : Edit) (sheet : List ℕ) where
  pub sheet_short : ¬ (length sheet ≡ 8192) → sheet_refusal n e sheet ≡ 5
  unfolding sheet_refusal
  sheet_short h = laws.call_short (eqb (length sheet) 8192) (early_refusal n e) (good_sheet n (listed n) sheet) 0 (ne_eqb (length sheet) 8192 h)

  module _ (size : length sheet ≡ 8192) where
    pub sheet_early : (k : ℕ) → k ≡ early_refusal n e → ¬ (k ≡ 0) → sheet_refusal n e sheet ≡ k
    unfolding sheet_refusal
    sheet_early k q z =
        laws.call_early (eqb (length sheet) 8192) (early_refusal n e) (good_sheet n (listed n) sheet) 0 (eq-eqb (length sheet) 8192 size) (λ r. z (q ∙ r)) ∙ sym q

    passes_good : sheet_passes n Extent.Whole sheet ≡ good_sheet n (listed n) sheet
    unfolding sheet_passes
    passes_good = rw (eq-eqb (length sheet) 8192 size, over_all n)

    pub sheet_late : early (edit_refusal e) 0 (unknown_refusal n e) ≡ 0 → (k : ℕ)
        → k ≡ or_else (network_refusal n) (6 if not (sheet_passes n Extent.Whole sheet) else 0) → sheet_refusal n e sheet ≡ k
    unfolding sheet_refusal
    sheet_late h k q =
        call_under n e (eqb (length sheet) 8192) (good_sheet n (listed n) sheet) (sheet_passes n Extent.Whole sheet) (eq-eqb (length sheet) 8192 size) h (λ z. passes_good) ∙ sym q

    sheet_call : early_refusal n e ≡ 0 → sheet_passes n Extent.Whole sheet ≡ true
        → (frames_answer Layout.Sheet n e sheet ≡ sheet_answer n e sheet) × (frames_after Layout.Sheet n e sheet ≡ sheet_after n e sheet)
    unfolding sheet_refusal
    sheet_call q r =
        let early = early_facts n e q in
        let g : good_sheet n (listed n) sheet ≡ true = sym passes_good ∙ r in
        let fine = true_T (good_sheet n (listed n) sheet) g in
        let z : sheet_refusal n e sheet ≡ 0 =
        call_good (eqb (length sheet) 8192) (early_refusal n e) (good_sheet n (listed n) sheet) (eq-eqb (length sheet) 8192 size) g ∙ q in
        (sheet_answers n e early sheet size fine ∙ sym (sheet_is n e sheet z).0, sheet_bytes n e early sheet size fine ∙ sym (sheet_is n e sheet z).1)

    pub sheet_made : early (edit_refusal e) 0 (unknown_refusal n e) ≡ 0 → (k : ℕ)
        → k ≡ or_else (network_refusal n) (6 if not (sheet_passes n Extent.Whole sheet) else 0) → k ≡ 0
        → (frames_answer Layout.Sheet n e sheet ≡ sheet_answer n e sheet) × (frames_after Layout.Sheet n e sheet ≡ sheet_after n e sheet)
    sheet_made h k q z = let x = passed_under n e (sheet_passes n Extent.Whole sheet) k h q z in sheet_call x.0 x.1

module _ (n : Network) (e : Edit) (division : List ℕ) where
  pub division_short : ¬ (length division ≡ 49152) → division_refusal n e division ≡ 5
  unfolding division_refusal
  division_short h = laws.call_short (eqb (length division) 49152) (early_refusal n e) (named_good n e division) 0 (ne_eqb (length division) 49152 h)

  module _ (size : length division ≡ 49152) where
    pub division_early : (k : ℕ) → k ≡ early_refusal n e → ¬ (k ≡ 0) → division_refusal n e division ≡ k
    unfolding division_refusal
    division_early k q z =
        laws.call_early (eqb (length division) 49152) (early_refusal n e) (named_good n e division) 0 (eq-eqb (length division) 49152 size) (λ r. z (q ∙ r)) ∙ sym q

    pub division_late : early (edit_refusal e) 0 (unknown_refusal n e) ≡ 0 → (k : ℕ) → k ≡ named_refusal n e division → division_refusal n e division ≡ k
    unfolding division_refusal named_refusal
    division_late h k q =
        call_under n e (eqb (length division) 49152) (named_good n e division) (named_pass n e division) (eq-eqb (length division) 49152 size) h
        (λ z. named_same n e (early_facts n e z) division size)
        ∙ sym q

    pub division_call : early_refusal n e ≡ 0 → named_pass n e division ≡ true
        → (frames_answer Layout.Division n e division ≡ division_answer n e division) × (frames_after Layout.Division n e division ≡ division_after n e division)
    unfolding division_refusal
    division_call q r =
        let early = early_facts n e q in
        let g : named_good n e division ≡ true = sym (named_same n e early division size) ∙ r in
        let fine = true_T (named_good n e division) g in
        let z : division_refusal n e division ≡ 0 =
        call_good (eqb (length division) 49152) (early_refusal n e) (named_good n e division) (eq-eqb (length division) 49152 size) g ∙ q in
        (division_answers n e early division size fine ∙ sym (division_is n e division z).0, division_bytes n e early division size fine ∙ sym (division_is n e division z).1)

    pub division_made : early (edit_refusal e) 0 (unknown_refusal n e) ≡ 0 → (k : ℕ) → k ≡ named_refusal n e division → k ≡ 0
        → (frames_answer Layout.Division n e division ≡ division_answer n e division) × (frames_after Layout.Division n e division ≡ division_after n e division)
    unfolding named_refusal
    division_made h k q z = let x = passed_under n e (named_pass n e division) k h q z in division_call x.0 x.1

-- by how the pages lie
module _ (layout : Layout) (n : Network) (e : Edit) (b : List ℕ) where
  pub call_not : (k : ℕ) → call_refused layout n e b ≡ k → ¬ (k ≡ 0) → (call_answer layout n e b ≡ refused_with k) × (call_after layout n e b ≡ b)
  call_not = go layout
    where
      go : (l : Layout) (k : ℕ) → call_refused l n e b ≡ k → ¬ (k ≡ 0) → (call_answer l n e b ≡ refused_with k) × (call_after l n e b ≡ b)
      go Layout.Sheet k q z = sheet_not n e b k q z
      go Layout.Division k q z = division_not n e b k q z

  pub call_short : ¬ (length b ≡ bytes_of layout) → call_refused layout n e b ≡ 5
  call_short = go layout
    where
      go : (l : Layout) → ¬ (length b ≡ bytes_of l) → call_refused l n e b ≡ 5
      go Layout.Sheet h = sheet_short n e b h
      go Layout.Division h = division_short n e b h

  module _ (size : length b ≡ bytes_of layout) where
    pub call_early : (k : ℕ) → k ≡ early_refusal n e → ¬ (k ≡ 0) → call_refused layout n e b ≡ k
    call_early = go layout size
      where
        go : (l : Layout) → length b ≡ bytes_of l → (k : ℕ) → k ≡ early_refusal n e → ¬ (k ≡ 0) → call_refused l n e b ≡ k
        go Layout.Sheet s k q z = sheet_early n e b s k q z
        go Layout.Division s k q z = division_early n e b s k q z

    module _ (h : early (edit_refusal e) 0 (unknown_refusal n e) ≡ 0) (k : ℕ) (q : k ≡ sheets_refusal layout n e b) where
      pub call_late : call_refused layout n e b ≡ k
      unfolding sheets_refusal
      call_late = go layout size q
        where
          go : (l : Layout) → length b ≡ bytes_of l → k ≡ sheets_refusal l n e b → call_refused l n e b ≡ k
          go Layout.Sheet s q = sheet_late n e b s h k q
          go Layout.Division s q = division_late n e b s h k q

      pub call_made : k ≡ 0 → (frames_answer layout n e b ≡ call_answer layout n e b) × (frames_after layout n e b ≡ call_after layout n e b)
      unfolding sheets_refusal
      call_made z = go layout size q
        where
          go : (l : Layout) → length b ≡ bytes_of l → k ≡ sheets_refusal l n e b → (frames_answer l n e b ≡ call_answer l n e b) × (frames_after l n e b ≡ call_after l n e b)
          go Layout.Sheet s q = sheet_made n e b s h k q z
          go Layout.Division s q = division_made n e b s h k q z
