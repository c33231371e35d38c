-- A row of slots on a page: what a search by a test of a record's bytes finds there, and what a record put in before
-- the place, written over it or taken out of it leaves. Then that on the row of the visits and that of the relations
-- these are the functions on pages. Assumes nothing.
use Rattle.std.proofs.Common.{ℕ, ◌+◌, ◌*◌, ◌-◌, ◌≤◌, ◌<◌, min, Bool, true, false, List, length, get_or, take, drop, ◌≡◌, refl, sym, ◌∙◌, ap, arith, Some, None}
use lib.ListN.{length-drop}
use lib.Seq.{take_all}
use lib.Dec.{ltb, leb, eqb}
use borrow.Author.Tests.{eq-eqb, ne_eqb, eqb-true, leb-true, ltb-true}
use Rattle.std.specs.Bool.{then_some}
use Rattle.std.specs.Prelude.{if◌then◌else◌}
use Rattle.base.proofs.Tests.{true_T, T_true, and_l, and_r}
use Rattle.records.specs.Bytes.{splice}
use Rattle.page.specs.declared.slots.Slots.{Slots}
use Rattle.page.specs.Pages.{records_of}
use Rattle.page.specs.between.Changes.{index_of, found, with_record, without_record, counts_to}
use Rattle.page.specs.between.Slots.{records_in, count_in, place_in, found_in, added, moved_by, written, removed}
use Rattle.page.proofs.RecordsPut.{counts_short, counts_over, counts_few}

pub then_found : (i n : ℕ) → then_some (ltb i n) i ≡ found i n
unfolding found
then_found i n = go (ltb i n)
  where
    go : (b : Bool) → then_some b i ≡ (if b then Some i else None)
    go true = refl
    go false = refl

module _ (s : Slots) (p : List ℕ → Bool) (page : List ℕ) where
  pub sought_short : ¬ (length page ≡ 512) → None ≡ found_in s p page
  unfolding found_in
  sought_short n = sym (rw (ne_eqb (length page) 512 n))

  -- the records of the rest of a page from the row on
  rest : take (length page - s.from) (drop s.from page) ≡ drop s.from page
  rest = take_all (length page - s.from) (drop s.from page) (omega (arith, length-drop s.from page))

  count_whole : (n : ℕ) → length page ≡ 512 → n ≡ count_in s page → n ≡ min (get_or page s.head 0) s.most
  unfolding count_in
  count_whole n e c = c ∙ rw (eq-eqb (length page) 512 e)

  pub sought : (i n : ℕ) → length page ≡ 512 → n ≡ count_in s page → i ≡ index_of p (records_of n (take (length page - s.from) (drop s.from page)))
      → found i n ≡ found_in s p page
  unfolding found_in place_in records_in
  sought i n e c d = sym (rw (eq-eqb (length page) 512 e, d, rest, count_whole n e c))

  pub sought_inside : (i n k : ℕ) → length page ≡ 512 → n ≡ count_in s page → found i n ≡ Some k → k < min (get_or page s.head 0) s.most
  unfolding found
  sought_inside i n k e c w = go (ltb i n) refl w
    where
      go : (b : Bool) → ltb i n ≡ b → (if b then Some i else None) ≡ Some k → k < min (get_or page s.head 0) s.most
      go true q w = let same : i ≡ k = cc in omega (arith, ltb-true i n q, count_whole n e c)
      go false q w = absurd (let z : ◌≡◌ {A = ℕ} 0 1 = cc in omega arith)

  pub sound : counts_to s.head s.most page ≡ true → (length page ≡ 512) × (get_or page s.head 0 ≤ s.most)
  unfolding counts_to
  sound q =
      let t = true_T _ q in
      (eqb-true _ _ (T_true _ (and_l (eqb (length page) 512) (leb (get_or page s.head 0) s.most) t)), leb-true _ _ (T_true _ (and_r (eqb (length page) 512) (leb (get_or page s.head 0) s.most) t)))

  -- what was found on a page that counts no more than there is room for, and what was not
  module _ (q : counts_to s.head s.most page ≡ true) where
    counted : min (get_or page s.head 0) s.most ≡ get_or page s.head 0
    counted = omega (arith, (sound q).1)

    pub found_place : (i : ℕ) → Some i ≡ found_in s p page → (place_in s p page ≡ i) × (ltb i (get_or page s.head 0) ≡ true)
    unfolding found_in found
    found_place i w = go (ltb (place_in s p page) (get_or page s.head 0)) refl (w ∙ rw (eq-eqb (length page) 512 (sound q).0, counted))
      where
        go : (b : Bool) → ltb (place_in s p page) (get_or page s.head 0) ≡ b → Some i ≡ (if b then Some (place_in s p page) else None)
            → (place_in s p page ≡ i) × (ltb i (get_or page s.head 0) ≡ true)
        go true e w = let same : place_in s p page ≡ i = cc in (same, ap (λ (k : ℕ). ltb k (get_or page s.head 0)) (sym same) ∙ e)
        go false e w = absurd (let z : ◌≡◌ {A = ℕ} 0 1 = cc in omega arith)

    pub found_nowhere : None ≡ found_in s p page → ltb (place_in s p page) (get_or page s.head 0) ≡ false
    unfolding found_in found
    found_nowhere w = go (ltb (place_in s p page) (get_or page s.head 0)) refl (w ∙ rw (eq-eqb (length page) 512 (sound q).0, counted))
      where
        go : (b : Bool) → ltb (place_in s p page) (get_or page s.head 0) ≡ b → None ≡ (if b then Some (place_in s p page) else None)
            → ltb (place_in s p page) (get_or page s.head 0) ≡ false
        go true e w = absurd (let z : ◌≡◌ {A = ℕ} 0 1 = cc in omega arith)
        go false e w = e

  -- a record put in

  pub added_short : (r : List ℕ) → ¬ (length page ≡ 512) → (0 ≡ moved_by s p page) × (page ≡ added s p r page)
  unfolding added moved_by
  added_short r n = let e = counts_short s.head (s.most - 1) page n in (rw e, rw e)

  pub added_over : (r : List ℕ) (n : ℕ) → length page ≡ 512 → n ≡ get_or page s.head 0 → s.most - 1 < n → (0 ≡ moved_by s p page) × (page ≡ added s p r page)
  unfolding added moved_by
  added_over r n e c l = let o = counts_over s.head (s.most - 1) page n e c l in (rw o, rw o)

  pub added_done : (r new : List ℕ) (i n m : ℕ) → length page ≡ 512 → n ≡ get_or page s.head 0 → n ≤ s.most - 1
      → i ≡ index_of p (records_of n (take (length page - s.from) (drop s.from page))) → m ≡ n - i → new ≡ with_record s.head s.from i r page
      → (m ≡ moved_by s p page) × (new ≡ added s p r page)
  unfolding added moved_by place_in records_in
  added_done r new i n m e c l d f g =
      let few = counts_few s.head (s.most - 1) page n e c l in
      let many : min (get_or page s.head 0) s.most ≡ n = omega arith in
      let there : index_of p (records_of (min (get_or page s.head 0) s.most) (drop s.from page)) ≡ i = ap (λ (k : ℕ). index_of p (records_of k (drop s.from page))) many ∙ sym (d ∙ rw rest) in
      (f ∙ sym (rw (few, there, c)), g ∙ sym (rw (few, there)))

  -- a record written over, and one taken out

  pub written_off : (r : List ℕ) → counts_to s.head s.most page ≡ false → page ≡ written s p r page
  unfolding written
  written_off r q = rw q

  pub removed_off : counts_to s.head s.most page ≡ false → page ≡ removed s p page
  unfolding removed
  removed_off q = rw q

  module _ (q : counts_to s.head s.most page ≡ true) where
    pub written_none : (r : List ℕ) → None ≡ found_in s p page → page ≡ written s p r page
    unfolding written
    written_none r w = rw (q, found_nowhere q w)

    pub removed_none : None ≡ found_in s p page → page ≡ removed s p page
    unfolding removed
    removed_none w = rw (q, found_nowhere q w)

    pub written_done : (r new : List ℕ) (i : ℕ) → Some i ≡ found_in s p page → new ≡ splice (s.from + 16 * i) r page → new ≡ written s p r page
    unfolding written
    written_done r new i w e = let f = found_place q i w in e ∙ sym (rw (q, f.0, f.1))

    pub removed_done : (new : List ℕ) (i : ℕ) → Some i ≡ found_in s p page → new ≡ without_record s.head s.from i page → new ≡ removed s p page
    unfolding removed
    removed_done new i w e = let f = found_place q i w in e ∙ sym (rw (q, f.0, f.1))
