-- Two lists woven in place. What is written and what is still to be woven make up the goal; each turn skips, moves or
-- puts one finding, and leaves that so; at the end nothing of the list is left, so what is redone stands where it
-- belongs. Assumes nothing.
use Prim.Native.Nat.{ℕ, suc, ◌+◌, ◌-◌, ◌%◌, ◌<◌, ◌≤◌}
use mathlib.Core.Path.{◌≡◌, refl, sym, ◌∙◌, ap, ap₂}
use mathlib.Core.Bool.{Bool, true, false, ◌&&◌}
use mathlib.Core.List.{List, [], ◌∷◌, ◌++◌, append_assoc, append-nil, flat_map}
use native.Mathlib.Numerals.{add-one}
use native.Mathlib.Omega.{arith}
use lib.Dec.{leb, leb→le}
use lib.ListN.{length, take, drop, get_or, set, length-set, length-take, length-drop, take-append-drop}
use native.Mathlib.Nat.{add-sub_cancel_left}
use lib.Seq.{paste, take-append-add, take-add, take-suc-set, drop-drop, drop-set-lt, append_snoc}
use borrow.Author.Tests.{leb-true, leb-false}
use Rattle.base.proofs.Tests.{T_true, true_T, and_l, and_r}
use Rattle.timetable.specs.Outputs.{put}
use Rattle.timetable.specs.Findings.{finding, numbers_of, findings_in}
use Rattle.timetable.specs.Recheck.{before, leading, trailing, together}
use Rattle.timetable.proofs.BuffersFilled.{put_length}
use Rattle.scope.specs.Redone.{is_redone}
use Rattle.recheck.specs.Types.{Finding, Marks}
use Rattle.recheck.specs.between.Kept.{four_at, before_at, kept, kept_numbers, part, comes_first, list_with, CanWeave}
use Rattle.recheck.proofs.FourLaws.{finding_at, drop_four, four_cut, numbers_fours, kept_over, none_over, kept_skip, kept_stay, length_skip, length_stay}

-- numbers written from a place on: up to their end they stand behind what was there, and what is behind them stays

module _ {X : Type 0} where
  pub put_front : (at : ℕ) (xs b : List X) → at + length xs ≤ length b → take (at + length xs) (put at xs b) ≡ take at b ++ xs
  unfolding put
  put_front at [] b h = let e : at + 0 ≡ at = omega arith in rw (e, append-nil (take at b))
  put_front at (x ∷ xs) b h =
      let e : at + suc (length xs) ≡ at + 1 + length xs = omega arith in
      let one : take (at + 1) (set b at x) ≡ take at b ++ (x ∷ []) = rw (add-one at) (take-suc-set b at x (omega arith)) in
      ap (λ (n : ℕ). take n (put (at + 1) xs (set b at x))) e
      ∙ put_front (at + 1) xs (set b at x) (rw (length-set b at x) (omega arith))
      ∙ ap (λ (l : List X). l ++ xs) one
      ∙ append_snoc (take at b) x xs

  pub put_behind : (at : ℕ) (xs b : List X) (m : ℕ) → at + length xs ≤ m → drop m (put at xs b) ≡ drop m b
  unfolding put
  put_behind at [] b m h = refl
  put_behind at (x ∷ xs) b m h = put_behind (at + 1) xs (set b at x) m (omega arith) ∙ drop-set-lt m b at x (omega arith)

  -- so they are written at once
  pub put_at : (at : ℕ) (xs b : List X) → at + length xs ≤ length b → put at xs b ≡ take at b ++ (xs ++ drop (length xs) (drop at b))
  put_at at xs b h =
      sym (take-append-drop (at + length xs) (put at xs b))
      ∙ ap₂ (λ (u v : List X). u ++ v) (put_front at xs b h) (put_behind at xs b (at + length xs) (omega arith) ∙ sym (drop-drop (length xs) at b))
      ∙ append_assoc (take at b) xs (drop (length xs) (drop at b))

-- four numbers moved
pub moved : (to from : ℕ) (out : List ℕ) → to + 4 ≤ length out → from + 4 ≤ length out → paste out to (drop from out) (from + 4 - from) ≡ put to (four_at from out) out
unfolding four_at
moved to from out h k =
    rw (add-sub_cancel_left from 4, four_cut from out k)
    (append_assoc (take to out) (four_at from out) (drop (to + 4) out)
    ∙ ap (λ (r : List ℕ). take to out ++ (four_at from out ++ r)) (sym (drop-drop 4 to out)) ∙ sym (put_at to (four_at from out) out h))

-- one step of two lists as one

pub together_first : (f g : Finding) (fs gs : List Finding) → before g f ≡ true → together (f ∷ fs) (g ∷ gs) ≡ g ∷ together (f ∷ fs) gs
unfolding together leading trailing
together_first f g fs gs e = rw e

pub together_next : (f g : Finding) (fs gs : List Finding) → before g f ≡ false → together (f ∷ fs) (g ∷ gs) ≡ f ∷ together fs (g ∷ gs)
unfolding together leading trailing
together_next f g fs gs e = rw e

pub together_alone : (f : Finding) (fs : List Finding) → together (f ∷ fs) [] ≡ f ∷ together fs []
unfolding together leading trailing
together_alone f fs = refl

-- the numbers from one place up to another: the next four; and the redone numbers that are left: the next four, or none

pub part_four : (from end : ℕ) (out : List ℕ) → from + 4 ≤ end → end ≤ length out → part from end out ≡ four_at from out ++ part (from + 4) end out
unfolding four_at
part_four from end out h k =
    let e : end - from ≡ 4 + (end - (from + 4)) = omega arith in
    ap (take (end - from)) (drop_four from out (omega arith))
    ∙ ap (λ (n : ℕ). take n (four_at from out ++ drop (from + 4) out)) e
    ∙ take-append-add (four_at from out) (drop (from + 4) out) (end - (from + 4))

left_next : (from end : ℕ) (out : List ℕ) → from + 4 ≤ end → end ≤ length out → findings_in (part from end out) ≡ finding_at from out ∷ findings_in (part (from + 4) end out)
unfolding findings_in four_at
left_next from end out h k = ap findings_in (part_four from end out h k)

left_none : (from end : ℕ) (out : List ℕ) → from ≤ end → end < from + 4 → (end - from) % 4 ≡ 0 → part from end out ≡ []
left_none from end out h k z = let e : end - from ≡ 0 = omega arith in rw e

left_same : (from end to : ℕ) (xs out : List ℕ) → to + length xs ≤ from → part from end (put to xs out) ≡ part from end out
left_same from end to xs out h = ap (take (end - from)) (put_behind to xs out from h)

-- a redone finding that comes first is left
pub first_left : (from end : ℕ) (out : List ℕ) (i : ℕ) (list : List ℕ) → comes_first from end out i list ≡ true → from + 4 ≤ end
unfolding comes_first
first_left from end out i list c =
    leb→le (from + 4) end (and_l (leb (from + 4) end) (before_at from out i list) (true_T (comes_first from end out i list) c))

-- no redone finding is left, or the next is not before the list's
list_first : (i : ℕ) (list : List ℕ) (from end : ℕ) (out : List ℕ) (fs : List Finding) → from ≤ end → end ≤ length out → (end - from) % 4 ≡ 0
    → comes_first from end out i list ≡ false → together (finding_at i list ∷ fs) (findings_in (part from end out)) ≡ finding_at i list ∷ together fs (findings_in (part from end out))
unfolding comes_first before_at four_at finding findings_in
list_first i list from end out fs h k z c = go (leb (from + 4) end) refl c
  where
    go : (b : Bool) → leb (from + 4) end ≡ b → (b && before_at from out i list) ≡ false
        → together (finding_at i list ∷ fs) (findings_in (part from end out)) ≡ finding_at i list ∷ together fs (findings_in (part from end out))
    go true e d =
        rw (left_next from end out (leb-true (from + 4) end e) k)
        (together_next (finding_at i list) (finding_at from out) fs (findings_in (part (from + 4) end out)) d)
    go false e d =
        rw (left_none from end out h (leb-false (from + 4) end e) z) (together_alone (finding_at i list) fs)

-- a four that was to come is written
turn : (front longer four left later goal : List ℕ) → longer ≡ front ++ four → left ≡ four ++ later → front ++ left ≡ goal → longer ++ later ≡ goal
turn front longer four left later goal p q g =
    ap (λ (l : List ℕ). l ++ later) p ∙ append_assoc front four later ∙ ap (λ (l : List ℕ). front ++ l) (sym q) ∙ g

module _ (marks : Marks) (list goal rest : List ℕ) (end : ℕ) where
  -- up to `to` the goal is written; the list from i on and the redone numbers from `from` to the end are to come; and
  -- the gap between has room for what stays of the list
  pub record Weaves (i to from : ℕ) (out : List ℕ) : Type 0 where
    pub room : to + length (kept_numbers marks (drop i list)) ≡ from
    pub short : from ≤ end
    pub fits : end ≤ length out
    pub whole : (end - from) % 4 ≡ 0
    pub behind : drop end out ≡ rest
    pub so : take to out ++ numbers_of (together (kept marks (findings_in (drop i list))) (findings_in (part from end out))) ≡ goal

module _ {marks : Marks} {list goal rest : List ℕ} {end i to from : ℕ} {out : List ℕ} (w : Weaves marks list goal rest end i to from out) where
  -- nothing is left of the list
  end_front : length list < i + 4 → take end out ≡ goal
  unfolding together
  end_front h =
      let over : kept marks (findings_in (drop i list)) ≡ [] = kept_over marks i list h in
      let met : to ≡ from = omega (arith, w.room, none_over marks i list h) in
      let many : length (part from end out) % 4 ≡ 0 = simp (length-take, length-drop) (omega (arith, w.short, w.fits, w.whole)) in
      let up : to + (end - from) ≡ end = omega (arith, w.short) in
      ap (λ (n : ℕ). take n out) (sym up)
      ∙ take-add to (end - from) out
      ∙ ap (λ (n : ℕ). take to out ++ take (end - from) (drop n out)) met
      ∙ ap (λ (l : List ℕ). take to out ++ l) (sym (numbers_fours (part from end out) many))
      ∙ ap (λ (fs : List Finding). take to out ++ numbers_of (together fs (findings_in (part from end out)))) (sym over)
      ∙ w.so

  pub weaves_end : length list < i + 4 → out ≡ goal ++ rest
  weaves_end h = sym (take-append-drop end out) ∙ ap₂ (λ (a b : List ℕ). a ++ b) (end_front h) w.behind

  module _ (h : i + 4 ≤ length list) where
    pub weaves_skip : is_redone marks (get_or list i 0) (get_or list (i + 1) 0) ≡ true → Weaves marks list goal rest end (i + 4) to from out
    weaves_skip e = record {
      room = omega (arith, w.room, length_skip marks i list h e);
      short = w.short;
      fits = w.fits;
      whole = w.whole;
      behind = w.behind;
      so = ap (λ (fs : List Finding). take to out ++ numbers_of (together fs (findings_in (part from end out)))) (sym (kept_skip marks i list h e)) ∙ w.so;
    }

    module _ (e : is_redone marks (get_or list i 0) (get_or list (i + 1) 0) ≡ false) where
      stays : kept marks (findings_in (drop i list)) ≡ finding_at i list ∷ kept marks (findings_in (drop (i + 4) list))
      stays = kept_stay marks i list h e

      longer : length (kept_numbers marks (drop i list)) ≡ 4 + length (kept_numbers marks (drop (i + 4) list))
      longer = length_stay marks i list h e

      -- so there is room for it
      pub room-left : to + 4 ≤ from
      room-left = omega (arith, w.room, longer)

      -- a redone finding comes first

      move-next : comes_first from end out i list ≡ true
          → together (kept marks (findings_in (drop i list))) (findings_in (part from end out))
          ≡ finding_at from out ∷ together (kept marks (findings_in (drop i list))) (findings_in (part (from + 4) end (put to (four_at from out) out)))
      unfolding comes_first before_at four_at finding
      move-next c =
          let both = true_T (comes_first from end out i list) c in
          let first = T_true (before_at from out i list) (and_r (leb (from + 4) end) (before_at from out i list) both) in
          let same = left_same (from + 4) end to (four_at from out) out (omega (arith, w.room)) in
          ap₂ together stays (left_next from end out (first_left from end out i list c) w.fits)
          ∙ together_first (finding_at i list) (finding_at from out) (kept marks (findings_in (drop (i + 4) list))) (findings_in (part (from + 4) end out)) first
          ∙ ap₂ (λ (fs : List Finding) (l : List ℕ). finding_at from out ∷ together fs (findings_in l)) (sym stays) (sym same)

      pub weaves-move : comes_first from end out i list ≡ true → Weaves marks list goal rest end i (to + 4) (from + 4) (put to (four_at from out) out)
      unfolding four_at finding numbers_of flat_map
      weaves-move c =
          let more : from + 4 ≤ end = first_left from end out i list c in
          let written = put_front to (four_at from out) out (omega (arith, w.room, w.fits, more)) in
          record {
            room = omega (arith, w.room);
            short = more;
            fits = rw (put_length to (four_at from out) out) w.fits;
            whole = omega (arith, w.whole, more);
            behind = put_behind to (four_at from out) out end (omega (arith, w.room, more)) ∙ w.behind;
            so = turn (take to out) (take (to + 4) (put to (four_at from out) out)) (four_at from out) _ _ goal written (ap numbers_of (move-next c)) w.so;
          }

      -- the list's comes first

      put_next : comes_first from end out i list ≡ false
          → together (kept marks (findings_in (drop i list))) (findings_in (part from end out))
          ≡ finding_at i list ∷ together (kept marks (findings_in (drop (i + 4) list))) (findings_in (part from end (put to (four_at i list) out)))
      unfolding four_at
      put_next c =
          let same = left_same from end to (four_at i list) out room-left in
          ap (λ (fs : List Finding). together fs (findings_in (part from end out))) stays
          ∙ list_first i list from end out (kept marks (findings_in (drop (i + 4) list))) w.short w.fits w.whole c
          ∙ ap (λ (l : List ℕ). finding_at i list ∷ together (kept marks (findings_in (drop (i + 4) list))) (findings_in l)) (sym same)

      pub weaves-put : comes_first from end out i list ≡ false → Weaves marks list goal rest end (i + 4) (to + 4) from (put to (four_at i list) out)
      unfolding four_at finding numbers_of flat_map
      weaves-put c =
          let written = put_front to (four_at i list) out (omega (arith, room-left, w.short, w.fits)) in
          record {
            room = omega (arith, w.room, longer);
            short = w.short;
            fits = rw (put_length to (four_at i list) out) w.fits;
            whole = w.whole;
            behind = put_behind to (four_at i list) out end (omega (arith, room-left, w.short)) ∙ w.behind;
            so = turn (take to out) (take (to + 4) (put to (four_at i list) out)) (four_at i list) _ _ goal written (ap numbers_of (put_next c)) w.so;
          }

-- before the first turn
pub weaves_begin : (marks : Marks) (list : List ℕ) (k end : ℕ) (out : List ℕ) → CanWeave marks list k end out
    → Weaves marks list (list_with marks list (part k end out)) (drop end out) end 0 0 k out
unfolding list_with
weaves_begin marks list k end out c = record { room = omega (arith, c.0); short = c.1; fits = c.2; whole = c.3; behind = refl; so = refl }
