-- Sheets of areas as whole timetables: the sheet of an area, and the sheets of some areas gathered, hold good tables at
-- the stations of those areas and none elsewhere. Assumes nothing.
use Prim.Native.Nat.{ℕ}
use mathlib.Core.Path.{◌≡◌, sym, ◌∙◌, ap}
use mathlib.Core.Bool.{Bool, true, false, not, ◌&&◌}
use mathlib.Core.List.{List}
use native.Mathlib.Omega.{arith}
use lib.Dec.{T, ltb, leb, eqb, le→leb}
use lib.ListN.{length}
use borrow.Author.Tests.{ltb-true, eq-eqb}
use Rattle.std.specs.Prelude.{if◌then◌else◌}
use Rattle.base.specs.Lists.{each_two, rising, every}
use Rattle.base.proofs.Tests.{by_value, T_true, true_T, not_T_false, and_l, both}
use Rattle.network.specs.Networks.{network_refusal, listed, area_of}
use Rattle.timetable.specs.Tables.{empty}
use Rattle.timetable.specs.Groups.{Divided, in_group, merge, gather}
use Rattle.timetable.specs.Good.{Good, Whole, table_good, visits_good, relations_good}
use Rattle.sheet.specs.Sheets.{decode_sheet, good_sheet}
use Rattle.network.proofs.AreaLaws.{area_high, listed_placed, listed_ok}
use Rattle.sheet.proofs.SheetLaws.{area_number, decoded_good}
use Rattle.demands.specs.Types.{Station, Network}

bare_good : (n : Network) (k : Station) → T (table_good n k empty)
unfolding empty table_good visits_good relations_good rising each_two every
bare_good n k = tt

module _ (n : Network) (good : network_refusal n ≡ 0) where
  abbrev γ : Station → ℕ
  γ = area_of n

  abbrev pub over : ℕ → Station → Bool
  over a k = listed n k && in_group γ a k

  has_area : (k : Station) → T (listed n k) → ltb 0 (γ k) ≡ true
  has_area k l = sym (listed_placed n good k) ∙ T_true (listed n k) l

  -- a listed station's area is one of the six
  pub placed_number : (k : Station) → ltb 0 (γ k) ≡ true → T (area_number (γ k))
  placed_number k p = both (leb 1 (γ k)) (leb (γ k) 6) (le→leb 1 (γ k) (omega (arith, ltb-true 0 (γ k) p))) (le→leb (γ k) 6 (area_high n good k))

  in_own : (k : Station) → T (listed n k) → (a : ℕ) → γ k ≡ a → T (over a k)
  unfolding in_group
  in_own k l a q =
      both (listed n k) (ltb 0 a && eqb a (γ k)) l
      (both (ltb 0 a) (eqb a (γ k)) (true_T (ltb 0 a) (ap (ltb 0) (sym q) ∙ has_area k l)) (true_T (eqb a (γ k)) (eq-eqb a (γ k) (sym q))))

  -- the tables of a good sheet of an area, at the area's stations
  pub own_good : (a : ℕ) (sheet : List ℕ) → length sheet ≡ 8192 → T (good_sheet n (over a) sheet) → (k : Station) → T (listed n k) → γ k ≡ a
      → T (table_good n k (decode_sheet sheet k))
  own_good a sheet size fine k l q =
      (decoded_good n (over a) (λ j t. listed_ok n good j (and_l (listed n j) (in_group γ a j) t)) sheet size fine).good k (in_own k l a q)

  -- the whole sheet of an area
  pub part_whole : (a : ℕ) (sheet : List ℕ) → length sheet ≡ 8192 → T (good_sheet n (over a) sheet) → Whole n (decode_sheet sheet)
  part_whole a sheet size fine = record { good = tables; bare = λ k t. held.bare k (none k (not_T_false (listed n k) t)) }
    where
      held : Good n (over a) (decode_sheet sheet)
      held = decoded_good n (over a) (λ j t. listed_ok n good j (and_l (listed n j) (in_group γ a j) t)) sheet size fine

      none : (k : Station) → listed n k ≡ false → T (not (over a k))
      none k q = rw q tt

      tables : (k : Station) → T (listed n k) → T (table_good n k (decode_sheet sheet k))
      tables k l = by_value (over a k)
          (λ q. held.good k (true_T (over a k) q))
          (λ q. rw (held.bare k (rw q tt)) (bare_good n k))

  -- some areas together
  pub gather_whole : (p : ℕ → Bool) (d : Divided) → ((k : Station) → T (listed n k) → p (γ k) ≡ true → T (table_good n k (d (γ k) k))) → Whole n (gather γ p d)
  unfolding gather merge
  gather_whole p d h = record { good = tables; bare = λ k t. bare k (not_T_false (listed n k) t) }
    where
      tables : (k : Station) → T (listed n k) → T (table_good n k (if p (γ k) then (if ltb 0 (γ k) then d (γ k) k else empty) else empty))
      tables k l = by_value (p (γ k))
          (λ q. rw (q, has_area k l) (h k l q))
          (λ q. rw q (bare_good n k))

      bare : (k : Station) → listed n k ≡ false → (if p (γ k) then (if ltb 0 (γ k) then d (γ k) k else empty) else empty) ≡ empty
      bare k q = rw (sym (listed_placed n good k) ∙ q) (by_value (p (γ k)) (λ r. rw r) (λ r. rw r))
