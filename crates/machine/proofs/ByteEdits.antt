-- The calls on good bytes. An edit leaves a good sheet good, and an edit on the divided timetable is the divided edit:
-- the sheets of a divided good sheet are those of the divided timetable, and there the theory's law holds. Assumes
-- nothing.
use Prim.Native.Nat.{ℕ}
use mathlib.Core.Path.{◌≡◌, sym, ◌∙◌, ap, fun_ext}
use mathlib.Core.Bool.{Bool, true, false, not, ◌&&◌, ◌||◌}
use mathlib.Core.List.{List}
use native.Mathlib.Omega.{arith}
use lib.Dec.{T, ltb, leb, eqb, le→leb, eqb→eq}
use lib.ListN.{length}
use borrow.Author.Tests.{ltb-true, eq-eqb}
use Rattle.base.specs.Choice.{◌if◌else◌}
use Rattle.std.specs.Prelude.{if◌then◌else◌}
use Rattle.base.proofs.Tests.{by_value, T_true, and_l, and_r, or_r, both, every_weaker}
use Rattle.railway.specs.Ranges.{station_ok}
use Rattle.network.specs.Networks.{network_refusal, listed, area_of}
use Rattle.timetable.specs.Tables.{empty}
use Rattle.timetable.specs.Machine.{Timetable, after}
use Rattle.timetable.specs.Groups.{six, Divided, in_group, names_group, divide, merge, gather, divided_answer, divided_after}
use Rattle.timetable.specs.Good.{Whole}
use Rattle.timetable.specs.Refusals.{call_refusal}
use Rattle.timetable.proofs.RefusalLaws.{call_fits, or_none}
use Rattle.theory.proofs.Kept.{after_whole}
use Rattle.theory.proofs.Divided.{answer_divided, after_divided}
use Rattle.actions.specs.Early.{early_refusal}
use Rattle.page.specs.Pages.{encode_page}
use Rattle.sheet.specs.Sheets.{page_at, encode_sheet, decode_sheet, good_sheet, sheet_at, good_division, divided}
use Rattle.network.proofs.AreaLaws.{area_high, listed_placed, listed_ok}
use Rattle.page.proofs.PageLaws.{Coded, empty_coded, blank_page, good_bytes}
use Rattle.sheet.proofs.SheetLaws.{area_number, page_good, page_zeros, decoded_page, decoded_good, good_all_coded, encoded_size, encoded_page, encoded_sheet_good, good_sheet_back}
use Rattle.sheet.proofs.SheetLaws.{sheets_equal, sheet_size, sheets_whole, row_same, all_areas, divided_size, divided_own, divided_other, divided_reads, divided_good}
use Rattle.machine.specs.Types.{Station, Edit, Network, Answer}
use Rattle.machine.specs.Calls.{refused_with, sheet_refusal, sheet_answer, sheet_after}
use Rattle.machine.specs.Calls.{named_good, parts, division_refusal, division_answer, division_after}

module _ (n : Network) (good : network_refusal n ≡ 0) where
  -- a station in an area is listed
  pub in_listed : (a : ℕ) (k : Station) → T (in_group (area_of n) a k) → T (listed n k)
  unfolding in_group
  in_listed a k t =
      rw (listed_placed n good k) (rw (eqb→eq a (area_of n k) (and_r (ltb 0 a) (eqb a (area_of n k)) t)) at (and_l (ltb 0 a) (eqb a (area_of n k)) t))

-- a good sheet

module _ (n : Network) (good : network_refusal n ≡ 0) (sheet : List ℕ) (size : length sheet ≡ 8192) (fine : T (good_sheet n (listed n) sheet)) where
  pub whole_of : Whole n (decode_sheet sheet)
  whole_of = decoded_good n (listed n) (listed_ok n good) sheet size fine

  -- its pages are those of its tables
  pub page_of : (k : Station) → T (station_ok k) → page_at sheet k ≡ encode_page (decode_sheet sheet k)
  page_of k s = by_value (listed n k)
      (λ e. good_bytes n k (page_at sheet k) (page_good n (listed n) sheet fine k s e) ∙ ap encode_page (sym (decoded_page sheet k s)))
      (λ e. page_zeros n (listed n) sheet fine k s size e ∙ sym blank_page ∙ ap encode_page (sym (whole_of.bare k (rw e tt))))

  pub all_coded : (k : Station) → T (station_ok k) → Coded (decode_sheet sheet k)
  all_coded k s = good_all_coded n (listed n) (listed_ok n good) (decode_sheet sheet) whole_of k

  -- it is the sheet of its timetable
  pub sheet_of : sheet ≡ encode_sheet (decode_sheet sheet)
  sheet_of =
      sheets_equal sheet (encode_sheet (decode_sheet sheet)) size (encoded_size (decode_sheet sheet) all_coded)
      (λ k s. page_of k s ∙ sym (encoded_page (decode_sheet sheet) all_coded k s))

-- the sheet of an area, of a divided good sheet, is that of the divided timetable
module _ (n : Network) (good : network_refusal n ≡ 0) (sheet : List ℕ) (size : length sheet ≡ 8192) (fine : T (good_sheet n (listed n) sheet)) where
  part_coded : (a : ℕ) (k : Station) → T (station_ok k) → Coded (divide (area_of n) (decode_sheet sheet) a k)
  unfolding divide
  part_coded a k s = go (in_group (area_of n) a k)
    where
      go : (b : Bool) → Coded (if b then decode_sheet sheet k else empty)
      go true = all_coded n good sheet size fine k s
      go false = empty_coded

  pub divided_part : (a : ℕ) → T (area_number a) → sheet_at (divided n sheet) a ≡ encode_sheet (divide (area_of n) (decode_sheet sheet) a)
  unfolding divide
  divided_part a t =
      sheets_equal (sheet_at (divided n sheet) a) (encode_sheet part)
      (sheet_size (divided n sheet) a (divided_size n sheet size) t) (encoded_size part (part_coded a)) page
    where
      part : Timetable
      part = divide (area_of n) (decode_sheet sheet) a

      page : (k : Station) → T (station_ok k) → page_at (sheet_at (divided n sheet) a) k ≡ page_at (encode_sheet part) k
      page k s = by_value (in_group (area_of n) a k)
          (λ e. divided_own n sheet size a t k s e ∙ page_of n good sheet size fine k s ∙ ap encode_page (sym (rw e)) ∙ sym (encoded_page part (part_coded a) k s))
          (λ e. divided_other n sheet size a t k s e ∙ sym blank_page ∙ ap encode_page (sym (rw e)) ∙ sym (encoded_page part (part_coded a) k s))

-- gathered parts depend on the areas' parts alone
module _ (n : Network) (good : network_refusal n ≡ 0) (d d' : Divided) (same : (a : ℕ) → T (area_number a) → d a ≡ d' a) where
  pub gather_agree : (p : ℕ → Bool) → gather (area_of n) p d ≡ gather (area_of n) p d'
  unfolding gather merge
  gather_agree p = fun_ext λ k. by_value (ltb 0 (area_of n k))
      (λ e. ap (λ (m : Timetable). if p (area_of n k) then (if ltb 0 (area_of n k) then m k else empty) else empty) (same (area_of n k) (number k e)))
      (λ e. rw e)
    where
      number : (k : Station) → ltb 0 (area_of n k) ≡ true → T (area_number (area_of n k))
      number k e =
          both (leb 1 (area_of n k)) (leb (area_of n k) 6)
          (le→leb 1 (area_of n k) (omega (arith, ltb-true 0 (area_of n k) e))) (le→leb (area_of n k) 6 (area_high n good k))

-- an edit on a good sheet

-- the buffer fits and its sheets are good: what is left is decided before any sheet is looked at
pub call_good : (fits : Bool) (early : ℕ) (sheets : Bool) → fits ≡ true → sheets ≡ true → call_refusal fits early sheets 0 ≡ early
call_good fits early sheets e f = call_fits fits early sheets 0 e f ∙ or_none early

module _ (n : Network) (good : network_refusal n ≡ 0) (sheet : List ℕ) (size : length sheet ≡ 8192) (fine : T (good_sheet n (listed n) sheet)) (e : Edit) where
  early_only : sheet_refusal n e sheet ≡ early_refusal n e
  unfolding sheet_refusal
  early_only =
      call_good (eqb (length sheet) 8192) (early_refusal n e) (good_sheet n (listed n) sheet) (eq-eqb (length sheet) 8192 size) (T_true (good_sheet n (listed n) sheet) fine)

  -- the timetable afterwards
  abbrev later : Timetable
  later = after n e (decode_sheet sheet)

  pub whole_later : Whole n later
  whole_later = after_whole n (decode_sheet sheet) e (whole_of n good sheet size fine)

  later_coded : (k : Station) → T (station_ok k) → Coded (later k)
  later_coded k s = good_all_coded n (listed n) (listed_ok n good) later whole_later k

  pub later_size : length (encode_sheet later) ≡ 8192
  later_size = encoded_size later later_coded

  pub later_good : T (good_sheet n (listed n) (encode_sheet later))
  later_good = encoded_sheet_good n (listed n) (listed_ok n good) later whole_later

  pub later_back : decode_sheet (encode_sheet later) ≡ later
  later_back = good_sheet_back n (listed n) (listed_ok n good) later whole_later

  pub after_size : length (sheet_after n e sheet) ≡ 8192
  unfolding sheet_after
  after_size = by_value (eqb (sheet_refusal n e sheet) 0) (λ z. rw z later_size) (λ z. rw z size)

  -- an edit leaves a good sheet good
  pub after_good : T (good_sheet n (listed n) (sheet_after n e sheet))
  unfolding sheet_after
  after_good = by_value (eqb (sheet_refusal n e sheet) 0) (λ z. rw z later_good) (λ z. rw z fine)

  -- an edit on the divided timetable

  abbrev division : List ℕ
  division = divided n sheet

  abbrev split : Divided
  split = divide (area_of n) (decode_sheet sheet)

  parts_are : (a : ℕ) → T (area_number a) → parts division a ≡ split a
  unfolding parts
  parts_are a t = divided_reads n sheet size a t

  named_fine : T (named_good n e division)
  unfolding named_good good_division
  named_fine =
      every_weaker (λ a. good_sheet n (λ k. listed n k && in_group (area_of n) a k) (sheet_at division a))
      (λ a. not (names_group n (area_of n) e a) || good_sheet n (λ k. listed n k && in_group (area_of n) a k) (sheet_at division a))
      (λ a t. or_r (not (names_group n (area_of n) e a)) (good_sheet n (λ k. listed n k && in_group (area_of n) a k) (sheet_at division a)) t)
      six (divided_good n good sheet size fine)

  early_too : division_refusal n e division ≡ early_refusal n e
  unfolding division_refusal
  early_too =
      call_good (eqb (length division) 49152) (early_refusal n e) (named_good n e division)
      (eq-eqb (length division) 49152 (divided_size n sheet size)) (T_true (named_good n e division) named_fine)

  gathered_same : gather (area_of n) (names_group n (area_of n) e) (parts division) ≡ gather (area_of n) (names_group n (area_of n) e) split
  gathered_same = gather_agree n good (parts division) split parts_are (names_group n (area_of n) e)

  -- the same answer
  pub divided_edit_answer : division_answer n e (divided n sheet) ≡ sheet_answer n e sheet
  unfolding division_answer sheet_answer divided_answer
  divided_edit_answer =
      rw (early_too, early_only, gathered_same)
      (ap (λ (x : Answer). if eqb (early_refusal n e) 0 then x else refused_with (early_refusal n e)) (answer_divided n (area_of n) (listed_placed n good) e (decode_sheet sheet)))

  parts_later : (a : ℕ) → T (area_number a) → divided_after n (area_of n) e (parts division) a ≡ divide (area_of n) later a
  unfolding divided_after
  parts_later a t =
      rw (gathered_same, parts_are a t)
      (ap (λ (d : Divided). d a) (after_divided n (area_of n) (listed_placed n good) e (decode_sheet sheet)))

  unnamed : (a : ℕ) → names_group n (area_of n) e a ≡ false → parts division a ≡ divided_after n (area_of n) e (parts division) a
  unfolding divided_after
  unnamed a q = sym (rw q)

  -- what the edit leaves of an area's sheet
  area_later : (a : ℕ) → T (area_number a)
      → (if names_group n (area_of n) e a then encode_sheet (divided_after n (area_of n) e (parts division) a) else sheet_at division a)
      ≡ sheet_at (divided n (encode_sheet later)) a
  area_later a t = by_value (names_group n (area_of n) e a)
      (λ q. rw q (ap encode_sheet (parts_later a t)) ∙ back)
      (λ q. rw q (divided_part n good sheet size fine a t ∙ ap encode_sheet (sym (parts_are a t) ∙ unnamed a q ∙ parts_later a t)) ∙ back)
    where
      back : encode_sheet (divide (area_of n) later a) ≡ sheet_at (divided n (encode_sheet later)) a
      back = ap (λ (m : Timetable). encode_sheet (divide (area_of n) m a)) (sym later_back) ∙ sym (divided_part n good (encode_sheet later) later_size later_good a t)

  -- and the divided bytes
  pub divided_edit_after : division_after n e (divided n sheet) ≡ divided n (sheet_after n e sheet)
  unfolding division_after sheet_after
  divided_edit_after =
      by_value (eqb (early_refusal n e) 0)
      (λ z. rw (early_too, early_only, z) (
      row_same (λ a. if names_group n (area_of n) e a then encode_sheet (divided_after n (area_of n) e (parts division) a) else sheet_at division a)
      (sheet_at (divided n (encode_sheet later))) area_number area_later six all_areas
      ∙ sheets_whole (divided n (encode_sheet later)) (divided_size n (encode_sheet later) later_size)))
      (λ z. rw (early_too, early_only, z))
