-- The lists of an area and of two areas, formed from the sheets of a division and printed: the division of a good sheet
-- holds the parts of its timetable, a list formed from those parts is that of the whole timetable (theory Reach), and
-- four numbers a finding are one line each, of at most 30 bytes. A sheet that does not divide has a refused list, and
-- the list of an area or a pair that is none is refused: then nothing is put. Assumes nothing.
use Prim.Native.Nat.{ℕ, ◌*◌, ◌/◌, ◌≤◌}
use mathlib.Core.Path.{◌≡◌, refl, sym, ◌∙◌, ap, ap₂}
use mathlib.Core.Bool.{Bool, true, false, ◌&&◌}
use mathlib.Core.List.{List, [], ◌∷◌, ◌++◌, flat_map}
use native.Mathlib.Omega.{arith}
use native.Mathlib.Decide.{ℕ_discrete}
use mathlib.Core.Logic.{by_cases}
use lib.Dec.{T, eqb, leb, leb→le}
use lib.ListN.{length, take, length-append}
use borrow.Author.Tests.{eq-eqb, ne_eqb}
use Rattle.std.specs.Prelude.{Result, Ok, Err, is_err}
use Rattle.base.specs.RefusalNumbers.{refusal_number}
use Rattle.base.specs.declared.refusal.Refusal.{Refusal}
use Rattle.timetable.proofs.OutputLaws.{number_there}
use Rattle.base.specs.declared.refusal.OutputError.{OutputError}
use Rattle.base.proofs.Tests.{T_true, true_T, and_l, and_r}
use Rattle.railway.specs.Ranges.{area_ok}
use Rattle.network.specs.Networks.{network_refusal, listed, area_of}
use Rattle.timetable.specs.Machine.{Timetable}
use Rattle.timetable.specs.Groups.{divide}
use Rattle.timetable.specs.Findings.{numbers_of, group_findings, pair_findings}
use Rattle.timetable.specs.Outputs.{Puts, put, reply_of, output, output_after}
use Rattle.timetable.specs.Refusals.{call_refusal}
use Rattle.timetable.proofs.RefusalLaws.{call_passed}
use Rattle.theory.proofs.Reach.{own_part, pair_part}
use Rattle.sheet.specs.Sheets.{decode_sheet, good_sheet, sheet_at, divided, area_part, divide_refusal, after_divide}
use Rattle.sheet.proofs.SheetLaws.{area_number, divided_size, divided_reads}
use Rattle.findings.specs.Lists.{area_list, two_list, list_early, good_part, sheet_list_refusal, area_list_refusal, two_areas, two_list_refusal}
use Rattle.findings.proofs.ListCalls.{early_fine}
use Rattle.findings.proofs.DividedLists.{first_area, second_area, area_listed, pair_listed, area_same, pair_same}
use Rattle.findings.proofs.BoundLaws.{area_list_most, two_list_most}
use Rattle.listings.specs.Text.{decimal, word}
use Rattle.listings.specs.Inspect.{listed_text, area_text, pair_text}
use Rattle.builder.specs.between.Builder.{list_most, findings_most}
use Rattle.area_lines.specs.Types.{Area, Network, Finding}
use Rattle.area_lines.specs.between.Areas.{area_lines, pair_lines}
use Rattle.text.specs.between.Lines.{of_areas, findings_text}
use Rattle.text.proofs.FourByFour.{of_none, of_one, of_two}
use Rattle.sheet_lines.proofs.FindingLines.{one_digit, Short, line_most, lines_short, list_there, list_printed}
use Rattle.text.proofs.OutputLaws.{written_unrefused, written_many, never_refused}
use Rattle.findings.proofs.ListedSheet.{fine_size, fine_network, fine_sheet}

-- how long a line is

area_word : (x : ℕ) → x ≤ 9 → length (word x) ≤ 2
unfolding word decimal
area_word x h = omega (arith, one_digit 10 x (omega (arith, h)))

areas_short : (a b : ℕ) → a ≤ 9 → b ≤ 9 → length (flat_map word (of_areas a b)) ≤ 4
unfolding flat_map
areas_short a b p q = by_cases (ℕ_discrete a 0) (λ x. rw (of_none a b x) (omega arith)) (λ x. by_cases (ℕ_discrete b 0)
    (λ y. rw (of_one a b x y) (omega (arith, length-append (word a) [], area_word a p)))
    (λ y. rw (of_two a b x y) (omega (arith, length-append (word a) (word b ++ []), length-append (word b) [], area_word a p, area_word b q))))

pub list_short : (letter a b : ℕ) → a ≤ 9 → b ≤ 9 → (k : ℕ) → k ≤ list_most → (xs : List ℕ) → Short xs → k ≤ length xs → length (findings_text letter (of_areas a b) (take (4 * (k / 4)) xs)) ≤ (30 * findings_most)
list_short letter a b p q k h xs s fits =
    omega (arith, h, lines_short letter (of_areas a b) 30 (line_most letter (of_areas a b) 4 (areas_short a b p q)) xs (k / 4) s (omega (arith, fits)))

pub area_low : (a : Area) → area_ok a ≡ true → (1 ≤ a.0) × (a.0 ≤ 9)
area_low a ok =
    let t : T (area_ok a) = true_T (area_ok a) ok in
    (leb→le 1 a.0 (and_l (leb 1 a.0) (leb a.0 6) t), omega (arith, leb→le a.0 6 (and_r (leb 1 a.0) (leb a.0 6) t)))

-- a call that did not fail is not refused, and one that failed is
module _ (b : Bool) (r : Result (Unit {0}) Refusal) (e : b ≡ is_err r) where
  pub went : b ≡ false → refusal_number r ≡ 0
  went f = go r (sym e ∙ f)
    where
      go : (x : Result (Unit {0}) Refusal) → is_err x ≡ false → refusal_number x ≡ 0
      go (Ok u) q = refl
      go (Err k) q = let z : true ≡ false = q in cc

  pub stopped : b ≡ true → ¬ (refusal_number r ≡ 0)
  stopped f = go r (sym e ∙ f)
    where
      go : (x : Result (Unit {0}) Refusal) → is_err x ≡ true → ¬ (refusal_number x ≡ 0)
      go (Ok u) q = let z : false ≡ true = q in cc
      go (Err k) q = number_there k

-- nothing is put where there is no text
pub nothing_put : (xs b : List ℕ) (w : ℕ) → xs ≡ [] → Puts 0 xs b 0 b w
unfolding put
nothing_put xs b w e = rw e (refl, refl, omega arith)

-- for whoever knows that nothing refuses

module _ (n : Network) (sheet : List ℕ) (fine : sheet_list_refusal n sheet ≡ 0) where
  pub area_there : (a : Area) → area_ok a ≡ true → area_lines n sheet a ≡ area_text n (decode_sheet sheet) a.0
  unfolding area_lines
  area_there a ok = rw (eq-eqb (sheet_list_refusal n sheet) 0 fine, ok)

  pub pair_there : (a b : Area) → two_areas a b ≡ true → pair_lines n sheet a b ≡ pair_text n (decode_sheet sheet) (a.0, b.0)
  unfolding pair_lines
  pair_there a b two = rw (eq-eqb (sheet_list_refusal n sheet) 0 fine, two)

-- a sheet does not divide into a buffer that is long enough where its list is refused, and then alone
module _ (n : Network) (sheet z : List ℕ) (long : length z ≡ 49152) where
  divides_listed : divide_refusal n sheet z ≡ sheet_list_refusal n sheet
  unfolding divide_refusal sheet_list_refusal
  divides_listed = rw (eq-eqb (length z) 49152 long) (go (eqb (length sheet) 8192))
    where
      go : (b : Bool) → call_refusal (b && true) (network_refusal n) (good_sheet n (listed n) sheet) 0 ≡ call_refusal b (network_refusal n) (good_sheet n (listed n) sheet) 0
      go true = refl
      go false = refl

  module _ (k : ℕ) (e : k ≡ divide_refusal n sheet z) where
    pub divided_fine : k ≡ 0 → sheet_list_refusal n sheet ≡ 0
    divided_fine o = sym divides_listed ∙ sym e ∙ o

    undivided : ¬ (k ≡ 0) → eqb (sheet_list_refusal n sheet) 0 ≡ false
    undivided d = ne_eqb (sheet_list_refusal n sheet) 0 (λ o. d (e ∙ divides_listed ∙ o))

    pub no_area : ¬ (k ≡ 0) → (a : Area) → area_lines n sheet a ≡ []
    unfolding area_lines
    no_area d a = rw (undivided d)

    pub no_pair : ¬ (k ≡ 0) → (a b : Area) → pair_lines n sheet a b ≡ []
    unfolding pair_lines
    no_pair d a b = rw (undivided d)

-- the sheets of a division of a good sheet
module _ (n : Network) (sheet : List ℕ) (fine : sheet_list_refusal n sheet ≡ 0) where
  abbrev good : network_refusal n ≡ 0
  good = fine_network n sheet fine

  abbrev m : Timetable
  m = decode_sheet sheet

  divided_there : (buffer : List ℕ) → length buffer ≡ 49152 → after_divide n sheet buffer ≡ divided n sheet
  unfolding after_divide
  divided_there buffer size = rw (eq-eqb (divide_refusal n sheet buffer) 0 (divides_listed n sheet buffer size ∙ fine))

  part_is : (a : Area) → area_ok a ≡ true → area_part (divided n sheet) a ≡ sheet_at (divided n sheet) a.0
  unfolding area_part
  part_is a ok = rw (eq-eqb (length (divided n sheet)) 49152 (divided_size n sheet (fine_size n sheet fine)), ok)

  parts_are : (a : ℕ) → T (area_number a) → decode_sheet (sheet_at (divided n sheet) a) ≡ divide (area_of n) m a
  parts_are a t = divided_reads n sheet (fine_size n sheet fine) a t

  module _ (a : Area) where
    area_fine : area_ok a ≡ true → area_list_refusal n (area_part (divided n sheet) a) a ≡ 0
    area_fine ok = rw (part_is a ok) (area_listed n good sheet (fine_size n sheet fine) (fine_sheet n sheet fine) a (true_T (area_ok a) ok))

    area_numbers : area_ok a ≡ true → area_list n (area_part (divided n sheet) a) a ≡ numbers_of (group_findings n (area_of n) m a.0)
    area_numbers ok =
        rw (part_is a ok) (area_same n (divided n sheet) m parts_are a (true_T (area_ok a) ok) ∙ ap numbers_of (own_part n (area_of n) m a.0))

    -- the call on it: d is the division, `part` the area's sheet, r what the call answers
    module _ (z d part b : List ℕ) (long : length z ≡ 49152) (made : d ≡ after_divide n sheet z) (lent : part ≡ area_part d a) (room : length b ≡ list_most)
        (r : Result ℕ OutputError) (answered : reply_of r ≡ output (area_list_refusal n part a) (area_list n part a) b) where
      own_sheet : part ≡ area_part (divided n sheet) a
      own_sheet = lent ∙ ap (λ (x : List ℕ). area_part x a) (made ∙ divided_there z long)

      own-fits : area_list_refusal n part a ≡ 0 → length (area_list n part a) ≤ length b
      own-fits none = omega (arith, room, area_list_most n part a none)

      pub own-refused : (k : OutputError) → r ≡ Err k → area_lines n sheet a ≡ []
      unfolding area_lines
      own-refused k e = go (area_ok a) refl
        where
          go : (b : Bool) → area_ok a ≡ b → area_lines n sheet a ≡ []
          go true ok =
              let none : area_list_refusal n part a ≡ 0 = ap (λ (x : List ℕ). area_list_refusal n x a) own_sheet ∙ area_fine ok in
              never_refused (area_list_refusal n part a) (area_list n part a) b none (own-fits none) r answered k e
          go false d = rw (eq-eqb (sheet_list_refusal n sheet) 0 fine, d)

      module _ (k : ℕ) (e : r ≡ Ok k) where
        own-fine : area_list_refusal n part a ≡ 0
        own-fine = written_unrefused (area_list_refusal n part a) (area_list n part a) b r answered k e

        own-ok : area_ok a ≡ true
        unfolding area_list_refusal
        own-ok =
            let p = call_passed (eqb (length part) 8192) (list_early n (area_ok a)) (good_part n a part) 0 own-fine in
            T_true (area_ok a) (early_fine n (area_ok a) p.1).0

        pub own-low : a.0 ≤ 9
        own-low = (area_low a own-ok).1

        pub own-printed : (later : List ℕ) → later ≡ output_after (area_list_refusal n part a) (area_list n part a) b
            → (k ≤ list_most) × (k ≤ length later) × (findings_text 68 (of_areas a.0 0) (take (4 * (k / 4)) later) ≡ area_lines n sheet a)
        unfolding area_text
        own-printed later left =
            let many = written_many (area_list_refusal n part a) (area_list n part a) b own-fine (own-fits own-fine) r answered k e in
            let fs : List Finding = group_findings n (area_of n) m a.0 in
            let same : area_list n part a ≡ numbers_of fs = ap (λ (x : List ℕ). area_list n x a) own_sheet ∙ area_numbers own-ok in
            let one : of_areas a.0 0 ≡ a.0 ∷ [] = of_one a.0 0 (λ q. omega (arith, (area_low a own-ok).0, q)) refl in (
              omega (arith, many, area_list_most n part a own-fine),
              list_there 68 (of_areas a.0 0) fs (area_list_refusal n part a) (area_list n part a) b same own-fine (own-fits own-fine) k many later left,
              list_printed 68 (of_areas a.0 0) fs (area_list_refusal n part a) (area_list n part a) b same own-fine (own-fits own-fine) k many later left
                  ∙ ap (λ (l : List ℕ). listed_text 68 l fs) one ∙ sym (area_there n sheet fine a own-ok),
            )

  module _ (a b : Area) where
    first_ok : two_areas a b ≡ true → area_ok a ≡ true
    first_ok two = T_true (area_ok a) (first_area a b (true_T (two_areas a b) two))

    second_ok : two_areas a b ≡ true → area_ok b ≡ true
    second_ok two = T_true (area_ok b) (second_area a b (true_T (two_areas a b) two))

    pair_fine : two_areas a b ≡ true → two_list_refusal n (area_part (divided n sheet) a) (area_part (divided n sheet) b) a b ≡ 0
    pair_fine two =
        rw (part_is a (first_ok two), part_is b (second_ok two)) (pair_listed n good sheet (fine_size n sheet fine) (fine_sheet n sheet fine) a b (true_T (two_areas a b) two))

    pair_numbers : two_areas a b ≡ true
        → two_list n (area_part (divided n sheet) a) (area_part (divided n sheet) b) a b ≡ numbers_of (pair_findings n (area_of n) m a.0 b.0)
    pair_numbers two =
        rw (part_is a (first_ok two), part_is b (second_ok two))
        (pair_same n (divided n sheet) m parts_are a b (true_T (area_ok a) (first_ok two)) (true_T (area_ok b) (second_ok two))
        ∙ ap numbers_of (pair_part n (area_of n) m (a.0, b.0)))

    -- the call on them
    module _ (z d first second out : List ℕ) (long : length z ≡ 49152) (made : d ≡ after_divide n sheet z) (lent : first ≡ area_part d a) (other : second ≡ area_part d b)
        (room : length out ≡ list_most) (r : Result ℕ OutputError) (answered : reply_of r ≡ output (two_list_refusal n first second a b) (two_list n first second a b) out) where
      first-sheet : first ≡ area_part (divided n sheet) a
      first-sheet = lent ∙ ap (λ (x : List ℕ). area_part x a) (made ∙ divided_there z long)

      second-sheet : second ≡ area_part (divided n sheet) b
      second-sheet = other ∙ ap (λ (x : List ℕ). area_part x b) (made ∙ divided_there z long)

      two_fits : two_list_refusal n first second a b ≡ 0 → length (two_list n first second a b) ≤ length out
      two_fits none = omega (arith, room, two_list_most n first second a b none)

      pub two_refused : (k : OutputError) → r ≡ Err k → pair_lines n sheet a b ≡ []
      unfolding pair_lines
      two_refused k e = go (two_areas a b) refl
        where
          go : (c : Bool) → two_areas a b ≡ c → pair_lines n sheet a b ≡ []
          go true two =
              let none : two_list_refusal n first second a b ≡ 0 = rw (first-sheet, second-sheet) (pair_fine two) in
              never_refused (two_list_refusal n first second a b) (two_list n first second a b) out none (two_fits none) r answered k e
          go false d = rw (eq-eqb (sheet_list_refusal n sheet) 0 fine, d)

      module _ (k : ℕ) (e : r ≡ Ok k) where
        two-fine : two_list_refusal n first second a b ≡ 0
        two-fine = written_unrefused (two_list_refusal n first second a b) (two_list n first second a b) out r answered k e

        are-two : two_areas a b ≡ true
        unfolding two_list_refusal
        are-two =
            let p = call_passed (eqb (length first) 8192 && eqb (length second) 8192) (list_early n (two_areas a b)) (good_part n a first && good_part n b second) 0 two-fine in
            T_true (two_areas a b) (early_fine n (two_areas a b) p.1).0

        pub two-low : (a.0 ≤ 9) × (b.0 ≤ 9)
        two-low = ((area_low a (first_ok are-two)).1, (area_low b (second_ok are-two)).1)

        pub two-printed : (later : List ℕ) → later ≡ output_after (two_list_refusal n first second a b) (two_list n first second a b) out
            → (k ≤ list_most) × (k ≤ length later) × (findings_text 80 (of_areas a.0 b.0) (take (4 * (k / 4)) later) ≡ pair_lines n sheet a b)
        unfolding pair_text
        two-printed later left =
            let many = written_many (two_list_refusal n first second a b) (two_list n first second a b) out two-fine (two_fits two-fine) r answered k e in
            let fs : List Finding = pair_findings n (area_of n) m a.0 b.0 in
            let same : two_list n first second a b ≡ numbers_of fs = ap₂ (λ (x y : List ℕ). two_list n x y a b) first-sheet second-sheet ∙ pair_numbers are-two in
            let both : of_areas a.0 b.0 ≡ a.0 ∷ b.0 ∷ [] =
            of_two a.0 b.0 (λ q. omega (arith, (area_low a (first_ok are-two)).0, q)) (λ q. omega (arith, (area_low b (second_ok are-two)).0, q)) in (
              omega (arith, many, two_list_most n first second a b two-fine),
              list_there 80 (of_areas a.0 b.0) fs (two_list_refusal n first second a b) (two_list n first second a b) out same two-fine (two_fits two-fine) k many later left,
              list_printed 80 (of_areas a.0 b.0) fs (two_list_refusal n first second a b) (two_list n first second a b) out same two-fine (two_fits two-fine) k many later left
                  ∙ ap (λ (l : List ℕ). listed_text 80 l fs) both ∙ sym (pair_there n sheet fine a b are-two),
            )
