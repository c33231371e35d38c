-- The lines of a whole list of findings, from the numbers that the call wrote. Numbers of two bytes have at most five
-- digits, so a line has at most 26 bytes. Assumes nothing.
use Prim.Native.Nat.{ℕ, zero, suc, ◌+◌, ◌*◌, ◌/◌, ◌%◌, ◌≤◌, ◌<◌}
use mathlib.Core.Path.{◌≡◌, refl, sym, ◌∙◌, ap}
use mathlib.Core.Bool.{Bool, true, false}
use mathlib.Core.List.{List, [], ◌∷◌, ◌++◌, flat_map}
use native.Mathlib.Omega.{arith}
use lib.Dec.{ltb}
use lib.ListN.{length, get_or, take, length-append, length-take}
use borrow.Author.Tests.{ltb-false, le-leb, eq-eqb, ne_eqb}
use Rattle.std.specs.Prelude.{Option, Some, None, Result, Ok, Err}
use Rattle.base.specs.declared.refusal.Refusal.{Refusal}
use Rattle.base.specs.declared.refusal.OutputError.{OutputError}
use Rattle.base.specs.Choice.{◌if◌else◌}
use Rattle.std.specs.Prelude.{if◌then◌else◌}
use Rattle.timetable.specs.Findings.{numbers_of, findings}
use Rattle.timetable.specs.Outputs.{reply_of, output, output_after}
use Rattle.sheet.specs.Sheets.{decode_sheet}
use Rattle.page.proofs.FlatLaws.{flat_append}
use Rattle.findings.specs.Lists.{sheet_list, sheet_list_refusal}
use Rattle.findings.proofs.BoundLaws.{sheet_list_most}
use Rattle.listings.specs.Text.{digits, decimal, word, head, line}
use Rattle.listings.specs.Inspect.{listed_text, whole_text}
use Rattle.builder.specs.between.Builder.{list_most, findings_most}
use Rattle.sheet_lines.specs.Types.{Network, Finding}
use Rattle.text.specs.between.Lines.{far, findings_text}
use Rattle.text.proofs.OutputLaws.{written_unrefused, short_unrefused, refused_not, written_fits, short_lacks, written_whole, written_many}
use Rattle.sheet_lines.specs.declared.whole.Whole.{Whole}
use Rattle.sheet_lines.specs.between.Sheets.{is_listed, whole_at, whole_count, PutsWhole, Lists}

-- digits

-- one more digit for numbers ten times as large
more_digits : (b w : ℕ) → ((k x : ℕ) → x < b → length (digits k x) ≤ w) → (k x : ℕ) → x < 10 * b → length (digits k x) ≤ w + 1
unfolding digits
more_digits b w most zero x h = omega arith
more_digits b w most (suc k) x h = go (ltb x 10)
  where
    go : (c : Bool) → length (if c then (48 + x) ∷ [] else (digits k (x / 10) ++ ((48 + x % 10) ∷ []))) ≤ w + 1
    go true = omega arith
    go false = omega (arith, length-append (digits k (x / 10)) ((48 + x % 10) ∷ []), most k (x / 10) (omega (arith, h)))

pub one_digit : (k x : ℕ) → x < 10 → length (digits k x) ≤ 1
unfolding digits
one_digit zero x h = omega arith
one_digit (suc k) x h = go (ltb x 10) refl
  where
    go : (c : Bool) → ltb x 10 ≡ c → length (if c then (48 + x) ∷ [] else (digits k (x / 10) ++ ((48 + x % 10) ∷ []))) ≤ 1
    go true e = omega arith
    go false e = absurd (omega (arith, h, ltb-false x 10 e))

five_digits : (k x : ℕ) → x < 100000 → length (digits k x) ≤ 5
five_digits k x h = more_digits 10000 4 (more_digits 1000 3 (more_digits 100 2 (more_digits 10 1 one_digit))) k x (omega (arith, h))

pub word_most : (x : ℕ) → x < 65536 → length (word x) ≤ 6
unfolding word decimal
word_most x h = omega (arith, five_digits 10 x (omega (arith, h)))

-- numbers that stand in two bytes
abbrev pub Short : List ℕ → Type 0
Short xs = (i : ℕ) → get_or xs i 0 < 65536

-- a line of four of them behind areas
module _ (letter : ℕ) (areas : List ℕ) where
  pub line_most : (w : ℕ) → length (flat_map word areas) ≤ w → (s r a b : ℕ) → s < 65536 → r < 65536 → a < 65536 → b < 65536
      → length (line letter (areas ++ (s ∷ r ∷ a ∷ b ∷ []))) ≤ 26 + w
  unfolding line head flat_map
  line_most w few s r a b hs hr ha hb =
      omega (
        arith,
        few,
        length-append (letter ∷ flat_map word (areas ++ (s ∷ r ∷ a ∷ b ∷ []))) (10 ∷ []),
        ap length (flat_append word areas (s ∷ r ∷ a ∷ b ∷ [])),
        length-append (flat_map word areas) (flat_map word (s ∷ r ∷ a ∷ b ∷ [])),
        length-append (word s) (flat_map word (r ∷ a ∷ b ∷ [])),
        length-append (word r) (flat_map word (a ∷ b ∷ [])),
        length-append (word a) (flat_map word (b ∷ [])),
        length-append (word b) [],
        word_most s hs,
        word_most r hr,
        word_most a ha,
        word_most b hb,
      )

  -- lines of at most v bytes
  module _ (v : ℕ) (most : (s r a b : ℕ) → s < 65536 → r < 65536 → a < 65536 → b < 65536 → length (line letter (areas ++ (s ∷ r ∷ a ∷ b ∷ []))) ≤ v) where
    lines_most : (xs : List ℕ) → Short xs → 4 * length (findings_text letter areas xs) ≤ length xs * v
    unfolding findings_text
    lines_most [] h = omega arith
    lines_most (s ∷ []) h = omega arith
    lines_most (s ∷ r ∷ []) h = omega arith
    lines_most (s ∷ r ∷ a ∷ []) h = omega arith
    lines_most (s ∷ r ∷ a ∷ b ∷ rest) h =
        omega (
          arith,
          length-append (line letter (areas ++ (s ∷ r ∷ a ∷ b ∷ []))) (findings_text letter areas rest),
          most s r a b (h 0) (h 1) (h 2) (h 3),
          lines_most rest (λ i. h (suc (suc (suc (suc i))))),
        )

    -- the first k findings of such numbers
    pub lines_short : (xs : List ℕ) (k : ℕ) → Short xs → 4 * k ≤ length xs → length (findings_text letter areas (take (4 * k) xs)) ≤ k * v
    lines_short xs k h fits =
        let len : length (take (4 * k) xs) ≡ 4 * k = omega (arith, length-take (4 * k) xs, fits) in
        omega (arith, rw len at (lines_most (take (4 * k) xs) (front-short (4 * k) xs h)))
      where
        front-short : (j : ℕ) (ys : List ℕ) → Short ys → Short (take j ys)
        front-short zero ys g i = omega arith
        front-short (suc j) [] g i = omega arith
        front-short (suc j) (y ∷ ys) g zero = g 0
        front-short (suc j) (y ∷ ys) g (suc i) = front-short j ys (λ l. g (suc l)) i

-- findings and their numbers

pub numbers_many : (fs : List Finding) → length (numbers_of fs) ≡ 4 * length fs
unfolding numbers_of flat_map
numbers_many [] = omega arith
numbers_many (f ∷ fs) = omega (arith, numbers_many fs)

pub text_listed : (letter : ℕ) (areas : List ℕ) (fs : List Finding) → findings_text letter areas (numbers_of fs) ≡ listed_text letter areas fs
unfolding findings_text numbers_of listed_text flat_map
text_listed letter areas [] = refl
text_listed letter areas (f ∷ fs) =
    ap (λ (l : List ℕ). line letter (areas ++ (f.station.0 ∷ f.rule ∷ f.first ∷ f.second ∷ [])) ++ l) (text_listed letter areas fs)

-- a list that a call wrote, printed
module _ (letter : ℕ) (areas : List ℕ) (fs : List Finding) (refusal : ℕ) (xs b : List ℕ) (same : xs ≡ numbers_of fs) (none : refusal ≡ 0) (fits : length xs ≤ length b)
    (k : ℕ) (many : k ≡ length xs) (later : List ℕ) (left : later ≡ output_after refusal xs b) where
  taken : take (4 * (k / 4)) later ≡ xs
  taken =
      let all : 4 * (k / 4) ≡ length xs = omega (arith, many, ap length same, numbers_many fs) in
      ap (λ (j : ℕ). take j later) all ∙ ap (take (length xs)) left ∙ written_whole refusal xs b none fits

  pub list_there : k ≤ length later
  list_there =
      let all : 4 * (k / 4) ≡ length xs = omega (arith, many, ap length same, numbers_many fs) in
      omega (arith, many, all, ap length taken, length-take (4 * (k / 4)) later)

  pub list_printed : findings_text letter areas (take (4 * (k / 4)) later) ≡ listed_text letter areas fs
  list_printed = ap (findings_text letter areas) (taken ∙ same) ∙ text_listed letter areas fs

-- of a sheet whose list is not refused, from a place that is not too far, all findings are put
module _ (at : ℕ) (near : at ≤ far) (n : Network) (sheet : List ℕ) (good : sheet_list_refusal n sheet ≡ 0) where
  is_so : is_listed at n sheet ≡ true
  unfolding is_listed
  is_so = rw (le-leb at far near, eq-eqb (sheet_list_refusal n sheet) 0 good)

  pub whole_there : whole_at at n sheet ≡ whole_text n (decode_sheet sheet)
  unfolding whole_at
  whole_there = rw is_so

  pub count_there : whole_count at n sheet ≡ length (findings n (decode_sheet sheet))
  unfolding whole_count
  count_there = rw is_so

-- the list of a sheet, as the call that lists it in a buffer answers it
module _ (n : Network) (sheet buffer : List ℕ) (at : ℕ) (near : at ≤ far)
    (r : Result ℕ OutputError) (told : reply_of r ≡ output (sheet_list_refusal n sheet) (sheet_list n sheet) buffer) where
  abbrev xs : List ℕ
  xs = sheet_list n sheet

  abbrev fs : List Finding
  fs = findings n (decode_sheet sheet)

  pub refused_none : (k : Refusal) → r ≡ Err (OutputError.Refused k) → (whole_at at n sheet ≡ []) × (whole_count at n sheet ≡ 0)
  unfolding whole_at whole_count is_listed
  refused_none k e =
      let no = ne_eqb (sheet_list_refusal n sheet) 0 (refused_not (sheet_list_refusal n sheet) xs buffer r told k e) in
      (rw (le-leb at far near, no), rw (le-leb at far near, no))

  pub short_left : (k : ℕ) → r ≡ Err (OutputError.TooShort k) → (sheet_list_refusal n sheet ≡ 0) × (length buffer < length (sheet_list n sheet))
  short_left k e =
      let good = short_unrefused (sheet_list_refusal n sheet) xs buffer r told k e in
      (good, short_lacks (sheet_list_refusal n sheet) xs buffer r told good k e)

  module _ (k : ℕ) (e : r ≡ Ok k) where
    good : sheet_list_refusal n sheet ≡ 0
    good = written_unrefused (sheet_list_refusal n sheet) xs buffer r told k e

    fits : length xs ≤ length buffer
    fits = written_fits (sheet_list_refusal n sheet) xs buffer r told good k e

    length_is : k ≡ length xs
    length_is = written_many (sheet_list_refusal n sheet) xs buffer good fits r told k e

    pub counted : k / 4 ≡ whole_count at n sheet
    unfolding sheet_list
    counted = rw (count_there at near n sheet good) (omega (arith, length_is, numbers_many fs))

    pub few_found : k / 4 ≤ findings_most
    few_found = omega (arith, length_is, sheet_list_most n sheet good)

    module _ (after : List ℕ) (left : after ≡ output_after (sheet_list_refusal n sheet) xs buffer) where
      pub found-fit : 4 * (k / 4) ≤ length after
      unfolding sheet_list
      found-fit = omega (arith, list_there 70 [] fs (sheet_list_refusal n sheet) xs buffer refl good fits k length_is after left)

      pub found-text : findings_text 70 [] (take (4 * (k / 4)) after) ≡ whole_at at n sheet
      unfolding whole_text sheet_list
      found-text =
          list_printed 70 [] fs (sheet_list_refusal n sheet) xs buffer refl good fits k length_is after left ∙ sym (whole_there at near n sheet good)

-- an array with room for any list has room for this one
pub room_for_any : (n : Network) (sheet : List ℕ) (room : ℕ) → room ≡ list_most → sheet_list_refusal n sheet ≡ 0 → room < length (sheet_list n sheet) → ⊥
room_for_any n sheet room e good h = absurd (omega (arith, e, h, sheet_list_most n sheet good))

-- what listing in an array came to, by its case
module _ (at : ℕ) (n : Network) (sheet : List ℕ) (room : ℕ) (before after : List ℕ) (r : Option Whole) (came : Lists at n sheet room before after r) where
  pub lines_put : (w : Whole) → r ≡ Some w → PutsWhole at n sheet before w after
  unfolding Lists
  lines_put w e = rw e at came

  pub none_put : r ≡ None → (sheet_list_refusal n sheet ≡ 0) × (room < length (sheet_list n sheet)) × (after ≡ before)
  unfolding Lists
  none_put e = rw e at came
