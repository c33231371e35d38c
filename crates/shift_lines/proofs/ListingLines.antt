-- What `shift` prints, part by part. An empty division is the divided sheet of the timetable in which nothing is
-- placed; edits on it answer as the central machine does and leave the divided sheet of its timetable (machine
-- WholeSheets), which merges back. So the lines made of the bytes are those of the listing. Assumes nothing.
use Prim.Native.Nat.{ℕ, ◌+◌, ◌*◌, ◌≤◌}
use mathlib.Core.Path.{◌≡◌, sym, ◌∙◌, ap, ap₂}
use mathlib.Core.Bool.{Bool, true, false}
use mathlib.Core.List.{List, [], ◌∷◌, ◌++◌, map, flat_map, append-nil}
use native.Mathlib.Omega.{arith}
use lib.Dec.{T, eqb}
use lib.ListN.{length}
use borrow.Author.Tests.{eq-eqb}
use Rattle.base.specs.Choice.{◌if◌else◌}
use Rattle.std.specs.Prelude.{if◌then◌else◌}
use Rattle.base.specs.Runs.{run, answers}
use Rattle.base.proofs.Tests.{T_true, every_flatMap, every_each}
use Rattle.railway.specs.Ranges.{station_ok}
use Rattle.network.specs.Networks.{network_refusal, listed, area_of}
use Rattle.timetable.specs.Outputs.{Puts}
use Rattle.timetable.specs.Machine.{Timetable, nothing_placed, answer, after}
use Rattle.timetable.specs.Groups.{six, in_group}
use Rattle.timetable.specs.Good.{Whole}
use Rattle.timetable.specs.Findings.{findings}
use Rattle.timetable.specs.Refusals.{or_else, call_refusal}
use Rattle.timetable.specs.Count.{zero_tally, raise_all, visit_count, relation_count}
use Rattle.timetable.specs.Listing.{answer_lines, finding_line, tally_line, listing}
use Rattle.theory.proofs.Kept.{nothing_whole, run_whole}
use Rattle.records.specs.Bytes.{zeros, blank}
use Rattle.sheet.specs.Sheets.{sixteen, page_at, encode_sheet, decode_sheet, good_sheet, good_division, divided, merged, merge_refusal, after_merge}
use Rattle.network.proofs.AreaLaws.{listed_ok}
use Rattle.page.proofs.PageLaws.{blank_page}
use Rattle.sheet.proofs.SheetLaws.{all_stations, blank_zeros, zeros_blank, encoded_page, good_all_coded, divided_size, divided_good, merged_divided, merged_size, merged_good}
use Rattle.machine.proofs.ListEdits.{GoodSheet, GoodDivision, run_divided, answers_divided}
use Rattle.machine.proofs.CentralEdits.{central_answers}
use Rattle.machine.proofs.WholeSheets.{whole_good, whole_back, bytes_run}
use Rattle.findings.specs.Lists.{sheet_list_refusal}
use Rattle.findings.proofs.DividedLists.{list_formed}
use Rattle.builder.specs.between.Builder.{findings_most}
use Rattle.timetable.proofs.BuffersFilled.{puts_two, puts_as}
use Rattle.builder.proofs.FindingsPut.{puts_more}
use Rattle.builder.proofs.BuildLaws.{flat_map_lem}
use Rattle.edit_calls.specs.Lists.{known_good, division_of}
use Rattle.edit_calls.proofs.KnownGood.{sheets_good, is_known}
use Rattle.timetable_writing.proofs.TimetableLaws.{flat_append}
use Rattle.listings.specs.Text.{line}
use Rattle.listings.specs.Shift.{line_text, shift_text}
use Rattle.listings.specs.Inspect.{listed_text, whole_text, totals_text}
use Rattle.text.specs.between.Lines.{far}
use Rattle.sheet_lines.specs.between.Sheets.{whole_at, whole_count, totals_at}
use Rattle.findings.proofs.ListedSheet.{fine_size}
use Rattle.sheet_lines.proofs.FindingLines.{whole_there, count_there}
use Rattle.sheet_lines.proofs.TotalsLine.{totals_there}
use Rattle.shift_lines.specs.Types.{Station, Edit, Network, Answer, Tally, Finding}
use Rattle.shift_lines.specs.between.Listing.{told, answers_text, shift_most, end_text, run_text}

-- the lines of the listing

findings_lines : (fs : List Finding) → flat_map line_text (map finding_line fs) ≡ listed_text 70 [] fs
unfolding listed_text line_text finding_line
findings_lines fs = flat_map_lem line_text finding_line fs

module _ (n : Network) (good : network_refusal n ≡ 0) where
  -- a division that is known to be good
  module _ (division : List ℕ) (k : known_good n division ≡ true) where
    facts : GoodDivision n good division
    facts = let g = sheets_good n division k in record { size = g.size; fine = g.fine }

    pub merges : (buffer : List ℕ) → length buffer ≡ 8192 → after_merge n division buffer ≡ merged n division
    unfolding merge_refusal after_merge call_refusal or_else
    merges buffer size =
        rw (eq-eqb (length division) 49152 facts.size, eq-eqb (length buffer) 8192 size, good, T_true (good_division n division) facts.fine)

    merged_long : length (merged n division) ≡ 8192
    merged_long = merged_size n good division facts.size

    pub merged_listed : sheet_list_refusal n (merged n division) ≡ 0
    unfolding sheet_list_refusal
    merged_listed =
        list_formed (eqb (length (merged n division)) 8192) (network_refusal n) (good_sheet n (listed n) (merged n division))
        (eq-eqb (length (merged n division)) 8192 merged_long) good (T_true (good_sheet n (listed n) (merged n division)) (merged_good n good division facts.size facts.fine))

  -- the divided sheet of a whole timetable
  known_whole : (m : Timetable) → Whole n m → known_good n (divided n (encode_sheet m)) ≡ true
  known_whole m w =
      let g : GoodSheet n good (encode_sheet m) = whole_good n good m w in
      is_known n (divided n (encode_sheet m)) good (record { size = divided_size n (encode_sheet m) g.size; fine = divided_good n good (encode_sheet m) g.size g.fine })

  -- an empty division

  abbrev bare : List ℕ
  bare = encode_sheet nothing_placed

  bare_good : GoodSheet n good bare
  bare_good = whole_good n good nothing_placed (nothing_whole n)

  bare_page : (k : Station) → T (station_ok k) → T (blank (page_at bare k))
  unfolding nothing_placed
  bare_page k t =
      rw (encoded_page nothing_placed (λ j u. good_all_coded n (listed n) (listed_ok n good) nothing_placed (nothing_whole n) j) k t, blank_page) (zeros_blank 512)

  division_blank : T (blank (divided n bare))
  unfolding divided blank
  division_blank = every_each (eqb 0) (λ a. flat_map (λ k. if in_group (area_of n) a k then page_at bare k else zeros 512) sixteen) (λ a.
      every_flatMap (eqb 0) (λ k. if in_group (area_of n) a k then page_at bare k else zeros 512) station_ok (λ k t. go k t (in_group (area_of n) a k)) sixteen all_stations) six
    where
      go : (k : Station) → T (station_ok k) → (b : Bool) → T (blank (if b then page_at bare k else zeros 512))
      go k t true = bare_page k t
      go k t false = zeros_blank 512

  empty_division : zeros 49152 ≡ divided n bare
  empty_division = sym (blank_zeros (divided n bare) division_blank ∙ ap zeros (divided_size n bare bare_good.size))

  pub empty_known : known_good n (zeros 49152) ≡ true
  empty_known = ap (known_good n) empty_division ∙ known_whole nothing_placed (nothing_whole n)

  -- a list of edits on it
  module _ (es : List Edit) where
    abbrev last : Timetable
    last = run (after n) es nothing_placed

    last_whole : Whole n last
    last_whole = run_whole n es nothing_placed (nothing_whole n)

    told_central : told n es (zeros 49152) ≡ answers (after n) (answer n) es nothing_placed
    unfolding told
    told_central =
        ap (told n es) empty_division
        ∙ answers_divided n good es bare bare_good
        ∙ central_answers n good es bare bare_good
        ∙ ap (answers (after n) (answer n) es) (whole_back n good nothing_placed (nothing_whole n))

    left_central : division_of n es (zeros 49152) ≡ divided n (encode_sheet last)
    unfolding division_of
    left_central = ap (division_of n es) empty_division ∙ run_divided n good es bare bare_good ∙ ap (divided n) (bytes_run n good nothing_placed (nothing_whole n) es)

    pub left_known : known_good n (division_of n es (zeros 49152)) ≡ true
    left_known = ap (known_good n) left_central ∙ known_whole last last_whole

    left_merged : decode_sheet (merged n (division_of n es (zeros 49152))) ≡ last
    left_merged =
        let g : GoodSheet n good (encode_sheet last) = whole_good n good last last_whole in
        ap (λ (d : List ℕ). decode_sheet (merged n d)) left_central
        ∙ ap decode_sheet (merged_divided n good (encode_sheet last) g.size g.fine)
        ∙ whole_back n good last last_whole

    -- the listing by its parts
    listing_parts : (as' : List Answer) → as' ≡ answers (after n) (answer n) es nothing_placed
        → run_text n es ≡ answers_text 1 as' ++ end_text n last (raise_all zero_tally es as')
    unfolding run_text listing answers_text end_text whole_text totals_text line_text flat_map
    listing_parts as' e =
        rw e
        (flat_append line_text (answer_lines 1 (answers (after n) (answer n) es nothing_placed)) _
        ∙ ap (λ (l : List ℕ). flat_map line_text (answer_lines 1 (answers (after n) (answer n) es nothing_placed)) ++ l)
        (flat_append line_text (map finding_line (findings n last)) _
        ∙ ap₂ ◌++◌ (findings_lines (findings n last)) (ap (λ (l : List ℕ). totals_text n last ++ l) (append-nil _))))

    -- of the answers that the edits had on it, and the division and the tally that they left
    module _ (as' : List Answer) (same : as' ≡ told n es (zeros 49152)) (d : List ℕ) (left : d ≡ division_of n es (zeros 49152))
        (y : Tally) (counted : y ≡ raise_all zero_tally es as') where
      text-parts : run_text n es ≡ answers_text 1 as' ++ end_text n (decode_sheet (merged n d)) y
      text-parts = rw (left, counted, left_merged) (listing_parts as' (same ∙ told_central))

      -- all lines, from those of the edits and those behind them
      pub run-put : (at r count : ℕ) (b mid later : List ℕ) → Puts 0 (answers_text 1 as') b at mid (68 * count) → count ≤ 1000
          → Puts at (end_text n (decode_sheet (merged n d)) y) mid r later (26 * findings_most + 136) → Puts 0 (run_text n es) b r later shift_most
      run-put at r count b mid later w few v =
          puts_as 0 r (answers_text 1 as' ++ end_text n (decode_sheet (merged n d)) y) (run_text n es) b later shift_most (sym text-parts)
          (puts_two 0 at r (answers_text 1 as') (end_text n (decode_sheet (merged n d)) y) b mid later 68000 (26 * findings_most + 136)
          (puts_more 0 at (68 * count) 68000 (answers_text 1 as') b mid (omega (arith, few)) w) v)

-- findings, totals and the tally of the sheet that a division merges to
pub end_put : (n : Network) (sheet whole : List ℕ) (y : Tally) (at p q r count : ℕ) (b x z later : List ℕ) → sheet ≡ whole → sheet_list_refusal n sheet ≡ 0 → at ≤ 1000000
    → Puts at (whole_at at n sheet) b p x (26 * findings_most) → count ≡ whole_count at n sheet → Puts p (totals_at p n sheet count) x q z 68
    → Puts q (line_text (tally_line y)) z r later 68 → Puts at (end_text n (decode_sheet whole) y) b r later (26 * findings_most + 136)
unfolding end_text totals_text
end_put n sheet whole y at p q r count b x z later same fine low w many t u =
    let m : Timetable = decode_sheet sheet in
    let near : at ≤ far = omega (arith, low) in
    let found : Puts at (whole_text n m) b p x (26 * findings_most) = puts_as at p _ (whole_text n m) b x (26 * findings_most) (whole_there at near n sheet fine) w in
    let text = totals_there p (omega (arith, low, w.2)) n sheet (fine_size n sheet fine) count in
    let totals : Puts p (totals_text n m) x q z 68 =
    puts_as p q _ (totals_text n m) x z 68 (text ∙ ap (λ (k : ℕ). line 84 (visit_count n m ∷ relation_count n m ∷ k ∷ [])) (many ∙ count_there at near n sheet fine)) t in
    rw (← same)
    (puts_two at p r (whole_text n m) (totals_text n m ++ line_text (tally_line y)) b x later (26 * findings_most) 136 found
    (puts_two p q r (totals_text n m) (line_text (tally_line y)) x z later 68 68 totals u))

-- what is put of a text is put of the whole, where they are the same
pub text_put : (input text : List ℕ) (r k : ℕ) (b later : List ℕ) → shift_text input ≡ text → k ≤ shift_most → Puts 0 text b r later k
    → Puts 0 (shift_text input) b r later shift_most
text_put input text r k b later e h w =
    puts_as 0 r text (shift_text input) b later shift_most (sym e) (puts_more 0 r k shift_most text b later h w)
