-- Copying pages: one more part filled in a row of parts, what stands at each place of what is to be made, and that on
-- the areas of a network it is `divided` or `merged`. Assumes nothing.
use Prim.Native.Nat.{ℕ, zero, suc, ◌+◌, ◌*◌, ◌-◌, ◌≤◌, ◌<◌}
use mathlib.Core.Path.{◌≡◌, refl, sym, ◌∙◌, ap}
use mathlib.Core.Bool.{Bool, true, false}
use mathlib.Core.List.{List, [], ◌∷◌, map, flat_map}
use native.Mathlib.Nat.{add-sub_cancel_left}
use mathlib.Core.Logic.{by_cases}
use native.Mathlib.Decide.{ℕ_discrete}
use native.Mathlib.Omega.{arith}
use lib.Dec.{T, leb, eqb, leb→le, le→leb}
use lib.ListN.{length, get_or, take, drop, length-drop, length-replicate}
use lib.Seq.{length-take-le}
use borrow.Author.Tests.{eq-eqb, ne_eqb, lt-ltb}
use Rattle.base.specs.Lists.{every}
use Rattle.base.proofs.Tests.{both, every_head, every_tail}
use Rattle.railway.specs.Ranges.{station_ok, area_ok}
use Rattle.network.specs.Networks.{network_refusal, area_of}
use Rattle.timetable.specs.Groups.{in_group}
use Rattle.records.specs.Bytes.{zeros}
use Rattle.division.specs.Types.{Station, Area, Network}
use Rattle.sheet.specs.Sheets.{sixteen, page_at, sheet_at, area_part, divided, merged}
use Rattle.division.specs.between.Copies.{kept_page, areas_in, areas_high, spread, spread_all, collected_page, collected}
use Rattle.network.proofs.AreaLaws.{area_high}
use Rattle.sheet.proofs.SheetLaws.{station_low, station_high, page_size, page_row, sheet_row, row_size, division_size}
use Rattle.sheet.proofs.FillLaws.{deep_page}

-- an area's part

module _ (d : List ℕ) (a : Area) where
  pub part_is : (s : ℕ) → s ≡ a.0 → length d ≡ 49152 → area_ok a ≡ true
      → take (8192 * (s - 1) + 8192 - 8192 * (s - 1)) (drop (8192 * (s - 1)) d) ≡ area_part d a
  unfolding area_part sheet_at
  part_is s e l ok = rw (add-sub_cancel_left (8192 * (s - 1)) 8192, e, eq-eqb (length d) 49152 l, ok)

  pub part_none : length d ≡ 49152 → area_ok a ≡ false → [] ≡ area_part d a
  unfolding area_part
  part_none l ok = rw (eq-eqb (length d) 49152 l, ok)

  pub part_short : ¬ (length d ≡ 49152) → [] ≡ area_part d a
  unfolding area_part
  part_short l = rw (ne_eqb (length d) 49152 l)

-- dividing

kept_size : (kept : Bool) (page : List ℕ) → length page ≡ 512 → length (kept_page kept page) ≡ 512
kept_size true page e = e
kept_size false page e = length-replicate {A = ℕ} 512 0

module _ (areas sheet : List ℕ) (size : length sheet ≡ 8192) where
  module _ (a : ℕ) where
    chosen : Station → List ℕ
    chosen k = kept_page (eqb a (get_or areas (k.0 - 1) 0)) (page_at sheet k)

    chosen_size : (k : Station) → T (station_ok k) → length (chosen k) ≡ 512
    unfolding chosen
    chosen_size k t = kept_size (eqb a (get_or areas (k.0 - 1) 0)) (page_at sheet k) (page_size sheet k size t)

    pub spread_size : length (spread areas sheet a) ≡ 8192
    unfolding spread chosen
    spread_size = row_size chosen chosen_size

    pub spread_page : (i : ℕ) → i < 16 → take 512 (drop (512 * i) (spread areas sheet a)) ≡ kept_page (eqb a (get_or areas i 0)) (take 512 (drop (512 * i) sheet))
    unfolding spread chosen page_at
    spread_page i h =
        let e : i + 1 - 1 ≡ i = omega arith in
        page_row chosen chosen_size i h ∙ ap (λ (j : ℕ). kept_page (eqb a (get_or areas j 0)) (take 512 (drop (512 * j) sheet))) e

  pub spread_all_size : length (spread_all areas sheet) ≡ 49152
  unfolding spread_all
  spread_all_size = division_size (spread areas sheet) (λ a t. spread_size a)

  pub spread_sheet : (i : ℕ) → i < 6 → take 8192 (drop (8192 * i) (spread_all areas sheet)) ≡ spread areas sheet (i + 1)
  unfolding spread_all
  spread_sheet i h = sheet_row (spread areas sheet) (λ a t. spread_size a) i h

pub spread_divided : (n : Network) (sheet : List ℕ) → spread_all (areas_in n) sheet ≡ divided n sheet
unfolding spread_all spread areas_in divided in_group sixteen flat_map
spread_divided n sheet = refl

-- merging

pub collects_none : (division : List ℕ) (i a : ℕ) → a ≡ 0 → zeros 512 ≡ collected_page division i a
unfolding collected_page
collects_none division i a e = rw e

pub collects : (division : List ℕ) (i a : ℕ) → i < 16 → 0 < a → take 512 (drop (8192 * (a - 1) + 512 * i) division) ≡ collected_page division i a
unfolding collected_page
collects division i a h p = rw (lt-ltb 0 a p) (sym (deep_page division i a h))

pub high_at : (areas : List ℕ) → T (areas_high areas) → (i : ℕ) → get_or areas i 0 ≤ 6
unfolding areas_high
high_at [] t i = omega arith
high_at (a ∷ areas) t zero = leb→le a 6 (every_head (λ x. leb x 6) a areas t)
high_at (a ∷ areas) t (suc i) = high_at areas (every_tail (λ x. leb x 6) a areas t) i

module _ (areas division : List ℕ) (high : T (areas_high areas)) (size : length division ≡ 49152) where
  page_of : Station → List ℕ
  page_of k = collected_page division (k.0 - 1) (get_or areas (k.0 - 1) 0)

  page_of_size : (k : Station) → T (station_ok k) → length (page_of k) ≡ 512
  unfolding page_of
  page_of_size k t = go (k.0 - 1) (omega (arith, station_low k t, station_high k t))
    where
      go : (i : ℕ) → i < 16 → length (collected_page division i (get_or areas i 0)) ≡ 512
      go i h = by_cases (ℕ_discrete (get_or areas i 0) 0)
          (λ e. ap length (sym (collects_none division i (get_or areas i 0) e)) ∙ length-replicate {A = ℕ} 512 0)
          (λ e. ap length (sym (collects division i (get_or areas i 0) h (omega arith)))
          ∙ length-take-le 512 (drop (8192 * (get_or areas i 0 - 1) + 512 * i) division)
          (omega (arith, high_at areas high i, length-drop (8192 * (get_or areas i 0 - 1) + 512 * i) division)))

  pub collected_size : length (collected areas division) ≡ 8192
  unfolding collected page_of
  collected_size = row_size page_of page_of_size

  pub collected_row : (i : ℕ) → i < 16 → take 512 (drop (512 * i) (collected areas division)) ≡ collected_page division i (get_or areas i 0)
  unfolding collected page_of
  collected_row i h =
      let e : i + 1 - 1 ≡ i = omega arith in
      page_row page_of page_of_size i h ∙ ap (λ (j : ℕ). collected_page division j (get_or areas j 0)) e

pub collected_merged : (n : Network) (division : List ℕ) → collected (areas_in n) division ≡ merged n division
unfolding collected collected_page areas_in merged sixteen flat_map
collected_merged n division = refl

-- the areas of a good network
pub network_high : (n : Network) → network_refusal n ≡ 0 → T (areas_high (areas_in n))
unfolding areas_high areas_in every
network_high n good = go sixteen
  where
    go : (ks : List Station) → T (every (λ a. leb a 6) (map (area_of n) ks))
    go [] = tt
    go (k ∷ ks) = both (leb (area_of n k) 6) (every (λ a. leb a 6) (map (area_of n) ks)) (le→leb (area_of n k) 6 (area_high n good k)) (go ks)
