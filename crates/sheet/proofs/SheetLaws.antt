-- Sheets and divisions as parts of equal length in a row: the part at each place is the one that was put there, and
-- bytes of the right length are their own parts in a row, so two sheets with equal pages are equal. From that: a sheet
-- and its timetable, and that dividing and merging give back each other. Assumes nothing.
use Prim.Native.Nat.{ℕ, zero, suc, ◌+◌, ◌*◌, ◌-◌, ◌≤◌, ◌<◌}
use mathlib.Core.Path.{◌≡◌, refl, sym, ◌∙◌, ap, ap₂, fun_ext}
use mathlib.Core.Bool.{Bool, true, false, not, ◌&&◌}
use mathlib.Core.List.{List, [], ◌∷◌, ◌++◌, flat_map}
use native.Mathlib.Omega.{arith}
use lib.Dec.{T, ltb, leb, eqb, leb→le, le→leb, eqb→eq}
use lib.ListN.{length, get_or, take, drop, length-append, length-drop, length-replicate, get_or-map}
use lib.Seq.{take_at, take-add, take_all, drop-drop, drop-append-add, length-take-le}
use borrow.Author.Tests.{ltb-true, eq-eqb}
use Rattle.std.specs.Prelude.{if◌then◌else◌}
use Rattle.base.specs.Lists.{every, within}
use Rattle.base.proofs.Tests.{by_value, T_true, true_T, not_T_false, and_l, and_r, both, every_head, every_tail, every_weaker, every_at}
use Rattle.railway.specs.Ranges.{station_ok}
use Rattle.network.specs.Networks.{network_refusal, listed, area_of}
use Rattle.timetable.specs.Tables.{empty}
use Rattle.timetable.specs.Machine.{Timetable}
use Rattle.timetable.specs.Groups.{six, in_group, divide, merge}
use Rattle.timetable.specs.Good.{Good, table_good}
use Rattle.records.specs.Bytes.{zeros, blank}
use Rattle.sheet.specs.Types.{Station, Network}
use Rattle.page.specs.Pages.{encode_page, decode_page, good_page}
use Rattle.sheet.specs.Sheets.{sixteen, page_at, encode_sheet, decode_sheet, good_sheet, sheet_at, good_division, divided, merged}
use Rattle.network.proofs.AreaLaws.{area_high, listed_placed}
use Rattle.page.proofs.PageLaws.{Coded, page_length, page_back, blank_page, blank_back, empty_coded, good_coded, encoded_good, good_table, good_same}

-- parts of equal length in a row

module _ {A : Type 0} (w : ℕ) (f : A → List ℕ) (ok : A → Bool) (wide : (x : A) → T (ok x) → length (f x) ≡ w) where
  pub row_length : (xs : List A) → T (every ok xs) → length (flat_map f xs) ≡ w * length xs
  unfolding flat_map
  row_length [] t = omega arith
  row_length (x ∷ xs) t = length-append (f x) (flat_map f xs) ∙ omega (arith, wide x (every_head ok x xs t), row_length xs (every_tail ok x xs t))

  pub row_part : (xs : List A) (i : ℕ) (d : A) → T (every ok xs) → i < length xs → take w (drop (w * i) (flat_map f xs)) ≡ f (get_or xs i d)
  unfolding flat_map
  row_part [] i d t h = absurd (omega arith)
  row_part (x ∷ xs) zero d t h =
      let z : w * 0 ≡ 0 = omega arith in
      rw z (take_at (f x) (flat_map f xs) w (wide x (every_head ok x xs t)))
  row_part (x ∷ xs) (suc i) d t h =
      let z : w * suc i ≡ length (f x) + w * i = omega (arith, wide x (every_head ok x xs t)) in
      ap (λ (j : ℕ). take w (drop j (f x ++ flat_map f xs))) z
      ∙ ap (take w) (drop-append-add (f x) (flat_map f xs) (w * i))
      ∙ row_part xs i d (every_tail ok x xs t) (omega arith)

pub row_same : {A : Type 0} (f g : A → List ℕ) (ok : A → Bool) → ((x : A) → T (ok x) → f x ≡ g x) → (xs : List A) → T (every ok xs) → flat_map f xs ≡ flat_map g xs
unfolding flat_map
row_same f g ok e [] t = refl
row_same f g ok e (x ∷ xs) t = ap₂ ◌++◌ (e x (every_head ok x xs t)) (row_same f g ok e xs (every_tail ok x xs t))

-- n numbers from i + 1 on
abbrev count_on : ℕ → ℕ → List ℕ
count_on zero i = []
count_on (suc n) i = (i + 1) ∷ count_on n (i + 1)

count_at : (n i j : ℕ) → j < n → get_or (count_on n i) j 0 ≡ i + j + 1
count_at zero i j h = absurd (omega arith)
count_at (suc n) i zero h = omega arith
count_at (suc n) i (suc j) h = omega (arith, count_at n (i + 1) j (omega arith))

-- the parts of some bytes in a row
row_whole : (w n i : ℕ) (b : List ℕ) → flat_map (λ k. take w (drop (w * (k - 1)) b)) (count_on n i) ≡ take (w * n) (drop (w * i) b)
unfolding flat_map
row_whole w zero i b = let z : w * 0 ≡ 0 = omega arith in rw z
row_whole w (suc n) i b =
    let p : w * (i + 1 - 1) ≡ w * i = ap (λ (j : ℕ). w * j) (omega arith) in
    let q : w * (i + 1) ≡ w * i + w = omega arith in
    let s : w * suc n ≡ w + w * n = omega arith in
    ap₂ ◌++◌ (ap (λ (j : ℕ). take w (drop j b)) p) (row_whole w n (i + 1) b ∙ ap (λ (j : ℕ). take (w * n) (drop j b)) q ∙ ap (take (w * n)) (sym (drop-drop w (w * i) b)))
    ∙ sym (take-add w (w * n) (drop (w * i) b)) ∙ ap (λ (j : ℕ). take j (drop (w * i) b)) (sym s)

-- stations and areas by their numbers

pub station_low : (k : Station) → T (station_ok k) → 1 ≤ k.0
station_low k t = leb→le 1 k.0 (and_l (leb 1 k.0) (leb k.0 16) t)

pub station_high : (k : Station) → T (station_ok k) → k.0 ≤ 16
station_high k t = leb→le k.0 16 (and_r (leb 1 k.0) (leb k.0 16) t)

abbrev pub mk : ℕ → Station
mk k = record { 0 = k }

abbrev pub area_number : ℕ → Bool
area_number a = within 1 6 a

pub all_stations : T (every station_ok sixteen)
unfolding every sixteen
all_stations = tt

pub all_areas : T (every area_number six)
unfolding every
all_areas = tt

pub station_at : (i : ℕ) → i < 16 → get_or sixteen i (mk 0) ≡ mk (i + 1)
unfolding sixteen
station_at i h = get_or-map mk (count_on 16 0) i 0 ∙ ap mk (count_at 16 0 i h ∙ omega arith)

pub area_at : (i : ℕ) → i < 6 → get_or six i 0 ≡ i + 1
area_at i h = count_at 6 0 i h ∙ omega arith

pub station_here : (k : Station) → T (station_ok k) → get_or sixteen (k.0 - 1) (mk 0) ≡ k
station_here k t =
    let low = station_low k t in
    let high = station_high k t in
    let e : k.0 - 1 + 1 ≡ k.0 = omega arith in
    station_at (k.0 - 1) (omega arith) ∙ ap mk e

station_index : (k : Station) → T (station_ok k) → k.0 - 1 < length sixteen
unfolding sixteen
station_index k t = omega (arith, station_low k t, station_high k t)

pub sixteen_long : (i : ℕ) → i < 16 → i < length sixteen
unfolding sixteen
sixteen_long i h = h

pub area_here : (a : ℕ) → T (area_number a) → get_or six (a - 1) 0 ≡ a
area_here a t =
    let low = leb→le 1 a (and_l (leb 1 a) (leb a 6) t) in
    let high = leb→le a 6 (and_r (leb 1 a) (leb a 6) t) in
    area_at (a - 1) (omega arith) ∙ omega arith

-- a test of every station is one of each
pub each_station : (f : Station → Bool) → T (every f sixteen) → (k : Station) → T (station_ok k) → T (f k)
each_station f t k s = rw (station_here k s) at (every_at f sixteen (k.0 - 1) (mk 0) t (station_index k s))

pub every_station : (f : Station → Bool) → ((k : Station) → T (station_ok k) → T (f k)) → T (every f sixteen)
every_station f h = every_weaker station_ok f h sixteen all_stations

pub each_area : (f : ℕ → Bool) → T (every f six) → (a : ℕ) → T (area_number a) → T (f a)
each_area f t a s =
    let low = leb→le 1 a (and_l (leb 1 a) (leb a 6) s) in
    let high = leb→le a 6 (and_r (leb 1 a) (leb a 6) s) in
    rw (area_here a s) at (every_at f six (a - 1) 0 t (omega arith))

pub every_area : (f : ℕ → Bool) → ((a : ℕ) → T (area_number a) → T (f a)) → T (every f six)
every_area f h = every_weaker area_number f h six all_areas

-- sheets of sixteen pages

pub page_size : (sheet : List ℕ) (k : Station) → length sheet ≡ 8192 → T (station_ok k) → length (page_at sheet k) ≡ 512
unfolding page_at
page_size sheet k e t =
    length-take-le 512 (drop (512 * (k.0 - 1)) sheet)
    (omega (arith, length-drop (512 * (k.0 - 1)) sheet, station_low k t, station_high k t))

pub pages_whole : (sheet : List ℕ) → length sheet ≡ 8192 → flat_map (page_at sheet) sixteen ≡ sheet
unfolding flat_map page_at sixteen
pages_whole sheet e = row_whole 512 16 0 sheet ∙ take_all 8192 sheet (omega arith)

-- the page at an index, and of a station, in a row of pages
pub page_row : (f : Station → List ℕ) → ((k : Station) → T (station_ok k) → length (f k) ≡ 512) → (i : ℕ) → i < 16
    → take 512 (drop (512 * i) (flat_map f sixteen)) ≡ f (mk (i + 1))
page_row f wide i h = row_part 512 f station_ok wide sixteen i (mk 0) all_stations (sixteen_long i h) ∙ ap f (station_at i h)

pub page_in : (f : Station → List ℕ) → ((k : Station) → T (station_ok k) → length (f k) ≡ 512) → (k : Station) → T (station_ok k) → page_at (flat_map f sixteen) k ≡ f k
unfolding page_at
page_in f wide k t = row_part 512 f station_ok wide sixteen (k.0 - 1) (mk 0) all_stations (station_index k t) ∙ ap f (station_here k t)

pub row_size : (f : Station → List ℕ) → ((k : Station) → T (station_ok k) → length (f k) ≡ 512) → length (flat_map f sixteen) ≡ 8192
unfolding sixteen
row_size f wide = row_length 512 f station_ok wide sixteen all_stations

-- sheets with equal pages are equal
pub sheets_equal : (a b : List ℕ) → length a ≡ 8192 → length b ≡ 8192 → ((k : Station) → T (station_ok k) → page_at a k ≡ page_at b k) → a ≡ b
sheets_equal a b p q e = sym (pages_whole a p) ∙ row_same (page_at a) (page_at b) station_ok e sixteen all_stations ∙ pages_whole b q

-- divisions of six sheets

pub sheet_size : (division : List ℕ) (a : ℕ) → length division ≡ 49152 → T (area_number a) → length (sheet_at division a) ≡ 8192
unfolding sheet_at
sheet_size division a e t =
    length-take-le 8192 (drop (8192 * (a - 1)) division)
    (omega (arith, length-drop (8192 * (a - 1)) division, leb→le 1 a (and_l (leb 1 a) (leb a 6) t), leb→le a 6 (and_r (leb 1 a) (leb a 6) t)))

pub sheets_whole : (division : List ℕ) → length division ≡ 49152 → flat_map (sheet_at division) six ≡ division
unfolding flat_map sheet_at
sheets_whole division e = row_whole 8192 6 0 division ∙ take_all 49152 division (omega arith)

pub sheet_row : (f : ℕ → List ℕ) → ((a : ℕ) → T (area_number a) → length (f a) ≡ 8192) → (i : ℕ) → i < 6
    → take 8192 (drop (8192 * i) (flat_map f six)) ≡ f (i + 1)
sheet_row f wide i h = row_part 8192 f area_number wide six i 0 all_areas h ∙ ap f (area_at i h)

pub sheet_in : (f : ℕ → List ℕ) → ((a : ℕ) → T (area_number a) → length (f a) ≡ 8192) → (a : ℕ) → T (area_number a) → sheet_at (flat_map f six) a ≡ f a
unfolding sheet_at
sheet_in f wide a t =
    let low = leb→le 1 a (and_l (leb 1 a) (leb a 6) t) in
    let high = leb→le a 6 (and_r (leb 1 a) (leb a 6) t) in
    row_part 8192 f area_number wide six (a - 1) 0 all_areas (omega arith) ∙ ap f (area_here a t)

pub division_size : (f : ℕ → List ℕ) → ((a : ℕ) → T (area_number a) → length (f a) ≡ 8192) → length (flat_map f six) ≡ 49152
division_size f wide = row_length 8192 f area_number wide six all_areas

pub divisions_equal : (d e : List ℕ) → length d ≡ 49152 → length e ≡ 49152 → ((a : ℕ) → T (area_number a) → sheet_at d a ≡ sheet_at e a) → d ≡ e
divisions_equal d e p q h = sym (sheets_whole d p) ∙ row_same (sheet_at d) (sheet_at e) area_number h six all_areas ∙ sheets_whole e q

-- blank pages

pub blank_zeros : (b : List ℕ) → T (blank b) → b ≡ zeros (length b)
unfolding blank every
blank_zeros [] t = refl
blank_zeros (x ∷ b) t = ap₂ (λ y c. y ∷ c) (sym (eqb→eq 0 x (and_l (eqb 0 x) (blank b) t))) (blank_zeros b (and_r (eqb 0 x) (blank b) t))

pub zeros_blank : (n : ℕ) → T (blank (zeros n))
unfolding blank every
zeros_blank zero = tt
zeros_blank (suc n) = zeros_blank n

zeros_size : (k : Station) → T (station_ok k) → length (zeros 512) ≡ 512
zeros_size k t = length-replicate {A = ℕ} 512 0

-- what a good sheet's pages are: good, or zeros
module _ (n : Network) (over : Station → Bool) (sheet : List ℕ) (t : T (good_sheet n over sheet)) (k : Station) (s : T (station_ok k)) where
  page_test : T (if over k then good_page n k (page_at sheet k) else blank (page_at sheet k))
  unfolding good_sheet
  page_test = each_station (λ j. if over j then good_page n j (page_at sheet j) else blank (page_at sheet j)) t k s

  pub page_good : over k ≡ true → T (good_page n k (page_at sheet k))
  page_good e = rw e at page_test

  pub page_zeros : length sheet ≡ 8192 → over k ≡ false → page_at sheet k ≡ zeros 512
  page_zeros l e =
      let z : T (blank (page_at sheet k)) = rw e at page_test in
      blank_zeros (page_at sheet k) z ∙ ap zeros (page_size sheet k l s)

-- a sheet whose pages are good, or zeros, is good
pub sheet_good : (n : Network) (over : Station → Bool) (sheet : List ℕ)
    → ((k : Station) → T (station_ok k) → over k ≡ true → T (good_page n k (page_at sheet k)))
    → ((k : Station) → T (station_ok k) → over k ≡ false → page_at sheet k ≡ zeros 512) → T (good_sheet n over sheet)
unfolding good_sheet
sheet_good n over sheet g z = every_station (λ k. if over k then good_page n k (page_at sheet k) else blank (page_at sheet k)) one
  where
    one : (k : Station) → T (station_ok k) → T (if over k then good_page n k (page_at sheet k) else blank (page_at sheet k))
    one k s = go (over k) refl
      where
        go : (b : Bool) → over k ≡ b → T (if b then good_page n k (page_at sheet k) else blank (page_at sheet k))
        go true e = g k s e
        go false e = rw (z k s e) (zeros_blank 512)

-- a sheet and its timetable

module _ (m : Timetable) (c : (k : Station) → T (station_ok k) → Coded (m k)) where
  pub encoded_size : length (encode_sheet m) ≡ 8192
  unfolding encode_sheet
  encoded_size = row_size (λ k. encode_page (m k)) (λ k t. page_length (m k) (c k t))

  pub encoded_page : (k : Station) → T (station_ok k) → page_at (encode_sheet m) k ≡ encode_page (m k)
  unfolding encode_sheet
  encoded_page k t = page_in (λ j. encode_page (m j)) (λ j u. page_length (m j) (c j u)) k t

  -- the timetable is read back at every station
  pub sheet_back : (k : Station) → T (station_ok k) → decode_sheet (encode_sheet m) k ≡ m k
  unfolding decode_sheet
  sheet_back k t = rw (T_true (station_ok k) t) (ap decode_page (encoded_page k t) ∙ page_back (m k) (c k t))

pub decoded_page : (sheet : List ℕ) (k : Station) → T (station_ok k) → decode_sheet sheet k ≡ decode_page (page_at sheet k)
unfolding decode_sheet
decoded_page sheet k t = rw (T_true (station_ok k) t)

pub decoded_none : (sheet : List ℕ) (k : Station) → station_ok k ≡ false → decode_sheet sheet k ≡ empty
unfolding decode_sheet
decoded_none sheet k e = rw e

-- good bytes and good timetables, over stations of 1..16

module _ (n : Network) (over : Station → Bool) (known : (k : Station) → T (over k) → T (station_ok k)) where
  pub decoded_good : (sheet : List ℕ) → length sheet ≡ 8192 → T (good_sheet n over sheet) → Good n over (decode_sheet sheet)
  decoded_good sheet size t = record { good = good; bare = bare }
    where
      good : (k : Station) → T (over k) → T (table_good n k (decode_sheet sheet k))
      good k u =
          let s = known k u in
          rw (decoded_page sheet k s) (good_table n k (page_at sheet k) (page_good n over sheet t k s (T_true (over k) u)))

      bare : (k : Station) → T (not (over k)) → decode_sheet sheet k ≡ empty
      bare k u = by_value (station_ok k)
          (λ e. let s = true_T (station_ok k) e in
          decoded_page sheet k s ∙ ap decode_page (page_zeros n over sheet t k s size (not_T_false (over k) u)) ∙ blank_back)
          (decoded_none sheet k)

  -- a good timetable is within the layout's limits
  pub good_all_coded : (m : Timetable) → Good n over m → (k : Station) → Coded (m k)
  good_all_coded m g k = by_value (over k)
      (λ e. good_coded n k (m k) (g.good k (true_T (over k) e)))
      (λ e. rw (g.bare k (rw e tt)) empty_coded)

  pub encoded_sheet_good : (m : Timetable) → Good n over m → T (good_sheet n over (encode_sheet m))
  encoded_sheet_good m g =
      sheet_good n over (encode_sheet m)
      (λ k s e. rw (encoded_page m coded k s) (encoded_good n k (m k) (g.good k (true_T (over k) e))))
      (λ k s e. encoded_page m coded k s ∙ ap encode_page (g.bare k (rw e tt)) ∙ blank_page)
    where
      coded : (k : Station) → T (station_ok k) → Coded (m k)
      coded k t = good_all_coded m g k

  -- the whole timetable is read back
  pub good_sheet_back : (m : Timetable) → Good n over m → decode_sheet (encode_sheet m) ≡ m
  good_sheet_back m g = fun_ext λ k. by_value (station_ok k)
      (λ e. sheet_back m (λ j t. good_all_coded m g j) k (true_T (station_ok k) e))
      (λ e. decoded_none (encode_sheet m) k e ∙ sym (g.bare k (unknown k e)))
    where
      unknown : (k : Station) → station_ok k ≡ false → T (not (over k))
      unknown k e = go (over k) refl
        where
          go : (b : Bool) → over k ≡ b → T (not b)
          go true p = absurd (rw e at (known k (true_T (over k) p)))
          go false p = tt

-- equal timetables are equal bytes
pub good_sheets_same : (n : Network) (over : Station → Bool) (a b : List ℕ) → length a ≡ 8192 → length b ≡ 8192
    → T (good_sheet n over a) → T (good_sheet n over b)
    → ((k : Station) → T (station_ok k) → decode_sheet a k ≡ decode_sheet b k) → a ≡ b
good_sheets_same n over a b p q t u e = sheets_equal a b p q page
  where
    page : (k : Station) → T (station_ok k) → page_at a k ≡ page_at b k
    page k s = by_value (over k)
        (λ v. good_same n k n k (page_at a k) (page_at b k) (page_good n over a t k s v) (page_good n over b u k s v)
        (sym (decoded_page a k s) ∙ e k s ∙ decoded_page b k s))
        (λ v. page_zeros n over a t k s p v ∙ sym (page_zeros n over b u k s q v))

-- dividing

module _ (n : Network) (sheet : List ℕ) (size : length sheet ≡ 8192) where
  -- the page of a station in the sheet of area a
  own_page : ℕ → Station → List ℕ
  own_page a k = if in_group (area_of n) a k then page_at sheet k else zeros 512

  own_size : (a : ℕ) (k : Station) → T (station_ok k) → length (own_page a k) ≡ 512
  unfolding own_page
  own_size a k t = go (in_group (area_of n) a k)
    where
      go : (b : Bool) → length (if b then page_at sheet k else zeros 512) ≡ 512
      go true = page_size sheet k size t
      go false = zeros_size k t

  pub divided_size : length (divided n sheet) ≡ 49152
  unfolding divided own_page
  divided_size = division_size (λ a. flat_map (own_page a) sixteen) (λ a t. row_size (own_page a) (own_size a))

  divided_page : (a : ℕ) → T (area_number a) → (k : Station) → T (station_ok k)
      → page_at (sheet_at (divided n sheet) a) k ≡ (if in_group (area_of n) a k then page_at sheet k else zeros 512)
  unfolding divided own_page
  divided_page a t k s =
      ap (λ (b : List ℕ). page_at b k) (sheet_in (λ j. flat_map (own_page j) sixteen) (λ j u. row_size (own_page j) (own_size j)) a t)
      ∙ page_in (own_page a) (own_size a) k s

  module _ (a : ℕ) (t : T (area_number a)) (k : Station) (s : T (station_ok k)) where
    pub divided_own : in_group (area_of n) a k ≡ true → page_at (sheet_at (divided n sheet) a) k ≡ page_at sheet k
    divided_own e = divided_page a t k s ∙ rw e

    pub divided_other : in_group (area_of n) a k ≡ false → page_at (sheet_at (divided n sheet) a) k ≡ zeros 512
    divided_other e = divided_page a t k s ∙ rw e

-- the area that a station is in is its own
group_area : (n : Network) (a : ℕ) (k : Station) → in_group (area_of n) a k ≡ true → a ≡ area_of n k
unfolding in_group
group_area n a k e = eqb→eq a (area_of n k) (and_r (ltb 0 a) (eqb a (area_of n k)) (true_T (ltb 0 a && eqb a (area_of n k)) e))

group_low : (n : Network) (a : ℕ) (k : Station) → in_group (area_of n) a k ≡ true → ltb 0 (area_of n k) ≡ true
unfolding in_group
group_low n a k e =
    rw (group_area n a k e) at (T_true (ltb 0 a) (and_l (ltb 0 a) (eqb a (area_of n k)) (true_T (ltb 0 a && eqb a (area_of n k)) e)))

own_group : (n : Network) (k : Station) → ltb 0 (area_of n k) ≡ true → in_group (area_of n) (area_of n k) k ≡ true
unfolding in_group
own_group n k e = rw (e, eq-eqb (area_of n k) (area_of n k) refl)

-- merging, under a good network

module _ (n : Network) (good : network_refusal n ≡ 0) where
  own_number : (k : Station) → ltb 0 (area_of n k) ≡ true → T (area_number (area_of n k))
  own_number k e =
      both (leb 1 (area_of n k)) (leb (area_of n k) 6)
      (le→leb 1 (area_of n k) (omega (arith, ltb-true 0 (area_of n k) e))) (le→leb (area_of n k) 6 (area_high n good k))

  module _ (division : List ℕ) (size : length division ≡ 49152) where
    from_page : Station → List ℕ
    from_page k = if ltb 0 (area_of n k) then page_at (sheet_at division (area_of n k)) k else zeros 512

    from_size : (k : Station) → T (station_ok k) → length (from_page k) ≡ 512
    unfolding from_page
    from_size k t = go (ltb 0 (area_of n k)) refl
      where
        go : (b : Bool) → ltb 0 (area_of n k) ≡ b → length (if b then page_at (sheet_at division (area_of n k)) k else zeros 512) ≡ 512
        go true e = page_size (sheet_at division (area_of n k)) k (sheet_size division (area_of n k) size (own_number k e)) t
        go false e = zeros_size k t

    pub merged_size : length (merged n division) ≡ 8192
    unfolding merged from_page
    merged_size = row_size from_page from_size

    merged_page : (k : Station) → T (station_ok k)
        → page_at (merged n division) k ≡ (if ltb 0 (area_of n k) then page_at (sheet_at division (area_of n k)) k else zeros 512)
    unfolding merged from_page
    merged_page k s = page_in from_page from_size k s

    module _ (k : Station) (s : T (station_ok k)) where
      pub merged-own : ltb 0 (area_of n k) ≡ true → page_at (merged n division) k ≡ page_at (sheet_at division (area_of n k)) k
      merged-own e = merged_page k s ∙ rw e

      pub merged-none : ltb 0 (area_of n k) ≡ false → page_at (merged n division) k ≡ zeros 512
      merged-none e = merged_page k s ∙ rw e

  -- merging what was divided gives the sheet back
  pub merged_divided : (sheet : List ℕ) → length sheet ≡ 8192 → T (good_sheet n (listed n) sheet) → merged n (divided n sheet) ≡ sheet
  merged_divided sheet size t = sheets_equal (merged n (divided n sheet)) sheet (merged_size (divided n sheet) whole) size page
    where
      whole : length (divided n sheet) ≡ 49152
      whole = divided_size n sheet size

      page : (k : Station) → T (station_ok k) → page_at (merged n (divided n sheet)) k ≡ page_at sheet k
      page k s = by_value (ltb 0 (area_of n k))
          (λ e. merged-own (divided n sheet) whole k s e ∙ divided_own n sheet size (area_of n k) (own_number k e) k s (own_group n k e))
          (λ e. merged-none (divided n sheet) whole k s e ∙ sym (page_zeros n (listed n) sheet t k s size (listed_placed n good k ∙ e)))

  -- the stations of an area's sheet
  abbrev stations_in : ℕ → Station → Bool
  stations_in a k = listed n k && in_group (area_of n) a k

  -- what a good division's sheets are
  pub division_sheet : (division : List ℕ) → T (good_division n division) → (a : ℕ) → T (area_number a)
      → T (good_sheet n (stations_in a) (sheet_at division a))
  unfolding good_division
  division_sheet division t a s = each_area (λ b. good_sheet n (stations_in b) (sheet_at division b)) t a s

  not_in : (a : ℕ) (k : Station) → in_group (area_of n) a k ≡ false → stations_in a k ≡ false
  not_in a k e = rw e (go (listed n k))
    where
      go : (b : Bool) → (b && false) ≡ false
      go true = refl
      go false = refl

  -- dividing what was merged gives the division back
  pub divided_merged : (division : List ℕ) → length division ≡ 49152 → T (good_division n division) → divided n (merged n division) ≡ division
  divided_merged division size t = divisions_equal (divided n (merged n division)) division (divided_size n (merged n division) whole) size sheet
    where
      whole : length (merged n division) ≡ 8192
      whole = merged_size division size

      page : (a : ℕ) → T (area_number a) → (k : Station) → T (station_ok k)
          → page_at (sheet_at (divided n (merged n division)) a) k ≡ page_at (sheet_at division a) k
      page a u k s = by_value (in_group (area_of n) a k)
          (λ e. divided_own n (merged n division) whole a u k s e ∙ merged-own division size k s (group_low n a k e)
          ∙ ap (λ (b : ℕ). page_at (sheet_at division b) k) (sym (group_area n a k e)))
          (λ e. divided_other n (merged n division) whole a u k s e
          ∙ sym (page_zeros n (stations_in a) (sheet_at division a) (division_sheet division t a u) k s (sheet_size division a size u) (not_in a k e)))

      sheet : (a : ℕ) → T (area_number a) → sheet_at (divided n (merged n division)) a ≡ sheet_at division a
      sheet a u =
          sheets_equal (sheet_at (divided n (merged n division)) a) (sheet_at division a)
          (sheet_size (divided n (merged n division)) a (divided_size n (merged n division) whole) u) (sheet_size division a size u) (page a u)

  -- a good sheet divides into a good division
  pub divided_good : (sheet : List ℕ) → length sheet ≡ 8192 → T (good_sheet n (listed n) sheet) → T (good_division n (divided n sheet))
  unfolding good_division
  divided_good sheet size t = every_area (λ a. good_sheet n (stations_in a) (sheet_at (divided n sheet) a)) area
    where
      own : (a : ℕ) → T (area_number a) → (k : Station) → T (station_ok k) → stations_in a k ≡ true → T (good_page n k (page_at (sheet_at (divided n sheet) a) k))
      own a u k s e =
          let v = true_T (stations_in a k) e in
          rw (divided_own n sheet size a u k s (T_true (in_group (area_of n) a k) (and_r (listed n k) (in_group (area_of n) a k) v)))
          (page_good n (listed n) sheet t k s (T_true (listed n k) (and_l (listed n k) (in_group (area_of n) a k) v)))

      other : (a : ℕ) → T (area_number a) → (k : Station) → T (station_ok k) → stations_in a k ≡ false → page_at (sheet_at (divided n sheet) a) k ≡ zeros 512
      other a u k s e = by_value (in_group (area_of n) a k)
          (λ v. divided_own n sheet size a u k s v ∙ page_zeros n (listed n) sheet t k s size (unlisted (listed n k) (in_group (area_of n) a k) v e))
          (λ v. divided_other n sheet size a u k s v)
        where
          unlisted : (x y : Bool) → y ≡ true → (x && y) ≡ false → x ≡ false
          unlisted true y p q = absurd (true_T false (sym q ∙ p))
          unlisted false y p q = refl

      area : (a : ℕ) → T (area_number a) → T (good_sheet n (stations_in a) (sheet_at (divided n sheet) a))
      area a u = sheet_good n (stations_in a) (sheet_at (divided n sheet) a) (own a u) (other a u)

  -- a good division merges into a good sheet
  pub merged_good : (division : List ℕ) → length division ≡ 49152 → T (good_division n division) → T (good_sheet n (listed n) (merged n division))
  merged_good division size t = sheet_good n (listed n) (merged n division) own other
    where
      own : (k : Station) → T (station_ok k) → listed n k ≡ true → T (good_page n k (page_at (merged n division) k))
      own k s e =
          let p : ltb 0 (area_of n k) ≡ true = sym (listed_placed n good k) ∙ e in
          let a = area_of n k in
          let u = own_number k p in
          rw (merged-own division size k s p)
          (page_good n (stations_in a) (sheet_at division a) (division_sheet division t a u) k s (rw (e, own_group n k p)))

      other : (k : Station) → T (station_ok k) → listed n k ≡ false → page_at (merged n division) k ≡ zeros 512
      other k s e = merged-none division size k s (sym (listed_placed n good k) ∙ e)

-- the bytes and the theory's dividing and merging

-- the part of the divided sheet that is an area's, read as a timetable
pub divided_reads : (n : Network) (sheet : List ℕ) → length sheet ≡ 8192 → (a : ℕ) → T (area_number a)
    → decode_sheet (sheet_at (divided n sheet) a) ≡ divide (area_of n) (decode_sheet sheet) a
unfolding divide
divided_reads n sheet size a u = fun_ext λ k. by_value (station_ok k) (inside k) (outside k)
  where
    inside : (k : Station) → station_ok k ≡ true
        → decode_sheet (sheet_at (divided n sheet) a) k ≡ (if in_group (area_of n) a k then decode_sheet sheet k else empty)
    inside k s = let t = true_T (station_ok k) s in
        decoded_page (sheet_at (divided n sheet) a) k t
        ∙ by_value (in_group (area_of n) a k)
        (λ e. ap decode_page (divided_own n sheet size a u k t e) ∙ sym (decoded_page sheet k t) ∙ sym (rw e))
        (λ e. ap decode_page (divided_other n sheet size a u k t e) ∙ blank_back ∙ sym (rw e))

    outside : (k : Station) → station_ok k ≡ false
        → decode_sheet (sheet_at (divided n sheet) a) k ≡ (if in_group (area_of n) a k then decode_sheet sheet k else empty)
    outside k s =
        decoded_none (sheet_at (divided n sheet) a) k s
        ∙ by_value (in_group (area_of n) a k) (λ e. sym (decoded_none sheet k s) ∙ sym (rw e)) (λ e. sym (rw e))

-- the merged sheet, read as a timetable
pub merged_reads : (n : Network) → network_refusal n ≡ 0 → (division : List ℕ) → length division ≡ 49152
    → decode_sheet (merged n division) ≡ merge (area_of n) (λ a. decode_sheet (sheet_at division a))
unfolding merge
merged_reads n good division size = fun_ext λ k. by_value (station_ok k) (inside k) (outside k)
  where
    inside : (k : Station) → station_ok k ≡ true
        → decode_sheet (merged n division) k ≡ (if ltb 0 (area_of n k) then decode_sheet (sheet_at division (area_of n k)) k else empty)
    inside k s = let t = true_T (station_ok k) s in
        decoded_page (merged n division) k t
        ∙ by_value (ltb 0 (area_of n k))
        (λ e. ap decode_page (merged-own n good division size k t e) ∙ sym (decoded_page (sheet_at division (area_of n k)) k t) ∙ sym (rw e))
        (λ e. ap decode_page (merged-none n good division size k t e) ∙ blank_back ∙ sym (rw e))

    outside : (k : Station) → station_ok k ≡ false
        → decode_sheet (merged n division) k ≡ (if ltb 0 (area_of n k) then decode_sheet (sheet_at division (area_of n k)) k else empty)
    outside k s =
        decoded_none (merged n division) k s
        ∙ by_value (ltb 0 (area_of n k)) (λ e. sym (decoded_none (sheet_at division (area_of n k)) k s) ∙ sym (rw e)) (λ e. sym (rw e))
