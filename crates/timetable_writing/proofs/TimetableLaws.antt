-- A timetable's numbers as bytes, part by part: the entries of a page row by row, the stations row by row, the four
-- parts of the file one behind the other; and the parts are the numbers of the timetable. Assumes nothing.
use Prim.Native.Nat.{ℕ, ◌+◌, ◌*◌, ◌≤◌, ◌<◌}
use Rattle.std.proofs.Common.{add-one}
use Rattle.std.proofs.Math.Nat.{mul-suc}
use mathlib.Core.Path.{◌≡◌, refl, sym, ◌∙◌, ap}
use mathlib.Core.List.{List, [], ◌∷◌, ◌++◌, map, flat_map, append-nil, append_assoc}
use native.Mathlib.Omega.{arith}
use lib.ListN.{length, get_or, take, length-map, length-append, length-take}
use lib.Seq.{take_all}
use Rattle.network.specs.Networks.{station_rows, stations_of}
use Rattle.timetable.specs.Tables.{Entry}
use Rattle.timetable.specs.Machine.{Timetable}
use Rattle.timetable.specs.Count.{visit_count, relation_count}
use Rattle.base.specs.Lists.{sum}
use Rattle.std.proofs.lemmas.List.{take_more}
use Rattle.timetable.specs.Formats.{bytes_of}
use Rattle.timetable.specs.EditsFile.{station_relation_numbers}
use Rattle.timetable.specs.FileForms.{newest_form}
use Rattle.timetable.specs.TimetableFile.{StationVisit, visit_numbers, visits_at, relations_at, timetable_numbers_as, timetable_numbers}
use Rattle.timetable.specs.Outputs.{put}
use Rattle.fields.specs.between.Putting.{Places}
use Rattle.fields.specs.declared.put.Numbers.{Numbers}
use Rattle.fields.specs.between.Answers.{in_use, row_of}
use Rattle.fields.proofs.RowHolds.{row_held}
use Rattle.timetable_writing.specs.Types.{Station, Relation, StationRelation, StationRow, Network}
use Rattle.timetable_writing.specs.between.Parts.{entry_numbers, relation_row, visits_here, relations_here, of_rows, visit_part, relation_part, file_rows}
use Rattle.fields.proofs.NumbersPut.{places_two}

-- an entry

pub writes_as : (at r : ℕ) (xs ys b c : List ℕ) (k : ℕ) → xs ≡ ys → Places at xs b r c k → Places at ys b r c k
writes_as at r xs ys b c k e w = rw e at w

-- lists of elements, one behind the other

pub flat_append : {A B : Type 0} (f : A → List B) (xs ys : List A) → flat_map f (xs ++ ys) ≡ flat_map f xs ++ flat_map f ys
unfolding flat_map
flat_append f [] ys = refl
flat_append f (x ∷ xs) ys = ap (λ (l : List _). f x ++ l) (flat_append f xs ys) ∙ sym (append_assoc (f x) (flat_map f xs) (flat_map f ys))

flat_map_lem : {A B C : Type 0} (f : B → List C) (g : A → B) (xs : List A) → flat_map f (map g xs) ≡ flat_map (λ x. f (g x)) xs
unfolding flat_map
flat_map_lem f g [] = refl
flat_map_lem f g (x ∷ xs) = ap (λ (l : List _). f (g x) ++ l) (flat_map_lem f g xs)

sum_append : {A : Type 0} (f : A → ℕ) (xs ys : List A) → sum f (xs ++ ys) ≡ sum f xs + sum f ys
unfolding sum
sum_append f [] ys = omega arith
sum_append f (x ∷ xs) ys = omega (arith, sum_append f xs ys)

-- at most so much at each turn, and one turn more
pub one_turn : (most i total k : ℕ) → total ≤ most * i → k ≤ most → total + k ≤ most * (i + 1)
one_turn most i total k a b = rw (add-one i, mul-suc most i) (omega (arith, a, b))

-- the elements before i, and one more
module _ {A : Type 0} (xs : List A) (i : ℕ) (d : A) (h : i < length xs) where
  pub sum_more : (f : A → ℕ) (k : ℕ) → k ≡ f (get_or xs i d) → sum f (take (i + 1) xs) ≡ sum f (take i xs) + k
  unfolding sum
  sum_more f k e = ap (sum f) (take_more xs i d h) ∙ sum_append f (take i xs) (get_or xs i d ∷ []) ∙ omega (arith, e)

  flat_more : (f : A → List ℕ) → flat_map f (take (i + 1) xs) ≡ flat_map f (take i xs) ++ f (get_or xs i d)
  unfolding flat_map
  flat_more f =
      ap (flat_map f) (take_more xs i d h) ∙ flat_append f (take i xs) (get_or xs i d ∷ []) ∙ ap (λ (l : List ℕ). flat_map f (take i xs) ++ l) (append-nil (f (get_or xs i d)))

  -- what f makes of the elements before i was put from a place on, and what it makes of one more from there on
  pub puts_more : (f : A → List ℕ) (at next later : ℕ) (ys b₀ b c : List ℕ) (most : ℕ) → Places at (flat_map f (take i xs)) b₀ next b (most * i)
      → ys ≡ f (get_or xs i d) → Places next ys b later c most → Places at (flat_map f (take (i + 1) xs)) b₀ later c (most * (i + 1))
  puts_more f at next later ys b₀ b c most before e one =
      let w = places_two at next later _ _ b₀ b c (most * i) most before (writes_as next later ys _ b c most e one) in
      let x = writes_as at later _ _ b₀ c (most * i + most) (sym (flat_more f)) w in
      (x.0, x.1, rw (add-one i, mul-suc most i) x.2)

-- all of them
pub puts_all : {A : Type 0} (f : A → List ℕ) (xs : List A) (i at r j k : ℕ) (b c : List ℕ) → length xs ≤ i → j ≤ k
    → Places at (flat_map f (take i xs)) b r c j → Places at (flat_map f xs) b r c k
puts_all f xs i at r j k b c many less w =
    let x = writes_as at r _ _ b c j (ap (flat_map f) (take_all i xs many)) w in
    (x.0, x.1, omega (arith, x.2))

-- the whole file: the places behind its four parts, and the buffer after each
module _ (n : Network) (m : Timetable) (b b₁ b₂ b₃ b₄ : List ℕ) (p₁ p₂ p₃ p₄ : ℕ) where
  pub file_put : Places 0 (visit_count n m ∷ []) b p₁ b₁ 3 → Places p₁ (visit_part n m) b₁ p₂ b₂ 41472
      → Places p₂ (relation_count n m ∷ []) b₂ p₃ b₃ 3 → Places p₃ (relation_part n m) b₃ p₄ b₄ 3744
      → (p₄ ≡ length (bytes_of (file_rows n m))) × (b₄ ≡ put 0 (bytes_of (file_rows n m)) b)
  unfolding file_rows
  file_put v vs r rs =
      let x = places_two p₂ p₃ p₄ (relation_count n m ∷ []) (relation_part n m) b₂ b₃ b₄ 3 3744 r rs in
      let y = places_two p₁ p₂ p₄ (visit_part n m) (relation_count n m ∷ relation_part n m) b₁ b₂ b₄ 41472 (3 + 3744) vs x in
      let z = places_two 0 p₁ p₄ (visit_count n m ∷ []) (visit_part n m ++ (relation_count n m ∷ relation_part n m)) b b₁ b₄ 3 (41472 + (3 + 3744)) v y in
      (omega (arith, z.0), z.1)

-- the parts are the numbers of the timetable

-- each row's elements q, listed as g of its station
module _ {E L : Type 0} (q : Station → List E) (g : Station → E → L) where
  abbrev all : List StationRow → List L
  all rows = flat_map (λ s. map (g s) (q s)) (map (λ r. r.station) rows)

  many_rows : (rows : List StationRow) → length (all rows) ≡ sum (λ s. length (q s)) (map (λ r. r.station) rows)
  unfolding flat_map sum
  many_rows [] = refl
  many_rows (r ∷ rows) =
      omega (
        arith,
        length-append (map (g r.station) (q r.station)) (all rows),
        length-map (q r.station) (g r.station),
        many_rows rows,
      )

  -- what f writes of all that is listed is what h writes of each row, if it is so at each station
  all_rows : (f : L → List ℕ) (h : Station → E → List ℕ) → ((s : Station) → flat_map (λ e. f (g s e)) (q s) ≡ flat_map (h s) (q s))
      → (rows : List StationRow) → flat_map f (all rows) ≡ flat_map (λ r. flat_map (h r.station) (q r.station)) rows
  unfolding flat_map
  all_rows f h e [] = refl
  all_rows f h e (r ∷ rows) =
      let s = r.station in
      flat_append f (map (g s) (q s)) (all rows)
      ∙ ap (λ (l : List ℕ). l ++ flat_map f (all rows)) (flat_map_lem f (g s) (q s) ∙ e s)
      ∙ ap (λ (l : List ℕ). flat_map (h s) (q s) ++ l) (all_rows f h e rows)

module _ (n : Network) (m : Timetable) where
  pub rows_numbers : file_rows n m ≡ timetable_numbers n m
  unfolding file_rows timetable_numbers_as visit_count relation_count of_rows visit_part relation_part visits_here relations_here entry_numbers relation_row visits_at relations_at stations_of
  rows_numbers =
      let rows = station_rows n in
      let visit : Station → Entry → StationVisit = λ s e. record { station = s; train = e.train; visit = e.visit } in
      let relation : Station → Relation → StationRelation = λ s r. record { station = s; relation = r } in
      sym
      (rw (
        many_rows (λ s. (m s).visits) visit rows,
        many_rows (λ s. (m s).relations) relation rows,
        all_rows (λ s. (m s).visits) visit (visit_numbers newest_form) entry_numbers (λ s. refl) rows,
        all_rows (λ s. (m s).relations) relation station_relation_numbers relation_row (λ s. refl) rows,
      ))

-- a number for each station
pub sum_stations : (f : Station → ℕ) (rows : List StationRow) → sum (λ r. f r.station) rows ≡ sum f (map (λ r. r.station) rows)
unfolding sum
sum_stations f [] = refl
sum_stations f (r ∷ rows) = ap (λ (k : ℕ). f r.station + k) (sum_stations f rows)

-- a row of thirteen numbers at most is put whole
pub whole_row : (r : Numbers) (ns : List ℕ) → r ≡ row_of ns → length r.values ≡ 13 → take 13 (in_use r) ≡ ns
unfolding in_use
whole_row r ns e many = take_all 13 (in_use r) (omega (arith, many, length-take r.count r.values)) ∙ row_held e
