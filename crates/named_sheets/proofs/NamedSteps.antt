-- Whether an edit names a station of an area: where it works at two stations, their areas decide, as stations with one
-- number have one area; where it works everywhere, the network's stations are asked row by row. And whether the sheets
-- of the named areas are good, sheet by sheet. Assumes nothing.
use Prim.Native.Nat.{ℕ, ◌+◌, ◌*◌, ◌-◌, ◌<◌, ◌≤◌}
use mathlib.Core.Path.{◌≡◌, refl, sym, ◌∙◌, ap, ap₂, fun_ext}
use mathlib.Core.Bool.{Bool, true, false, not, ◌&&◌, ◌||◌}
use mathlib.Core.List.{List, [], ◌∷◌, map}
use Rattle.std.specs.Prelude.{Option, None, Some}
use native.Mathlib.Nat.{add-sub_cancel_left}
use native.Mathlib.Omega.{arith}
use lib.Dec.{eqb}
use lib.ListN.{length, take, drop, drop_of_length-le}
use borrow.Author.Tests.{eqb-true, eq-eqb, ne_eqb}
use Rattle.base.specs.Choice.{◌if◌else◌}
use Rattle.std.specs.Prelude.{if◌then◌else◌}
use Rattle.base.specs.Lists.{any, every, is}
use Rattle.base.proofs.Tests.{T_true, and_turned, eqb_turned, held}
use Rattle.base.proofs.Lengths.{every_next}
use Rattle.railway.specs.Ranges.{same_station}
use Rattle.network.specs.Networks.{station_rows, station_row, stations_of, listed, row_area, area_of, area_in, network_refusal}
use Rattle.network.specs.declared.StationRow.{StationRow}
use Rattle.network.proofs.RowsInUse.{listed_found}
use Rattle.timetable.specs.Groups.{six}
use Rattle.timetable.specs.Refusals.{or_else}
use Rattle.timetable.proofs.RefusalLaws.{or_first, or_none, or_passed}
use Rattle.timetable.specs.Machine.{Meaning, local, throughout, meaning}
use Rattle.actions.specs.between.Shapes.{shape_of, touches}
use Rattle.sheet.specs.Sheets.{sheet_at}
use Rattle.sheet.specs.declared.test.Extent.{Extent}
use Rattle.sheet.specs.between.Passes.{sheet_passes}
use Rattle.sheet.proofs.SheetLaws.{area_at}
use Rattle.named_sheets.specs.Types.{Station, Edit, Network, Reach}
use Rattle.named_sheets.specs.between.Named.{touches_at, touches_area, reach_of, found_in, has_station, reaches_area, reach_passes, area_passes, named_pass, named_refusal}

any_map : {A B : Type 0} (f : B → Bool) (g : A → B) (xs : List A) → any f (map g xs) ≡ any (λ x. f (g x)) xs
unfolding any
any_map f g [] = refl
any_map f g (x ∷ xs) = ap (λ b. f (g x) || b) (any_map f g xs)

any_or : {A : Type 0} (f g : A → Bool) (xs : List A) → any (λ x. f x || g x) xs ≡ (any f xs || any g xs)
unfolding any
any_or f g [] = refl
any_or f g (x ∷ xs) = ap (λ b. (f x || g x) || b) (any_or f g xs) ∙ turned (f x) (g x) (any f xs) (any g xs)
  where
    turned : (p q u v : Bool) → ((p || q) || (u || v)) ≡ ((p || u) || (q || v))
    turned true q u v = refl
    turned false true true v = refl
    turned false true false v = refl
    turned false false u v = refl

any_and : {A : Type 0} (f : A → Bool) (c : Bool) (xs : List A) → any (λ x. f x && c) xs ≡ (any f xs && c)
unfolding any
any_and f c [] = refl
any_and f c (x ∷ xs) = ap (λ b. (f x && c) || b) (any_and f c xs) ∙ joined (f x) (any f xs)
  where
    joined : (p u : Bool) → ((p && c) || (u && c)) ≡ ((p || u) && c)
    joined true true = or_same c
      where
        or_same : (b : Bool) → (b || b) ≡ b
        or_same true = refl
        or_same false = refl
    joined true false = or_none c
      where
        or_none : (b : Bool) → (b || false) ≡ b
        or_none true = refl
        or_none false = refl
    joined false u = refl

-- a station's area is asked of the listed ones only
module _ (n : Network) (a : ℕ) where
  abbrev in_area : Station → Bool
  in_area s = eqb a (area_of n s)

  -- of stations with one number
  at_one : (h s : Station) → (same_station h s && in_area s) ≡ (same_station h s && in_area h)
  at_one h s = go (eqb h.0 s.0) refl
    where
      go : (b : Bool) → eqb h.0 s.0 ≡ b → (b && in_area s) ≡ (b && in_area h)
      go true e = ap (λ (k : ℕ). in_area (record { 0 = k })) (sym (eqb-true h.0 s.0 e))
      go false e = refl

  found : (h : Station) → found_in a (area_in (station_row n h)) ≡ any (λ s. same_station h s && in_area s) (stations_of n)
  unfolding listed area_of
  found h =
      told (station_row n h)
      ∙ ap (λ (b : Bool). b && in_area h) (sym (listed_found n h))
      ∙ sym (ap (λ (f : Station → Bool). any f (stations_of n)) (fun_ext (at_one h)) ∙ any_and (same_station h) (in_area h) (stations_of n))
    where
      told : (o : Option StationRow) → found_in a (area_in o) ≡ (is (λ r. true) o && eqb a (row_area o))
      told None = refl
      told (Some r) = eqb_turned r.area.0 a

  -- so the areas of an edit's stations are those of the listed stations that it names
  reached : (m : Meaning) → reaches_area n (reach_of n (shape_of m)) a ≡ any (λ s. in_area s && touches m s) (stations_of n)
  unfolding reaches_area reach_of has_station shape_of touches
  reached (throughout t) = ap (λ (f : Station → Bool). any f (stations_of n)) (fun_ext (λ s. and_turned true (in_area s)))
  reached (local x) =
      ap₂ (λ (p q : Bool). p || q) (found x.home) (found x.away)
      ∙ sym (ap (λ (f : Station → Bool). any f (stations_of n)) (fun_ext each)
      ∙ any_or (λ s. same_station x.home s && in_area s) (λ s. same_station x.away s && in_area s) (stations_of n))
    where
      spread : (c p q u v : Bool) → p ≡ u → q ≡ v → (c && (p || q)) ≡ ((u && c) || (v && c))
      spread true true q u v e f = rw (← e)
      spread true false true u v e f = rw (← e, ← f)
      spread true false false u v e f = rw (← e, ← f)
      spread false p q true true e f = refl
      spread false p q true false e f = refl
      spread false p q false true e f = refl
      spread false p q false false e f = refl

      each : (s : Station) → (in_area s && (same_station s x.home || same_station s x.away))
          ≡ ((same_station x.home s && in_area s) || (same_station x.away s && in_area s))
      each s =
          spread (in_area s) (same_station s x.home) (same_station s x.away) (same_station x.home s) (same_station x.away s)
          (eqb_turned s.0 x.home.0) (eqb_turned s.0 x.away.0)

pub reach_touches : (n : Network) (e : Edit) (a : ℕ) → reaches_area n (reach_of n (shape_of (meaning e))) a ≡ touches_area n e a
unfolding touches_area touches_at
reach_touches n e a = reached n a (meaning e)

-- asked of the network's rows, which are those of its stations
pub areas_are : (n : Network) (a : ℕ) → has_station n a ≡ any (λ r. eqb a (area_of n r.station)) (station_rows n)
unfolding has_station stations_of
areas_are n a = any_map (λ s. eqb a (area_of n s)) (λ r. r.station) (station_rows n)

-- the sheets of a division, one after the other

pub lent_sheet : (i a : ℕ) (d : List ℕ) → a ≡ i + 1 → take (8192 * i + 8192 - 8192 * i) (drop (8192 * i) d) ≡ sheet_at d a
unfolding sheet_at
lent_sheet i a d e =
    let p : 8192 * (a - 1) ≡ 8192 * i = omega arith in
    rw (add-sub_cancel_left (8192 * i) 8192, p)

-- an edit names the areas that it reaches
module _ (n : Network) (e : Edit) (x : Reach) (q : x ≡ reach_of n (shape_of (meaning e))) where
  pub names_by : (a : ℕ) → reaches_area n x a ≡ touches_area n e a
  names_by a = ap (λ (y : Reach). reaches_area n y a) q ∙ reach_touches n e a

  pub named_by : (d : List ℕ) → length d ≡ 49152 → named_pass n e d ≡ every (λ a. reach_passes n x a (sheet_at d a)) six
  unfolding named_pass area_passes reach_passes
  named_by d h =
      ap (λ (b : Bool). b && every (λ a. area_passes n e a (sheet_at d a)) six) (eq-eqb (length d) 49152 h)
      ∙ ap (λ (f : ℕ → Bool). every f six)
      (fun_ext (λ a. ap (λ (b : Bool). if b then sheet_passes n (Extent.Of (record { 0 = a })) (sheet_at d a) else true) (sym (names_by a))))

module _ (n : Network) (x : Reach) (d : List ℕ) (i a : ℕ) (e : a ≡ i + 1) (h : i < 6) where
  -- what is asked of the sheets from an index on
  abbrev asked : ℕ → Bool
  asked c = reach_passes n x c (sheet_at d c)

  sheets_next : every asked (drop i six) ≡ (asked a && every asked (drop (i + 1) six))
  sheets_next = every_next asked six i 0 h ∙ ap (λ (c : ℕ). asked c && every asked (drop (i + 1) six)) (area_at i h ∙ sym e)

  pub sheets_not : reach_passes n x a (take (8192 * i + 8192 - 8192 * i) (drop (8192 * i) d)) ≡ false → every asked (drop i six) ≡ false
  sheets_not q = sheets_next ∙ rw (ap (reach_passes n x a) (sym (lent_sheet i a d e)) ∙ q)

  pub sheets_on : reach_passes n x a (take (8192 * i + 8192 - 8192 * i) (drop (8192 * i) d)) ≡ true → every asked (drop i six) ≡ every asked (drop (i + 1) six)
  sheets_on q = sheets_next ∙ rw (ap (reach_passes n x a) (sym (lent_sheet i a d e)) ∙ q)

pub sheets_end : (f : ℕ → Bool) (i : ℕ) → 6 ≤ i → every f (drop i six) ≡ true
unfolding every
sheets_end f i h = rw (drop_of_length-le six {i = i} h)

-- what the test of one area says of its sheet
module _ (n : Network) (x : Reach) (a : ℕ) (part : List ℕ) where
  pub reached_passes : reaches_area n x a ≡ true → reach_passes n x a part ≡ sheet_passes n (Extent.Of (record { 0 = a })) part
  unfolding reach_passes
  reached_passes e = rw e

  pub unreached_passes : reaches_area n x a ≡ false → reach_passes n x a part ≡ true
  unfolding reach_passes
  unreached_passes e = rw e

-- what refuses, by the sheets that were tested

-- a sheet that is not refused passes, and so does its network
pub both_passed : (r : ℕ) (p : Bool) (k : ℕ) → k ≡ or_else r (6 if not p else 0) → k ≡ 0 → (r ≡ 0) × (p ≡ true)
both_passed r p k e z =
    let x = or_passed r (6 if not p else 0) (sym e ∙ z) in
    (x.0, T_true p (held 5 p 0 x.1))

-- a refusal of one sheet is that of all
stopped : (r : ℕ) (p q : Bool) (k : ℕ) → k ≡ or_else r (6 if not p else 0) → ¬ (k ≡ 0) → (p ≡ false → q ≡ false) → k ≡ or_else r (6 if not q else 0)
stopped r true q k e z f =
    let same : k ≡ r = e ∙ or_none r in
    same ∙ sym (or_first r (6 if not q else 0) (λ y. z (same ∙ y)))
stopped r false q k e z f = e ∙ sym (rw (f refl))

module _ (n : Network) (e : Edit) (d : List ℕ) where
  pub refused_unfit : ¬ (length d ≡ 49152) → named_refusal n e d ≡ or_else (network_refusal n) 6
  unfolding named_refusal named_pass
  refused_unfit h = rw (ne_eqb (length d) 49152 h)

  pub refused_at : (p : Bool) (k : ℕ) → k ≡ or_else (network_refusal n) (6 if not p else 0) → ¬ (k ≡ 0)
      → (p ≡ false → named_pass n e d ≡ false) → k ≡ named_refusal n e d
  unfolding named_refusal
  refused_at p k q z f = stopped (network_refusal n) p (named_pass n e d) k q z f

  pub refused_none : named_pass n e d ≡ true → named_refusal n e d ≡ network_refusal n
  unfolding named_refusal
  refused_none q = rw q (or_none (network_refusal n))
