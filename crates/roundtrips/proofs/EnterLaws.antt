-- Entries put into a timetable one by one, in their order: each goes behind those of its station, so the timetable is,
-- station by station, the entries of that station. None is refused just if each is known and no station has more than
-- its limit. By induction on the entries that are left. Assumes nothing.
use Prim.Native.Nat.{ℕ, ◌≤◌, ◌<◌}
use mathlib.Core.Path.{◌≡◌, refl, sym, ◌∙◌, ap, subst}
use mathlib.Core.Bool.{Bool, true, false}
use mathlib.Core.List.{List, [], ◌∷◌, ◌++◌, append-nil}
use native.Mathlib.Omega.{arith}
use lib.Dec.{T, eqb, eqb→eq}
use lib.ListN.{length, length-append}
use lib.Seq.{append_snoc}
use borrow.Author.Tests.{eqb-true, eq-eqb}
use Rattle.base.specs.Choice.{◌if◌else◌}
use Rattle.std.specs.Prelude.{if◌then◌else◌}
use Rattle.base.specs.Lists.{every, keep, each_two}
use Rattle.base.proofs.Tests.{true_T, by_value, every_head, every_cons, every_append}
use Rattle.base.proofs.Counts.{keep_append}
use Rattle.railway.specs.Ranges.{same_station}
use Rattle.timetable.specs.Formats.{accepted, refused, Placed}
use Rattle.timetable.specs.Machine.{Timetable}
use Rattle.timetable.specs.TimetableFile.{entered}
use Rattle.roundtrips.specs.Types.{Station}
use Rattle.roundtrips.proofs.ListLaws.{every_rear, two_front}
use Rattle.timetable.proofs.OutcomeLaws.{clash}
use Rattle.roundtrips.proofs.TimetableWalks.{entries_of}

-- entering

pub station_same : (s k : Station) → T (same_station s k) → s ≡ k
station_same s k e = ap (λ (i : ℕ). record { 0 = i }) (eqb→eq s.0 k.0 e)

-- those of a station
abbrev pub at : {A : Type 0} → (A → Station) → Station → A → Bool
at station k x = same_station (station x) k

abbrev pub snoc : {A : Type 0} → List A → A → List A
snoc xs y = xs ++ (y ∷ [])

module _ {A : Type 0} (station : A → Station) where
  pub keep_here : (xs : List A) (y : A) (k : Station) → same_station (station y) k ≡ true → keep (at station k) (snoc xs y) ≡ snoc (keep (at station k) xs) y
  unfolding keep
  keep_here xs y k e = keep_append (at station k) xs (y ∷ []) ∙ ap (λ (l : List A). keep (at station k) xs ++ l) (rw e)

  pub keep_elsewhere : (xs : List A) (y : A) (k : Station) → same_station (station y) k ≡ false → keep (at station k) (snoc xs y) ≡ keep (at station k) xs
  unfolding keep
  keep_elsewhere xs y k e = keep_append (at station k) xs (y ∷ []) ∙ ap (λ (l : List A). keep (at station k) xs ++ l) (rw e) ∙ append-nil (keep (at station k) xs)

  -- how many a station has, one more
  pub many_next : (xs : List A) (y : A) (k : Station) (most : ℕ) → length (keep (at station k) xs) ≤ most → length (keep (at station (station y)) xs) < most
      → length (keep (at station k) (snoc xs y)) ≤ most
  many_next xs y k most h l =
      by_value (same_station (station y) k)
      (λ e. let q : station y ≡ k = station_same (station y) k (true_T (same_station (station y) k) e) in
      omega (arith, ap length (keep_here xs y k e), length-append (keep (at station k) xs) (y ∷ []), subst (λ (k : Station). length (keep (at station k) xs) < most) q l))
      (λ e. rw (keep_elsewhere xs y k e) h)

-- what putting in an entry is: it goes behind the others of its station; it is refused unless it is known and there is
-- room
pub record Entering {A : Type 0} (station : A → Station) (r : A → A → Bool) (refusal : A → Timetable → ℕ) (enter : A → Timetable → Timetable)
    (made : List A → Timetable) (known : A → Bool) (most : ℕ) : Type 0 where
  pub step : (xs : List A) (y : A) → T (each_two r (snoc xs y)) → enter y (made xs) ≡ made (snoc xs y)
  pub free : (xs : List A) (y : A) → refusal y (made xs) ≡ 0 → T (known y) × (length (keep (at station (station y)) xs) < most)
  pub fits : (xs : List A) (y : A) → T (known y) → length (keep (at station (station y)) xs) < most → refusal y (made xs) ≡ 0

module _ {A : Type 0} (station : A → Station) (r : A → A → Bool) (refusal : A → Timetable → ℕ) (enter : A → Timetable → Timetable)
    (made : List A → Timetable) (known : A → Bool) (most : ℕ) (law : Entering station r refusal enter made known most) where
  -- known, and within the limit at every station
  pub record Clear (xs : List A) : Type 0 where
    pub each_known : T (every known xs)
    pub few : (k : Station) → length (keep (at station k) xs) ≤ most

  front : (xs : List A) (y : A) (ys : List A) → T (each_two r (xs ++ y ∷ ys)) → T (each_two r (snoc xs y))
  front xs y ys t = two_front r (snoc xs y) ys (subst (λ (l : List A). T (each_two r l)) (sym (append_snoc xs y ys)) t)

  enters : (ps : List (Placed A)) (xs : List A) (next : ℕ) (m : Timetable) (last : ℕ) → T (each_two r (xs ++ entries_of ps)) → Clear xs
      → entered refusal enter ps (made xs) next ≡ accepted m last → (m ≡ made (xs ++ entries_of ps)) × (next ≡ last) × Clear (xs ++ entries_of ps)
  unfolding entered every
  enters [] xs next m last t c e = let q : made xs ≡ m = cc in rw (append-nil xs) (sym q, (cc), c)
  enters (p ∷ ps) xs next m last t c e = go (eqb (refusal x (made xs)) 0) refl e (enters ps (snoc xs x) next m last)
    where
      x : A
      x = p.entry

      rest : List A
      rest = entries_of ps

      go : (b : Bool) → eqb (refusal x (made xs)) 0 ≡ b
          → (if b then entered refusal enter ps (enter x (made xs)) next else refused (refusal x (made xs)) p.place) ≡ accepted m last
          → (T (each_two r (snoc xs x ++ rest)) → Clear (snoc xs x) → entered refusal enter ps (made (snoc xs x)) next ≡ accepted m last
          → (m ≡ made (snoc xs x ++ rest)) × (next ≡ last) × Clear (snoc xs x ++ rest))
          → (m ≡ made (xs ++ x ∷ rest)) × (next ≡ last) × Clear (xs ++ x ∷ rest)
      go false z q ih = clash m last _ _ q
      go true z q ih =
          let (k, l) = law.free xs x (eqb-true (refusal x (made xs)) 0 z) in
          let d : Clear (snoc xs x) = record {
            each_known = every_append known xs (x ∷ []) c.each_known (every_cons known x [] k tt);
            few = λ s. many_next station xs x s most (c.few s) l;
          } in
          let u = ih (subst (λ (l : List A). T (each_two r l)) (sym (append_snoc xs x rest)) t) d
          (ap (λ (m : Timetable). entered refusal enter ps m next) (sym (law.step xs x (front xs x rest t))) ∙ q) in
          subst (λ (l : List A). (m ≡ made l) × (next ≡ last) × Clear l) (append_snoc xs x rest) u

  clears : (ps : List (Placed A)) (xs : List A) (next : ℕ) → T (each_two r (xs ++ entries_of ps)) → Clear (xs ++ entries_of ps)
      → entered refusal enter ps (made xs) next ≡ accepted (made (xs ++ entries_of ps)) next
  unfolding entered keep
  clears [] xs next t c = rw (append-nil xs)
  clears (p ∷ ps) xs next t c =
      rw (eq-eqb (refusal x (made xs)) 0 (law.fits xs x known-here room))
      (ap (λ (m : Timetable). entered refusal enter ps m next) (law.step xs x (front xs x rest t))
      ∙ clears ps (snoc xs x) next (subst (λ (l : List A). T (each_two r l)) back t) (subst Clear back c)
      ∙ ap (λ (l : List A). accepted (made l) next) (append_snoc xs x rest))
    where
      x : A
      x = p.entry

      rest : List A
      rest = entries_of ps

      back : xs ++ x ∷ rest ≡ snoc xs x ++ rest
      back = sym (append_snoc xs x rest)

      known-here : T (known x)
      known-here = every_head known x rest (every_rear known xs (x ∷ rest) c.each_known)

      head : keep (at station (station x)) (x ∷ rest) ≡ x ∷ keep (at station (station x)) rest
      head = rw (eq-eqb (station x).0 (station x).0 refl)

      room : length (keep (at station (station x)) xs) < most
      room =
          omega (
            arith,
            c.few (station x),
            ap length (keep_append (at station (station x)) xs (x ∷ rest) ∙ ap (λ (l : List A). keep (at station (station x)) xs ++ l) head),
            length-append (keep (at station (station x)) xs) (x ∷ keep (at station (station x)) rest),
          )

  pub enters_all : (ps : List (Placed A)) (next : ℕ) (m : Timetable) (last : ℕ) → T (each_two r (entries_of ps)) → entered refusal enter ps (made []) next ≡ accepted m last
      → (m ≡ made (entries_of ps)) × (next ≡ last) × Clear (entries_of ps)
  unfolding every keep
  enters_all ps next m last t e = enters ps [] next m last t (record { each_known = tt; few = λ k. omega arith }) e

  pub clears_all : (ps : List (Placed A)) (next : ℕ) → T (each_two r (entries_of ps)) → Clear (entries_of ps)
      → entered refusal enter ps (made []) next ≡ accepted (made (entries_of ps)) next
  clears_all ps next t c = clears ps [] next t c
