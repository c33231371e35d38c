-- Reading a file never goes past its end, and what is refused carries a number that is not 0 and a place of the file or
-- its end: by induction over the groups of a number and over the format. An entry's place is where its reading began,
-- so a fault that only the whole network shows has a place of the file too. Assumes nothing.
use Prim.Native.Nat.{ℕ, zero, suc, ◌+◌, ◌*◌, ◌-◌, ◌≤◌}
use mathlib.Core.Path.{◌≡◌, refl, sym, ◌∙◌, subst}
use mathlib.Core.Bool.{Bool, true, false, not}
use mathlib.Core.List.{List, [], ◌∷◌}
use Rattle.std.specs.Prelude.{Option, None, Some}
use native.Mathlib.Omega.{arith}
use lib.Dec.{T, ltb, leb, eqb, leb→le}
use lib.ListN.{length, drop, length-drop}
use borrow.Author.Tests.{ne_eqb, le-leb}
use Rattle.std.specs.Prelude.{if◌then◌else◌}
use Rattle.base.specs.Lists.{every, first, within}
use Rattle.base.proofs.Tests.{true_T, every_head, every_tail, every_cons}
use Rattle.numbers.specs.Numbers.{NumberRead, Value, Refused, group_before, read_groups, read_number}
use Rattle.network.specs.Networks.{ends_after, ends_listed, line_listed}
use Rattle.timetable.specs.Formats.{Format, done, field, here, Outcome, accepted, refused, ◌and_then◌, placed_field, field_at, behind, read, ended, entries, Placed, placed}
use Rattle.timetable.specs.declared.Fault.{Fault}
use Rattle.timetable.specs.NetworkFile.{line_fields, line_entry, line_floor, closure_fields, closure_entry, closure_floor, Listed, stations_format, lines_format, closures_format, closures_part, closure_count_part, lines_part}
use Rattle.timetable.specs.NetworkFile.{count_part, headway_part, stations_part, newest, network_format_as, network_format, network_of, unended, unjoined, unlisted, fault_of, or_fault, network_fault, unless_fault}
use Rattle.timetable.proofs.OutcomeLaws.{behind_taken}
use Rattle.fields.proofs.EntryLaws.{then_taken, placed_read}

-- one number

-- it ends within the bytes, or its refusal is not 0
unfoldable Sound : ℕ → NumberRead → Type 0
Sound size (Value n w) = w ≤ size
Sound size (Refused k) = ¬ (k ≡ 0)

before_sound : (g size : ℕ) (r : NumberRead) → Sound size r → Sound (size + 1) (group_before g r)
unfolding group_before Sound
before_sound g size (Refused k) h = h
before_sound g size (Value n w) h = go (eqb n 0)
  where
    go : (b : Bool) → Sound (size + 1) (if b then Refused 2 else Value (g + 128 * n) (w + 1))
    go true = λ z. omega (arith, z)
    go false = omega (arith, h)

groups_sound : (left : ℕ) (bytes : List ℕ) → Sound (length bytes) (read_groups left bytes)
unfolding read_groups Sound
groups_sound zero bytes = λ z. omega (arith, z)
groups_sound (suc left) [] = λ z. omega (arith, z)
groups_sound (suc left) (b ∷ bytes) = go (ltb b 128) (groups_sound left bytes)
  where
    go : (c : Bool) → Sound (length bytes) (read_groups left bytes) → Sound (length (b ∷ bytes)) (if c then Value b 1 else group_before (b - 128) (read_groups left bytes))
    go true h = omega arith
    go false h = let e : length bytes + 1 ≡ length (b ∷ bytes) = omega arith in rw (← e) (before_sound (b - 128) (length bytes) (read_groups left bytes) h)

-- reading

-- it ends within the file, or its refusal is not 0 and stands there
unfoldable pub Within : {A : Type 0} → ℕ → Outcome A → Type 0
Within end (accepted a next) = next ≤ end
Within end (refused k p) = (¬ (k ≡ 0)) × (p ≤ end)

field_within : (lo hi : ℕ) (file : List ℕ) (at : ℕ) → at ≤ length file → Within (length file) (field_at lo hi file at)
unfolding field_at placed_field read_number Sound Within
field_within lo hi file at h = go (read_number (drop at file)) (groups_sound 3 (drop at file))
  where
    go : (r : NumberRead) → Sound (length (drop at file)) r → Within (length file) (placed_field lo hi (length file) at r)
    go (Refused k) d = (d, place (eqb k 1))
      where
        place : (b : Bool) → (if b then length file else at) ≤ length file
        place true = omega arith
        place false = h
    go (Value n w) d = range (within lo hi n)
      where
        range : (b : Bool) → Within (length file) (if b then accepted n (at + w) else refused 3 at)
        range true = omega (arith, d, h, length-drop at file)
        range false = (λ z. omega (arith, z), h)

pub behind_within : {A B : Type 0} (end : ℕ) (o : Outcome A) (f : A → ℕ → Outcome B) → Within end o → ((a : A) (next : ℕ) → next ≤ end → Within end (f a next))
    → Within end (behind o f)
unfolding behind Within
behind_within end (accepted a next) f h g = g a next h
behind_within end (refused k p) f h g = h

pub read_within : {A : Type 0} (f : Format A) (file : List ℕ) (at : ℕ) → at ≤ length file → Within (length file) (read f file at)
unfolding read Within
read_within (done a) file at h = h
read_within (field lo hi f) file at h =
    behind_within (length file) (field_at lo hi file at) (λ n next. read (f n) file next) (field_within lo hi file at h) (λ n next. read_within (f n) file next)
read_within (here f) file at h = read_within (f at) file at h

pub ended_within : {A : Type 0} (file : List ℕ) (o : Outcome A) → Within (length file) o → Within (length file) (ended file o)
unfolding ended Within
ended_within file (refused k p) h = h
ended_within file (accepted a next) h = go (leb (length file) next)
  where
    go : (b : Bool) → Within (length file) (if b then accepted a next else refused 1 next)
    go true = h
    go false = (λ z. omega (arith, z), h)

pub taken_same : {A : Type 0} (a b : A) (p q : ℕ) → accepted a p ≡ accepted b q → a ≡ b
taken_same a b p q e = cc

-- what is accepted ends within the file
pub next_within : {A : Type 0} (f : Format A) (file : List ℕ) (at : ℕ) → at ≤ length file → (a : A) (next : ℕ) → read f file at ≡ accepted a next → next ≤ length file
unfolding Within
next_within f file at h a next e = subst (Within (length file)) e (read_within f file at h)

pub number_within : (lo hi : ℕ) (file : List ℕ) (at : ℕ) → at ≤ length file → (n next : ℕ) → field_at lo hi file at ≡ accepted n next → next ≤ length file
unfolding Within
number_within lo hi file at h n next e = subst (Within (length file)) e (field_within lo hi file at h)

-- places of entries

unfoldable pub PlacedWithin : {A : Type 0} → ℕ → List (Placed A) → Type 0
PlacedWithin end ps = T (every (λ p. leb p.place end) ps)

pub entries_within : {A : Type 0} (entry : List ℕ → Format A) (floor_of : Placed A → List ℕ) (file : List ℕ) (k : ℕ) (floor : List ℕ) (at : ℕ) → at ≤ length file
    → (ps : List (Placed A)) (next : ℕ) → read (entries (λ floor. placed (entry floor)) floor_of k floor) file at ≡ accepted ps next → PlacedWithin (length file) ps
unfolding entries read every PlacedWithin
entries_within entry floor_of file zero floor at h ps next e = let z : ps ≡ [] = cc in rw z tt
entries_within entry floor_of file (suc k) floor at h ps next e =
    let (a, p, u, v) = then_taken (placed (entry floor)) (λ a. entries (λ floor. placed (entry floor)) floor_of k (floor_of a) and_then (λ rest. done (a ∷ rest))) file at ps next e in
    let (rest, q, w, x) = then_taken (entries (λ floor. placed (entry floor)) floor_of k (floor_of a)) (λ rest. done (a ∷ rest)) file p ps next v in
    let (b, r, y, t) = behind_taken (read (entry floor) file at) (λ a next. accepted (record { place = at; entry = a }) next) a p (sym (placed_read (entry floor) file at) ∙ u) in
    let z : ps ≡ a ∷ rest = cc in
    let s : record { place = at; entry = b } ≡ a = cc in
    rw z (every_cons (λ p. leb p.place (length file)) a rest (rw (← s) (true_T (leb at (length file)) (le-leb at (length file) h)))
    (entries_within entry floor_of file k (floor_of a) p (next_within (placed (entry floor)) file at h a p u) rest q w))

first_passes : {A : Type 0} (f g : A → Bool) (xs : List A) (x : A) → T (every g xs) → first f xs ≡ Some x → T (g x)
unfolding first every
first_passes f g [] x t e = let s : ◌≡◌ {A = ℕ} 0 1 = cc in absurd (omega (arith, s))
first_passes f g (y ∷ ys) x t e = go (f y) e (first_passes f g ys x (every_tail g y ys t))
  where
    go : (b : Bool) → (if b then Some y else first f ys) ≡ Some x → (first f ys ≡ Some x → T (g x)) → T (g x)
    go true q ih = let s : y ≡ x = cc in rw (← s) (every_head g y ys t)
    go false q ih = ih q

-- the lines and the closures of a network
entries_placed : (file : List ℕ) (x : Listed) (next : ℕ) → read network_format file 0 ≡ accepted x next → PlacedWithin (length file) x.lines × PlacedWithin (length file) x.closures
unfolding read network_format network_format_as stations_part headway_part count_part lines_part closure_count_part closures_part lines_format line_entry closures_format closure_entry
entries_placed file x next e =
    let (k, p₁, u₁, v₁) = behind_taken (field_at 1 16 file 0) (λ k p. read (stations_part newest k) file p) x next e in
    let (ss, p₂, u₂, v₂) = then_taken (stations_format k) (λ ss. headway_part newest ss) file p₁ x next v₁ in
    let (h, p₃, u₃, v₃) = behind_taken (field_at 1 30 file p₂) (λ h p. read (count_part newest ss h) file p) x next v₂ in
    let (m, p₄, u₄, v₄) = behind_taken (field_at 0 32 file p₃) (λ m p. read (lines_part newest ss h m) file p) x next v₃ in
    let (ls, p₅, u₅, v₅) = then_taken (lines_format newest m) (λ ls. closure_count_part ss h ls) file p₄ x next v₄ in
    let (i, p₆, u₆, v₆) = behind_taken (field_at 0 32 file p₅) (λ i p. read (closures_part ss h ls i) file p) x next v₅ in
    let (cs, p₇, u₇, v₇) = then_taken (closures_format i) (λ cs. done (record { stations = ss; headway = h; lines = ls; closures = cs })) file p₆ x next v₆ in
    let l₁ = number_within 1 16 file 0 (omega arith) k p₁ u₁ in
    let l₂ = next_within (stations_format k) file p₁ l₁ ss p₂ u₂ in
    let l₃ = number_within 1 30 file p₂ l₂ h p₃ u₃ in
    let l₄ = number_within 0 32 file p₃ l₃ m p₄ u₄ in
    let l₅ = next_within (lines_format newest m) file p₄ l₄ ls p₅ u₅ in
    let l₆ = number_within 0 32 file p₅ l₅ i p₆ u₆ in
    let z : record { stations = ss; headway = h; lines = ls; closures = cs } ≡ x = taken_same _ x p₇ next v₇ in (
      rw (← z) (entries_within (line_fields newest) line_floor file m (0 ∷ []) p₄ l₄ ls p₅ u₅),
      rw (← z) (entries_within closure_fields closure_floor file i (0 ∷ 0 ∷ []) p₆ l₆ cs p₇ u₇),
    )

unless_within : {A B : Type 0} (end k : ℕ) → ¬ (k ≡ 0) → (f : Placed B → Bool) (es : List (Placed B)) (o : Outcome A) → PlacedWithin end es → Within end o
    → Within end (unless_fault (fault_of k (first f es)) o)
unfolding unless_fault fault_of Within PlacedWithin
unless_within {A} {B} end k d f es o t h = go (first f es) refl
  where
    go : (e : Option (Placed B)) → first f es ≡ e → Within end (unless_fault (fault_of k e) o)
    go None q = h
    go (Some e) q = rw (ne_eqb k 0 d) (d, leb→le e.place end (first_passes f (λ p. leb p.place end) es e t q))

-- the one fault, and then the other
unless_or : {A : Type 0} (f later : Fault) (o : Outcome A) → unless_fault (or_fault f later) o ≡ unless_fault f (unless_fault later o)
unfolding unless_fault or_fault
unless_or f later o = go (eqb f.number 0) refl
  where
    go : (b : Bool) → eqb f.number 0 ≡ b
        → (if eqb (if b then later else f).number 0 then o else refused (if b then later else f).number (if b then later else f).place)
        ≡ (if b then (if eqb later.number 0 then o else refused later.number later.place) else refused f.number f.place)
    go true e = refl
    go false e = rw e

-- what only the whole network shows, found behind its reading
pub network_within : {A : Type 0} (file : List ℕ) (x : Listed) (next : ℕ) → read network_format file 0 ≡ accepted x next → (o : Outcome A) → Within (length file) o
    → Within (length file) (unless_fault (network_fault x) o)
unfolding network_fault unended unjoined unlisted
network_within file x next e o h =
    let (ls, cs) = entries_placed file x next e in
    let c = unless_within (length file) 4 (λ z. omega (arith, z)) (λ c. not (line_listed (network_of x) c.entry.line)) x.closures o cs h in
    let l = unless_within (length file) 4 (λ z. omega (arith, z)) (λ l. not (ends_listed (network_of x) l.entry)) x.lines _ ls c in
    let u = unless_within (length file) 14 (λ z. omega (arith, z)) (λ c. not (ends_after c.entry)) x.closures _ cs (subst (Within (length file)) (sym (unless_or (fault_of 4 (unjoined x)) (fault_of 4 (unlisted x)) o)) l) in
    subst (Within (length file)) (sym (unless_or (fault_of 14 (unended x)) _ o)) u
