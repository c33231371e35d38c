-- A file is never refused with 0: a number is refused with 1 or 2, a value out of range with 3, and bytes too many with
-- 1. So an answer of 0 says that the file was accepted. By induction over the groups of a number and over the format.
-- Assumes nothing.
use Prim.Native.Nat.{ℕ, zero, suc, ◌+◌, ◌*◌, ◌-◌}
use mathlib.Core.Path.{◌≡◌, refl, ◌∙◌}
use mathlib.Core.Bool.{Bool, true, false}
use mathlib.Core.List.{List, [], ◌∷◌}
use native.Mathlib.Omega.{arith}
use lib.Dec.{ltb, leb, eqb}
use borrow.Author.Tests.{eqb-false}
use lib.ListN.{length, drop}
use Rattle.std.specs.Prelude.{if◌then◌else◌}
use Rattle.base.specs.Lists.{within}
use Rattle.numbers.specs.Numbers.{NumberRead, Value, Refused, group_before, read_groups, read_number}
use Rattle.timetable.specs.Formats.{Format, done, field, here, Outcome, accepted, refused, placed_field, field_at, behind, read, ended, read_file}
use Rattle.timetable.specs.declared.FileForm.{FileForm}
use Rattle.timetable.specs.declared.Fault.{Fault}
use Rattle.timetable.specs.NetworkFile.{unless_fault}
use Rattle.timetable.specs.EditsFile.{edits_format, read_edits_as}

-- the refusal of a number is not 0
abbrev Some : NumberRead → Type 0
Some r = (k : ℕ) → r ≡ Refused k → ¬ (k ≡ 0)

before_some : (g : ℕ) (r : NumberRead) → Some r → Some (group_before g r)
unfolding group_before
before_some g (Refused j) h k q = h k q
before_some g (Value n w) h k q = go (eqb n 0) q
  where
    go : (b : Bool) → (if b then Refused 2 else Value (g + 128 * n) (w + 1)) ≡ Refused k → ¬ (k ≡ 0)
    go true e z = let s : 2 ≡ k = cc in omega (arith, s, z)
    go false e z = let s : ◌≡◌ {A = ℕ} 0 1 = cc in omega (arith, s)

groups_some : (left : ℕ) (bytes : List ℕ) → Some (read_groups left bytes)
unfolding read_groups
groups_some zero bytes k q z = let s : 2 ≡ k = cc in omega (arith, s, z)
groups_some (suc left) [] k q z = let s : 1 ≡ k = cc in omega (arith, s, z)
groups_some (suc left) (b ∷ bytes) k q z = go (ltb b 128) (groups_some left bytes) q
  where
    go : (c : Bool) → Some (read_groups left bytes) → (if c then Value b 1 else group_before (b - 128) (read_groups left bytes)) ≡ Refused k → ⊥
    go true h e = let s : ◌≡◌ {A = ℕ} 0 1 = cc in omega (arith, s)
    go false h e = before_some (b - 128) (read_groups left bytes) h k e z

-- nor is that of a file
abbrev pub Told : {A : Type 0} → Outcome A → Type 0
Told o = (k p : ℕ) → o ≡ refused k p → ¬ (k ≡ 0)

field_told : (lo hi : ℕ) (file : List ℕ) (at : ℕ) → Told (field_at lo hi file at)
unfolding field_at placed_field read_number
field_told lo hi file at = go (read_number (drop at file)) (groups_some 3 (drop at file))
  where
    go : (r : NumberRead) → Some r → Told (placed_field lo hi (length file) at r)
    go (Refused j) h k p q z = let s : j ≡ k = cc in h j refl (s ∙ z)
    go (Value n w) h k p q z = range (within lo hi n) q
      where
        range : (b : Bool) → (if b then accepted n (at + w) else refused 3 at) ≡ refused k p → ⊥
        range true e = let s : ◌≡◌ {A = ℕ} 0 1 = cc in omega (arith, s)
        range false e = let s : 3 ≡ k = cc in omega (arith, s, z)

pub behind_told : {A B : Type 0} (o : Outcome A) (f : A → ℕ → Outcome B) → Told o → ((a : A) (next : ℕ) → Told (f a next)) → Told (behind o f)
unfolding behind
behind_told (accepted a next) f h g = g a next
behind_told (refused j p₀) f h g = λ k p q. h k p (let s : j ≡ k = cc in let u : p₀ ≡ p = cc in rw (s, u))

pub read_told : {A : Type 0} (f : Format A) (file : List ℕ) (at : ℕ) → Told (read f file at)
unfolding read
read_told (done a) file at = λ k p q z. let s : ◌≡◌ {A = ℕ} 0 1 = cc in omega (arith, s)
read_told (field lo hi f) file at = behind_told (field_at lo hi file at) (λ n next. read (f n) file next) (field_told lo hi file at) (λ n next. read_told (f n) file next)
read_told (here f) file at = read_told (f at) file at

pub ended_told : {A : Type 0} (file : List ℕ) (o : Outcome A) → Told o → Told (ended file o)
unfolding ended
ended_told file (refused j p₀) h = h
ended_told file (accepted a next) h = λ k p q z. go k p z (leb (length file) next) q
  where
    go : (k p : ℕ) → k ≡ 0 → (b : Bool) → (if b then accepted a next else refused 1 next) ≡ refused k p → ⊥
    go k p z true e = let s : ◌≡◌ {A = ℕ} 0 1 = cc in omega (arith, s)
    go k p z false e = let s : 1 ≡ k = cc in omega (arith, s, z)

pub edits_told : (form : FileForm) (file : List ℕ) → Told (read_edits_as form file)
unfolding read_edits_as read_file
edits_told form file = ended_told file (read (edits_format form) file 0) (read_told (edits_format form) file 0)

-- a fault is told where its number is not 0
pub fault_told : {A : Type 0} (f : Fault) (a : A) (next : ℕ) → Told (unless_fault f (accepted a next))
unfolding unless_fault
fault_told f a next k p q z = go (eqb f.number 0) refl q
  where
    go : (b : Bool) → eqb f.number 0 ≡ b → (if b then accepted a next else refused f.number f.place) ≡ refused k p → ⊥
    go true e r = let s : ◌≡◌ {A = ℕ} 0 1 = cc in omega (arith, s)
    go false e r = let s : f.number ≡ k = cc in eqb-false f.number 0 e (s ∙ z)
