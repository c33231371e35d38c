-- Outcomes of reading taken apart: accepted is not refused, what stands behind an accepted value or before the end of
-- an accepted file, and what a fault that only the whole shows makes of an outcome. Assumes nothing.
use Prim.Native.Nat.{ℕ}
use mathlib.Core.Path.{◌≡◌, refl, ◌∙◌, ap}
use mathlib.Core.Bool.{Bool, true, false, ◌||◌}
use mathlib.Core.List.{List}
use Rattle.std.specs.Prelude.{Option, None, Some}
use native.Mathlib.Omega.{arith}
use lib.Dec.{leb, eqb}
use lib.ListN.{length}
use borrow.Author.Tests.{eq-eqb, ne_eqb, eqb-true, eqb-false}
use Rattle.base.specs.Choice.{◌if◌else◌}
use Rattle.std.specs.Prelude.{if◌then◌else◌}
use Rattle.timetable.specs.Types.{Fault}
use Rattle.timetable.specs.Formats.{Outcome, accepted, refused, number, behind, ended, Placed}
use Rattle.timetable.specs.Refusals.{or_else, early}
use Rattle.timetable.specs.NetworkFile.{Listed, unended, unjoined, unlisted, fault_of, or_fault, network_fault, unless_fault, under}

-- accepted is not refused
pub clash {ℓ} : {P : Type ℓ} {A : Type 0} (a : A) (next k p : ℕ) → refused k p ≡ accepted a next → P
clash a next k p e = let z : ◌≡◌ {A = ℕ} 0 1 = cc in absurd (omega arith)

-- an accepted value stands behind an accepted value
pub behind_taken : {A B : Type 0} (o : Outcome A) (f : A → ℕ → Outcome B) (b : B) (next : ℕ) → behind o f ≡ accepted b next
    → (a : A) × (p : ℕ) × (o ≡ accepted a p) × (f a p ≡ accepted b next)
unfolding behind
behind_taken (accepted a p) f b next e = (a, p, refl, e)
behind_taken (refused k p) f b next e = clash b next k p e

-- what a file that ends there was accepted with
pub ended_taken : {A : Type 0} (file : List ℕ) (o : Outcome A) (a : A) (next : ℕ) → ended file o ≡ accepted a next → o ≡ accepted a next
unfolding ended
ended_taken file (refused k p) a next e = e
ended_taken file (accepted b p) a next e = go (leb (length file) p) e
  where
    go : (c : Bool) → (if c then accepted b p else refused 1 p) ≡ accepted a next → accepted b p ≡ accepted a next
    go true q = q
    go false q = clash a next 1 p q

-- a fault

module _ {A : Type 0} (f : Fault) (o : Outcome A) where
  pub fault_free : f.number ≡ 0 → unless_fault f o ≡ o
  unfolding unless_fault
  fault_free h = rw (eq-eqb f.number 0 h)

  pub fault_found : ¬ (f.number ≡ 0) → unless_fault f o ≡ refused f.number f.place
  unfolding unless_fault
  fault_found h = rw (ne_eqb f.number 0 h)

pub fault_taken : {A : Type 0} (f : Fault) (o : Outcome A) (b : A) (next : ℕ) → unless_fault f o ≡ accepted b next → (f.number ≡ 0) × (o ≡ accepted b next)
unfolding unless_fault
fault_taken f o b next e = go (eqb f.number 0) refl e
  where
    go : (t : Bool) → eqb f.number 0 ≡ t → (if t then o else refused f.number f.place) ≡ accepted b next → (f.number ≡ 0) × (o ≡ accepted b next)
    go true q v = (eqb-true f.number 0 q, v)
    go false q v = clash b next _ _ v

-- reading under a network in memory keeps the one order of refusals, and where nothing refuses it is as accepted
module _ {A B : Type 0} (k : ℕ) (both : A → ℕ → Outcome B) where
  pub under_value : (a : A) (next : ℕ) → number (under k (accepted a next) both) ≡ early 0 k (number (both a next))
  unfolding under early or_else behind unless_fault number
  under_value a next = go (eqb k 3) (eqb k 0) (both a next)
    where
      go : (b c : Bool) (o : Outcome B)
          → number (if b then refused 3 0 else if c then o else refused k 0) ≡ (3 if b else (if c then number o else k))
      go true c o = refl
      go false true o = refl
      go false false o = refl

  pub under_refused : (j p : ℕ) → ¬ (j ≡ 0) → number (under k (refused j p) both) ≡ early j k 0
  unfolding under early or_else behind number
  under_refused j p d = go (eqb k 3) (eqb j 3) refl
    where
      go : (b c : Bool) → eqb j 3 ≡ c → number {A = B} (if b then refused 3 0 else refused j p) ≡ (3 if c || b else (if eqb j 0 then (if eqb k 0 then 0 else k) else j))
      go true true e = refl
      go true false e = refl
      go false true e = eqb-true j 3 e
      go false false e = rw (ne_eqb j 0 d)

pub under_taken : {A B : Type 0} (k : ℕ) (own : Outcome A) (both : A → ℕ → Outcome B) (b : B) (next : ℕ) → under k own both ≡ accepted b next
    → (k ≡ 0) × (behind own both ≡ accepted b next)
unfolding under behind
under_taken k own both b next e = go (eqb k 3) refl e
  where
    fault : Fault
    fault = record { number = k; place = 0 }

    go : (t : Bool) → eqb k 3 ≡ t → (if t then refused 3 0 else behind own (λ x p. unless_fault fault (both x p))) ≡ accepted b next
        → (k ≡ 0) × (behind own both ≡ accepted b next)
    go true q v = clash b next 3 0 v
    go false q v =
        let (a, p, o, w) = behind_taken own (λ x p. unless_fault fault (both x p)) b next v in
        let (z, u) = fault_taken fault (both a p) b next w in
        (z, ap (λ (o : Outcome _). behind o both) o ∙ u)

pub under_free : {A B : Type 0} (k : ℕ) (own : Outcome A) (both : A → ℕ → Outcome B) → k ≡ 0 → under k own both ≡ behind own both
unfolding under behind unless_fault
under_free k (accepted a next) both z = rw z
under_free k (refused j p) both z = rw z

-- the number of no fault is 0, and of a fault it is not
no_fault : {A : Type 0} (k : ℕ) (o : Option (Placed A)) → o ≡ None → (fault_of k o).number ≡ 0
unfolding fault_of
no_fault k o e = ap (λ (x : Option (Placed _)). (fault_of k x).number) e

none_of : {A : Type 0} (k : ℕ) → ¬ (k ≡ 0) → (o : Option (Placed A)) → (fault_of k o).number ≡ 0 → o ≡ None
unfolding fault_of
none_of k d None e = refl
none_of k d (Some x) e = absurd (d e)

or_free : (f later : Fault) → f.number ≡ 0 → later.number ≡ 0 → (or_fault f later).number ≡ 0
unfolding or_fault
or_free f later a b = rw (eq-eqb f.number 0 a) b

free_or : (f later : Fault) → (or_fault f later).number ≡ 0 → (f.number ≡ 0) × (later.number ≡ 0)
unfolding or_fault
free_or f later e = go (eqb f.number 0) refl e
  where
    go : (b : Bool) → eqb f.number 0 ≡ b → (if b then later else f).number ≡ 0 → (f.number ≡ 0) × (later.number ≡ 0)
    go true q z = (eqb-true f.number 0 q, z)
    go false q z = absurd (eqb-false f.number 0 q z)

-- a network has no fault if every closure ends after its start and is of a listed line, and every line is joined
pub record Faultless (x : Listed) : Type 0 where
  pub ended : unended x ≡ None
  pub joined : unjoined x ≡ None
  pub listed : unlisted x ≡ None

pub fault_none : (x : Listed) → Faultless x → (network_fault x).number ≡ 0
unfolding network_fault
fault_none x f =
    or_free (fault_of 14 (unended x)) _ (no_fault 14 (unended x) f.ended)
    (or_free (fault_of 4 (unjoined x)) (fault_of 4 (unlisted x)) (no_fault 4 (unjoined x) f.joined) (no_fault 4 (unlisted x) f.listed))

pub none_fault : (x : Listed) → (network_fault x).number ≡ 0 → Faultless x
unfolding network_fault
none_fault x e =
    let (a, b) = free_or (fault_of 14 (unended x)) _ e in
    let (c, d) = free_or (fault_of 4 (unjoined x)) (fault_of 4 (unlisted x)) b in
    record {
      ended = none_of 14 (λ z. omega (arith, z)) (unended x) a;
      joined = none_of 4 (λ z. omega (arith, z)) (unjoined x) c;
      listed = none_of 4 (λ z. omega (arith, z)) (unlisted x) d;
    }
