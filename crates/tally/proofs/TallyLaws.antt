-- What the tests of a raise leave: small fields, so that no sum is too large; and how a raise ends, case by case.
-- Assumes nothing.
use Prim.Native.Nat.{ℕ, ◌+◌, ◌≤◌}
use mathlib.Core.Path.{◌≡◌, refl, sym}
use mathlib.Core.Bool.{Bool, true, false, ◌||◌}
use borrow.Author.Tests.{ltb-false, eq-eqb, ne_eqb}
use Rattle.base.specs.declared.refusal.Refusal.{Refusal}
use Rattle.base.specs.RefusalNumbers.{number_of}
use Rattle.railway.specs.declared.edit.Edit.{Edit}
use Rattle.timetable.specs.declared.Answer.{Answer}
use Rattle.timetable.specs.declared.Tally.{Tally}
use Rattle.timetable.specs.Refusals.{or_else, call_refusal}
use Rattle.timetable.specs.Machine.{meaning, added_by}
use Rattle.actions.proofs.OrderLaws.{not_nought}
use Rattle.timetable.specs.Count.{overfull, unlikely, raise_refusal, raised, raise}

-- where neither test passes, each fails
pub or_none : (a b : Bool) → (a || b) ≡ false → (a ≡ false) × (b ≡ false)
or_none true b e = let z : true ≡ false = e in (z, cc)
or_none false b e = (refl, e)

-- each field is at most 1,000,000
pub record Small (y : Tally) : Type 0 where
  pub accepted : y.accepted ≤ 1000000
  pub refused : y.refused ≤ 1000000
  pub added : y.added ≤ 1000000
  pub removed : y.removed ≤ 1000000

pub small : (y : Tally) → overfull y ≡ false → Small y
unfolding overfull
small y e =
    let (ar, dm) = or_none _ _ e in
    let (a, r) = or_none _ _ ar in
    let (d, m) = or_none _ _ dm in
    record { accepted = ltb-false _ _ a; refused = ltb-false _ _ r; added = ltb-false _ _ d; removed = ltb-false _ _ m }

-- how a raise ends
module _ (y : Tally) (e : Edit) (a : Answer) where
  abbrev pub Ends : ℕ → Tally → Type 0
  Ends n z = (n ≡ raise_refusal y a) × (z ≡ raise y e a)

  pub when_overfull : overfull y ≡ true → Ends 5 y
  unfolding call_refusal or_else raise_refusal raise
  when_overfull o = (simp o, simp o)

  module _ (o : overfull y ≡ false) where
    pub when_unlikely : unlikely a ≡ true → Ends 3 y
    unfolding call_refusal or_else raise_refusal raise
    when_unlikely u = (simp (o, u), simp (o, u))

    module _ (u : unlikely a ≡ false) where
      pub when-accepted : (n : ℕ) → n ≡ added_by (meaning e) → a.refusal ≡ 0 → Ends 0 (record { accepted = y.accepted + 1; refused = y.refused; added = y.added + n; removed = y.removed + a.removed })
      unfolding call_refusal or_else raise_refusal raise raised
      when-accepted n m z = (simp (o, u), simp (m, o, u, eq-eqb _ _ z))

      pub when-five : a.refusal ≡ 5 → Ends 0 y
      unfolding call_refusal or_else raise_refusal raise raised
      when-five f = (simp (o, u), simp (o, u, f))

      pub when-refused : (a.refusal ≡ 0 → ⊥) → (a.refusal ≡ 5 → ⊥) → Ends 0 (record { accepted = y.accepted; refused = y.refused + 1; added = y.added; removed = y.removed })
      unfolding call_refusal or_else raise_refusal raise raised
      when-refused z f = (simp (o, u), simp (o, u, ne_eqb _ _ z, ne_eqb _ _ f))

-- a refused raise leaves the tally as it was
pub refused_stays : (y : Tally) (e : Edit) (a : Answer) (r : Refusal) → number_of r ≡ raise_refusal y a → y ≡ raise y e a
unfolding raise
refused_stays y e a r h = sym (rw (sym h, not_nought r))
