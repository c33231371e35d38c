-- Local edits on a state that gives each place a part: what an edit answers and changes depends on the parts of the
-- places that it touches alone. Two that touch no common place do not see each other, so either may go first; one that
-- touches none changes nothing. Assumes nothing.
use mathlib.Core.Path.{◌≡◌, sym, ◌∙◌, fun_ext}
use mathlib.Core.Bool.{Bool}
use lib.Dec.{T}
use Rattle.base.proofs.Tests.{by_test}

-- an edit reads and changes only the places that it touches
pub record LocalStep {Edit Place Part Answer : Type 0} (touches : Edit → Place → Bool)
    (step : Edit → (Place → Part) → Place → Part) (answer : Edit → (Place → Part) → Answer) : Type 0 where
  pub same_answer : (e : Edit) (st st' : Place → Part) → ((k : Place) → T (touches e k) → st k ≡ st' k) → answer e st ≡ answer e st'
  pub same_change : (e : Edit) (st st' : Place → Part) → ((k : Place) → T (touches e k) → st k ≡ st' k)
      → (k : Place) → T (touches e k) → step e st k ≡ step e st' k
  pub others_kept : (e : Edit) (st : Place → Part) (k : Place) → ¬ T (touches e k) → step e st k ≡ st k

-- the two touch no common place
abbrev pub Apart : {Edit Place : Type 0} → (Edit → Place → Bool) → Edit → Edit → Type 0
Apart {Place = Place} touches e f = (k : Place) → T (touches e k) → ¬ T (touches f k)

pub turned : {Edit Place : Type 0} (touches : Edit → Place → Bool) (e f : Edit) → Apart touches e f → Apart touches f e
turned touches e f h k u t = h k t u

module _ {Edit Place Part Answer : Type 0} (touches : Edit → Place → Bool)
    (step : Edit → (Place → Part) → Place → Part) (answer : Edit → (Place → Part) → Answer) (L : LocalStep touches step answer) where
  pub unseen : (e f : Edit) (st : Place → Part) → Apart touches e f → (k : Place) → T (touches e k) → step f st k ≡ st k
  unseen e f st h k t = L.others_kept f st k (h k t)

  pub commute : (e f : Edit) (st : Place → Part) → Apart touches e f → step e (step f st) ≡ step f (step e st)
  commute e f st h =
      fun_ext λ k. by_test (touches e k)
      (λ t. L.same_change e (step f st) st (unseen e f st h) k t ∙ sym (unseen e f (step e st) h k t))
      (λ n. L.others_kept e (step f st) k n ∙ by_test (touches f k)
      (λ u. sym (L.same_change f (step e st) st (unseen f e st (turned touches e f h)) k u))
      (λ m. L.others_kept f st k m ∙ sym (L.others_kept e st k n) ∙ sym (L.others_kept f (step e st) k m)))

  pub idle : (e : Edit) (st : Place → Part) → ((k : Place) → ¬ T (touches e k)) → step e st ≡ st
  idle e st h = fun_ext λ k. L.others_kept e st k (h k)
