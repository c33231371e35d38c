-- The tally as four numbers, raised: its ways to end. Assumes nothing.
use Prim.Native.Nat.{ℕ}
use mathlib.Core.Path.{◌≡◌, refl, sym, ◌∙◌, ap}
use mathlib.Core.Bool.{true, false}
use mathlib.Core.List.{List, [], ◌∷◌}
use native.Mathlib.Omega.{arith}
use lib.ListN.{length}
use Rattle.base.specs.declared.refusal.FileError.{FileError}
use Rattle.base.specs.declared.refusal.Refusal.{Refusal}
use Rattle.base.specs.RefusalNumbers.{number_of}
use Rattle.timetable.specs.Formats.{accepted, refused}
use Rattle.timetable.specs.Count.{overfull, raise_refusal, raise}
use Rattle.tally.proofs.TallyLaws.{refused_stays}
use Rattle.single_edit.specs.Reading.{read_one}
use Rattle.replies.specs.Replies.{plain, placed, by_file}
use Rattle.edit_replies.specs.Types.{Edit, Tally, Answer, Reply}
use Rattle.edit_replies.specs.Replies.{tally_of, numbers_of, raise_reply, raise_left}

-- four numbers are those of their tally
pub numbers_back : (c : List ℕ) → length c ≡ 4 → numbers_of (tally_of c) ≡ c
unfolding numbers_of tally_of
numbers_back [] e = absurd (omega (arith, e))
numbers_back (a ∷ []) e = absurd (omega (arith, e))
numbers_back (a ∷ b ∷ []) e = absurd (omega (arith, e))
numbers_back (a ∷ b ∷ c ∷ []) e = absurd (omega (arith, e))
numbers_back (a ∷ b ∷ c ∷ d ∷ []) e = refl
numbers_back (a ∷ b ∷ c ∷ d ∷ x ∷ xs) e = absurd (omega (arith, e))

module _ (edit : List ℕ) (a : Answer) (counts : List ℕ) (y : Tally) (is : y ≡ tally_of counts) where
  abbrev Ends : Reply → List ℕ → Type 0
  Ends r d = (r ≡ raise_reply edit a.refusal a.removed counts) × (d ≡ raise_left edit a.refusal a.removed counts)

  pub raise_overfull : overfull y ≡ true → Ends (plain 5) counts
  unfolding raise_reply raise_left
  raise_overfull f = let g : overfull (tally_of counts) ≡ true = ap overfull (sym is) ∙ f in (sym (rw g), sym (rw g))

  module _ (f : overfull y ≡ false) where
    within : overfull (tally_of counts) ≡ false
    within = ap overfull (sym is) ∙ f

    pub raise_faulty : (e : FileError) → read_one edit ≡ refused (number_of e.refusal) e.place → Ends (placed 2 (number_of e.refusal) e.place) counts
    unfolding raise_reply raise_left by_file
    raise_faulty e q = rw (within, q) (refl, refl)

    module _ (e : Edit) (q : read_one edit ≡ accepted e (length edit)) where
      pub raise_refused : length counts ≡ 4 → (r : Refusal) → number_of r ≡ raise_refusal y a → Ends (plain (number_of r)) counts
      unfolding raise_reply raise_left by_file
      raise_refused four r h =
          let stays = refused_stays y e a r h in
          rw (within, q, ← is) (ap (λ (k : ℕ). plain k) h, sym (ap numbers_of (sym stays ∙ is) ∙ numbers_back counts four))

      pub raise_done : 0 ≡ raise_refusal y a → (z : Tally) → z ≡ raise y e a → Ends (plain 0) (numbers_of z)
      unfolding raise_reply raise_left by_file
      raise_done h z g = rw (within, q, ← is) (ap (λ (k : ℕ). plain k) h, ap numbers_of g)
