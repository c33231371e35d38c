-- The areas that an edit names: its refusal, or the bits that the code adds up. Assumes nothing.
use Prim.Native.Nat.{ℕ}
use mathlib.Core.Path.{◌≡◌, sym, ◌∙◌, ap}
use borrow.Author.Tests.{ne_eqb}
use Rattle.network.specs.Networks.{area_of}
use Rattle.timetable.specs.Groups.{names_group}
use Rattle.actions.specs.Early.{early_refusal}
use Rattle.actions.proofs.EarlyLaws.{Early, early_facts}
use Rattle.named_sheets.specs.between.Named.{touches_area}
use Rattle.edit_calls.proofs.CallTests.{area_named}
use Rattle.edit_replies.specs.Types.{Edit, Network}
use Rattle.replies.specs.Replies.{sized, plain, bits}
use Rattle.edit_replies.specs.Replies.{named}

module _ (n : Network) (e : Edit) where
  same_bits : Early n e → bits (touches_area n e) ≡ bits (names_group n (area_of n) e)
  unfolding bits
  same_bits early =
      rw (area_named n e early 1, area_named n e early 2, area_named n e early 3, area_named n e early 4, area_named n e early 5, area_named n e early 6)

  pub names_none : (k : ℕ) → k ≡ early_refusal n e → ¬ (k ≡ 0) → plain k ≡ named n e
  unfolding named
  names_none k q z = ap (λ (x : ℕ). plain x) q ∙ sym (rw (ne_eqb (early_refusal n e) 0 (λ w. z (q ∙ w))))

  pub names_some : 0 ≡ early_refusal n e → (m : ℕ) → m ≡ bits (touches_area n e) → sized 0 m ≡ named n e
  unfolding named
  names_some q m p = ap (λ (x : ℕ). sized 0 x) (p ∙ same_bits (early_facts n e (sym q))) ∙ sym (rw (← q))
