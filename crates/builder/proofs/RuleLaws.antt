-- A rule is known by its number. Assumes nothing.
use Rattle.std.proofs.Common.{ℕ, ◌≡◌, refl, sym, ap, ◌∙◌, ◌||◌, true}
use mathlib.Core.Logic.{◌⊎◌, inl, inr}
use Rattle.std.specs.Prelude.{if◌then◌else◌, eqb}
use Rattle.builder.specs.declared.kinds.Rule.{Rule}
use Rattle.builder.specs.between.Kinds.{rule_number}

abbrev rule_of : ℕ → Rule
rule_of k =
    if eqb k 1 then Rule.Backwards
    else if eqb k 2 then Rule.TrackTaken
    else if eqb k 3 then Rule.Headway
    else if eqb k 4 then Rule.Unmet
    else if eqb k 5 then Rule.TooFast
    else if eqb k 6 then Rule.LineFull
    else if eqb k 7 then Rule.OutUnanswered
    else if eqb k 8 then Rule.InUnanswered
    else if eqb k 9 then Rule.FarArrival
    else if eqb k 10 then Rule.Opposed
    else Rule.Closed

numbered : (r : Rule) → rule_of (rule_number r) ≡ r
numbered Rule.Backwards = refl
numbered Rule.TrackTaken = refl
numbered Rule.Headway = refl
numbered Rule.Unmet = refl
numbered Rule.TooFast = refl
numbered Rule.LineFull = refl
numbered Rule.OutUnanswered = refl
numbered Rule.InUnanswered = refl
numbered Rule.FarArrival = refl
numbered Rule.Opposed = refl
numbered Rule.Closed = refl

pub other_number : (r q : Rule) → ¬ (r ≡ q) → ¬ (rule_number r ≡ rule_number q)
other_number r q h e = h (sym (numbered r) ∙ ap rule_of e ∙ numbered q)

pub paired_number : (r : Rule) → (r ≡ Rule.TrackTaken) ⊎ (r ≡ Rule.Headway) → (eqb (rule_number r) 2 || eqb (rule_number r) 3) ≡ true
paired_number r (inl e) = rw e
paired_number r (inr e) = rw e
