-- A list of findings updated after one edit is the list worked out anew. Document 02, W5: "for every whole timetable or
-- area's sheet, its own list and every accepted edit, the updated list is the list worked out from the new sheet, and
-- .. findings elsewhere are those of the old list. Given some other list .., the result is that list's entries elsewhere
-- together with the redone ones." What is redone stands in timetable Recheck; the proofs are in proofs/; nothing here is
-- proved. The letters are those of Statements; `old` is a list. Assumes nothing.
use Rattle.std.specs.Prelude.{ℕ, ◌+◌, ◌≡◌, not, List, T}
use Rattle.base.specs.Lists.{keep, each_two}
use Rattle.timetable.specs.Machine.{Timetable, after}
use Rattle.timetable.specs.Groups.{Grouping, divide}
use Rattle.timetable.specs.Good.{Whole}
use Rattle.timetable.specs.Findings.{findings, own_list}
use Rattle.timetable.specs.Recheck.{stale, before, updated}
use Rattle.theory.specs.Types.{Edit, Network, Finding}
use Rattle.theory.specs.Statements.{GoodNetwork, Grouped, times_listed}

-- what a list has that the edit does not make stale
unfoldable pub elsewhere : Network → Edit → List Finding → List Finding
elsewhere n e fs = keep (λ f. not (stale n e f)) fs

-- a list before the edit and the one after it
pub record Rechecked (n : Network) (e : Edit) (old new : List Finding) : Type 0 where
  -- "the updated list is the list worked out from the new sheet"
  pub same_list : updated n e old new ≡ new
  -- "findings elsewhere are those of the old list"
  pub same_elsewhere : elsewhere n e new ≡ elsewhere n e old

-- of the whole timetable, and of each group's part, whether the edit names one of its stations or not
pub record EveryListRechecked (n : Network) (γ : Grouping) (m : Timetable) (e : Edit) : Type 0 where
  pub whole : Rechecked n e (findings n m) (findings n (after n e m))
  pub group : (g : ℕ) → Rechecked n e (own_list n γ (divide γ m) g) (own_list n γ (divide γ (after n e m)) g)

-- some other list: it rises, and has each finding as often as its two parts have
pub record Joined (n : Network) (e : Edit) (old new : List Finding) : Type 0 where
  pub rises : T (each_two before (updated n e old new))
  pub entries : (f : Finding) → times_listed f (updated n e old new) ≡ times_listed f (elsewhere n e old) + times_listed f (keep (stale n e) new)

-- every whole timetable, every grouping of its stations and every edit; a refused one changes nothing
abbrev pub RecheckIsNew : Type 0
RecheckIsNew = (n : Network) → GoodNetwork n → (γ : Grouping) (gs : List ℕ) → Grouped n γ gs → (m : Timetable) → Whole n m → (e : Edit) → EveryListRechecked n γ m e

-- any two lists that rise
abbrev pub AnyListJoins : Type 0
AnyListJoins = (n : Network) (e : Edit) (old new : List Finding) → T (each_two before old) → T (each_two before new) → Joined n e old new

-- The key ring of this module: `unfolding opened` opens every definition above.
unfoldable pub opened : Unit {0}
unfolding elsewhere
opened = tt
