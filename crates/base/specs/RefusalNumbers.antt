-- The number of each refusal. Assumes nothing.
use Rattle.std.specs.Prelude.{ℕ, ◌≡◌, ◌<◌, ◌⊎◌, Result, Ok, Err, MatchResult}
use Rattle.base.specs.declared.refusal.Refusal.{Refusal}
use Rattle.base.specs.declared.refusal.Refusal.TheVariants.{EndsOrGoesOn, NotShortest, OutOfRange, NotJoined, WrongLength, BadSheet, NotKnown, ThereAlready, Missing, LinkedOtherwise, AltersOccurred, LimitReached, OutputTooShort, ClosureBackwards, FromTheFuture}
use Rattle.base.specs.declared.refusal.UnknownRefusal.{UnknownRefusal}

-- docs/SPECIFICATION.md says which condition has which number
abbrev pub number_of : Refusal → ℕ
number_of EndsOrGoesOn = 1
number_of NotShortest = 2
number_of OutOfRange = 3
number_of NotJoined = 4
number_of WrongLength = 5
number_of BadSheet = 6
number_of NotKnown = 7
number_of ThereAlready = 8
number_of Missing = 9
number_of LinkedOtherwise = 10
number_of AltersOccurred = 11
number_of LimitReached = 12
number_of OutputTooShort = 13
number_of ClosureBackwards = 14
number_of FromTheFuture = 15

-- the refusal with this number, or an error with a number that none has
abbrev pub HasNumber : ℕ → Result Refusal UnknownRefusal → Type 0
HasNumber n r = MatchResult r (λ x. number_of x ≡ n) (λ e. (e.0 ≡ n) × ((n ≡ 0) ⊎ (15 < n)))

-- the number that a call answers: 0 where it refused nothing
abbrev pub refusal_number : {T : Type 0} → Result T Refusal → ℕ
refusal_number (Ok _) = 0
refusal_number (Err r) = number_of r
