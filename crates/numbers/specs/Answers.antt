-- What the answer of the reader of a number tells. Assumes nothing.
use Rattle.std.specs.Prelude.{ℕ, Result, Ok, Err}
use Rattle.numbers.specs.declared.NumberError.{NumberError}
use Rattle.numbers.specs.declared.NumberError.TheVariants.{EndsEarly, NotShortest}
use Rattle.numbers.specs.Numbers.{NumberRead, Value, Refused}

-- "When an answer is an enum, a definition gives this paper's number and values for each case of that enum."
abbrev pub refusal_of : NumberError → ℕ
refusal_of EndsEarly = 1
refusal_of NotShortest = 2

abbrev pub number_outcome : Result (ℕ × ℕ) NumberError → NumberRead
number_outcome (Ok (n, w)) = Value n w
number_outcome (Err e) = Refused (refusal_of e)
