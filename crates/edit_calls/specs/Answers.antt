-- What the call for one edit tells: "a refusal number or 0, and the count of visits removed". Assumes nothing.
use Rattle.std.specs.Prelude.{ℕ, Result, Ok, Err}
use Rattle.base.specs.RefusalNumbers.{number_of}
use Rattle.base.specs.declared.refusal.Refusal.{Refusal}
use Rattle.timetable.specs.declared.Answer.{Answer}

abbrev pub answer_of : Result ℕ Refusal → Answer
answer_of (Ok k) = record { refusal = 0; removed = k }
answer_of (Err r) = record { refusal = number_of r; removed = 0 }
