-- The first fault of some entries, found entry by entry. Assumes nothing.
use Rattle.std.specs.Prelude.{ℕ, Bool, eqb, Option, None, Some}
use Rattle.std.specs.Prelude.{if◌then◌else◌}
use Rattle.base.specs.RefusalNumbers.{number_of}
use Rattle.base.specs.declared.refusal.FileError.{FileError}
use Rattle.timetable.specs.declared.Fault.{Fault}

-- document 01's number and place of a fault, number 0 where there is none
abbrev pub fault_told : Option FileError → Fault
fault_told None = record { number = 0; place = 0 }
fault_told (Some e) = record { number = number_of e.refusal; place = e.place }

-- one entry more: an earlier fault stays
unfoldable pub fault_next : ℕ → Bool → ℕ → Fault → Fault
fault_next k good at f = if eqb f.number 0 then (if good then f else record { number = k; place = at }) else f

-- The key ring of this module: `unfolding opened` opens every definition above.
unfoldable pub opened : Unit {0}
unfolding fault_next
opened = tt
