-- Which findings of a list are redone after an edit, as the code marks them: by station, nothing, rules 7 to 10, or all
-- rules. Crate recheck says that the marks of an edit are `redone_at` of timetable/specs/Recheck.antt. Assumes nothing.
use Rattle.std.specs.Prelude.{ℕ, ◌-◌, Bool, true, ◌&&◌, ◌||◌, eqb, leb, get_or, replicate}
use Rattle.base.specs.Choice.{◌if◌else◌}
use Rattle.std.specs.Prelude.{if◌then◌else◌}
use Rattle.timetable.specs.Findings.{is_far}
use Rattle.scope.specs.declared.redone.Marks.{Marks}

-- all findings
abbrev pub all_redone : Marks
all_redone = record { everywhere = true; levels = replicate 16 0 }

-- of a station's number, 0 for a number that no station has
unfoldable pub level : Marks → ℕ → ℕ
level marks k = 2 if marks.everywhere else (if leb 1 k && leb k 16 then get_or marks.levels (k - 1) 0 else 0)

unfoldable pub is_redone : Marks → ℕ → ℕ → Bool
is_redone marks k rule = eqb (level marks k) 2 || (eqb (level marks k) 1 && is_far rule)

-- The key ring of this module: `unfolding opened` opens every definition above.
unfoldable pub opened : Unit {0}
unfolding level is_redone
opened = tt
