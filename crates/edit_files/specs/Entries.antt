-- The fields of an edit by themselves: what makes one kind of edit of them is not said here. Assumes nothing.
use Rattle.std.specs.Prelude.{[]}
use Rattle.railway.specs.declared.edit.Plan.{Plan}
use Rattle.railway.specs.declared.edit.Extension.{Extension}
use Rattle.railway.specs.declared.edit.Deletion.{Deletion}
use Rattle.railway.specs.declared.edit.Report.{Report}
use Rattle.timetable.specs.declared.FileForm.{FileForm}
use Rattle.timetable.specs.Formats.{Format, done, ◌and_then◌, row}
use Rattle.timetable.specs.FileForms.{with_mark, with_minute}
use Rattle.timetable.specs.EditsFile.{plan_ranges, plan_of, extension_ranges, extension_of, deletion_ranges, deletion_of, report_ranges, report_of}

unfoldable pub plan_entry : FileForm → Format Plan
plan_entry form = row (plan_ranges form) [] and_then (λ ns. done (plan_of (with_mark form ns)))

unfoldable pub extension_entry : FileForm → Format Extension
extension_entry form = row (extension_ranges form) [] and_then (λ ns. done (extension_of (with_mark form ns)))

unfoldable pub deletion_entry : Format Deletion
deletion_entry = row deletion_ranges [] and_then (λ ns. done (deletion_of ns))

unfoldable pub report_entry : FileForm → Format Report
report_entry form = row (report_ranges form) [] and_then (λ ns. done (report_of (with_minute form ns)))

-- The key ring of this module: `unfolding opened` opens every definition above.
unfoldable pub opened : Unit {0}
unfolding plan_entry extension_entry deletion_entry report_entry
opened = tt
