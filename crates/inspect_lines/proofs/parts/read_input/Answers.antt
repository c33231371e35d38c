-- `inspect_lines::parts::read_input` meets its contract: an input that is too long is refused as one for a sheet of
-- another length. Assumes nothing.
use Rattle.timetable.specs.Formats.{number, place_of, value_or}
use Rattle.timetable_files.specs.Inspect.{inspect_read}
use Rattle.inspect_lines.proofs.InputPrinted.{input_long, input_read}
use Rattle.inspect_lines.proofs.parts.read_input.Goals as goal

pub returns-then-input-gt16384 : goal.returns-then-input-gt16384
unfolding inspect_read number place_of value_or
returns-then-input-gt16384 c = input_long c.args.input.now c.args.sheet.now c.if-input-gt16384.true

pub returns : goal.returns
returns c =
    let s = c.args in
    let i = c.read_inspect in
    input_read s.input.now s.sheet.now _ _ c.if-input-gt16384.false i.ensures.0 i.ensures.1
