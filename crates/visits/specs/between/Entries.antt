-- A train's visit, as the code has it, is the entry of a table. Assumes nothing.
use Rattle.timetable.specs.Tables
use Rattle.visits.specs.declared.Entry.{Entry}

abbrev pub entry_of : Entry → Tables.Entry
entry_of e = record { train = e.train; visit = e.visit }
