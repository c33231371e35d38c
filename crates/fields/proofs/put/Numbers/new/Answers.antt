-- `fields::put::Numbers::new` meets its contract: what is copied are the numbers up to the count. Assumes nothing.
use Rattle.fields.proofs.RowHolds.{row_new}
use Rattle.fields.proofs.put.Numbers.new.Goals as goal

pub returns : goal.returns
returns c = row_new c.args.row.now c.min-count.result c.min-count.ensures c.copy_from_slice.new.self c.copy_from_slice.ensures.after
