-- `recheck::update::write_update` meets its contract: the tables of the pages in a sheet are those that it holds.
-- Assumes nothing.
use Rattle.rule_tests.proofs.HeldLaws.{held_is}
use Rattle.recheck.proofs.update.write_update.Goals as goal

pub returns : goal.returns
returns c =
    rw (← held_is c.args.sheet.now c.requires.0) c.update_drafted.ensures
