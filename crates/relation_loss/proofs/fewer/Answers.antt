-- `relation_loss::fewer` meets its contract: the second place tells whether two trains stay. Assumes nothing.
use Rattle.std.proofs.Common.{sym}
use borrow.Author.Tests.{eq-eqb, ne_eqb}
use Rattle.relation_loss.specs.between.Left.{lose_group}
use Rattle.relation_loss.proofs.TrainsLeft.{fewer_rest}
use Rattle.relation_loss.proofs.fewer.Goals as goal

pub returns-then-us-eq0 : goal.returns-then-us-eq0
unfolding lose_group
returns-then-us-eq0 c = λ make.
    let us = c.others-us in
    sym (rw (sym c.if-not-has_train.ensures, fewer_rest make c.args.train c.args.ts us.result us.ensures, eq-eqb us.result.b.0 0 c.if-us-eq0.true))

pub returns : goal.returns
unfolding lose_group
returns c = λ make.
    let us = c.others-us in
    sym (rw (sym c.if-not-has_train.ensures, fewer_rest make c.args.train c.args.ts us.result us.ensures, ne_eqb us.result.b.0 0 c.if-us-eq0.false))
