-- `builder::kinds::rules_redone` meets its contract: each level's rules have the numbers from its first on. Assumes
-- nothing.
use Rattle.std.proofs.Common.{arith, ◌≢◌, ne_eqb}
use Rattle.builder.specs.between.Builder.{first_rule, rules_redone}
use Rattle.builder.specs.between.Kinds.{counting}
use Rattle.builder.proofs.kinds.rules_redone.Goals as goal

pub returns-in-2 : goal.returns-in-2
unfolding first_rule rules_redone counting
returns-in-2 c = rw c.in-2.is

pub returns-in-1 : goal.returns-in-1
unfolding first_rule rules_redone counting
returns-in-1 c = rw c.in-1.is

pub returns-in_default : goal.returns-in_default
unfolding first_rule rules_redone counting
returns-in_default c =
    let p : c.args.level ≢ 2 = omega arith in
    let q : c.args.level ≢ 1 = omega arith in
    rw (ne_eqb _ _ p, ne_eqb _ _ q)
