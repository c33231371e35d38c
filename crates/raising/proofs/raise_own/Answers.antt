-- `raising::raise_own` meets its contract: a refused raise leaves the tally as it was. Assumes nothing.
use Rattle.std.proofs.lemmas.Result.{err_from_is_err_and}
use Rattle.tally.proofs.TallyLaws.{refused_stays}
use Rattle.raising.proofs.raise_own.Goals as goal

pub returns-in_err-raise_tally : goal.returns-in_err-raise_tally
returns-in_err-raise_tally c =
    let p = err_from_is_err_and c.from_residual.result c.from_residual.ensures.1 in
    let refused = c.in_err-raise_tally.ensures.0 in
    rw (p.1, p.2) (refused, refused_stays _ _ _ c.in_err-raise_tally.field-0.0 refused)
