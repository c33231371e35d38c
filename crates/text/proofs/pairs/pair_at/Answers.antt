-- `text::pairs::pair_at` meets its contract: the areas at the index are those of the pair. Assumes nothing.
use Rattle.std.proofs.Common.{◌≡◌, ◌∙◌, ap, rules, slice_get, option_copied}
use Rattle.std.proofs.lemmas.Option.{unwrap_or-slice_get}
use Rattle.std.specs.Option.{unwrap_or}
use Rattle.base.specs.Lists as Lists
use Rattle.base.specs.Lists.{pairs}
use Rattle.timetable.specs.Groups.{six}
use Rattle.text.proofs.pairs.pair_at.Goals as goal

pub returns : goal.returns
unfolding Lists.opened
returns c =
    let got : option_copied c.get.result ≡ slice_get (pairs six) c.args.i = search rules in
    c.unwrap_or-first.ensures ∙ ap (λ o. unwrap_or o (0, 0)) (c.copied.ensures ∙ got) ∙ unwrap_or-slice_get (pairs six) c.args.i (0, 0)
