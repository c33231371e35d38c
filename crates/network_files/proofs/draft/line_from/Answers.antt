-- `network_files::draft::line_from` meets its contract: each number is made a byte. Assumes nothing.
use Rattle.network_files.proofs.DraftLaws.{line_bytes}
use Rattle.network_files.proofs.draft.line_from.Goals as goal

pub returns : goal.returns
returns c =
    line_bytes c.args.v c.narrow.result c.narrow-2.result c.narrow-3.result c.narrow-4.result c.narrow-5.result c.narrow-6.result c.narrow-7.result
    c.narrow.ensures c.narrow-2.ensures c.narrow-3.ensures c.narrow-4.ensures c.narrow-5.ensures c.narrow-6.ensures c.narrow-7.ensures
