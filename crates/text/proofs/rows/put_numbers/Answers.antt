-- `text::rows::put_numbers` meets its contract: four numbers, one behind the other. Assumes nothing.
use Rattle.text.proofs.RowLines.{four_put}
use Rattle.text.proofs.rows.put_numbers.Goals as goal

pub returns : goal.returns
returns c =
    let s = c.args in
    four_put s.rows.now s.i s.at s.out.now _ _ _ _ _ _ _ _
    c.put_signed_word-station.ensures
    c.put_signed_word-arrival.ensures
    c.put_signed_word-departure.ensures
    c.put_signed_word.ensures
