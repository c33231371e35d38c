-- `text::rows::put_row` meets its contract: the letter, the station and the train, the row's numbers and the newline,
-- one behind the other. Assumes nothing.
use mathlib.Core.List.{[], ◌∷◌, ◌++◌, flat_map}
use native.Mathlib.Omega.{arith}
use Rattle.listings.specs.Text.{word, head}
use Rattle.text.specs.between.Rows.{signed_word, row_at, row_line}
use Rattle.text.proofs.PutParts.{puts_two, puts_last}
use Rattle.text.proofs.rows.put_row.Goals as goal

pub returns : goal.returns
unfolding row_line head flat_map
returns c =
    let s = c.args in
    let letter = c.put_byte-letter.ensures in
    let station = rw c.from.ensures at c.put_word-station.ensures in
    let train = rw c.from-2.ensures at c.put_word-train.ensures in
    let numbers = c.put_numbers-end.ensures in
    let end = c.put_byte.ensures in
    puts_two s.at _ _ (74 ∷ (word s.s.0 ++ (word s.t.0 ++ []))) (flat_map signed_word (row_at s.rows.now s.i) ++ (10 ∷ [])) s.out.now _ _ 23 49
    (puts_two s.at _ _ (74 ∷ []) (word s.s.0 ++ (word s.t.0 ++ [])) s.out.now _ _ 1 22 (letter.0, letter.1, omega (arith, letter.0))
    (puts_two _ _ _ (word s.s.0) (word s.t.0 ++ []) _ _ _ 11 11 station (puts_last _ _ (word s.t.0) _ _ 11 train)))
    (puts_two _ _ _ (flat_map signed_word (row_at s.rows.now s.i)) (10 ∷ []) _ _ _ 48 1 numbers (end.0, end.1, omega (arith, end.0)))
