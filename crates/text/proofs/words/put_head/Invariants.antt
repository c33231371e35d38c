-- `text::words::put_head` meets its contract: behind the letter, so many words are put. Assumes nothing.
use Rattle.listings.specs.Text.{word}
use Rattle.text.proofs.PutParts.{PutSome}
use Rattle.text.proofs.words.put_head.Given as goal

abbrev pub invariant-loop-x : goal.invariant-loop-x
invariant-loop-x l = PutSome word l.xs 11 l.initial.next l.initial.out l.x-index l.next l.out
