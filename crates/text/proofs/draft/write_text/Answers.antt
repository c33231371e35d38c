-- `text::draft::write_text` meets its contract: there is room for any text, or it was counted in the draft, and the
-- buffer has room for it or not. Assumes nothing.
use native.Mathlib.Omega.{arith}
use Rattle.text.proofs.OutputLaws.{put_at_once, left_short, put_counted, handed}
use Rattle.text.proofs.draft.write_text.Goals as goal

pub returns-then-most-out-clause-answer : goal.returns-then-most-out-clause-answer
returns-then-most-out-clause-answer g c =
    (put_at_once (g.T.Text.text c.args.text.now) c.args.out.now g.T.Text.bound _ _ c.put.ensures (omega (arith, c.if-most-out.true, c.most-most.ensures))).0

pub returns-then-most-out-clause-after : goal.returns-then-most-out-clause-after
returns-then-most-out-clause-after g c =
    (put_at_once (g.T.Text.text c.args.text.now) c.args.out.now g.T.Text.bound _ _ c.put.ensures (omega (arith, c.if-most-out.true, c.most-most.ensures))).1

pub returns-then-needed-draft-clause-answer : goal.returns-then-needed-draft-clause-answer
returns-then-needed-draft-clause-answer g c =
    (handed (g.T.Text.text c.args.text.now) c.args.out.now g.T.Text.bound c.args.draft.now _ _ c.put-needed.ensures (omega (arith, c.if-needed-draft.true, c.put-needed.auto.out)) _ _ c.hand_over.ensures).0

pub returns-then-needed-draft-clause-after : goal.returns-then-needed-draft-clause-after
returns-then-needed-draft-clause-after g c =
    (handed (g.T.Text.text c.args.text.now) c.args.out.now g.T.Text.bound c.args.draft.now _ _ c.put-needed.ensures (omega (arith, c.if-needed-draft.true, c.put-needed.auto.out)) _ _ c.hand_over.ensures).1

pub returns-then-out-needed-clause-answer : goal.returns-then-out-needed-clause-answer
returns-then-out-needed-clause-answer g c =
    (left_short (g.T.Text.text c.args.text.now) c.args.out.now g.T.Text.bound _ _ _ c.put-needed.ensures c.if-out-needed.true).0

pub returns-then-out-needed-clause-after : goal.returns-then-out-needed-clause-after
returns-then-out-needed-clause-after g c =
    (left_short (g.T.Text.text c.args.text.now) c.args.out.now g.T.Text.bound _ _ _ c.put-needed.ensures c.if-out-needed.true).1

pub returns-clause-answer : goal.returns-clause-answer
returns-clause-answer g c =
    (put_counted (g.T.Text.text c.args.text.now) c.args.out.now g.T.Text.bound _ _ _ c.put-needed.ensures _ _ c.if-out-needed.false c.put-2.ensures).0

pub returns-clause-after : goal.returns-clause-after
returns-clause-after g c =
    (put_counted (g.T.Text.text c.args.text.now) c.args.out.now g.T.Text.bound _ _ _ c.put-needed.ensures _ _ c.if-out-needed.false c.put-2.ensures).1
