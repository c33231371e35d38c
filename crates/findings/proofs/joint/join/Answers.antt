-- `findings::joint::join` meets its contract. The loop's invariant: the first i pages are those of the sheet to be
-- made. Assumes nothing.
use Rattle.std.proofs.Common.{arith, refl, ◌≡◌, ◌∙◌, ◌+◌, ◌*◌, length, take, drop}
use native.Mathlib.Nat.{add-sub_cancel_left}
use Rattle.sheet.proofs.FillLaws.{filled_next, part_size, filled}
use Rattle.findings.specs.between.Joined.{joined}
use Rattle.findings.proofs.JointLaws.{joined_size, joined_row}
use Rattle.findings.proofs.joint.join.Goals as goal

pub join_page-requires : goal.join_page-requires
join_page-requires c =
    let at = 512 * c.loop-i.i in
    let s = c.args in
    (part_size c.loop-i.sheet at 512 (omega (arith, c.requires.0, c.loop-i.auto.sheet)), part_size s.first.now at 512 (omega (arith, c.requires.1)), part_size s.second.now at 512 (omega (arith, c.requires.2)))

pub loop-i-preserved : goal.loop-i-preserved
loop-i-preserved c =
    let l = c.loop-i in
    let s = c.args in
    let t = joined s.n.now s.a s.b s.first.now s.second.now in
    let page = c.join_page.new.page in
    let size : length page ≡ 512 = c.join_page.auto.page ∙ part_size l.sheet (512 * l.i) 512 (omega (arith, c.requires.0, l.auto.sheet)) in
    let is : page ≡ take 512 (drop (512 * l.i) t) =
    rw (add-sub_cancel_left (512 * l.i) 512) at c.join_page.ensures
    ∙ joined_row s.n.now s.a s.b s.first.now s.second.now c.requires.1 c.requires.2 l.i (l.i + 1) (omega arith) refl in
    filled_next 512 l.i l.sheet page t size (omega (arith, c.requires.0, l.auto.sheet)) l.invariant is

pub returns : goal.returns
returns c =
    let l = c.loop-i in
    let s = c.args in
    filled 8192 l.sheet (joined s.n.now s.a s.b s.first.now s.second.now) (512 * l.i) (omega arith) (l.auto.sheet ∙ c.requires.0)
    (joined_size s.n.now s.a s.b s.first.now s.second.now c.requires.1 c.requires.2) l.invariant
