-- `recheck::weaving::put_numbers` meets its contract: what is before the numbers and behind them stays. Assumes nothing.
use Rattle.std.proofs.Common.{arith, sym, ◌+◌, ◌-◌, ◌≡◌, length}
use Rattle.recheck.proofs.WeaveLaws.{put_at}
use Rattle.recheck.proofs.weaving.put_numbers.Goals as goal

pub returns : goal.returns
returns c =
    let s = c.args in
    let size : s.to + length s.numbers.now - s.to ≡ length s.numbers.now = omega arith in
    rw (size, c.copy_from_slice.ensures.after) (sym (put_at s.to s.numbers.now s.out.now c.requires))
