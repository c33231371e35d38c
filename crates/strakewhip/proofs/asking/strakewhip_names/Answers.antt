-- `strakewhip::asking::strakewhip_names` meets its contract: the network is refused, or what the edit names. Assumes
-- nothing.
use mathlib.Core.Path.{refl}
use mathlib.Core.Bool.{true}
use Rattle.timetable.specs.NetworkFile.{read_network}
use Rattle.replies.specs.Replies.{told}
use Rattle.edit_replies.specs.Replies.{named_under}
use Rattle.strakewhip.specs.Calls.{names_reply}
use Rattle.strakewhip.proofs.FileLaws.{stopped, reached}
use Rattle.strakewhip.proofs.asking.strakewhip_names.Goals as goal

pub returns-in-Ok : goal.returns-in-Ok
unfolding names_reply told
returns-in-Ok c =
    let s = c.args in
    (reached {X = Unit {0}} true (read_network s.network.now) tt (λ n. named_under n s.edit.now) (λ n. tt) _ true refl c.entered.ensures _ c.in-Ok.is _ tt c.names_under.ensures refl).0

pub returns-in-Err : goal.returns-in-Err
unfolding names_reply told
returns-in-Err c =
    let s = c.args in
    (stopped {X = Unit {0}} true (read_network s.network.now) tt (λ n. named_under n s.edit.now) (λ n. tt) _ true refl c.entered.ensures _ c.in-Err.is).0
