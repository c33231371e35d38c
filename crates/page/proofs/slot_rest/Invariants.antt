-- `page::slot_rest` meets its contract. The loop's invariant: the part holds what is left of the relations from index k
-- on. Assumes nothing.
use Prim.Native.Nat.{◌≤◌}
use mathlib.Core.Path.{◌≡◌}
use lib.ListN.{length}
use Rattle.records.specs.Records.{encode_relation}
use Rattle.page.specs.Pages.{slots}
use Rattle.page.proofs.AnewLaws.{rest_from}
use Rattle.page.proofs.slot_rest.Given as goal

abbrev pub invariant-loop-k : goal.invariant-loop-k
invariant-loop-k l = (l.k ≤ l.n) × (l.part ≡ slots encode_relation 6 (rest_from l.train l.from l.n l.k)) × (l.m ≡ length (rest_from l.train l.from l.n l.k)) × (length l.part ≡ 96)
