-- The sheets of two areas put together in one: each station's page from its area's sheet, zeros for every other. It
-- holds what the two hold together (proofs/JointLaws.antt). Assumes nothing.
use Rattle.std.specs.Prelude.{ℕ, eqb}
use mathlib.Core.List.{List, flat_map}
use Rattle.std.specs.Prelude.{if◌then◌else◌}
use Rattle.network.specs.Networks.{area_of}
use Rattle.records.specs.Bytes.{zeros}
use Rattle.sheet.specs.Sheets.{sixteen, page_at}
use Rattle.findings.specs.Types.{Station, Area, Network}

unfoldable pub joined_page : Network → Area → Area → Station → List ℕ → List ℕ → List ℕ
joined_page n a b k x y = if eqb (area_of n k) a.0 then x else if eqb (area_of n k) b.0 then y else zeros 512

unfoldable pub joined : Network → Area → Area → List ℕ → List ℕ → List ℕ
joined n a b first second = flat_map (λ k. joined_page n a b k (page_at first k) (page_at second k)) sixteen

-- The key ring of this module: `unfolding opened` opens every definition above.
unfoldable pub opened : Unit {0}
unfolding joined_page joined
opened = tt
