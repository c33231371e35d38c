-- The step's part by RecordsPut, its count by the part's length; on the page of a table the laws of ChangeLaws. Assumes
-- nothing.
use mathlib.Core.Path.{◌≡◌, sym, refl}
use native.Mathlib.Omega.{arith}
use lib.ListN.{length, drop, length-drop}
use lib.Seq.{length-take-le}
use Rattle.page.specs.Insertions.{place, size, lent, StepsAlone, VisitsPut, RelationsPut}
use Rattle.page.proofs.RecordsPut.{put_done}
use Rattle.page.proofs.ChangeLaws.{Fitting, add_visit_page, moved_visit_page, add_relation_page, moved_relation_page}

pub steps_alone : StepsAlone
steps_alone h from i n r page counted many inside room =
    let part : length (lent from i n page) ≡ size from i n = length-take-le (size from i n) (drop (place from i) page) (omega (arith, length-drop (place from i) page)) in
    record {
      lent_alone = sym (put_done page r _ h from i n counted many inside room refl);
      moved = omega (arith, part);
    }

pub visits_put : VisitsPut
visits_put t v tab room few order =
    let fit : Fitting tab = record { visits_fit = omega arith; relations_fit = few } in
    record { moved = moved_visit_page t tab fit v room order; page = add_visit_page t tab fit v room }

pub relations_put : RelationsPut
relations_put q tab few room order absent =
    let fit : Fitting tab = record { visits_fit = few; relations_fit = omega arith } in
    record { moved = moved_relation_page q tab fit room order; page = add_relation_page q tab fit room absent }
