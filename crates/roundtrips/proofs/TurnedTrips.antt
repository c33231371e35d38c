-- What a file of a form reads to is good, with blank rows where none is used, so its numbers in the newest form read back
-- to it (NetworkTrips). Two files that turn to the same bytes hold the same network, and each is the bytes of its
-- numbers in the old form. Assumes nothing.
use Prim.Native.Nat.{ℕ}
use mathlib.Core.Path.{◌≡◌, sym, ◌∙◌, ap, subst}
use mathlib.Core.List.{List}
use lib.Dec.{T}
use lib.ListN.{length}
use Rattle.base.specs.Lists.{every}
use Rattle.base.proofs.Tests.{and_l, every_weaker}
use Rattle.network.specs.Networks.{line_rows, line_row_ok, same_times}
use Rattle.timetable.specs.declared.NetworkForm.{NetworkForm}
use Rattle.timetable.specs.Formats.{accepted, bytes_of}
use Rattle.timetable.specs.NetworkFile.{rows_listed, network_of, network_numbers_as, read_network_as, read_network}
use Rattle.timetable.specs.Turning.{turned}
use Rattle.roundtrips.specs.Types.{Network}
use Rattle.roundtrips.specs.Turning.{TurnedTrips, BothTimes}
use Rattle.roundtrips.proofs.NetworkWalks.{line_fits}
use Rattle.roundtrips.proofs.NetworkTrips.{rows_lines, listed_as, read_as, network_trip}
use Rattle.roundtrips.specs.RoundTrips.{Bytes}

module _ (form : NetworkForm) (file : List ℕ) (n : Network) (next : ℕ) (s : Bytes file) (e : read_network_as form file ≡ accepted n next) where
  turned_back : read_network (turned n) ≡ accepted n (length (turned n))
  unfolding turned
  turned_back = let r = read_as form file n next s e in network_trip.back n r.good r.unused

one_network : (n m : Network) (p q : ℕ) → accepted n p ≡ accepted m q → n ≡ m
one_network n m p q e = cc

pub turned_trips : TurnedTrips
turned_trips form = record {
  only = read_as form;
  back = turned_back form;
  one_to_one = λ f g n m p q a b d e t.
      let same = one_network n m _ _ (sym (turned_back form f n p a d) ∙ ap read_network t ∙ turned_back form g m q b e) in
      (read_as form f n p a d).file_is ∙ ap (λ (n : Network). bytes_of (network_numbers_as form n)) same ∙ sym (read_as form g m q b e).file_is;
}

pub both_times : BothTimes
unfolding network_of rows_listed
both_times file n next s e =
    let (x, y, r, i) = listed_as NetworkForm.OneTime file n next s e in
    subst (λ (n : Network). T (every same_times (line_rows n))) y
    (rw (rows_lines (rows_listed x)) (every_weaker (line_fits NetworkForm.OneTime) same_times (λ r t. and_l (same_times r) (line_row_ok r) t) (rows_listed x).lines i.lines.good))
