-- The input of `inspect` reads back, and only the written file reads to it: its numbers walk the network's format and
-- then, from the place behind it, the timetable's. Assumes nothing.
use Prim.Native.Nat.{ℕ, ◌+◌}
use mathlib.Core.Path.{◌≡◌, sym, ◌∙◌, ap, ap₂, subst}
use mathlib.Core.List.{List, ◌++◌}
use native.Mathlib.Omega.{arith}
use lib.ListN.{length}
use Rattle.network.specs.Networks.{network_refusal}
use Rattle.timetable.specs.Formats.{Outcome, accepted, behind, ◌and_then◌, done, read_file, bytes_of, Placed, placed}
use Rattle.timetable.specs.FileForms.{newest_form}
use Rattle.timetable.specs.NetworkFile.{newest, Listed, network_format, network_of, network_fault, unless_fault, network_numbers}
use Rattle.timetable.specs.Machine.{Timetable}
use Rattle.timetable.specs.Good.{Whole}
use Rattle.timetable.specs.TimetableFile.{Entries, timetable_format, timetable_of, timetable_numbers_as, timetable_numbers}
use Rattle.timetable.specs.InspectFile.{Inspection, Both, inspect_format, inspection, read_inspect}
use Rattle.timetable.proofs.OutcomeLaws.{behind_taken, fault_free, fault_taken, Faultless, fault_none, none_fault}
use Rattle.roundtrips.specs.Types.{Network}
use Rattle.roundtrips.specs.RoundTrips.{UnusedBlank, InspectRead, InspectRoundTrip}
use Rattle.roundtrips.proofs.Walks.{walks}
use Rattle.roundtrips.proofs.WalkLaws.{span, walks_then, then_walks, walks_made, made_walks, file_read, file_walks}
use Rattle.roundtrips.proofs.NetworkTrips.{listed_good, of_blank, head_walks, listing, listing_network, listing_faultless, walks_listing}
use Rattle.roundtrips.proofs.TimetableWalks.{all_visits, all_relations, file_entries, walks_timetable, timetable_walks}
use Rattle.roundtrips.proofs.TimetableTrips.{said_all, timetable_said_newest, written_read, entries_written}
use Rattle.roundtrips.proofs.WrittenTables.{visits_in, relations_in}

-- the value of the format
abbrev both_of : Listed → Placed Entries → Both
both_of x es = record { listed = x; entries = es }

abbrev at_place : ℕ → Entries → Placed Entries
at_place p es = record { place = p; entry = es }

module _ (n : Network) (m : Timetable) (g : network_refusal n ≡ 0) (u : UnusedBlank n) (w : Whole n m) where
  abbrev start : ℕ
  start = 0 + span (network_numbers n)

  abbrev entries : Entries
  entries = file_entries newest_form start (all_visits n m) (all_relations n m)

  walks_entries : walks (placed (timetable_format newest_form)) start (timetable_numbers n m) (at_place start entries)
  unfolding placed walks timetable_numbers_as
  walks_entries =
      walks_made (at_place start) (timetable_format newest_form) start (timetable_numbers n m) entries
      (walks_timetable newest_form start (all_visits n m) (all_relations n m) (visits_in n g m w) (said_all newest_form n m (timetable_said_newest m)) (relations_in n g m w))

  walks_both : walks inspect_format 0 (network_numbers n ++ timetable_numbers n m) (both_of (listing n g u 0) (at_place start entries))
  unfolding inspect_format
  walks_both =
      let x = listing n g u 0 in
      walks_then network_format (λ x. placed (timetable_format newest_form) and_then (λ es. done (both_of x es))) 0 (network_numbers n) (timetable_numbers n m) x _ (walks_listing n g u 0)
      (walks_made (both_of x) (placed (timetable_format newest_form)) start (timetable_numbers n m) _ walks_entries)

  -- what the entries make, under the network that is read
  inspected_back : (next : ℕ)
      → inspection (both_of (listing n g u 0) (at_place start entries)) next ≡ accepted (record { network = n; first = span (network_numbers n); timetable = m }) next
  unfolding inspection behind
  inspected_back next =
      let z : start ≡ span (network_numbers n) = omega arith in
      ap (λ (k : Network). behind (timetable_of k entries next) (λ m next. accepted (record { network = k; first = start; timetable = m }) next)) (listing_network n g u 0)
      ∙ ap (λ (o : Outcome Timetable). behind o (λ m next. accepted (record { network = n; first = start; timetable = m }) next)) (written_read newest_form n g m w start next)
      ∙ ap (λ (k : ℕ). accepted (record { network = n; first = k; timetable = m }) next) z

-- what an accepted input gives
taken : (file : List ℕ) (x : Both) (p : ℕ) (y : Inspection) (next : ℕ) (ns : List ℕ) → walks inspect_format 0 ns x → file ≡ bytes_of ns → p ≡ span ns → Faultless x.listed
    → inspection x p ≡ accepted y next → InspectRead file y next
unfolding inspect_format inspection placed walks
taken file x p y next ns w b e f v =
    let s = then_walks network_format (λ x. placed (timetable_format newest_form) and_then (λ es. done (both_of x es))) 0 ns x w in
    let (es, a, q) = made_walks {B = Both} (both_of s.value) (placed (timetable_format newest_form)) (0 + span s.before) s.behind x s.second in
    let (t, c, r) = made_walks {B = Placed Entries} (at_place (0 + span s.before)) (timetable_format newest_form) (0 + span s.before) s.behind es a in
    let i : s.value ≡ x.listed = ap (λ (y : Both). y.listed) q in
    let j : t ≡ x.entries.entry = ap (λ (y : Placed Entries). y.entry) r ∙ ap (λ (y : Both). y.entries.entry) q in
    let l : 0 + span s.before ≡ x.entries.place = ap (λ (y : Placed Entries). y.place) r ∙ ap (λ (y : Both). y.entries.place) q in
    let (numbers, h) = head_walks 0 s.before x.listed (subst (walks network_format 0 s.before) i s.first) in
    let good = listed_good x.listed newest h f in
    let walk = subst (walks (timetable_format newest_form) (0 + span s.before) s.behind) j c in
    let (m, o, made, is) = behind_taken (timetable_of (network_of x.listed) x.entries.entry p)
    (λ m next. accepted (record { network = network_of x.listed; first = x.entries.place; timetable = m }) next) y next v in
    let (given, z) = entries_written newest_form (network_of x.listed) x.entries.entry p m o good s.behind (timetable_walks newest_form (0 + span s.before) s.behind x.entries.entry walk) made in
    let same : record { network = network_of x.listed; first = x.entries.place; timetable = m } ≡ y = cc in
    let last : o ≡ next = cc in
    subst (λ (y : Inspection). InspectRead file y next) same (record {
      file_is = b ∙ ap bytes_of (s.whole ∙ ap₂ ◌++◌ numbers given.numbers);
      end = sym last ∙ sym z ∙ e ∙ ap length (sym b);
      good = good;
      unused = of_blank x.listed;
      whole = given.whole;
      first = omega (arith, l, ap span numbers);
    })

pub inspect_trip : InspectRoundTrip
unfolding read_inspect behind
inspect_trip = record {
  back = λ n m g u w.
      let ns = network_numbers n ++ timetable_numbers n m in
      let e = file_read inspect_format ns _ (walks_both n m g u w) in
      ap (λ (o : Outcome Both). behind o (λ x next. unless_fault (network_fault x.listed) (inspection x next))) e
      ∙ fault_free (network_fault (listing n g u 0)) _ (fault_none (listing n g u 0) (listing_faultless n g u 0)) ∙ inspected_back n m g u w (span ns);
  only = λ file y next s e.
      let (x, p, r, v) = behind_taken (read_file inspect_format file) (λ x next. unless_fault (network_fault x.listed) (inspection x next)) y next e in
      let (j, t) = fault_taken (network_fault x.listed) (inspection x p) y next v in
      let w = file_walks inspect_format file x p s r in
      taken file x p y next w.numbers w.walk w.bytes w.end (none_fault x.listed j) t;
}
