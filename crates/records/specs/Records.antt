-- Records of 16 bytes: a visit with its train, and a relation. docs/LAYOUT.md has the layout to the byte. Assumes
-- nothing.
use Rattle.std.specs.Prelude.{ℕ, Bool, true, ◌&&◌, List, [], ◌∷◌, ltb, eqb, get_or}
use Rattle.std.specs.Prelude.{if◌then◌else◌}
use Rattle.timetable.specs.Tables.{Entry}
use Rattle.records.specs.Types.{Train, InLink, OutLink, Visit, Trains, Relation, Connection, Disconnection, Dependency}
use Rattle.records.specs.Bytes.{low, high, word, flag, occurred}

-- links: a station of 0 is no link

abbrev pub in_station : InLink → ℕ
in_station InLink.Nothing = 0
in_station (InLink.From i) = i.station.0

abbrev pub in_line : InLink → ℕ
in_line InLink.Nothing = 0
in_line (InLink.From i) = i.line.0

abbrev pub out_station : OutLink → ℕ
out_station OutLink.Nothing = 0
out_station (OutLink.To o) = o.station.0

abbrev pub out_line : OutLink → ℕ
out_line OutLink.Nothing = 0
out_line (OutLink.To o) = o.line.0

abbrev pub out_run : OutLink → ℕ
out_run OutLink.Nothing = 0
out_run (OutLink.To o) = o.run

unfoldable pub in_link : ℕ → ℕ → InLink
in_link s l = if eqb s 0 then InLink.Nothing else InLink.From (record { station = record { 0 = s }; line = record { 0 = l } })

unfoldable pub out_link : ℕ → ℕ → ℕ → OutLink
out_link s l r = if eqb s 0 then OutLink.Nothing else OutLink.To (record { station = record { 0 = s }; line = record { 0 = l }; run = r })

-- a link that is there names a station, so that it has bytes of its own
unfoldable pub named_in : InLink → Bool
named_in InLink.Nothing = true
named_in (InLink.From i) = ltb 0 i.station.0

unfoldable pub named_out : OutLink → Bool
named_out OutLink.Nothing = true
named_out (OutLink.To o) = ltb 0 o.station.0

unfoldable pub named : Visit → Bool
named v = named_in v.inward && named_out v.outward

-- a visit: train(2) track(1) arrival(2) arrived(1) departure(2) departed(1) in: station(1) line(1) out: station(1)
-- line(1) run(1), mark(1), a zero
unfoldable pub visit_bytes : Train → Visit → List ℕ
visit_bytes t v =
    low t.0 ∷ high t.0 ∷ v.track.0
    ∷ low v.arrival.0 ∷ high v.arrival.0 ∷ flag v.arrived
    ∷ low v.departure.0 ∷ high v.departure.0 ∷ flag v.departed
    ∷ in_station v.inward ∷ in_line v.inward
    ∷ out_station v.outward ∷ out_line v.outward ∷ out_run v.outward
    ∷ flag v.marked ∷ 0 ∷ []

unfoldable pub encode_entry : Entry → List ℕ
encode_entry e = visit_bytes e.train e.visit

unfoldable pub decode_visit : List ℕ → Visit
decode_visit b = record {
  track = record { 0 = get_or b 2 0 };
  marked = occurred (get_or b 14 0);
  arrival = record { 0 = word b 3 };
  arrived = occurred (get_or b 5 0);
  departure = record { 0 = word b 6 };
  departed = occurred (get_or b 8 0);
  inward = in_link (get_or b 9 0) (get_or b 10 0);
  outward = out_link (get_or b 11 0) (get_or b 12 0) (get_or b 13 0);
}

unfoldable pub decode_train : List ℕ → Train
decode_train b = record { 0 = word b 0 }

unfoldable pub decode_entry : List ℕ → Entry
decode_entry b = record { train = decode_train b; visit = decode_visit b }

-- a relation: kind(1) interval(1) four trains(2 each, 0 for none), six zeros; the kinds are those of files, 1, 2, 3
unfoldable pub relation_bytes : ℕ → ℕ → ℕ → ℕ → ℕ → ℕ → List ℕ
relation_bytes kind i a b c d =
    kind ∷ i ∷ low a ∷ high a ∷ low b ∷ high b ∷ low c ∷ high c ∷ low d ∷ high d ∷ 0 ∷ 0 ∷ 0 ∷ 0 ∷ 0 ∷ 0 ∷ []

unfoldable pub encode_relation : Relation → List ℕ
encode_relation (Connection i ts) = relation_bytes 1 i ts.a.0 ts.b.0 ts.c.0 ts.d.0
encode_relation (Disconnection i ts) = relation_bytes 2 i ts.a.0 ts.b.0 ts.c.0 ts.d.0
encode_relation (Dependency i p) = relation_bytes 3 i p.arriver.0 p.departer.0 0 0

unfoldable pub decode_trains : List ℕ → Trains
decode_trains b = record { a = record { 0 = word b 2 }; b = record { 0 = word b 4 }; c = record { 0 = word b 6 }; d = record { 0 = word b 8 } }

unfoldable pub decode_relation : List ℕ → Relation
decode_relation b =
    if eqb (get_or b 0 0) 1 then Connection (get_or b 1 0) (decode_trains b)
    else if eqb (get_or b 0 0) 2 then Disconnection (get_or b 1 0) (decode_trains b)
    else Dependency (get_or b 1 0) (record { arriver = record { 0 = word b 2 }; departer = record { 0 = word b 4 } })

-- The key ring of this module: `unfolding opened` opens every definition above.
unfoldable pub opened : Unit {0}
unfolding in_link out_link named_in named_out named visit_bytes encode_entry decode_visit decode_train decode_entry
    relation_bytes encode_relation decode_trains decode_relation
opened = tt
