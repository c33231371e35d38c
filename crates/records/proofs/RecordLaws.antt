-- Records read back: both kinds have 16 bytes, and reading what was written gives it again, for a visit where its links
-- name stations. A number of two bytes is its low byte and 256 times its high byte, and a case of each enum computes.
-- Assumes nothing.
use Prim.Native.Nat.{ℕ, ◌+◌, ◌*◌}
use mathlib.Core.Path.{◌≡◌, refl}
use mathlib.Core.Bool.{Bool, true, false}
use mathlib.Core.List.{List, ◌++◌}
use native.Mathlib.Omega.{arith}
use lib.Dec.{T, ltb→lt}
use lib.ListN.{length, take, drop}
use borrow.Author.Tests.{ne_eqb}
use Rattle.base.proofs.Tests.{and_l, and_r}
use Rattle.timetable.specs.Tables.{Entry}
use Rattle.records.specs.Types.{Train, InLink, OutLink, Visit, Relation, Connection, Disconnection, Dependency}
use Rattle.records.specs.Bytes.{low, high, flag, occurred}
use Rattle.records.specs.Records.{in_station, in_line, out_station, out_line, out_run, in_link, out_link, named_in, named_out, named}
use Rattle.records.specs.Records.{visit_bytes, encode_entry, decode_visit, decode_train, decode_entry, relation_bytes, encode_relation, decode_trains, decode_relation}

pub visit_length : (t : Train) (v : Visit) → length (visit_bytes t v) ≡ 16
unfolding visit_bytes
visit_length t v = refl

pub entry_length : (e : Entry) → length (encode_entry e) ≡ 16
unfolding encode_entry
entry_length e = visit_length e.train e.visit

pub relation_length : (r : Relation) → length (encode_relation r) ≡ 16
unfolding encode_relation relation_bytes
relation_length (Connection i ts) = refl
relation_length (Disconnection i ts) = refl
relation_length (Dependency i p) = refl

-- reading goes no further than the record
pub entry_only : (e : Entry) (rest : List ℕ) → take 16 (encode_entry e ++ rest) ≡ encode_entry e
unfolding encode_entry visit_bytes
entry_only e rest = refl

pub entry_behind : (e : Entry) (rest : List ℕ) → drop 16 (encode_entry e ++ rest) ≡ rest
unfolding encode_entry visit_bytes
entry_behind e rest = refl

pub relation_only : (r : Relation) (rest : List ℕ) → take 16 (encode_relation r ++ rest) ≡ encode_relation r
unfolding encode_relation relation_bytes
relation_only (Connection i ts) rest = refl
relation_only (Disconnection i ts) rest = refl
relation_only (Dependency i p) rest = refl

pub relation_behind : (r : Relation) (rest : List ℕ) → drop 16 (encode_relation r ++ rest) ≡ rest
unfolding encode_relation relation_bytes
relation_behind (Connection i ts) rest = refl
relation_behind (Disconnection i ts) rest = refl
relation_behind (Dependency i p) rest = refl

-- numbers

pub word_back : (n : ℕ) → low n + 256 * high n ≡ n
word_back n = omega arith

pub flag_back : (b : Bool) → occurred (flag b) ≡ b
flag_back true = refl
flag_back false = refl

-- relations

pub relation_back : (r : Relation) → decode_relation (encode_relation r) ≡ r
unfolding encode_relation decode_relation decode_trains relation_bytes
relation_back (Connection i ts) = λ k. Connection i (record {
  a = record { 0 = word_back ts.a.0 k };
  b = record { 0 = word_back ts.b.0 k };
  c = record { 0 = word_back ts.c.0 k };
  d = record { 0 = word_back ts.d.0 k };
})
relation_back (Disconnection i ts) = λ k. Disconnection i (record {
  a = record { 0 = word_back ts.a.0 k };
  b = record { 0 = word_back ts.b.0 k };
  c = record { 0 = word_back ts.c.0 k };
  d = record { 0 = word_back ts.d.0 k };
})
relation_back (Dependency i p) = λ k. Dependency i (record { arriver = record { 0 = word_back p.arriver.0 k }; departer = record { 0 = word_back p.departer.0 k } })

-- visits

pub in_back : (l : InLink) → T (named_in l) → in_link (in_station l) (in_line l) ≡ l
unfolding in_link named_in
in_back InLink.Nothing t = refl
in_back (InLink.From i) t = rw (ne_eqb i.station.0 0 (λ e. omega (arith, ltb→lt 0 i.station.0 t)))

pub out_back : (l : OutLink) → T (named_out l) → out_link (out_station l) (out_line l) (out_run l) ≡ l
unfolding out_link named_out
out_back OutLink.Nothing t = refl
out_back (OutLink.To o) t = rw (ne_eqb o.station.0 0 (λ e. omega (arith, ltb→lt 0 o.station.0 t)))

pub visit_back : (t : Train) (v : Visit) → T (named v) → decode_visit (visit_bytes t v) ≡ v
unfolding decode_visit visit_bytes named
visit_back t v n = λ k. record {
  track = v.track;
  marked = flag_back v.marked k;
  arrival = record { 0 = word_back v.arrival.0 k };
  arrived = flag_back v.arrived k;
  departure = record { 0 = word_back v.departure.0 k };
  departed = flag_back v.departed k;
  inward = in_back v.inward (and_l (named_in v.inward) (named_out v.outward) n) k;
  outward = out_back v.outward (and_r (named_in v.inward) (named_out v.outward) n) k;
}

pub train_back : (t : Train) (v : Visit) → decode_train (visit_bytes t v) ≡ t
unfolding decode_train visit_bytes
train_back t v = λ k. record { 0 = word_back t.0 k }

pub entry_back : (e : Entry) → T (named e.visit) → decode_entry (encode_entry e) ≡ e
unfolding decode_entry encode_entry
entry_back e n = λ k. record { train = train_back e.train e.visit k; visit = visit_back e.train e.visit n k }
