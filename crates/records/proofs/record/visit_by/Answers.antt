-- `records::record::visit_by` meets its contract: each field is read at its place. Assumes nothing.
use Rattle.std.proofs.Common.{ℕ, ◌+◌, ◌*◌, ◌≡◌, ◌∙◌, ap, ap₂, arith}
use Rattle.records.specs.Bytes.{occurred}
use Rattle.records.specs.Records.{in_link, out_link, decode_visit}
use Rattle.records.proofs.record.visit_by.Goals as goal

word : {n x y a b : ℕ} → n ≡ x + y * 256 → x ≡ a → y ≡ b → n ≡ a + 256 * b
word e f g = omega (arith, e, f, g)

pub returns : goal.returns
unfolding decode_visit
returns g c = λ b h.
    let marked = ap occurred (h 14 _ c.byte-2.ensures) in
    let arrival = word c.from_le_bytes.ensures (h 3 _ c.byte-3.ensures) (h 4 _ c.byte-4.ensures) in
    let arrived = ap occurred (h 5 _ c.byte-5.ensures) in
    let departure = word c.from_le_bytes-2.ensures (h 6 _ c.byte-6.ensures) (h 7 _ c.byte-7.ensures) in
    let departed = ap occurred (h 8 _ c.byte-8.ensures) in
    let inward = c.in_link.ensures ∙ ap₂ in_link (h 9 _ c.byte-9.ensures) (h 10 _ c.byte-10.ensures) in
    let outward = c.out_link.ensures ∙ (λ k. out_link (h 11 _ c.byte-11.ensures k) (h 12 _ c.byte-12.ensures k) (h 13 _ c.byte-13.ensures k)) in
    λ k. record {
      track = record { 0 = h 2 _ c.byte.ensures k };
      marked = marked k;
      arrival = record { 0 = arrival k };
      arrived = arrived k;
      departure = record { 0 = departure k };
      departed = departed k;
      inward = inward k;
      outward = outward k;
    }
