-- `division::areas` meets its contract: each element is the area of the station with that number. Assumes nothing.
use Rattle.std.proofs.Common.{ℕ, List, [], ◌∷◌, map, ◌≡◌, sym, ◌∙◌, arith, rules}
use Rattle.std.proofs.lemmas.List.{ext_get_or}
use Rattle.std.proofs.lemmas.Grind.{get_or_default_zero}
use lib.ListN.{get_or, get_or-map}
use Rattle.network.specs.Networks.{area_of}
use Rattle.sheet.specs.Sheets.{sixteen}
use Rattle.division.specs.between.Copies.{areas_in}
use Rattle.division.proofs.areas.Goals as goal

pub returns : goal.returns
unfolding areas_in sixteen
returns c =
    let z = c.map.ensures.items in
    let n = c.args.network.now in
    let ks : List ℕ = 1 ∷ 2 ∷ 3 ∷ 4 ∷ 5 ∷ 6 ∷ 7 ∷ 8 ∷ 9 ∷ 10 ∷ 11 ∷ 12 ∷ 13 ∷ 14 ∷ 15 ∷ 16 ∷ [] in
    let f : ℕ → ℕ = λ k. area_of n (record { 0 = k }) in
    ext_get_or 0 c.map.result (areas_in n) z.long (λ i h.
    let (p, r, q) = z.at i 0 0 (omega (arith, h, z.long)) in
    let e : get_or c.map.result i 0 ≡ f (get_or ks i 0) = search (rules, q.met) in
    e ∙ sym (get_or-map f ks i 0) ∙ get_or_default_zero (map f ks) i (f 0) (omega (arith, h, z.long)))
