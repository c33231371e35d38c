-- A train taken out of the four places of a connection or disconnection: place by place from the last, and the second
-- place tells whether two are left. Each law goes by cases of the tests of one place. Assumes nothing.
use Prim.Native.Nat.{suc, ◌<◌}
use mathlib.Core.Path.{◌≡◌, refl, sym, ap, ◌∙◌}
use mathlib.Core.Bool.{Bool, true, false, not, ◌&&◌, ◌||◌}
use mathlib.Core.List.{List, [], ◌∷◌}
use Rattle.std.specs.Prelude.{Some, None}
use native.Mathlib.Omega.{arith}
use lib.Dec.{T, ltb, eqb, ltb→lt}
use lib.ListN.{length}
use borrow.Author.Tests.{le-ltb, ne_eqb}
use Rattle.std.specs.Prelude.{if◌then◌else◌}
use Rattle.base.specs.Lists.{any, every, keep}
use Rattle.base.proofs.Tests.{every_head, every_tail, every_keep}
use Rattle.railway.specs.Ranges.{same_train}
use Rattle.railway.specs.Relations.{present, used}
use Rattle.railway.specs.declared.relation.Trains.{Trains}
use Rattle.timetable.specs.Tables.{packed, fewer}
use Rattle.relation_loss.specs.Types.{Train, Relation}
use Rattle.relation_loss.specs.between.Left.{shifted}

pub or_false : (b : Bool) → (b || false) ≡ b
or_false true = refl
or_false false = refl

module _ (t : Train) where
  -- the place holds the train
  abbrev pub here : Train → Bool
  here x = present x && same_train t x

  -- the trains that stay
  abbrev pub staying : List Train → List Train
  staying xs = keep (λ u. not (same_train t u)) (keep present xs)

  any_place : (x : Train) (xs : List Train) → any (same_train t) (keep present (x ∷ xs)) ≡ (here x || any (same_train t) (keep present xs))
  unfolding any keep
  any_place x xs = go (present x)
    where
      go : (b : Bool) → any (same_train t) (if b then x ∷ keep present xs else keep present xs) ≡ ((b && same_train t x) || any (same_train t) (keep present xs))
      go true = refl
      go false = refl

  pub any_used : (ts : Trains) → any (same_train t) (used ts) ≡ (here ts.a || (here ts.b || (here ts.c || here ts.d)))
  unfolding used any keep
  any_used ts =
      any_place ts.a (ts.b ∷ ts.c ∷ ts.d ∷ [])
      ∙ rw (any_place ts.b (ts.c ∷ ts.d ∷ []), any_place ts.c (ts.d ∷ []), any_place ts.d [], or_false (here ts.d))

  packed_place : (x : Train) (xs : List Train) → packed (staying (x ∷ xs)) ≡ shifted t x (packed (staying xs))
  unfolding packed shifted keep
  packed_place x xs = go (present x)
    where
      one : (d : Bool) → packed (if not d then x ∷ staying xs else staying xs)
          ≡ (if not d then record { a = x; b = (packed (staying xs)).a; c = (packed (staying xs)).b; d = (packed (staying xs)).c } else packed (staying xs))
      one true = refl
      one false = refl

      go : (b : Bool) → packed (keep (λ u. not (same_train t u)) (if b then x ∷ keep present xs else keep present xs))
          ≡ (if b && not (same_train t x) then record { a = x; b = (packed (staying xs)).a; c = (packed (staying xs)).b; d = (packed (staying xs)).c } else packed (staying xs))
      go true = one (same_train t x)
      go false = refl

  abbrev pub nobody : Trains
  nobody = record { a = record { 0 = 0 }; b = record { 0 = 0 }; c = record { 0 = 0 }; d = record { 0 = 0 } }

  packed_none : packed (staying []) ≡ nobody
  unfolding packed keep
  packed_none = refl

  pub packed_used : (ts : Trains) → packed (keep (λ u. not (same_train t u)) (used ts))
      ≡ shifted t ts.a (shifted t ts.b (shifted t ts.c (shifted t ts.d nobody)))
  unfolding used
  packed_used ts =
      packed_place ts.a (ts.b ∷ ts.c ∷ ts.d ∷ [])
      ∙ ap (shifted t ts.a) (packed_place ts.b (ts.c ∷ ts.d ∷ [])
      ∙ ap (shifted t ts.b) (packed_place ts.c (ts.d ∷ [])
      ∙ ap (shifted t ts.c) (packed_place ts.d [] ∙ ap (shifted t ts.d) packed_none)))

-- the second place holds a train where there are two
second : (us : List Train) → T (every present us) → ltb (length us) 2 ≡ eqb (packed us).b.0 0
unfolding packed
second [] p = refl
second (x ∷ []) p = refl
second (x ∷ y ∷ us) p =
    let there : 0 < y.0 = ltb→lt 0 y.0 (every_head present y us (every_tail present x (y ∷ us) p)) in
    le-ltb (suc (suc (length us))) 2 (omega arith) ∙ sym (ne_eqb y.0 0 (λ e. omega arith))

fewer_second : (make : Trains → Relation) (us : List Train) → T (every present us)
    → fewer make us ≡ (if eqb (packed us).b.0 0 then None else Some (make (packed us)))
unfolding fewer
fewer_second make us p = rw (second us p)

present_kept : (xs : List Train) → T (every present (keep present xs))
unfolding every keep
present_kept [] = tt
present_kept (x ∷ xs) = go (present x) refl (present_kept xs)
  where
    go : (b : Bool) → present x ≡ b → T (every present (keep present xs)) → T (every present (if b then x ∷ keep present xs else keep present xs))
    go true e ih = rw e ih
    go false e ih = ih

kept_present : (q : Train → Bool) (ts : Trains) → T (every present (keep q (used ts)))
unfolding used
kept_present q ts = every_keep present q (keep present (ts.a ∷ ts.b ∷ ts.c ∷ ts.d ∷ [])) (present_kept (ts.a ∷ ts.b ∷ ts.c ∷ ts.d ∷ []))

-- what is left of a group, from the trains that stay
pub fewer_rest : (make : Trains → Relation) (t : Train) (ts us : Trains) → us ≡ packed (keep (λ u. not (same_train t u)) (used ts))
    → fewer make (keep (λ u. not (same_train t u)) (used ts)) ≡ (if eqb us.b.0 0 then None else Some (make us))
fewer_rest make t ts us e =
    let q : Train → Bool = λ u. not (same_train t u) in
    rw e (fewer_second make (keep q (used ts)) (kept_present q ts))
