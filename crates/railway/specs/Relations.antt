-- Relations: their trains, their ranges and their order. Document 01, "The railway and its numbers" and "Findings".
-- Assumes nothing.
use Rattle.std.specs.Prelude.{ℕ, Bool, ◌&&◌, ◌||◌, List, [], ◌∷◌, ltb, eqb, length}
use Rattle.base.specs.Choice.{◌if◌else◌}
use Rattle.base.specs.Lists.{keep, below, same}
use Rattle.railway.specs.Types.{Train, Trains, Pair, Relation, Connection, Disconnection, Dependency}
use Rattle.railway.specs.Ranges.{train_ok, interval_ok}

-- a place that is 0 holds no train
abbrev pub present : Train → Bool
present t = ltb 0 t.0

-- 1 for a place that holds a train
abbrev pub place_count : Train → ℕ
place_count t = 1 if present t else 0

-- the trains of a connection or disconnection
unfoldable pub used : Trains → List Train
used ts = keep present (ts.a ∷ ts.b ∷ ts.c ∷ ts.d ∷ [])

-- a place after the second: none, or a train above the one before it, which is there
unfoldable pub further_ok : Train → Train → Bool
further_ok t u = eqb u.0 0 || (present t && ltb t.0 u.0 && train_ok u)

-- "The first two hold 2..4 different trains": rising, and the places not used come last
unfoldable pub trains_ok : Trains → Bool
trains_ok ts =
    train_ok ts.a
    && (ltb ts.a.0 ts.b.0 && train_ok ts.b)
    && (further_ok ts.b ts.c && further_ok ts.c ts.d)

-- "a dependency an arriver and a departer, perhaps the same"
unfoldable pub pair_ok : Pair → Bool
pair_ok p = train_ok p.arriver && train_ok p.departer

unfoldable pub relation_ok : Relation → Bool
relation_ok (Connection i ts) = interval_ok i && trains_ok ts
relation_ok (Disconnection i ts) = interval_ok i && trains_ok ts
relation_ok (Dependency i p) = interval_ok i && pair_ok p

-- "order: kind, interval, count of trains, trains"; the kinds are those of files, "kind (1, 2, 3)"
unfoldable pub group_key : ℕ → ℕ → Trains → List ℕ
group_key kind i ts = kind ∷ i ∷ length (used ts) ∷ ts.a.0 ∷ ts.b.0 ∷ ts.c.0 ∷ ts.d.0 ∷ []

unfoldable pub key : Relation → List ℕ
key (Connection i ts) = group_key 1 i ts
key (Disconnection i ts) = group_key 2 i ts
key (Dependency i p) = 3 ∷ i ∷ 2 ∷ p.arriver.0 ∷ p.departer.0 ∷ 0 ∷ 0 ∷ []

-- the first comes before the second
unfoldable pub precedes : Relation → Relation → Bool
precedes r q = below (key r) (key q)

-- same kind, interval and trains
unfoldable pub same_relation : Relation → Relation → Bool
same_relation r q = same (key r) (key q)

-- The key ring of this module: `unfolding opened` opens every definition above.
unfoldable pub opened : Unit {0}
unfolding used further_ok trains_ok pair_ok relation_ok group_key key precedes same_relation
opened = tt
