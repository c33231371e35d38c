-- A station's table: its visits, rising by train, and its relations, rising in document 01's order. The lists in order
-- stand for the map and the set of "State: a map from (station, train) to visits, a set of relations per station."
-- Assumes nothing.
use Rattle.std.specs.Prelude.{Bool, true, not, ◌||◌, List, [], ◌∷◌, map, ltb, leb, length, get_or}
use Rattle.std.specs.Prelude.{option_map}
use Rattle.std.specs.Prelude.{Option, None, Some}
use Rattle.std.specs.Prelude.{if◌then◌else◌}
use Rattle.base.specs.Lists.{any, keep, first, is}
use Rattle.railway.specs.Ranges.{same_train}
use Rattle.railway.specs.Relations.{used, precedes, same_relation}
use Rattle.timetable.specs.Types.{Train, Visit, Trains, Relation, Connection, Disconnection, Dependency}

-- "A visit belongs to a station and a train."
pub record Entry : Type 0 where
  pub train : Train
  pub visit : Visit

pub record Table : Type 0 where
  pub visits : List Entry
  pub relations : List Relation

unfoldable pub empty : Table
empty = record { visits = []; relations = [] }

-- visits

-- the visit of a train
unfoldable pub visit_of : Train → Table → Option Visit
visit_of t tab = option_map (λ e. e.visit) (first (λ e. same_train e.train t) tab.visits)

unfoldable pub has_visit : Train → Table → Bool
has_visit t tab = is (λ v. true) (visit_of t tab)

-- the entry put in its place
unfoldable pub enter : Entry → List Entry → List Entry
enter e [] = e ∷ []
enter e (x ∷ xs) = if ltb e.train.0 x.train.0 then e ∷ x ∷ xs else (x ∷ enter e xs)

unfoldable pub add_visit : Train → Visit → Table → Table
add_visit t v tab = record { visits = enter (record { train = t; visit = v }) tab.visits; relations = tab.relations }

-- the train's visit changed, if it is there
unfoldable pub change_entry : Train → (Visit → Visit) → Entry → Entry
change_entry t f e = if same_train e.train t then record { train = e.train; visit = f e.visit } else e

unfoldable pub change_visit : Train → (Visit → Visit) → Table → Table
change_visit t f tab = record { visits = map (change_entry t f) tab.visits; relations = tab.relations }

-- relations

unfoldable pub has_relation : Relation → Table → Bool
has_relation r tab = any (same_relation r) tab.relations

-- the relation in its place; one that is there already stays one
unfoldable pub insert : Relation → List Relation → List Relation
insert r [] = r ∷ []
insert r (x ∷ xs) =
    if precedes r x then r ∷ x ∷ xs
    else if same_relation r x then x ∷ xs
    else (x ∷ insert r xs)

unfoldable pub add_relation : Relation → Table → Table
add_relation r tab = record { visits = tab.visits; relations = insert r tab.relations }

unfoldable pub drop_relation : Relation → Table → Table
drop_relation r tab = record { visits = tab.visits; relations = keep (λ q. not (same_relation r q)) tab.relations }

-- taking a train out

-- trains in their order, 0 in the places not used
unfoldable pub packed : List Train → Trains
packed ts =
    let nobody : Train = record { 0 = 0 } in
    record { a = get_or ts 0 nobody; b = get_or ts 1 nobody; c = get_or ts 2 nobody; d = get_or ts 3 nobody }

-- "A connection or disconnection loses t, and vanishes under two trains." Else it is `make` of the trains that stay
unfoldable pub fewer : (Trains → Relation) → List Train → Option Relation
fewer make ts = if ltb (length ts) 2 then None else Some (make (packed ts))

-- "A relation without t stays." "A dependency with t vanishes."
unfoldable pub lose : Train → Relation → Option Relation
lose t (Connection i ts) =
    if any (same_train t) (used ts) then fewer (Connection i) (keep (λ u. not (same_train t u)) (used ts)) else Some (Connection i ts)
lose t (Disconnection i ts) =
    if any (same_train t) (used ts) then fewer (Disconnection i) (keep (λ u. not (same_train t u)) (used ts)) else Some (Disconnection i ts)
lose t (Dependency i p) = if same_train t p.arriver || same_train t p.departer then None else Some (Dependency i p)

unfoldable pub insert_if : Option Relation → List Relation → List Relation
insert_if None rs = rs
insert_if (Some r) rs = insert r rs

-- "Relations that become equal are one."
unfoldable pub lose_all : Train → List Relation → List Relation
lose_all t [] = []
lose_all t (r ∷ rs) = insert_if (lose t r) (lose_all t rs)

-- the table without the train's visit, with the train taken from the relations
unfoldable pub without : Train → Table → Table
without t tab = record { visits = keep (λ e. not (same_train e.train t)) tab.visits; relations = lose_all t tab.relations }

-- limits

-- "Limits are per station: 24 visits, 6 relations."
unfoldable pub full_visits : Table → Bool
full_visits tab = leb 24 (length tab.visits)

unfoldable pub full_relations : Table → Bool
full_relations tab = leb 6 (length tab.relations)

-- The key ring of this module: `unfolding opened` opens every definition above.
unfoldable pub opened : Unit {0}
unfolding empty visit_of has_visit enter add_visit change_entry change_visit has_relation insert add_relation drop_relation packed fewer lose
    insert_if lose_all without full_visits full_relations
opened = tt
