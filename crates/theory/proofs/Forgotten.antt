-- The release before W6 does with tables what the newest does, marks aside: forgetting the marks of a table before or
-- after a function on it is the same, and what is asked of a table asks for no mark. By induction on the table's
-- visits; relations are the same in both releases. Assumes nothing.
use mathlib.Core.Path.{◌≡◌, refl, ap, ap₂, ◌∙◌}
use mathlib.Core.Bool.{Bool, true, false, not}
use mathlib.Core.List.{List, [], ◌∷◌, map}
use Rattle.std.specs.Prelude.{Some, option_map}
use lib.Dec.{ltb}
use lib.ListN.{length-map}
use Rattle.base.specs.Choice.{◌if◌else◌}
use Rattle.std.specs.Prelude.{if◌then◌else◌}
use Rattle.base.specs.Lists.{keep, first, is}
use Rattle.railway.specs.Ranges.{same_train}
use Rattle.timetable.specs.Visits.{lacks_in, lacks_out, comes, leaves, comes_from, leaves_to, first_stands, last_stands, alters}
use Rattle.timetable.specs.Tables.{Entry, Table, visit_of, has_visit, enter, add_visit, change_entry, change_visit, lose_all, without, full_visits}
use Rattle.timetable.specs.Machine.{room}
use Rattle.theory.specs.Types.{Station, Train, Visit, Plan, Relation, Network}
use Rattle.theory.specs.Earlier as Earlier
use Rattle.theory.specs.Releases.{early_visit, early_table, early_plan}

abbrev pub early_entry : Entry → Earlier.Entry
early_entry e = record { train = e.train; visit = early_visit e.visit }

-- a table of the visits and relations
abbrev tabled : List Relation → List Earlier.Entry → Earlier.Table
tabled rs es = record { visits = es; relations = rs }

-- what is done with a table

enter_early : (x : Entry) (es : List Entry) → map early_entry (enter x es) ≡ Earlier.enter (early_entry x) (map early_entry es)
unfolding enter Earlier.enter
enter_early x [] = refl
enter_early x (e ∷ es) = go (ltb x.train.0 e.train.0) (enter_early x es)
  where
    go : (b : Bool) → map early_entry (enter x es) ≡ Earlier.enter (early_entry x) (map early_entry es)
        → map early_entry (if b then x ∷ e ∷ es else (e ∷ enter x es))
        ≡ (if b then early_entry x ∷ early_entry e ∷ map early_entry es else (early_entry e ∷ Earlier.enter (early_entry x) (map early_entry es)))
    go true q = refl
    go false q = ap (λ (l : List Earlier.Entry). early_entry e ∷ l) q

pub add_early : (t : Train) (v : Visit) (w : Earlier.Visit) → early_visit v ≡ w → (tab : Table)
    → early_table (add_visit t v tab) ≡ Earlier.add_visit t w (early_table tab)
unfolding add_visit Earlier.add_visit early_table
add_early t v w q tab =
    ap (tabled tab.relations) (enter_early (record { train = t; visit = v }) tab.visits)
    ∙ ap (λ (u : Earlier.Visit). tabled tab.relations (Earlier.enter (record { train = t; visit = u }) (map early_entry tab.visits))) q

change_entry_early : (t : Train) (f : Visit → Visit) (f' : Earlier.Visit → Earlier.Visit) → ((v : Visit) → early_visit (f v) ≡ f' (early_visit v))
    → (e : Entry) → early_entry (change_entry t f e) ≡ Earlier.change_entry t f' (early_entry e)
unfolding change_entry Earlier.change_entry
change_entry_early t f f' q e = go (same_train e.train t)
  where
    go : (b : Bool) → early_entry (if b then record { train = e.train; visit = f e.visit } else e)
        ≡ (if b then record { train = e.train; visit = f' (early_visit e.visit) } else early_entry e)
    go true = λ i. record { train = e.train; visit = q e.visit i }
    go false = refl

change_entries_early : (t : Train) (f : Visit → Visit) (f' : Earlier.Visit → Earlier.Visit) → ((v : Visit) → early_visit (f v) ≡ f' (early_visit v))
    → (es : List Entry) → map early_entry (map (change_entry t f) es) ≡ map (Earlier.change_entry t f') (map early_entry es)
change_entries_early t f f' q [] = refl
change_entries_early t f f' q (e ∷ es) = ap₂ ◌∷◌ (change_entry_early t f f' q e) (change_entries_early t f f' q es)

pub change_early : (t : Train) (f : Visit → Visit) (f' : Earlier.Visit → Earlier.Visit) → ((v : Visit) → early_visit (f v) ≡ f' (early_visit v))
    → (tab : Table) → early_table (change_visit t f tab) ≡ Earlier.change_visit t f' (early_table tab)
unfolding change_visit Earlier.change_visit early_table
change_early t f f' q tab = ap (tabled tab.relations) (change_entries_early t f f' q tab.visits)

leave_early : (t : Train) (es : List Entry)
    → map early_entry (keep (λ e. not (same_train e.train t)) es) ≡ keep (λ e. not (same_train e.train t)) (map early_entry es)
unfolding keep
leave_early t [] = refl
leave_early t (e ∷ es) = go (not (same_train e.train t)) (leave_early t es)
  where
    others : List Entry → List Entry
    others = keep (λ e. not (same_train e.train t))

    early_others : List Earlier.Entry → List Earlier.Entry
    early_others = keep (λ e. not (same_train e.train t))

    go : (b : Bool) → map early_entry (others es) ≡ early_others (map early_entry es)
        → map early_entry (if b then e ∷ others es else others es) ≡ (if b then early_entry e ∷ early_others (map early_entry es) else early_others (map early_entry es))
    go true q = ap (λ (l : List Earlier.Entry). early_entry e ∷ l) q
    go false q = q

pub without_early : (t : Train) (tab : Table) → early_table (without t tab) ≡ Earlier.without t (early_table tab)
unfolding without Earlier.without early_table
without_early t tab = ap (tabled (lose_all t tab.relations)) (leave_early t tab.visits)

-- what is asked of a table

first_early : (t : Train) (p : Visit → Bool) (p' : Earlier.Visit → Bool) → ((v : Visit) → p' (early_visit v) ≡ p v) → (es : List Entry)
    → is p' (option_map (λ (e : Earlier.Entry). e.visit) (first (λ e. same_train e.train t) (map early_entry es)))
    ≡ is p (option_map (λ (e : Entry). e.visit) (first (λ e. same_train e.train t) es))
unfolding first
first_early t p p' q [] = refl
first_early t p p' q (e ∷ es) = go (same_train e.train t) (first_early t p p' q es)
  where
    go : (b : Bool)
        → is p' (option_map (λ (e : Earlier.Entry). e.visit) (first (λ e. same_train e.train t) (map early_entry es)))
        ≡ is p (option_map (λ (e : Entry). e.visit) (first (λ e. same_train e.train t) es))
        → is p' (option_map (λ (e : Earlier.Entry). e.visit) (if b then Some (early_entry e) else first (λ e. same_train e.train t) (map early_entry es)))
        ≡ is p (option_map (λ (e : Entry). e.visit) (if b then Some e else first (λ e. same_train e.train t) es))
    go true ih = q e.visit
    go false ih = ih

pub asked_early : (t : Train) (p : Visit → Bool) (p' : Earlier.Visit → Bool) → ((v : Visit) → p' (early_visit v) ≡ p v) → (tab : Table)
    → is p' (Earlier.visit_of t (early_table tab)) ≡ is p (visit_of t tab)
unfolding visit_of Earlier.visit_of early_table
asked_early t p p' q tab = first_early t p p' q tab.visits

pub has_early : (t : Train) (tab : Table) → Earlier.has_visit t (early_table tab) ≡ has_visit t tab
unfolding has_visit Earlier.has_visit
has_early t tab = asked_early t (λ v. true) (λ v. true) (λ v. refl) tab

pub room_early : (n : Network) (s : Station) (tab : Table) → Earlier.room (early_table tab) ≡ room n s tab
unfolding room Earlier.room full_visits early_table
room_early n s tab = rw length-map

-- visits

pub lacks_in_early : (v : Visit) → Earlier.lacks_in (early_visit v) ≡ lacks_in v
unfolding lacks_in Earlier.lacks_in early_visit
lacks_in_early v = refl

pub lacks_out_early : (v : Visit) → Earlier.lacks_out (early_visit v) ≡ lacks_out v
unfolding lacks_out Earlier.lacks_out early_visit
lacks_out_early v = refl

pub first_stands_early : (s p : Station) (v w : Visit) → Earlier.first_stands s p (early_visit v) (early_visit w) ≡ first_stands s p v w
unfolding first_stands Earlier.first_stands comes_from lacks_in Earlier.lacks_in comes Earlier.comes leaves Earlier.leaves early_visit
first_stands_early s p v w = refl

pub last_stands_early : (s p : Station) (v w : Visit) → Earlier.last_stands s p (early_visit v) (early_visit w) ≡ last_stands s p v w
unfolding last_stands Earlier.last_stands leaves_to lacks_out Earlier.lacks_out comes Earlier.comes leaves Earlier.leaves early_visit
last_stands_early s p v w = refl

pub alters_early : (p : Plan) (v : Visit) → Earlier.alters (early_plan p) (early_visit v) ≡ alters p v
unfolding alters Earlier.alters early_plan early_visit
alters_early p v = refl
