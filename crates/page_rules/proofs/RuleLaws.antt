-- Laws about the parts of the rules: a page's visits by their indices, and those ahead of a train among them; the
-- relation of four places that each hold a train or none. Assumes nothing.
use Prim.Native.Nat.{ℕ, zero, suc, ◌+◌}
use mathlib.Core.Path.{◌≡◌, refl, sym, ap, ap₂, ◌∙◌}
use mathlib.Core.Bool.{Bool, true, false, not, ◌&&◌, ◌||◌}
use mathlib.Core.List.{List, [], ◌∷◌, map}
use native.Mathlib.Omega.{arith}
use lib.ListN.{length, drop}
use Rattle.base.specs.Choice.{◌if◌else◌}
use Rattle.std.specs.Prelude.{cond}
use Rattle.std.specs.List.{list_all, list_any, filter, range_with_len}
use Rattle.std.specs.Prelude.{if◌then◌else◌}
use Rattle.base.specs.Lists.{any, every, keep, is, each_two}
use Rattle.base.proofs.Tests.{T_true, every_true}
use Rattle.railway.specs.Ranges.{same_train}
use Rattle.railway.specs.Relations.{present, used}
use Rattle.timetable.specs.Tables.{Entry, Table, visit_of}
use Rattle.timetable.specs.Visits.{leaves}
use Rattle.timetable.specs.Rules.{both_visit, ahead, caught, others, breaks_6}
use Rattle.visits.proofs.LinkLaws.{leaves_at, leaves_none}
use Rattle.records.specs.Records.{decode_train, decode_visit}
use Rattle.page.specs.between.Changes.{table_in}
use Rattle.page.specs.between.Entries.{entry_bytes, entry_at}
use Rattle.page.proofs.EntryLaws.{entries_next, entries_over, entry_of, entry_parts}
use Rattle.page_rules.specs.Types.{Train, OutLink, Outward, Visit, Trains, Network}
use Rattle.rules.specs.between.Parts.{entry, leads, catches}
use Rattle.page_rules.specs.between.Parts.{one_met, two_met, leaders, crowds}

-- rule 6

-- the visit at an index is read from its record
pub entry_read : (page : List ℕ) (i : ℕ) (r : List ℕ) (u : Train) (w : Visit) → r ≡ entry_bytes i page → u ≡ decode_train r → w ≡ decode_visit r
    → entry u w ≡ entry_at i page
entry_read page i r u w read p q = entry_parts r u w p q ∙ entry_of r page i read

module _ (t : Train) (v : Visit) (o : Outward) (e : Entry) (es : List Entry) where
  -- an entry comes before those that lead among the rest, or is left out
  leaders_next : leaders t v o (e ∷ es) ≡ (if leads t v o e then e.visit ∷ leaders t v o es else leaders t v o es)
  unfolding leaders leads others keep
  leaders_next = go (not (same_train e.train t)) (ahead v o e.visit) refl
    where
      go : (a b : Bool) → ahead v o e.visit ≡ b
          → keep (ahead v o) (map (λ x. x.visit) (if a then e ∷ keep (λ x. not (same_train x.train t)) es else keep (λ x. not (same_train x.train t)) es))
          ≡ (if a && b then e.visit ∷ keep (ahead v o) (map (λ x. x.visit) (keep (λ x. not (same_train x.train t)) es)) else keep (ahead v o) (map (λ x. x.visit) (keep (λ x. not (same_train x.train t)) es)))
      go false b q = refl
      go true true q = rw q
      go true false q = rw q

  pub leaders_caught : any (caught v o) (leaders t v o (e ∷ es)) ≡ (catches t v o e || any (caught v o) (leaders t v o es))
  unfolding catches any
  leaders_caught = ap (any (caught v o)) leaders_next ∙ go (leads t v o e)
    where
      go : (b : Bool) → any (caught v o) (if b then e.visit ∷ leaders t v o es else leaders t v o es) ≡ ((b && caught v o e.visit) || any (caught v o) (leaders t v o es))
      go true = refl
      go false = refl

pub leaders_none : (t : Train) (v : Visit) (o : Outward) → length (leaders t v o []) ≡ 0
unfolding leaders others keep
leaders_none t v o = refl

pub none_caught : (t : Train) (v : Visit) (o : Outward) → any (caught v o) (leaders t v o []) ≡ false
unfolding leaders others keep any
none_caught t v o = refl

-- a visit whose departure is pending, by its link
module _ (n : Network) (es : List Entry) (t : Train) (v : Visit) (pending : v.departed ≡ false) where
  pub six_none : v.outward ≡ OutLink.Nothing → breaks_6 n es (entry t v) ≡ false
  unfolding breaks_6 crowds leaders
  six_none e = ap (λ b. not b && leaves (λ q. crowds n t v q es) v) pending ∙ leaves_none (λ q. crowds n t v q es) v e

  pub six_at : (o : Outward) → v.outward ≡ OutLink.To o → breaks_6 n es (entry t v) ≡ crowds n t v o es
  unfolding breaks_6 crowds leaders
  six_at o e = ap (λ b. not b && leaves (λ q. crowds n t v q es) v) pending ∙ leaves_at (λ q. crowds n t v q es) v o e

-- the entries of a page from an index on, gone through by their indices
module _ (t : Train) (v : Visit) (o : Outward) (page : List ℕ) where
  pub ahead_from : (i k : ℕ) → i + k ≡ length (table_in page).visits
      → length (filter (λ j. leads t v o (entry_at j page)) (range_with_len i k)) ≡ length (leaders t v o (drop i (table_in page).visits))
  ahead_from i zero e =
      rw (entries_over page i (length (table_in page).visits) refl (omega arith)) (sym (leaders_none t v o))
  ahead_from i (suc k) e =
      rw (entries_next page i (length (table_in page).visits) refl (omega arith), leaders_next t v o (entry_at i page) (drop (i + 1) (table_in page).visits))
      (go (leads t v o (entry_at i page)) (ahead_from (i + 1) k (omega arith)))
    where
      go : (b : Bool) → length (filter (λ j. leads t v o (entry_at j page)) (range_with_len (i + 1) k)) ≡ length (leaders t v o (drop (i + 1) (table_in page).visits))
          → length (cond b (i ∷ filter (λ j. leads t v o (entry_at j page)) (range_with_len (i + 1) k)) (filter (λ j. leads t v o (entry_at j page)) (range_with_len (i + 1) k)))
          ≡ length (if b then (entry_at i page).visit ∷ leaders t v o (drop (i + 1) (table_in page).visits) else leaders t v o (drop (i + 1) (table_in page).visits))
      go true h = rw h
      go false h = h

  pub caught_from : (i k : ℕ) → i + k ≡ length (table_in page).visits
      → list_any (λ j. catches t v o (entry_at j page)) (range_with_len i k) ≡ any (caught v o) (leaders t v o (drop i (table_in page).visits))
  caught_from i zero e =
      rw (entries_over page i (length (table_in page).visits) refl (omega arith)) (sym (none_caught t v o))
  caught_from i (suc k) e =
      rw (entries_next page i (length (table_in page).visits) refl (omega arith), leaders_caught t v o (entry_at i page) (drop (i + 1) (table_in page).visits), caught_from (i + 1) k (omega arith))

-- rule 4

module _ {A : Type 0} (p : A → Bool) where
  -- what is asked of the elements that pass p asks nothing of the others
  every_passing : (f : A → Bool) (xs : List A) → every f (keep p xs) ≡ every (λ x. not (p x) || f x) xs
  unfolding every keep
  every_passing f [] = refl
  every_passing f (x ∷ xs) = go (p x) (every_passing f xs)
    where
      go : (b : Bool) → every f (keep p xs) ≡ every (λ y. not (p y) || f y) xs
          → every f (if b then x ∷ keep p xs else keep p xs) ≡ ((not b || f x) && every (λ y. not (p y) || f y) xs)
      go true ih = ap (λ c. f x && c) ih
      go false ih = ih

  two_passing : (f : A → A → Bool) (xs : List A) → each_two f (keep p xs) ≡ each_two (λ x y. not (p x) || (not (p y) || f x y)) xs
  unfolding each_two keep
  two_passing f [] = refl
  two_passing f (x ∷ xs) = go (p x) (two_passing f xs)
    where
      go : (b : Bool) → each_two f (keep p xs) ≡ each_two (λ x y. not (p x) || (not (p y) || f x y)) xs
          → each_two f (if b then x ∷ keep p xs else keep p xs)
          ≡ (every (λ y. not b || (not (p y) || f x y)) xs && each_two (λ x y. not (p x) || (not (p y) || f x y)) xs)
      go true ih = ap₂ (λ c d. c && d) (every_passing (f x) xs) ih
      go false ih = ih ∙ ap (λ c. c && each_two (λ x y. not (p x) || (not (p y) || f x y)) xs) (sym (T_true (every (λ y. true) xs) (every_true xs)))

six_tests : (a b c d e f : Bool) → ((a && (b && (c && true))) && ((d && (e && true)) && ((f && true) && (true && true)))) ≡ (a && (b && (c && (d && (e && (f && true))))))
six_tests false b c d e f = refl
six_tests true false c d e f = refl
six_tests true true false d e f = refl
six_tests true true true false e f = refl
six_tests true true true true false f = refl
six_tests true true true true true false = refl
six_tests true true true true true true = refl

-- a value of the code's `x && y`, where the second test is made only if the first holds
pub and_then : {x a y b r : Bool} → x ≡ a → x ≡ true → y ≡ b → r ≡ y → r ≡ (a && b)
and_then p t q e = e ∙ q ∙ rw (← p, t)

pub and_else : {x a r : Bool} (b : Bool) → x ≡ a → x ≡ false → r ≡ x → r ≡ (a && b)
and_else b p t e = e ∙ t ∙ rw (← p, t)

-- what is asked of the trains of four places, place by place
module _ (tab : Table) (ts : Trains) where
  pub each_place : (f : Visit → Bool) → list_all (one_met f tab) (ts.a ∷ ts.b ∷ ts.c ∷ ts.d ∷ []) ≡ every (λ t. is f (visit_of t tab)) (used ts)
  unfolding used one_met every
  each_place f = sym (every_passing present (λ t. is f (visit_of t tab)) (ts.a ∷ ts.b ∷ ts.c ∷ ts.d ∷ []))

  pub each_two_places : (f : Visit → Visit → Bool)
      → list_all (λ (x : Train × Train). two_met f tab x.0 x.1) ((ts.a, ts.b) ∷ (ts.a, ts.c) ∷ (ts.a, ts.d) ∷ (ts.b, ts.c) ∷ (ts.b, ts.d) ∷ (ts.c, ts.d) ∷ [])
      ≡ each_two (both_visit f tab) (used ts)
  unfolding used two_met each_two every
  each_two_places f =
      sym (two_passing present (both_visit f tab) (ts.a ∷ ts.b ∷ ts.c ∷ ts.d ∷ [])
      ∙ six_tests (two_met f tab ts.a ts.b) (two_met f tab ts.a ts.c) (two_met f tab ts.a ts.d)
      (two_met f tab ts.b ts.c) (two_met f tab ts.b ts.d) (two_met f tab ts.c ts.d))
