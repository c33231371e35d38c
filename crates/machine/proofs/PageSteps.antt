-- An edit on the page of a good table: an accepted edit makes of it the page of the table that the central machine
-- makes of that table. Each edit is one change of a page, or two, and each change is one of the table. Assumes nothing.
use Prim.Native.Nat.{◌<◌}
use mathlib.Core.Path.{◌≡◌, refl, sym, ◌∙◌, ap, ap₂}
use mathlib.Core.Bool.{Bool, true, false, not}
use mathlib.Core.List.{List, [], ◌∷◌, map}
use Rattle.std.specs.Prelude.{Option, None, Some, option_map}
use native.Mathlib.Omega.{arith}
use lib.Dec.{T, ltb→lt}
use lib.ListN.{length}
use borrow.Author.Tests.{leb-false, eqb-true, ne_eqb}
use Rattle.base.specs.Choice.{◌if◌else◌}
use Rattle.std.specs.Prelude.{if◌then◌else◌}
use Rattle.base.specs.Lists.{every, first, is, each_two, keep}
use Rattle.base.proofs.Tests.{not_T_false, passed, rest_passed, every_head, every_tail, every_weaker}
use Rattle.base.proofs.Lengths.{keep_no_longer}
use Rattle.base.proofs.Sorted.{smaller, two_head, two_tail}
use Rattle.railway.specs.Ranges.{same_train}
use Rattle.timetable.specs.Visits.{planned, lacks_in, lacks_out}
use Rattle.timetable.specs.Tables.{Entry, Table, visit_of, has_visit, add_visit, change_entry, change_visit, has_relation, without, full_visits, full_relations}
use Rattle.timetable.specs.Machine.{Action, Meaning, local, throughout, meaning, as_it_was}
use Rattle.timetable.specs.Good.{table_good}
use Rattle.timetable.proofs.TableLaws.{GoodTable, number, lacking, absent, table_facts}
use Rattle.theory.proofs.Kept.{has_room, third}
use Rattle.page.specs.Pages.{encode_page}
use Rattle.page.specs.between.Changes.{table_in, page_add_visit, page_lose_train}
use Rattle.page.proofs.PageLaws.{page_length, page_back, good_coded}
use Rattle.page.proofs.SlotLaws.{table_of_page}
use Rattle.page.proofs.ChangeLaws.{Fitting, add_visit_page, write_visit_page, remove_visit_page, add_relation_page, remove_relation_page, lose_train_page}
use Rattle.edit_refusals.specs.between.Refusing.{refuses_on}
use Rattle.edit_changes.specs.between.EditPages.{page_changed, page_change, page_without, here_page, there_page}
use Rattle.machine.specs.Types.{Station, Train, Visit, Edit, Network, Place, Prepend, Append, DeleteFirst, DeleteLast, Amend}
use Rattle.machine.specs.Types.{ReportArrival, ReportDeparture, AddRelation, RemoveRelation, DeleteTrain}

-- a train's visit changed in a list in order

-- where the train has none, nothing changes
change_lacking : (t : Train) (f : Visit → Visit) (es : List Entry) → T (lacking t es) → map (change_entry t f) es ≡ es
unfolding change_entry
change_lacking t f [] l = refl
change_lacking t f (x ∷ xs) l =
    let e : same_train x.train t ≡ false = not_T_false (same_train x.train t) (every_head (λ e. not (same_train e.train t)) x xs l) in
    rw e (ap (λ ys. x ∷ ys) (change_lacking t f xs (every_tail (λ e. not (same_train e.train t)) x xs l)))

-- a train stands once
alone : (t : Train) (x : Entry) (xs : List Entry) → same_train x.train t ≡ true → T (every (smaller number x) xs) → T (lacking t xs)
alone t x xs e o =
    every_weaker (smaller number x) (λ y. not (same_train y.train t))
    (λ y l. rw (ne_eqb (number y) t.0 (λ q. omega (arith, eqb-true (number x) t.0 e, ltb→lt (number x) (number y) l))) tt) xs o

-- what its visit becomes is what the change makes of the one that is found
change_found : (t : Train) (f : Visit → Visit) (v : Visit) (es : List Entry) → T (each_two (smaller number) es)
    → option_map (λ (e : Entry). e.visit) (first (λ e. same_train e.train t) es) ≡ Some v
    → map (change_entry t (λ w. f v)) es ≡ map (change_entry t f) es
unfolding change_entry first
change_found t f v [] o q = refl
change_found t f v (x ∷ xs) o q = go (same_train x.train t) refl q (change_found t f v xs (two_tail (smaller number) x xs o))
  where
    go : (b : Bool) → same_train x.train t ≡ b
        → option_map (λ (e : Entry). e.visit) (if b then Some x else first (λ e. same_train e.train t) xs) ≡ Some v
        → (option_map (λ (e : Entry). e.visit) (first (λ e. same_train e.train t) xs) ≡ Some v → map (change_entry t (λ w. f v)) xs ≡ map (change_entry t f) xs)
        → ((if b then record { train = x.train; visit = f v } else x) ∷ map (change_entry t (λ w. f v)) xs)
        ≡ ((if b then record { train = x.train; visit = f x.visit } else x) ∷ map (change_entry t f) xs)
    go true e p ih =
        let l = alone t x xs e (two_head (smaller number) x xs o) in
        let s : x.visit ≡ v = cc in
        ap₂ (λ (w : Visit) (ys : List Entry). record { train = x.train; visit = f w } ∷ ys) (sym s) (change_lacking t (λ w. f v) xs l ∙ sym (change_lacking t f xs l))
    go false e p ih = ap (λ ys. x ∷ ys) (ih p)

missing : (t : Train) (tab : Table) → visit_of t tab ≡ None → has_visit t tab ≡ false
unfolding has_visit
missing t tab e = rw e

-- changes of a good table's page

module _ (n : Network) (s : Station) (tab : Table) (good : T (table_good n s tab)) where
  facts : GoodTable n s tab
  facts = table_facts n s tab good

  fit : Fitting tab
  fit = let c = good_coded n s tab good in record { visits_fit = c.visits; relations_fit = c.relations }

  -- the table read back
  pub table_here : table_in (encode_page tab) ≡ tab
  table_here =
      let c = good_coded n s tab good in
      table_of_page (encode_page tab) (page_length tab c) ∙ page_back tab c

  module _ (t : Train) where
    pub change_page : (f : Visit → Visit) → page_change t f (encode_page tab) ≡ encode_page (change_visit t f tab)
    unfolding page_change page_changed change_visit visit_of
    change_page f = rw table_here (go (visit_of t tab) refl)
      where
        go : (o : Option Visit) → visit_of t tab ≡ o → page_changed t f o (encode_page tab) ≡ encode_page (change_visit t f tab)
        go None e =
            ap (λ (es : List Entry). encode_page (record { visits = es; relations = tab.relations }))
            (sym (change_lacking t f tab.visits (absent t tab (missing t tab e))))
        go (Some v) e =
            write_visit_page t tab fit facts.visits.order (f v)
            ∙ ap (λ (es : List Entry). encode_page (record { visits = es; relations = tab.relations })) (change_found t f v tab.visits facts.visits.order e)

    pub without_page : page_without t (encode_page tab) ≡ encode_page (without t tab)
    unfolding page_without without
    without_page =
        let left : Table = record { visits = keep (λ e. not (same_train e.train t)) tab.visits; relations = tab.relations } in
        let small = keep_no_longer (λ (e : Entry). not (same_train e.train t)) tab.visits in
        let few = fit.visits_fit in
        ap (page_lose_train t) (remove_visit_page t tab fit facts.visits.order)
        ∙ lose_train_page left (record { visits_fit = omega arith; relations_fit = fit.relations_fit }) t

-- the edits

module _ (n : Network) (s : Station) (tab : Table) (good : T (table_good n s tab)) where
  -- room for one more
  pub add_page : (t : Train) (v : Visit) → full_visits tab ≡ false → page_add_visit t v (encode_page tab) ≡ encode_page (add_visit t v tab)
  unfolding full_visits
  add_page t v e = add_visit_page t tab (fit n s tab good) v (omega (arith, leb-false 24 (length tab.visits) e))

few : (tab : Table) → full_relations tab ≡ false → length tab.relations < 6
unfolding full_relations
few tab e = omega (arith, leb-false 6 (length tab.relations) e)

-- what an edit makes of the pages of its tables, where they do not refuse it
abbrev pub PageSteps : Network → Edit → Meaning → Type 0
PageSteps n e (local a) = (here there : Table) → T (table_good n a.home here) → T (table_good n a.away there) → a.refuses n here there ≡ 0
    → (here_page e (encode_page here) ≡ encode_page (a.here here)) × (there_page e (encode_page there) ≡ encode_page (a.there there))
PageSteps n e (throughout t) = (s : Station) (tab : Table) → T (table_good n s tab) → here_page e (encode_page tab) ≡ encode_page (without t tab)

pub page_steps : (n : Network) (e : Edit) → PageSteps n e (meaning e)
unfolding meaning here_page there_page as_it_was
page_steps n (Place p) = λ here there h t r. (
  add_page n p.station here h p.train (planned p) (has_room n p.station here (rest_passed 7 (has_visit p.train here) _ r)),
  refl,
)
page_steps n (Prepend x) = λ here there h t r. (
  add_page n x.plan.station here h x.plan.train _ (has_room n x.plan.station here (third (has_visit x.plan.train here) (not (has_visit x.plan.train there)) (not (is lacks_in (visit_of x.plan.train there))) _ r)),
  change_page n x.other there t x.plan.train _,
)
page_steps n (Append x) = λ here there h t r. (
  add_page n x.plan.station here h x.plan.train _ (has_room n x.plan.station here (third (has_visit x.plan.train here) (not (has_visit x.plan.train there)) (not (is lacks_out (visit_of x.plan.train there))) _ r)),
  change_page n x.other there t x.plan.train _,
)
page_steps n (DeleteFirst d) = λ here there h t r. (without_page n d.station here h d.train, change_page n d.other there t d.train _)
page_steps n (DeleteLast d) = λ here there h t r. (without_page n d.station here h d.train, change_page n d.other there t d.train _)
page_steps n (Amend p) = λ here there h t r. (change_page n p.station here h p.train _, refl)
page_steps n (ReportArrival q) = λ here there h t r. (change_page n q.station here h q.train _, refl)
page_steps n (ReportDeparture q) = λ here there h t r. (change_page n q.station here h q.train _, refl)
page_steps n (AddRelation q) = λ here there h t r. (
  add_relation_page q.relation here (fit n q.station here h)
      (few here (passed 11 (full_relations here) 0 (rest_passed 7 (has_relation q.relation here) _ r)))
      (passed 7 (has_relation q.relation here) _ r),
  refl,
)
page_steps n (RemoveRelation q) = λ here there h t r. (
  remove_relation_page q.relation here (fit n q.station here h) (facts n q.station here h).relations.order,
  refl,
)
page_steps n (DeleteTrain c) = λ s tab h. without_page n s tab h c.train

-- and the tables' refusal is that of their pages
module _ (n : Network) (a : Action) (here there : Table) (h : T (table_good n a.home here)) (t : T (table_good n a.away there)) where
  pub pages_refuse : refuses_on n (local a) (encode_page here) (encode_page there) ≡ a.refuses n here there
  unfolding refuses_on
  pages_refuse = ap₂ (a.refuses n) (table_here n a.home here h) (table_here n a.away there t)
