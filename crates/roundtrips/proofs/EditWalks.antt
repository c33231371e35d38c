-- An edit's entry, walked in a form: kind by kind, its fields are a row of numbers in their ranges, or a relation. Only
-- a plan's row, with or without an extension, and a report's differ by the form: the newest gives the mark or the
-- minute of a number back, and the earlier supplies the only one that it can say. Assumes nothing.
use Prim.Native.Nat.{ℕ, zero, suc, ◌+◌, ◌≤◌}
use mathlib.Core.Path.{◌≡◌, refl, sym, ◌∙◌, ap, subst}
use mathlib.Core.Bool.{Bool, true, false, not, ◌&&◌}
use mathlib.Core.List.{List, [], ◌∷◌}
use native.Mathlib.Omega.{arith}
use lib.Dec.{T, eqb, eqb→eq}
use lib.ListN.{get_or}
use lib.Seq.{get_or-drop}
use borrow.Author.Tests.{eqb-true, le-leb}
use Rattle.base.specs.Lists.{every}
use Rattle.base.proofs.Tests.{not_T_false, and_l, and_r, both}
use Rattle.numbers.specs.Numbers.{width}
use Rattle.railway.specs.Ranges.{last_minute, train_ok}
use Rattle.railway.specs.Edits.{plan_ok, extension_ok, deletion_ok, report_ok, station_relation_ok, edit_ok}
use Rattle.timetable.specs.declared.FileForm.{FileForm}
use Rattle.timetable.specs.Formats.{done, ◌and_then◌, ◌to◌}
use Rattle.timetable.specs.FileForms.{mark_range, mark_numbers, mark_said, minute_range, minute_numbers, minute_said, with_fourth, with_mark, with_minute}
use Rattle.timetable.specs.EditsFile.{plan_ranges, plan_of, plan_numbers, extension_ranges, extension_of, extension_numbers, deletion_ranges, deletion_of, deletion_numbers}
use Rattle.timetable.specs.EditsFile.{report_ranges, report_of, report_numbers, edit_ranges, edit_of, has_track, is_report, supplied, edit_fields, edit_entry, edit_numbers, mark_of, minute_of, edit_said}
use Rattle.timetable.specs.EditsFile.{station_relation_entry, station_relation_numbers}
use Rattle.roundtrips.specs.Types.{Plan, Extension, Report, StationRelation, Cancellation, Edit, Place, Prepend, Append, DeleteFirst, DeleteLast, Amend}
use Rattle.roundtrips.specs.Types.{ReportArrival, ReportDeparture, AddRelation, RemoveRelation, DeleteTrain}
use Rattle.roundtrips.proofs.Walks.{InRange, walks}
use Rattle.roundtrips.proofs.WalkLaws.{walks_made, made_walks}
use Rattle.roundtrips.proofs.RowsWalked.{Over, over_none, by_index, row_at, row_test, Fields, ranged_fields, kept_fields, tested_fields, and_assoc, and_true, nought_least, walks_fields, fields_walk}
use Rattle.roundtrips.proofs.MarkLaws.{status_most, status_back, back_status, unmarked, last_said}
use Rattle.roundtrips.proofs.RelationWalks.{walks_station_relation, station_relation_walks}

-- fields in a row

-- a plan and an extension with another mark
abbrev re_marked : Plan → Bool → Plan
re_marked p b = record { station = p.station; train = p.train; track = p.track; marked = b; arrival = p.arrival; departure = p.departure }

abbrev re_planned : Extension → Bool → Extension
re_planned x b = record { plan = re_marked x.plan b; other = x.other; line = x.line; run = x.run }

-- a plan that a form can say, in range
abbrev pub plan_fits : FileForm → Plan → Bool
plan_fits form p = mark_said form p.marked && plan_ok p

pub plan_fields : (form : FileForm) → Fields (plan_ranges form) (λ ns. plan_of (with_mark form ns)) (plan_numbers form) (plan_fits form)
unfolding row_test by_index every mark_range mark_numbers mark_said with_fourth plan_ranges plan_of plan_numbers plan_ok
plan_fields FileForm.Earlier =
    kept_fields (plan_ranges FileForm.Earlier) (λ ns. plan_of (with_mark FileForm.Earlier ns)) (plan_numbers FileForm.Earlier) (plan_fits FileForm.Earlier) tt
    (λ ns. rw (get_or-drop 3 ns 0 0, get_or-drop 3 ns 1 0) refl) (λ p. not p.marked) (λ ns. tt) (λ p t. ap (re_marked p) (sym (not_T_false p.marked t)))
    (λ p. simp (and_assoc, and_true, nought_least))
plan_fields FileForm.Newest =
    ranged_fields (plan_ranges FileForm.Newest) (λ ns. plan_of (with_mark FileForm.Newest ns)) (plan_numbers FileForm.Newest) (plan_fits FileForm.Newest) tt
    (λ ns i. ap (λ (k : ℕ). get_or ns 0 0 ∷ get_or ns 1 0 ∷ get_or ns 2 0 ∷ k ∷ get_or ns 4 0 ∷ get_or ns 5 0 ∷ [])
    (sym (back_status (get_or ns 3 0) (row_at (plan_ranges FileForm.Newest) ns i 3 (omega arith)))))
    (λ p. true) (λ ns. tt) (λ p t. ap (re_marked p) (status_back p.marked))
    (λ p. simp (and_assoc, and_true, nought_least, status_most))

-- an extension likewise
abbrev pub extension_fits : FileForm → Extension → Bool
extension_fits form x = mark_said form x.plan.marked && extension_ok x

pub extension_fields : (form : FileForm) → Fields (extension_ranges form) (λ ns. extension_of (with_mark form ns)) (extension_numbers form) (extension_fits form)
unfolding row_test by_index every mark_range mark_numbers mark_said with_fourth plan_ranges plan_of plan_numbers plan_ok
    extension_ranges extension_of extension_numbers extension_ok
extension_fields FileForm.Earlier =
    kept_fields (extension_ranges FileForm.Earlier) (λ ns. extension_of (with_mark FileForm.Earlier ns)) (extension_numbers FileForm.Earlier) (extension_fits FileForm.Earlier) tt
    (λ ns. rw (get_or-drop 3 ns 0 0, get_or-drop 3 ns 1 0, get_or-drop 3 ns 2 0, get_or-drop 3 ns 3 0, get_or-drop 3 ns 4 0) refl)
    (λ x. not x.plan.marked) (λ ns. tt) (λ x t. ap (re_planned x) (sym (not_T_false x.plan.marked t)))
    (λ x. simp (and_assoc, and_true, nought_least))
extension_fields FileForm.Newest =
    ranged_fields (extension_ranges FileForm.Newest) (λ ns. extension_of (with_mark FileForm.Newest ns)) (extension_numbers FileForm.Newest) (extension_fits FileForm.Newest) tt
    (λ ns i. ap (λ (k : ℕ). get_or ns 0 0 ∷ get_or ns 1 0 ∷ get_or ns 2 0 ∷ k ∷ get_or ns 4 0 ∷ get_or ns 5 0 ∷ get_or ns 6 0 ∷ get_or ns 7 0 ∷ get_or ns 8 0 ∷ [])
    (sym (back_status (get_or ns 3 0) (row_at (extension_ranges FileForm.Newest) ns i 3 (omega arith)))))
    (λ x. true) (λ ns. tt) (λ x t. ap (re_planned x) (status_back x.plan.marked))
    (λ x. simp (and_assoc, and_true, nought_least, status_most))

pub deletion_fields : Fields deletion_ranges deletion_of deletion_numbers deletion_ok
unfolding row_test by_index every deletion_ranges deletion_of deletion_numbers deletion_ok
deletion_fields = tested_fields deletion_ranges deletion_of deletion_numbers deletion_ok tt (λ ns. refl) (λ x. refl) (λ x. simp (and_assoc, and_true, nought_least))

-- a report with another minute
abbrev re_dated : Report → ℕ → Report
re_dated r k = record { station = r.station; train = r.train; time = r.time; present = record { 0 = k } }

-- a report that a form can say, in range
abbrev pub report_fits : FileForm → Report → Bool
report_fits form r = minute_said form r.present.0 && report_ok r

-- the last minute is in range
last_tests : (r : Report) (b : Bool) → eqb r.present.0 last_minute ≡ b
    → (b && report_ok r) ≡ (b && row_test (report_ranges FileForm.Earlier) (report_numbers FileForm.Earlier r))
unfolding row_test minute_range minute_numbers report_ranges report_numbers report_ok
last_tests r true q = simp (le-leb r.present.0 last_minute (omega (arith, eqb-true r.present.0 last_minute q)), and_assoc, and_true, nought_least)
last_tests r false q = refl

pub report_fields : (form : FileForm) → Fields (report_ranges form) (λ ns. report_of (with_minute form ns)) (report_numbers form) (report_fits form)
unfolding row_test by_index every minute_range minute_numbers minute_said with_fourth report_ranges report_of report_numbers report_ok
report_fields FileForm.Earlier =
    kept_fields (report_ranges FileForm.Earlier) (λ ns. report_of (with_minute FileForm.Earlier ns)) (report_numbers FileForm.Earlier) (report_fits FileForm.Earlier) tt
    (λ ns. refl) (λ r. eqb r.present.0 last_minute) (λ ns. tt) (λ r t. ap (re_dated r) (sym (eqb→eq r.present.0 last_minute t)))
    (λ r. last_tests r (eqb r.present.0 last_minute) refl)
report_fields FileForm.Newest =
    tested_fields (report_ranges FileForm.Newest) (λ ns. report_of (with_minute FileForm.Newest ns)) (report_numbers FileForm.Newest) (report_fits FileForm.Newest) tt
    (λ ns. refl) (λ x. refl) (λ x. simp (and_assoc, and_true, nought_least))

cancellation_fields : Fields (1 to 9999 ∷ []) (λ ns. record { train = record { 0 = get_or ns 0 0 } }) (λ (c : Cancellation). c.train.0 ∷ []) (λ c. train_ok c.train)
unfolding row_test by_index every
cancellation_fields = tested_fields (1 to 9999 ∷ []) _ _ _ tt (λ ns. refl) (λ x. refl) (λ x. simp (and_assoc, and_true, nought_least))

-- edits

-- 1 to 11
by_kind : (P : ℕ → Type 0) → P 1 → P 2 → P 3 → P 4 → P 5 → P 6 → P 7 → P 8 → P 9 → P 10 → P 11 → (k : ℕ) → 1 ≤ k → k ≤ 11 → P k
by_kind P a b c d e f g h i j k zero low high = absurd (omega arith)
by_kind P a b c d e f g h i j k (suc zero) low high = a
by_kind P a b c d e f g h i j k (suc (suc zero)) low high = b
by_kind P a b c d e f g h i j k (suc (suc (suc zero))) low high = c
by_kind P a b c d e f g h i j k (suc (suc (suc (suc zero)))) low high = d
by_kind P a b c d e f g h i j k (suc (suc (suc (suc (suc zero))))) low high = e
by_kind P a b c d e f g h i j k (suc (suc (suc (suc (suc (suc zero)))))) low high = f
by_kind P a b c d e f g h i j k (suc (suc (suc (suc (suc (suc (suc zero))))))) low high = g
by_kind P a b c d e f g h i j k (suc (suc (suc (suc (suc (suc (suc (suc zero)))))))) low high = h
by_kind P a b c d e f g h i j k (suc (suc (suc (suc (suc (suc (suc (suc (suc zero))))))))) low high = i
by_kind P a b c d e f g h i j k (suc (suc (suc (suc (suc (suc (suc (suc (suc (suc zero)))))))))) low high = j
by_kind P a b c d e f g h i j k (suc (suc (suc (suc (suc (suc (suc (suc (suc (suc (suc zero))))))))))) low high = k
by_kind P a b c d e f g h i j k (suc (suc (suc (suc (suc (suc (suc (suc (suc (suc (suc (suc m)))))))))))) low high = absurd (omega arith)

kind_in : (k : ℕ) → 1 ≤ k → k ≤ 11 → InRange 1 11 k
kind_in k l h = record { low = l; high = h; short = omega arith }

-- an edit that holds a relation
relation_taken : (edit : StationRelation → Edit) (p : ℕ) (ns : List ℕ) (e : Edit) → walks (station_relation_entry [] and_then (λ r. done (edit r))) p ns e
    → (r : StationRelation) × (ns ≡ station_relation_numbers r) × T (station_relation_ok r) × Over [] (station_relation_numbers r) × (edit r ≡ e)
relation_taken edit p ns e w =
    let (r, v, q) = made_walks edit (station_relation_entry []) p ns e w in
    let (x, f) = station_relation_walks [] p ns r v in
    (r, x, f.good, f.above, q)

-- what an edit is in range and in a form by: its own test, and that of its mark and minute
module _ (form : FileForm) where
  abbrev tells : Bool → ℕ → Bool
  tells b k = mark_said form b && minute_said form k

  -- where it carries neither
  plain : T (tells false last_minute)
  plain = both (mark_said form false) (minute_said form last_minute) (unmarked form) (last_said form)

  plan_in : (p : Plan) → T (plan_ok p) → T (tells p.marked last_minute) → T (plan_fits form p)
  plan_in p t u = both (mark_said form p.marked) (plan_ok p) (and_l (mark_said form p.marked) (minute_said form last_minute) u) t

  plan_out : (p : Plan) → T (plan_fits form p) → T (plan_ok p) × T (tells p.marked last_minute)
  plan_out p t = (
    and_r (mark_said form p.marked) (plan_ok p) t,
    both (mark_said form p.marked) (minute_said form last_minute) (and_l (mark_said form p.marked) (plan_ok p) t) (last_said form),
  )

  extension_in : (x : Extension) → T (extension_ok x) → T (tells x.plan.marked last_minute) → T (extension_fits form x)
  extension_in x t u = both (mark_said form x.plan.marked) (extension_ok x) (and_l (mark_said form x.plan.marked) (minute_said form last_minute) u) t

  extension_out : (x : Extension) → T (extension_fits form x) → T (extension_ok x) × T (tells x.plan.marked last_minute)
  extension_out x t = (
    and_r (mark_said form x.plan.marked) (extension_ok x) t,
    both (mark_said form x.plan.marked) (minute_said form last_minute) (and_l (mark_said form x.plan.marked) (extension_ok x) t) (last_said form),
  )

  report_in : (r : Report) → T (report_ok r) → T (tells false r.present.0) → T (report_fits form r)
  report_in r t u = both (minute_said form r.present.0) (report_ok r) (and_r (mark_said form false) (minute_said form r.present.0) u) t

  report_out : (r : Report) → T (report_fits form r) → T (report_ok r) × T (tells false r.present.0)
  report_out r t = (
    and_r (minute_said form r.present.0) (report_ok r) t,
    both (mark_said form false) (minute_said form r.present.0) (unmarked form) (and_l (minute_said form r.present.0) (report_ok r) t),
  )

pub walks_edit : (form : FileForm) (p : ℕ) (e : Edit) → T (edit_ok e) → T (edit_said form e) → walks (edit_entry form) p (edit_numbers form e) e
unfolding walks edit_entry edit_fields edit_ranges edit_of has_track is_report supplied edit_numbers edit_ok mark_of minute_of edit_said
walks_edit form p (Place x) t u = (kind_in 1 (omega arith) (omega arith), walks_fields (plan_fields form) Place [] _ x (plan_in form x t u) (over_none _))
walks_edit form p (Prepend x) t u = (kind_in 2 (omega arith) (omega arith), walks_fields (extension_fields form) Prepend [] _ x (extension_in form x t u) (over_none _))
walks_edit form p (Append x) t u = (kind_in 3 (omega arith) (omega arith), walks_fields (extension_fields form) Append [] _ x (extension_in form x t u) (over_none _))
walks_edit form p (DeleteFirst x) t u = (kind_in 4 (omega arith) (omega arith), walks_fields deletion_fields DeleteFirst [] _ x t (over_none _))
walks_edit form p (DeleteLast x) t u = (kind_in 5 (omega arith) (omega arith), walks_fields deletion_fields DeleteLast [] _ x t (over_none _))
walks_edit form p (Amend x) t u = (kind_in 6 (omega arith) (omega arith), walks_fields (plan_fields form) Amend [] _ x (plan_in form x t u) (over_none _))
walks_edit form p (ReportArrival x) t u = (kind_in 7 (omega arith) (omega arith), walks_fields (report_fields form) ReportArrival [] _ x (report_in form x t u) (over_none _))
walks_edit form p (ReportDeparture x) t u = (kind_in 8 (omega arith) (omega arith), walks_fields (report_fields form) ReportDeparture [] _ x (report_in form x t u) (over_none _))
walks_edit form p (AddRelation x) t u = (
  kind_in 9 (omega arith) (omega arith),
  walks_made AddRelation (station_relation_entry []) _ (station_relation_numbers x) x
      (walks_station_relation [] _ x (record { good = t; above = over_none (station_relation_numbers x) })),
)
walks_edit form p (RemoveRelation x) t u = (
  kind_in 10 (omega arith) (omega arith),
  walks_made RemoveRelation (station_relation_entry []) _ (station_relation_numbers x) x
      (walks_station_relation [] _ x (record { good = t; above = over_none (station_relation_numbers x) })),
)
walks_edit form p (DeleteTrain x) t u = (kind_in 11 (omega arith) (omega arith), walks_fields cancellation_fields DeleteTrain [] _ x t (over_none _))

pub edit_walks : (form : FileForm) (p : ℕ) (ns : List ℕ) (e : Edit) → walks (edit_entry form) p ns e → (ns ≡ edit_numbers form e) × T (edit_ok e) × T (edit_said form e)
unfolding walks edit_entry edit_fields edit_ranges edit_of has_track is_report supplied edit_numbers edit_ok mark_of minute_of edit_said
edit_walks form p [] e w = absurd w
edit_walks form p (k ∷ ns) e (x, w) =
    by_kind (λ k. walks (edit_fields form k) (p + width k) ns e → (k ∷ ns ≡ edit_numbers form e) × T (edit_ok e) × T (edit_said form e))
    (λ w. through 1 (plan_fits form) (λ x. refl) (plan_out form) (fields_walk (plan_fields form) Place [] _ ns e w))
    (λ w. through 2 (extension_fits form) (λ x. refl) (extension_out form) (fields_walk (extension_fields form) Prepend [] _ ns e w))
    (λ w. through 3 (extension_fits form) (λ x. refl) (extension_out form) (fields_walk (extension_fields form) Append [] _ ns e w))
    (λ w. through 4 deletion_ok (λ x. refl) (λ x t. (t, plain form)) (fields_walk deletion_fields DeleteFirst [] _ ns e w))
    (λ w. through 5 deletion_ok (λ x. refl) (λ x t. (t, plain form)) (fields_walk deletion_fields DeleteLast [] _ ns e w))
    (λ w. through 6 (plan_fits form) (λ x. refl) (plan_out form) (fields_walk (plan_fields form) Amend [] _ ns e w))
    (λ w. through 7 (report_fits form) (λ x. refl) (report_out form) (fields_walk (report_fields form) ReportArrival [] _ ns e w))
    (λ w. through 8 (report_fits form) (λ x. refl) (report_out form) (fields_walk (report_fields form) ReportDeparture [] _ ns e w))
    (λ w. through 9 station_relation_ok (λ x. refl) (λ x t. (t, plain form)) (relation_taken AddRelation _ ns e w))
    (λ w. through 10 station_relation_ok (λ x. refl) (λ x t. (t, plain form)) (relation_taken RemoveRelation _ ns e w))
    (λ w. through 11 (λ c. train_ok c.train) (λ x. refl) (λ x t. (t, plain form)) (fields_walk cancellation_fields DeleteTrain [] _ ns e w))
    k x.low x.high w
  where
    through : {A : Type 0} {numbers : A → List ℕ} {edit : A → Edit} (k : ℕ) (ok : A → Bool) → ((a : A) → edit_numbers form (edit a) ≡ k ∷ numbers a)
        → ((a : A) → T (ok a) → T (edit_ok (edit a)) × T (edit_said form (edit a)))
        → (a : A) × (ns ≡ numbers a) × T (ok a) × Over [] (numbers a) × (edit a ≡ e) → (k ∷ ns ≡ edit_numbers form e) × T (edit_ok e) × T (edit_said form e)
    through k ok f g (a, q, t, o, u) = (
      ap (λ (l : List ℕ). k ∷ l) q ∙ sym (f a) ∙ ap (edit_numbers form) u,
      subst (λ (e : Edit). T (edit_ok e)) u (g a t).0,
      subst (λ (e : Edit). T (edit_said form e)) u (g a t).1,
    )
