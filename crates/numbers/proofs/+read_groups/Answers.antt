-- The proof of the cycle of calls {read_groups}. The measure is the number of groups still permitted; each return is
-- one law of `read_groups`. Assumes nothing.
use Prim.Native.Nat.{◌-◌}
use mathlib.Core.Path.{◌≡◌, sym, ◌∙◌, ap}
use lib.ListN.{drop}
use native.Mathlib.Omega.{arith}
use Rattle.std.proofs.Common.{rules, tests}
use Rattle.std.proofs.lemmas.Result.{err_from_is_err_and}
use borrow.Author.Tests.{eqb-true}
use Rattle.base.proofs.Lengths.{rest_whole}
use Rattle.numbers.specs.Answers.{number_outcome, refusal_of}
use Rattle.numbers.specs.Numbers.{Value, Refused, read_groups, group_before}
use Rattle.numbers.proofs.GroupLaws.{read_none, read_ends, read_last, read_more, read_bounded, before_zero, before_value, before_refused, cap_small, small_drop}
use Rattle.numbers.proofs.+read_groups.Goals as goal

pub returns-then-left-eq0 : goal.returns-then-left-eq0
returns-then-left-eq0 t c = sym (read_none c.args.left c.args.bytes.now c.if-left-eq0.true)

pub returns-then-is_empty : goal.returns-then-is_empty
returns-then-is_empty t c = sym (read_ends c.args.left c.args.bytes.now c.if-left-eq0.false (eqb-true _ _ (sym c.is_empty.ensures ∙ c.if-is_empty.true)))

pub returns-then-group-lt128 : goal.returns-then-group-lt128
returns-then-group-lt128 t c = rw c.from.ensures (sym (read_last c.args.left c.args.bytes.now c.if-left-eq0.false (search (rules, tests)) c.if-group-lt128.true))

pub returns-then-n-eq0 : goal.returns-then-n-eq0
returns-then-n-eq0 t c =
    let s = c.args in
    let rest : number_outcome c.read_groups.result ≡ read_groups (s.left - 1) (drop 1 s.bytes.now) = c.read_groups.ensures ∙ ap (read_groups (s.left - 1)) (rest_whole 1 s.bytes.now) in
    let value : read_groups (s.left - 1) (drop 1 s.bytes.now) ≡ Value c.in_ok-n.n c.in_ok-n.used = sym rest ∙ ap number_outcome c.in_ok-n.was in
    sym (read_more s.left s.bytes.now c.if-left-eq0.false (search (rules, tests)) c.if-group-lt128.false ∙ ap (group_before _) value ∙ before_zero _ _ _ c.if-n-eq0.true)

pub overflow_mul-result : goal.overflow_mul-result
overflow_mul-result t c =
    let s = c.args in
    let rest : number_outcome c.read_groups.result ≡ read_groups (s.left - 1) (drop 1 s.bytes.now) = c.read_groups.ensures ∙ ap (read_groups (s.left - 1)) (rest_whole 1 s.bytes.now) in
    let value : read_groups (s.left - 1) (drop 1 s.bytes.now) ≡ Value c.in_ok-n.n c.in_ok-n.used = sym rest ∙ ap number_outcome c.in_ok-n.was in
    let small = read_bounded (s.left - 1) (drop 1 s.bytes.now) _ _ (small_drop s.bytes.now (λ i. omega (arith, c.type_inv.bytes i))) value in
    omega (arith, small.0, cap_small (s.left - 1) (omega (arith, c.requires)))

pub overflow_add-result : goal.overflow_add-result
overflow_add-result t c =
    let s = c.args in
    let rest : number_outcome c.read_groups.result ≡ read_groups (s.left - 1) (drop 1 s.bytes.now) = c.read_groups.ensures ∙ ap (read_groups (s.left - 1)) (rest_whole 1 s.bytes.now) in
    let value : read_groups (s.left - 1) (drop 1 s.bytes.now) ≡ Value c.in_ok-n.n c.in_ok-n.used = sym rest ∙ ap number_outcome c.in_ok-n.was in
    let small = read_bounded (s.left - 1) (drop 1 s.bytes.now) _ _ (small_drop s.bytes.now (λ i. omega (arith, c.type_inv.bytes i))) value in
    omega (arith, small.0, cap_small (s.left - 1) (omega (arith, c.requires)), c.type_inv.bytes 0)

pub overflow_add-result-2 : goal.overflow_add-result-2
overflow_add-result-2 t c =
    let s = c.args in
    let rest : number_outcome c.read_groups.result ≡ read_groups (s.left - 1) (drop 1 s.bytes.now) = c.read_groups.ensures ∙ ap (read_groups (s.left - 1)) (rest_whole 1 s.bytes.now) in
    let value : read_groups (s.left - 1) (drop 1 s.bytes.now) ≡ Value c.in_ok-n.n c.in_ok-n.used = sym rest ∙ ap number_outcome c.in_ok-n.was in
    let small = read_bounded (s.left - 1) (drop 1 s.bytes.now) _ _ (small_drop s.bytes.now (λ i. omega (arith, c.type_inv.bytes i))) value in
    omega (arith, small.1, c.requires)

pub returns-in_err-n : goal.returns-in_err-n
returns-in_err-n t c =
    let s = c.args in
    let p = err_from_is_err_and c.from_residual.result c.from_residual.ensures.1 in
    let value : read_groups (s.left - 1) (drop 1 s.bytes.now) ≡ Refused (refusal_of c.in_err-n.field-0.0) = sym (c.in_err-n.ensures ∙ ap (read_groups (s.left - 1)) (rest_whole 1 s.bytes.now)) in
    rw (p.1, p.2) (sym (read_more s.left s.bytes.now c.if-left-eq0.false (search (rules, tests)) c.if-group-lt128.false ∙ ap (group_before _) value ∙ before_refused _ _))

pub returns : goal.returns
returns t c =
    let s = c.args in
    let rest : number_outcome c.read_groups.result ≡ read_groups (s.left - 1) (drop 1 s.bytes.now) = c.read_groups.ensures ∙ ap (read_groups (s.left - 1)) (rest_whole 1 s.bytes.now) in
    let value : read_groups (s.left - 1) (drop 1 s.bytes.now) ≡ Value c.in_ok-n.n c.in_ok-n.used = sym rest ∙ ap number_outcome c.in_ok-n.was in
    rw c.from-2.ensures (sym (read_more s.left s.bytes.now c.if-left-eq0.false (search (rules, tests)) c.if-group-lt128.false ∙ ap (group_before _) value ∙ before_value _ _ _ c.if-n-eq0.false))
