use Rattle.std.proofs.Common.{◌≡◌, ℕ, List, [], ◌++◌, ap, ◌∙◌, append-nil}
use Rattle.acc_base.specs.declared.limits.Limit.{Limit}
use Rattle.acc_parse_limits.specs.Numbers.{is_before}
use Rattle.acc_parse_limits.specs.Faults.{limit_faults}
use Rattle.acc_base.specs.Leasts.{IsLeast}
use Rattle.acc_parse_meaning.specs.Sizes.{size_faults}
use Rattle.acc_parse.specs.Texts.{past_limits}
use Rattle.acc_parse.proofs.Limited.{first_both, first_alone}
use Rattle.acc_parse.proofs.limits.first_passed.Goals as goal

pub returns-in-Some-Some-clause-first : goal.returns-in-Some-Some-clause-first
returns-in-Some-Some-clause-first c =
    let t = c.args.tree.now in
    let written = c.in-Some-Some.ensures.first c.requires.few in
    let collected : IsLeast is_before (size_faults t) (c.in-Some-Some.m, c.in-Some-Some.field-0-1-1) =
    rw c.in-Some-Some.is-1 at c.requires.first in
    first_both (limit_faults t) (size_faults t) (c.in-Some-Some.n, c.in-Some-Some.field-0-1-0) (
      c.in-Some-Some.m,
      c.in-Some-Some.field-0-1-1,
    ) c.min.result written collected c.min.ensures

pub returns-in-Some-None-clause-first : goal.returns-in-Some-None-clause-first
returns-in-Some-None-clause-first c =
    let t = c.args.tree.now in
    let none : size_faults t ≡ [] = rw c.in-Some-None.is-1 at c.requires.none in
    let all : past_limits t ≡ limit_faults t = ap (λ (gs : List (ℕ × Limit)). limit_faults t ++ gs) none ∙ append-nil (limit_faults t) in
    first_alone (limit_faults t) (past_limits t) (c.in-Some-None.n, c.in-Some-None.field-0-1-0)
    (c.in-Some-None.ensures.first c.requires.few) all

pub returns-in-None-Some-clause-first : goal.returns-in-None-Some-clause-first
returns-in-None-Some-clause-first c =
    let t = c.args.tree.now in
    let none : limit_faults t ≡ [] = rw c.in-None-Some.is-0 at c.first_fault.ensures.none c.requires.few in
    let collected : IsLeast is_before (size_faults t) (c.in-None-Some.m, c.in-None-Some.field-0-1-1) =
    rw c.in-None-Some.is-1 at c.requires.first in
    first_alone (size_faults t) (past_limits t) (c.in-None-Some.m, c.in-None-Some.field-0-1-1) collected
    (ap (λ (fs : List (ℕ × Limit)). fs ++ size_faults t) none)
