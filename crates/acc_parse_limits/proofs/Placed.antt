-- What a walk keeps of marks is what is best of the faults that they stand for.
use Rattle.std.proofs.Common.{◌≡◌, ℕ, ◌+◌, ◌-◌, ◌^◌, ◌<◌, Bool, true, false, ◌&&◌, List, [], ◌∷◌, Option, None, if◌then◌else◌, cond, nat_lt}
use Rattle.std.proofs.Common.{nat_le, fold, map, refl, ap, arith, ◌∙◌}
use Rattle.std.proofs.lemmas.Bool.Decides.{nat_tests}
use Rattle.acc_parse_syntax.specs.declared.trees.DesignTree.{DesignTree}
use Rattle.acc_parse_statements.specs.Counts.{statements_of}
use Rattle.acc_base.specs.declared.limits.Limit.{Limit}
use Rattle.acc_parse_limits.specs.declared.walks.Walk.{Walk}
use Rattle.acc_parse_limits.specs.Numbers.{is_lower, is_before}
use Rattle.acc_parse_limits.specs.Marks.{Mark, Past, End}
use Rattle.acc_parse_limits.specs.Statements.{design_marks}
use Rattle.acc_parse_limits.specs.Faults.{placed, limits_on, limit_faults}
use Rattle.acc_parse_limits.proofs.WordEndings.{endings}
use Rattle.acc_parse_limits.proofs.Endings.{design_endings}
use Rattle.acc_parse_limits.specs.Walks.{noted, after}
use Rattle.acc_base.specs.Leasts.{better}

-- a statement's end counts where there is a number behind the statement's
noted_end : (w : Walk) → w.statement + 1 < 2 ^ 64 → noted w End ≡ record w { statement = w.statement + 1 }
unfolding noted
noted_end w h =
    let e : nat_lt w.statement (2 ^ 64 - 1) ≡ true = grind (arith, nat_tests) in
    rw e refl

-- the first fault
pub first_after : (w : Walk) (ms : List Mark) → w.statement + endings ms < 2 ^ 64 →
    (after w ms).first ≡ fold (better is_before) w.first (placed w.statement ms)
unfolding noted
first_after w [] h = refl
first_after w (Past l ∷ ms) h = first_after (noted w (Past l)) ms h
first_after w (End ∷ ms) h =
    ap (λ (v : Walk). (after v ms).first) (noted_end w (omega arith)) ∙ first_after (record w { statement = w.statement + 1 }) ms
    (omega arith)

kept_if : (b : Bool) (lowest : Option Limit) (n : ℕ) (l : Limit) (rest : List (ℕ × Limit)) →
    fold (better is_lower) (if b then better is_lower lowest l else lowest) (map (λ f. f.1) rest) ≡ fold (better is_lower) lowest
    (map (λ f. f.1) (cond b ((n, l) ∷ rest) rest))
kept_if true lowest n l rest = refl
kept_if false lowest n l rest = refl

-- the lowest limit
pub lowest_after : (w : Walk) (ms : List Mark) → w.statement + endings ms < 2 ^ 64 →
    (after w ms).lowest ≡ fold (better is_lower) w.lowest (limits_on w.from w.to (placed w.statement ms))
unfolding noted
lowest_after w [] h = refl
lowest_after w (Past l ∷ ms) h =
    lowest_after (noted w (Past l)) ms h ∙ kept_if (nat_le w.from w.statement && nat_lt w.statement w.to) w.lowest w.statement l _
lowest_after w (End ∷ ms) h =
    ap (λ (v : Walk). (after v ms).lowest) (noted_end w (omega arith)) ∙ lowest_after (record w { statement = w.statement + 1 }) ms
    (omega arith)

-- a walk at the first statement
abbrev pub start : ℕ → ℕ → Walk
start from to = record { statement = 0; first = None; from = from; to = to; lowest = None }

-- the first fault of a design
pub first_of_design : (from to : ℕ) (d : DesignTree) (w v : Walk) → statements_of d < 2 ^ 64 → w ≡ start from to →
    v ≡ after w (design_marks d) →
    v.first ≡ fold (better is_before) None (limit_faults d)
unfolding limit_faults
first_of_design from to d w v few begun ended =
    ap (λ (u : Walk). u.first) (ended ∙ ap (λ (u : Walk). after u (design_marks d)) begun) ∙ first_after (start from to) (design_marks d)
    (omega (arith, design_endings d))

-- the lowest limit on some statements of a design
pub lowest_of_design : (from to : ℕ) (d : DesignTree) (w v : Walk) → statements_of d < 2 ^ 64 → w ≡ start from to →
    v ≡ after w (design_marks d) →
    v.lowest ≡ fold (better is_lower) None (limits_on from to (limit_faults d))
unfolding limit_faults
lowest_of_design from to d w v few begun ended =
    ap (λ (u : Walk). u.lowest) (ended ∙ ap (λ (u : Walk). after u (design_marks d)) begun) ∙ lowest_after (start from to) (design_marks d)
    (omega (arith, design_endings d))
