-- What a decision shows: multipliers that are accepted, or a point at which the relations hold.
use Rattle.std.proofs.Common.{◌≡◌, Bool, true, false, List, refl, ap, ◌∙◌, subst}
use Rattle.std.proofs.Common.{if◌then◌else◌, Result, Ok, Err}
use Rattle.std.specs.Prelude.{IfOk, IfErr, ◌||◌}
use Rattle.acc_base.specs.declared.forms.Rel.{Rel}
use Rattle.acc_farkas.specs.Sums.{is_refuting_wide}
use Rattle.acc_farkas.specs.Solutions.{HaveNoSolution}
use Rattle.acc_farkas.proofs.Worths.{refuted as have_no_solution}
use Rattle.acc_rows.specs.declared.stops.Stop.TheVariants as stop
use Rattle.acc_rows.specs.declared.rows.Row.{Row}
use Rattle.acc_base.specs.Computing.{StopsBy, Answers}
use Rattle.acc_rows.specs.Answers.{tells, Computation}
use Rattle.acc_elim_points.specs.Points.{Point}
use Rattle.acc_elim_points.specs.Searches.{searched}
use Rattle.acc_elim_points.proofs.Refuting.{refutes}
use Rattle.acc_elim_solved.specs.Meetings.{Meets}
use Rattle.acc_elim_solved.proofs.Readings.{searched_is_met}
use Rattle.acc_elim_decisions.specs.declared.verdicts.ElimError.{ElimError}
use Rattle.acc_elim_decisions.specs.declared.verdicts.ElimError.TheVariants.{Wide, Many, Memory}
use Rattle.acc_elim_decisions.specs.declared.verdicts.Verdict.{Verdict}
use Rattle.acc_elim_decisions.specs.declared.verdicts.Verdict.TheVariants.{Refuted, Solved}
use Rattle.acc_elim_decisions.specs.Causes.{tells as error_tells, IfRefuted, IfSolved}
use Rattle.acc_elim_decisions.specs.Decisions.{multipliers, are_multipliers_wide, ended, decision}
use Rattle.acc_elim_decisions.specs.Evidence.{Refute}
use Rattle.acc_elim_decisions.proofs.Accepted.{ready, evidence}

-- ---- what a decision shows

shown_by : (rels : List Rel) (r : Row) → searched rels ≡ Err (stop.Refuted r) → (wide large : Bool)
    → is_refuting_wide rels (multipliers r) ≡ large → (v : Verdict)
    → (if wide || large then Err Wide else Ok (Refuted (record { of = multipliers r }))) ≡ Ok v → IfRefuted (Ok v) (Refute rels)
shown_by rels r e true large is v h = absurd (cc)
shown_by rels r e false true is v h = absurd (cc)
shown_by rels r e false false is v h =
    let same : Refuted (record { of = multipliers r }) ≡ v = cc in
    subst (λ w. IfRefuted (Ok w) (Refute rels)) same (evidence rels (multipliers r) (ready rels r (refutes rels r e)) is)

shown_at : (rels : List Rel) (o : Computation Point) → searched rels ≡ o → (v : Verdict) → ended rels o ≡ Ok v
    → IfRefuted (Ok v) (Refute rels)
shown_at rels (Ok point) e v h =
    let same : Solved point ≡ v = cc in
    subst (λ w. IfRefuted (Ok w) (Refute rels)) same tt
shown_at rels (Err (stop.Refuted r)) e v h =
    shown_by rels r e (are_multipliers_wide r) (is_refuting_wide rels (multipliers r)) refl v h
shown_at rels (Err stop.Wide) e v h = absurd (cc)
shown_at rels (Err stop.Many) e v h = absurd (cc)
shown_at rels (Err stop.Memory) e v h = absurd (cc)

-- an answer that refutes has multipliers that are accepted
pub refuted_is_accepted : (rels : List Rel) (o : Result Verdict ElimError) → IfOk o (λ v. decision rels ≡ Ok v) → IfRefuted o (Refute rels)
refuted_is_accepted rels (Ok v) h = shown_at rels (searched rels) refl v h
refuted_is_accepted rels (Err e) h = tt

-- and the relations have no solution
pub refuted_is_unsolvable : (rels : List Rel) (o : Result Verdict ElimError) → IfRefuted o (Refute rels)
    → IfRefuted o (λ _. HaveNoSolution rels)
refuted_is_unsolvable rels (Ok (Refuted ms)) h = have_no_solution rels ms.of h.accepted
refuted_is_unsolvable rels (Ok (Solved point)) h = tt
refuted_is_unsolvable rels (Err e) h = tt

met_at : (rels : List Rel) (o : Computation Point) → searched rels ≡ o → (v : Verdict) → ended rels o ≡ Ok v → IfSolved (Ok v) (Meets rels)
met_at rels (Ok point) e v h =
    let same : Solved point ≡ v = cc in
    subst (λ w. IfSolved (Ok w) (Meets rels)) same (searched_is_met rels point e)
met_at rels (Err (stop.Refuted r)) e v h = met_by (are_multipliers_wide r || is_refuting_wide rels (multipliers r)) h
  where
    met_by : (b : Bool) → (if b then Err Wide else Ok (Refuted (record { of = multipliers r }))) ≡ Ok v → IfSolved (Ok v) (Meets rels)
    met_by true h = absurd (cc)
    met_by false h =
        let same : Refuted (record { of = multipliers r }) ≡ v = cc in
        subst (λ w. IfSolved (Ok w) (Meets rels)) same tt
met_at rels (Err stop.Wide) e v h = absurd (cc)
met_at rels (Err stop.Many) e v h = absurd (cc)
met_at rels (Err stop.Memory) e v h = absurd (cc)

-- an answer that solves has a point at which the relations hold
pub solved_is_met : (rels : List Rel) (o : Result Verdict ElimError) → IfOk o (λ v. decision rels ≡ Ok v) → IfSolved o (Meets rels)
solved_is_met rels (Ok v) h = met_at rels (searched rels) refl v h
solved_is_met rels (Err e) h = tt

-- ---- an answer of the elimination's end is that of the decision

pub told : (rels : List Rel) (end : Computation Point) (o : Result Verdict ElimError) → Answers tells end (searched rels)
    → IfOk o (λ v. ended rels end ≡ Ok v) → IfOk o (λ v. decision rels ≡ Ok v)
told rels (Ok point) (Ok v) e h = ap (ended rels) e ∙ h
told rels (Err (stop.Refuted r)) (Ok v) e h = ap (ended rels) e ∙ h
told rels (Err stop.Wide) (Ok v) e h = ap (ended rels) e ∙ h
told rels (Err stop.Many) (Ok v) e h = ap (ended rels) e ∙ h
told rels (Err stop.Memory) (Ok v) e h = absurd (cc)
told rels end (Err d) e h = tt

stopped_by : (d : ElimError) (x y : Result Verdict ElimError) → x ≡ y → StopsBy (error_tells d) d y → StopsBy (error_tells d) d x
stopped_by Wide x y e h = e ∙ h
stopped_by Many x y e h = e ∙ h
stopped_by Memory x y e h = tt

pub told_error : (rels : List Rel) (end : Computation Point) (o : Result Verdict ElimError) → Answers tells end (searched rels)
    → IfErr o (λ e. StopsBy (error_tells e) e (ended rels end)) → IfErr o (λ e. StopsBy (error_tells e) e (decision rels))
told_error rels end (Ok v) e h = tt
told_error rels (Ok point) (Err d) e h = stopped_by d (decision rels) (ended rels (Ok point)) (ap (ended rels) e) h
told_error rels (Err (stop.Refuted r)) (Err d) e h =
    stopped_by d (decision rels) (ended rels (Err (stop.Refuted r))) (ap (ended rels) e) h
told_error rels (Err stop.Wide) (Err d) e h = stopped_by d (decision rels) (ended rels (Err stop.Wide)) (ap (ended rels) e) h
told_error rels (Err stop.Many) (Err d) e h = stopped_by d (decision rels) (ended rels (Err stop.Many)) (ap (ended rels) e) h
told_error rels (Err stop.Memory) (Err Wide) e h = absurd (cc)
told_error rels (Err stop.Memory) (Err Many) e h = absurd (cc)
told_error rels (Err stop.Memory) (Err Memory) e h = tt
