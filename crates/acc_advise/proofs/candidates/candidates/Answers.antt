use Rattle.std.proofs.Common.{◌≡◌, ◌≤◌, List, ℕ, length, sym, subst, ◌∙◌}
use Rattle.acc_base.specs.declared.bounds.TheConstants.{MOST_LOCALS}
use Rattle.std.proofs.lemmas.Result.{IfOk-weaker}
use Rattle.acc_advise.specs.Candidates.{pairs_in, candidates}
use Rattle.acc_advise.proofs.Entering.{case_held, case_place}
use Rattle.acc_advise.proofs.Pairing.{candidates_are}
use Rattle.acc_advise.proofs.candidates.candidates.Goals as goal

pub pairs_in-requires-clause-held : goal.pairs_in-requires-clause-held
pairs_in-requires-clause-held c =
    subst (λ (xs : List (List ℕ)). length xs ≤ MOST_LOCALS) (sym c.as_slice-2.ensures) (case_held c.args.case.now c.requires).x.locals

pub pairs_in-requires-clause-step : goal.pairs_in-requires-clause-step
pairs_in-requires-clause-step c =
    subst (λ (xs : List (List ℕ)). length xs ≤ MOST_LOCALS) (sym c.as_slice-3.ensures) (case_place c.args.case.now c.requires).x.locals

pub returns : goal.returns
returns c =
    let case = c.args.case.now in
    IfOk-weaker c.pairs_in.result (λ (pairs : List (ℕ × ℕ)). pairs ≡ pairs_in c.as_slice.result.now case.question c.as_slice-2.result.now
    c.as_slice-3.result.now) (λ (pairs : List (ℕ × ℕ)). pairs ≡ candidates case.d.now case.question)
    (λ pairs h. h ∙ ((λ i. pairs_in (c.as_slice.ensures i) case.question (c.as_slice-2.ensures i) (c.as_slice-3.ensures i))
    ∙ candidates_are case c.requires)) c.pairs_in.ensures
