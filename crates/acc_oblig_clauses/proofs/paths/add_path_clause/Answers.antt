use Rattle.std.proofs.Common.{◌+◌, ap, ◌∙◌}
use Rattle.acc_oblig_assumptions.specs.ObligNaming.{own_naming}
use Rattle.acc_oblig_assumptions.specs.Settings.{step_vars, step_hyps, path_actions}
use Rattle.acc_oblig_assumptions.specs.Drafts.{path_rels}
use Rattle.acc_oblig_assumptions.specs.Seen.{seen}
use Rattle.acc_oblig_clauses.proofs.ClauseAdded.{clause_added}
use Rattle.acc_oblig_clauses.proofs.paths.add_path_clause.Goals as goal

pub returns : goal.returns
returns c =
    let s = seen c.args.s.now in
    let own = c.step_vars-own.result in
    clause_added c.add_clause.result c.args.out.now c.add_clause.new.out c.args.origin (step_hyps s) (path_rels s) (path_actions s)
    c.args.names.now (step_vars s) c.args.c.now own (own + c.len-2.result) c.in_ok-step_hyps.field-0 c.in_ok-path_rels.field-0
    c.as_slice.result.now c.in_ok-n.n c.step_vars-own.ensures (ap (λ z. own + z) c.len-2.ensures) c.in_ok-step_hyps.ensures
    c.in_ok-path_rels.ensures (c.as_slice.ensures.value ∙ c.in_ok-actions.ensures)
    (c.in_ok-n.ensures ∙ ap (own_naming c.args.names.now own) c.len.ensures) c.add_clause.ensures
