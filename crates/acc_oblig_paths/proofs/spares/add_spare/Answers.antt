use Rattle.std.proofs.Common.{◌+◌, length, ap, ◌∙◌}
use Rattle.acc_oblig.specs.Naming.{own_naming}
use Rattle.acc_oblig.specs.Settings.{step_vars}
use Rattle.acc_oblig.specs.Spares.{held_names}
use Rattle.acc_oblig_clauses.specs.Seen.{seen}
use Rattle.acc_oblig_places.specs.SeenPlaces.{point_place}
use Rattle.acc_oblig_paths.proofs.Helds.{spare_added}
use Rattle.acc_oblig_paths.proofs.spares.add_spare.Goals as goal

pub returns : goal.returns
returns c =
    let s = seen c.args.s.now in
    let locals = length c.args.held.now.ty.now.locals in
    let own = c.step_vars.result + (c.len-locals.result + 1) in
    let vars = length c.args.c.now.vars in
    spare_added c.add_clause.result c.args.out.now c.add_clause.new.out c.args.origin s
    (point_place c.args.held.now) c.args.pairs c.args.c.now
    own (own + c.len-2.result) c.in_ok-ordered.ordered c.as_slice.result.now c.in_ok-n.n
    (ap (λ z. z + (c.len-locals.result + 1)) c.step_vars.ensures ∙ ap (λ z. step_vars s + (z + 1)) c.len-locals.ensures)
    (ap (λ z. own + z) c.len-2.ensures) c.in_ok-ordered.ensures (c.as_slice.ensures.value ∙ c.in_ok-actions.ensures)
    (c.in_ok-n.ensures ∙ (ap (λ z. own_naming z own c.len.result) (c.in_ok-names.ensures ∙ ap (held_names s) c.len-locals.ensures)
    ∙ ap (own_naming (held_names s locals) own) c.len.ensures)) c.add_clause.ensures
