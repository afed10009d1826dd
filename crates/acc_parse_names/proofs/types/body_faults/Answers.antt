use Rattle.std.proofs.Common.{◌++◌, ◌∙◌, map, ap}
use Rattle.acc_parse_names.specs.Scopes.{Scope}
use Rattle.acc_parse_names.specs.Faults.{clause_fault}
use Rattle.acc_parse_names.proofs.TypeParts.{type_scope_is, body_parts}
use Rattle.acc_parse_names.proofs.types.body_faults.Goals as goal

pub returns : goal.returns
returns c =
    let t = c.args.tree.now in
    let tables = c.args.tables.now.trees.now in
    let locals = c.args.members.now.locals in
    let scope : Scope = record { tables = tables; variables = locals ++ c.new-own.result } in
    let f0 = c.args.faults.now.items in
    let f1 = c.clauses_faults.new.faults.items in
    let ensured = c.in_ok-clauses_faults.ensures ∙ ap (λ z. f0 ++ map (clause_fault scope) z) c.as_slice.ensures in
    let repaired = c.in_ok-clauses_faults-2.ensures ∙ ap (λ z. f1 ++ map (clause_fault scope) z) c.as_slice-2.ensures in
    body_parts tables t scope c.args.members.now.points f0 f1 c.clauses_faults-2.new.faults.items c.points_faults.new.faults.items
    (type_scope_is tables t locals c.new-own.result (ap (λ m. m.locals) c.requires) c.new-own.ensures) (ap (λ m. m.points) c.requires)
    ensured repaired c.in_ok-points_faults.ensures
