use Rattle.std.proofs.Common.{ap, sym, subst, ◌∙◌, ◌≤◌, length}
use Rattle.acc_base.specs.Effects.{first_from}
use Rattle.acc_base.specs.Locks.{ClashesEither}
use Rattle.acc_table.specs.Entries.{either_clashes}
use Rattle.acc_table.proofs.Telling.{tells, either_to, either_from}
use Rattle.acc_table.proofs.Formed.{few_entries, leads_within, point_within}
use Rattle.acc_table.proofs.entries.first_clash.Goals as goal

pub returns : goal.returns
returns c =
    let d = c.args.d.now in
    let a = c.args.a in
    let b = c.args.b in
    let a_locals = c.args.a_locals.now in
    let b_locals = c.args.b_locals.now in
    let p = c.undo_points-a_points.result in
    let q = c.undo_points-b_points.result in
    let p_closed = c.undo_points-a_points.ensures in
    let q_closed = c.undo_points-b_points.ensures in
    let test = either_clashes a.ty p a_locals b.ty q b_locals in
    tells (ClashesEither d a a_locals b b_locals) d.entries test
    (either_to d a p a_locals b q b_locals p_closed q_closed)
    (either_from d a p a_locals b q b_locals p_closed q_closed)
    c.first_clashing.result
    (sym (c.first_clashing.ensures ∙ ap (first_from test 1) c.as_slice.ensures))

pub first_clashing-requires : goal.first_clashing-requires
first_clashing-requires c =
    record { few = subst (λ es. length es ≤ 1024) (sym c.as_slice.ensures) (few_entries c.args.d.now c.requires.formed) }

pub undo_points-a_points-requires : goal.undo_points-a_points-requires
undo_points-a_points-requires c =
    record {
      targets = leads_within c.args.d.now c.requires.formed c.args.a.ty;
      start = point_within c.args.d.now c.requires.formed c.args.a.ty c.args.a.point c.requires.a_point;
    }

pub undo_points-b_points-requires : goal.undo_points-b_points-requires
undo_points-b_points-requires c =
    record {
      targets = leads_within c.args.d.now c.requires.formed c.args.b.ty;
      start = point_within c.args.d.now c.requires.formed c.args.b.ty c.args.b.point c.requires.b_point;
    }
