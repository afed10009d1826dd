use Rattle.std.proofs.Common.{◌≡◌, sym, ap, ◌∙◌, true, false}
use Rattle.std.specs.List.{list_any}
use Rattle.acc_table.proofs.Formed.{leads_within, point_within}
use Rattle.acc_lock_index.specs.Roles.{names_undo}
use Rattle.acc_lock_index.proofs.roles.reached_from.Goals as goal

pub undo_points-requires : goal.undo_points-requires
undo_points-requires c =
    let d = c.args.d.now in
    let at = c.args.at in
    record {
      targets = leads_within d c.requires.formed at.ty;
      start = point_within d c.requires.formed at.ty at.point c.requires.point;
    }

pub returns-then-not-some_names : goal.returns-then-not-some_names
returns-then-not-some_names c = λ e.
    let named = c.some_names.ensures ∙ ap (list_any (names_undo c.args.at.ty)) c.as_slice.ensures in
    let no : true ≡ false = sym e ∙ (sym named ∙ c.if-not-some_names.true) in
    cc
