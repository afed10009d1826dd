use Rattle.std.proofs.Common.{◌≡◌, true, sym, ◌∙◌, rules}
use Rattle.std.specs.Prelude.{◌&&◌, Some}
use Rattle.acc_base.specs.PrivateRows.{type_puts}
use Rattle.acc_oblig.specs.PointRules.{is_end}
use Rattle.acc_oblig_places.specs.SeenPlaces.{path_place}
use Rattle.acc_oblig_points.specs.Clears.{path_clears}
use Rattle.acc_oblig_points.proofs.Assembled.{chosen_added}
use Rattle.acc_oblig_points.proofs.clears.add_path_clear.Goals as goal

pub returns : goal.returns
returns c =
    let q = path_place c.args.q.now in
    let table = c.args.table.now in
    let chosen : c.is_cleared.result ≡ true = search rules in
    chosen_added c.add_clear.result c.args.out.now c.add_clear.new.out (table.own && type_puts c.args.t (Some q.x) && is_end q.path.target)
    (path_clears c.args.d.now c.args.t table.width q) (sym c.is_cleared.ensures ∙ chosen) c.add_clear.ensures
