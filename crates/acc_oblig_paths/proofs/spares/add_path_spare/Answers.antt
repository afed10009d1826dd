use Rattle.std.proofs.Common.{List, subst}
use Rattle.acc_base.specs.declared.designs.Entry.{Entry}
use Rattle.acc_oblig.specs.Spares.{spare_at}
use Rattle.acc_oblig_goals.specs.Causes.{Adds}
use Rattle.acc_oblig_places.specs.ManyEntries.{with_entries}
use Rattle.acc_oblig_places.specs.SeenPlaces.{path_place}
use Rattle.acc_oblig_places.specs.DesignPlaces.{at_path_place}
use Rattle.acc_oblig_paths.proofs.spares.add_path_spare.Goals as goal

pub returns : goal.returns
returns c =
    let held = c.args.held.now in
    let r = c.add_spare_among.result in
    subst (λ (es : List Entry). Adds r c.args.out.now c.add_spare_among.new.out
    (at_path_place (spare_at (with_entries c.args.d.now es) held.at held.ty.now held.point.now c.args.k c.args.c.now)
    (path_place c.args.q.now))) c.as_slice.ensures c.add_spare_among.ensures
