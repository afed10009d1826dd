use Rattle.std.proofs.Common.{ap, sym, ◌∙◌}
use Rattle.std.specs.Prelude.{option_map}
use Rattle.acc_oblig_places.specs.SeenPlaces.{point_place}
use Rattle.acc_advise.specs.Advices.{asked}
use Rattle.acc_advise.proofs.Nothing.{free_without_held}
use Rattle.acc_advise.proofs.advising.advise.Goals as goal

pub advise_held-requires-clause-held : goal.advise_held-requires-clause-held
advise_held-requires-clause-held g c = sym c.place_at.ensures ∙ ap (option_map point_place) c.in-Some.is

pub returns-in-None : goal.returns-in-None
returns-in-None g c =
    free_without_held c.args.d.now (asked c.args.held c.args.step c.args.side) c.place_at.result c.new.result c.in-None.is c.place_at.ensures
    c.new.ensures
