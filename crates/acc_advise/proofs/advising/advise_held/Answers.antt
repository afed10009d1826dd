use Rattle.std.proofs.Common.{ap, sym, ◌∙◌, refl}
use Rattle.std.specs.Prelude.{option_map}
use Rattle.acc_oblig_places.specs.SeenPlaces.{point_place}
use Rattle.acc_advise.proofs.Nothing.{free_without_step}
use Rattle.acc_advise.proofs.advising.advise_held.Goals as goal

pub advise_case-requires-clause-case : goal.advise_case-requires-clause-case
advise_case-requires-clause-case g c =
    record {
      formed = c.requires.formed;
      held = c.requires.held;
      place = sym c.place_at.ensures ∙ ap (option_map point_place) c.in-Some.is;
      side = refl;
      step = c.step-step.ensures;
    }

pub returns-in-None : goal.returns-in-None
returns-in-None g c =
    free_without_step c.args.d.now c.args.question c.place_at.result c.new.result c.in-None.is c.place_at.ensures c.new.ensures
