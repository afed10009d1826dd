use Rattle.std.proofs.Common.{◌∙◌, subst, sym}
use Rattle.std.specs.List.{AllByRecursion}
use Rattle.acc_oblig_places.specs.Rooms.{HasFewLocals}
use Rattle.acc_advise.proofs.Pairing.{candidates_small}
use Rattle.acc_advise.proofs.Nothing.{keyed_is_advised}
use Rattle.acc_advise.proofs.advising.keyed_advice.Goals as goal

pub settled-requires-clause-few : goal.settled-requires-clause-few
settled-requires-clause-few g c =
    subst (AllByRecursion HasFewLocals) (sym (c.as_slice.ensures ∙ c.in_ok-pairs.ensures)) (candidates_small c.args.case.now c.requires.case)

pub returns : goal.returns
returns g c =
    keyed_is_advised c.args.case.now c.as_slice.result.now c.in_ok-grown.grown c.in_ok-grown.beyond
    (c.as_slice.ensures ∙ c.in_ok-pairs.ensures) c.requires.narrow c.requires.needed c.in_ok-grown.ensures
