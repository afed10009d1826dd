use Rattle.std.proofs.Common.{[], ◌∷◌, refl}
use Rattle.std.specs.Fmt.{digits}
use Rattle.acc_base.specs.Cells.{cells, three_calls}
use Rattle.acc_base.specs.Plays.{opening}
use Rattle.acc_base.proofs.PlainPlays.{run, run_plays, or_none}
use Rattle.acc_base.proofs.laws.an_update_is_lost.Goals as goal

pub returns : goal.returns
unfolding digits
returns c =
    let found = or_none (run cells three_calls (opening three_calls) (1 ∷ 2 ∷ 3 ∷ 2 ∷ 3 ∷ [])) in
    record {
      mentions = found;
      is_played = run_plays cells three_calls (1 ∷ 2 ∷ 3 ∷ 2 ∷ 3 ∷ []) (opening three_calls) found refl;
      text_is = refl;
      rows_are = refl;
    }
