use Rattle.std.proofs.Common.{[], ◌∷◌, refl}
use Rattle.std.specs.Fmt.{digits}
use Rattle.acc_base.specs.Cells.{cells, three_calls}
use Rattle.acc_base.specs.Plays.{opening}
use Rattle.acc_base.proofs.PlainPlays.{run, run_plays, or_none}
use Rattle.acc_base.proofs.laws.a_refusal_is_compensated.Goals as goal

pub returns : goal.returns
unfolding digits
returns c =
    let found = or_none (run cells three_calls (opening three_calls) (2 ∷ 2 ∷ 2 ∷ [])) in
    record {
      mentions = found;
      is_played = run_plays cells three_calls (2 ∷ 2 ∷ 2 ∷ []) (opening three_calls) found refl;
      text_is = refl;
      rows_are = refl;
    }
