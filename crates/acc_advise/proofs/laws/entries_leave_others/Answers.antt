use Rattle.std.specs.Prelude.{filter, not}
use Rattle.acc_oblig.specs.Spares.{is_for}
use Rattle.acc_advise.specs.TriedDesigns.{keyed, put_entry}
use Rattle.acc_advise.proofs.Leaving.{put_agrees, taken_agrees, agrees_back, leaves}
use Rattle.acc_advise.proofs.laws.entries_leave_others.Goals as goal

pub returns : goal.returns
returns c d q pairs =
    let put = put_entry (keyed q pairs) d.entries in
    let taken = filter (λ e. not (is_for q.held q.step q.side e)) d.entries in
    record {
      none_new = leaves d q put d.entries (put_agrees q pairs d.entries);
      none_gone = leaves d q d.entries put (agrees_back q put d.entries (put_agrees q pairs d.entries));
      none_new_without = leaves d q taken d.entries (taken_agrees q d.entries);
      none_gone_without = leaves d q d.entries taken (agrees_back q taken d.entries (taken_agrees q d.entries));
    }
