-- What a command without a journal means.
use Rattle.std.proofs.Common.{◌≡◌, ℕ, false, List, refl, sym, subst}
use Rattle.acc_commands_journals.specs.Command.{Command}
use Rattle.acc_journalled.specs.Tellings.{Telling}
use Rattle.acc_commands_journals.specs.Text.{said_in}
use Rattle.acc_commands_journals.specs.Disks.{Seen}
use Rattle.acc_commands_journals.specs.Words.{is_journalled}
use Rattle.acc_commands.specs.Means.{MeansOfFiles, MeansBy, Means}

pub means_without : (c : Command) (points files : List (List ℕ)) (disk : Seen) (t : Telling) → is_journalled c ≡ false → t.settled ≡ 0
    → MeansOfFiles c points files (said_in t) → Means c points files disk disk t
means_without c points files disk t is settled h = subst (λ over. MeansBy over c points files disk disk t) (sym is) (settled, refl, h)
