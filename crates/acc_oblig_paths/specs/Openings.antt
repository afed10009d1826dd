-- What an entry leaves to be shown.
use Rattle.std.specs.Prelude.{ℕ, true, if◌then◌else◌, List, [], ◌∷◌, Option, Some, None, slice_index_or}
use Rattle.std.specs.List.{list_any}
use Rattle.acc_base.specs.declared.forms.Rel.{Rel}
use Rattle.acc_base.specs.declared.designs.Side.{Side}
use Rattle.acc_base.specs.declared.designs.Side.TheVariants.{Next, Undo}
use Rattle.acc_base.specs.declared.designs.Entry.{Entry}
use Rattle.acc_oblig.specs.Settings.{Setting}
use Rattle.acc_oblig.specs.Spares.{pairs_differ}

-- the variable by which an entry judges a local of the step, where the locals have these after its reads
abbrev pub judged_among : List ℕ → Side → ℕ → ℕ
judged_among last Next y = slice_index_or last y 0
judged_among last Undo y = y

-- nothing where the entry has no pairs, else what happens where a pair differs; and all where there is no entry
abbrev pub open_by : Setting → Side → Option Entry → Option (List Rel)
open_by s side None = Some []
open_by s side (Some e) = if list_any (λ p. true) e.pairs then Some (pairs_differ s side e.pairs ∷ []) else None
