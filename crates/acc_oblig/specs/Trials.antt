-- Small designs whose obligations are listed by hand.
use Rattle.std.specs.Prelude.{ℕ, List, [], ◌∷◌, map, pos, negsuc}
use Rattle.acc_base.specs.declared.forms.Atom.TheVariants as atom
use Rattle.acc_base.specs.declared.forms.Clause.{Clause}
use Rattle.acc_base.specs.declared.designs.At.{At}
use Rattle.acc_base.specs.declared.designs.Entry.{Entry}
use Rattle.acc_base.specs.declared.designs.Side.TheVariants.{Next}
use Rattle.acc_base.specs.declared.designs.TxType.{TxType}
use Rattle.acc_base.specs.declared.designs.Design.{Design}
use Rattle.acc_base.specs.declared.sequents.Origin.{Origin}
use Rattle.acc_base.specs.Cells.{var_plus, make, bump_start, bump_mid, bump, cells}
use Rattle.acc_base.specs.Forms.{form, is_zero}
use Rattle.acc_oblig.specs.Relations.{times, variable, plain, never}
use Rattle.acc_oblig.specs.Drafts.{Draft}

abbrev pub origins_of : List Draft → List Origin
origins_of xs = map (λ (x : Draft). x.sequent.origin) xs

-- 1 is at most 0, always
abbrev pub never_design : Design
never_design = record { tables = []; always = plain [] never ∷ []; types = []; entries = []; hints = [] }

-- the cell is there, and holds v
abbrev pub cell_there : Clause
cell_there = plain [] (is_zero (form (times (pos 1) (atom.Has 0 (var_plus 0 (pos 0) ∷ [])) ∷ []) (negsuc 0)))

abbrev pub cell_is : Clause
cell_is = plain [] (is_zero (form (times (pos 1) (atom.Col 0 (var_plus 0 (pos 0) ∷ []) 0) ∷ variable (negsuc 0) 2 ∷ []) (pos 0)))

abbrev pub held_bump : TxType
held_bump = record bump { points = bump_start ∷ record bump_mid { clauses = cell_there ∷ cell_is ∷ [] } ∷ []; posts = cell_there ∷ [] }

abbrev pub mid : At
mid = record { ty = 1; point = 1 }

-- counters of cells, with these pairs of an entry for a step between the counter's, if there is one
abbrev pub counters : List Entry → Design
counters entries = record cells { types = make ∷ held_bump ∷ []; entries = entries }

abbrev pub entry_of : List (ℕ × ℕ) → Entry
entry_of pairs = record { held = mid; step = mid; side = Next; pairs = pairs }
