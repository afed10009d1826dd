-- What the obligations of a held clause have in common.
use Rattle.std.specs.Prelude.{ℕ, ◌+◌, ◌++◌, List, length}
use Rattle.acc_base.specs.declared.forms.Rel.{Rel}
use Rattle.acc_base.specs.declared.sequents.Origin.{Origin}
use Rattle.acc_oblig.specs.Naming.{own_clauses}
use Rattle.acc_oblig.specs.Relations.{is_less}
use Rattle.acc_oblig.specs.Settings.{Setting, step_vars, frame_bounds, step_bounds, step_rels, step_hyps}
use Rattle.acc_oblig.specs.Spares.{held_names}
use Rattle.acc_oblig_places.specs.DesignPlaces.{PointPlace}
use Rattle.acc_oblig_paths.specs.declared.orders.Ordered.{Ordered}

-- the number of a held transaction with so many locals is the variable behind these
abbrev pub held_number : Setting → ℕ → ℕ
held_number s held = step_vars s + held

-- in obligations of so many variables, where pairs of an entry are as these relations say
abbrev pub ordered_of : Origin → Setting → PointPlace → ℕ → List Rel → Ordered
ordered_of origin s q vars pairs =
    let held = length q.x.locals in
    let bounds = step_bounds s (length s.reads) ++ frame_bounds (step_vars s) held (held_number s held) in
    record {
      origin = origin;
      vars = vars;
      hyps = step_hyps s vars ++ own_clauses (held_names s held) vars q.p.clauses;
      first = bounds ++ step_rels s vars;
      lower = is_less (held_number s held) s.locals;
      higher = is_less s.locals (held_number s held);
      rest = pairs;
    }
