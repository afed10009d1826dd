-- A setting as the definitions see it, and what bounds its parts.
use Rattle.std.specs.Prelude.{◌≤◌, length, All}
use Rattle.acc_base.specs.declared.bounds.TheConstants.{MOST_LOCALS, MOST_READS}
use Rattle.acc_oblig.specs.Settings as definitions
use Rattle.acc_oblig_assumptions.specs.declared.settings.Setting.{Setting}
use Rattle.acc_oblig_places.specs.Rooms.{HasFewVars}

abbrev pub seen : Setting → definitions.Setting
seen s =
    record {
      always = s.always.now;
      clauses = s.clauses.now;
      locals = s.locals;
      reads = s.reads.now;
      earlier = s.earlier.now;
      guard = s.guard.now;
      actions = s.actions.now;
    }

-- few locals and reads, and clauses with few variables
pub record HasRoom (s : Setting) : Type 0 where
  pub locals : s.locals ≤ MOST_LOCALS
  pub reads : length s.reads.now ≤ MOST_READS
  pub always : All HasFewVars s.always.now
  pub clauses : All HasFewVars s.clauses.now
