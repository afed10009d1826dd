-- What points and types stand for.
use Rattle.std.specs.Prelude.{ℕ, true, List, [], length, map, Option, Some, None, pos}
use Rattle.acc_base.specs.declared.forms.Lin.{Lin}
use Rattle.acc_base.specs.declared.designs.Point.{Point}
use Rattle.acc_base.specs.declared.designs.TxType.{TxType}
use Rattle.acc_parse_syntax.specs.declared.trees.Sum.{Sum}
use Rattle.acc_parse_syntax.specs.declared.trees.TableTree.{TableTree}
use Rattle.acc_parse_syntax.specs.declared.trees.PointTree.{PointTree}
use Rattle.acc_parse_syntax.specs.declared.trees.TypeTree.{TypeTree}
use Rattle.acc_parse_names.specs.Names.{listed_or_none}
use Rattle.acc_parse_names.specs.Scopes.{locals_of, points_in, point_names}
use Rattle.acc_parse_clauses.specs.Scopes.{Variables, Scope, fitted, number_of}
use Rattle.acc_parse_clauses.specs.Values.{lin_of}
use Rattle.acc_parse_clauses.specs.Forms.{clause_of}
use Rattle.acc_parse_meaning.specs.Steps.{step_of}

abbrev pub zero_lin : Lin
zero_lin = record { coeffs = []; constant = pos 0 }

-- a variant that is left out is 0
abbrev pub variant_of : Variables → Option Sum → Lin
variant_of v None = zero_lin
variant_of v (Some s) = lin_of v s

abbrev pub point_of : Scope → List (List ℕ) → PointTree → Point
point_of s points p = record {
  name = p.name;
  clauses = map (clause_of s) p.holds;
  next = step_of s points p.next;
  undo = step_of s points p.undo;
  variant = variant_of s.variables p.variant;
}

-- the variables within a type: its locals, its parameters among them
abbrev pub type_variables : TypeTree → Variables
type_variables t = record { in_type = true; locals = locals_of t; own = [] }

abbrev pub type_scope : List TableTree → TypeTree → Scope
type_scope tables t = record { tables = tables; variables = type_variables t }

-- the locals that are returned, by number
abbrev pub returned_of : TypeTree → List ℕ
returned_of t = map (λ (x : List ℕ). number_of x (locals_of t)) (listed_or_none t.returns)

abbrev pub type_of : List TableTree → TypeTree → TxType
type_of tables t = record {
  name = t.name;
  params = fitted (length t.params);
  locals = locals_of t;
  points = map (point_of (type_scope tables t) (point_names t)) (points_in t);
  posts = map (clause_of (type_scope tables t)) t.ensured;
  repairs = map (clause_of (type_scope tables t)) t.repaired;
  returns = returned_of t;
  limit = fitted t.limit;
}
