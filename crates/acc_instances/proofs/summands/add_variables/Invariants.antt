use Rattle.std.proofs.Common.{◌≡◌, ◌++◌, take, map}
use Rattle.acc_base.specs.declared.forms.Atom.TheVariants.{Var}
use Rattle.acc_instances.proofs.summands.add_variables.Given as goal

abbrev pub invariant-loop-variable : goal.invariant-loop-variable
invariant-loop-variable l =
    record {
      parts : l.parts.items ≡ l.fn.parts.items ++ map (λ x. (Var x.0, x.1)) (take l.variable-index l.variable-items);
      items : l.variable-items ≡ l.value.coeffs;
    }
