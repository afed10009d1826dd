-- Forms and relations, as they are put together.
use Rattle.std.specs.Prelude.{true, false, List, ℤ}
use Rattle.acc_base.specs.declared.forms.Form.{Form}
use Rattle.acc_base.specs.declared.forms.Rel.{Rel}
use Rattle.acc_base.specs.Sums.{Term}

abbrev pub form : List Term → ℤ → Form
form terms constant = record { terms = terms; constant = constant }

-- the form is at most 0
abbrev pub at_most : Form → Rel
at_most f = record { form = f; equal = false }

-- the form is 0
abbrev pub is_zero : Form → Rel
is_zero f = record { form = f; equal = true }
