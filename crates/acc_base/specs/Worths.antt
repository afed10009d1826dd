-- What forms are worth: a small one that the definitions are tried on, and the law of sums.
use Rattle.std.specs.Prelude.{◌≡◌, List, [], ◌∷◌, ℤ, pos, negsuc, ◌+ℤ◌, ◌*ℤ◌}
use Rattle.acc_base.specs.declared.forms.Lin.{Lin}
use Rattle.acc_base.specs.declared.forms.Atom.{Atom}
use Rattle.acc_base.specs.declared.forms.Atom.TheVariants as atom
use Rattle.acc_base.specs.declared.forms.Unknown.{Unknown}
use Rattle.acc_base.specs.declared.forms.Form.{Form}
use Rattle.acc_base.specs.Cells.{var_plus}
use Rattle.acc_base.specs.Collecting.{worth}
use Rattle.acc_base.specs.Sums.{form_sum}

abbrev pub unknown : List Lin → Atom → Unknown
unknown under a = record { under = under; atom = a }

-- 2 where cell x is there, plus 3 where x is 1, minus what cell x holds, plus 1
abbrev pub trial : Form
trial =
    record {
      terms = (unknown [] (atom.Has 0 (var_plus 0 (pos 0) ∷ [])), pos 2)
          ∷ (unknown (var_plus 0 (negsuc 0) ∷ []) atom.One, pos 3)
          ∷ (unknown [] (atom.Col 0 (var_plus 0 (pos 0) ∷ []) 0), negsuc 0) ∷ [];
      constant = pos 1;
    }

-- what a form is worth where each unknown is worth what v gives: with `unknown_value db env` for v it is `form_value db env`
abbrev pub form_worth : (Unknown → ℤ) → Form → ℤ
form_worth v f = worth v f.terms +ℤ f.constant

-- whatever the unknowns are worth, the sum of a form and a multiple of another is worth what they are worth
abbrev pub SumsAddUp : Type 0
SumsAddUp = (v : Unknown → ℤ) (f : Form) (by : ℤ) (g : Form) → form_worth v (form_sum f by g) ≡ form_worth v f +ℤ by *ℤ form_worth v g
