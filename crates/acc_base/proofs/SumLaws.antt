-- What the sum of forms is worth.
use Rattle.std.proofs.Common.{◌≡◌, List, [], ap, map, arith, ℤ, ◌+ℤ◌, ◌*ℤ◌}
use Rattle.std.proofs.lemmas.Int.{ints}
use Rattle.acc_base.specs.declared.tables.Row.{Row}
use Rattle.acc_base.specs.declared.forms.Unknown.{Unknown}
use Rattle.acc_base.specs.declared.forms.Form.{Form}
use Rattle.acc_base.specs.Collecting.{worth}
use Rattle.acc_base.specs.Truth.{unknown_value, form_value}
use Rattle.acc_base.specs.UnknownEquality.{unknown_eq, unknown_decides}
use Rattle.acc_base.specs.Sums.{with_terms, multiple, summands, form_sum}
use Rattle.acc_base.specs.Worths.{form_worth}
use Rattle.acc_base.proofs.Products.{times_sum}
use Rattle.acc_base.proofs.CollectedWorths.{worth-multiples, worth-left, worth-with_terms}
use Rattle.acc_base.proofs.SumLoops.{with_terms-append}

-- the sum of a form and a multiple of another is worth what they are worth, whatever the unknowns are worth
pub form_sum-worth : (v : Unknown → ℤ) (f : Form) (by : ℤ) (g : Form)
    → form_worth v (form_sum f by g) ≡ form_worth v f +ℤ by *ℤ form_worth v g
form_sum-worth v f by g =
    let left = worth-left v (with_terms [] (summands f by g)) in
    let parts = ap (worth v) (with_terms-append [] f.terms (map (multiple by) g.terms)) in
    let second = worth-with_terms v unknown_eq unknown_decides (with_terms [] f.terms) (map (multiple by) g.terms) in
    let first = worth-with_terms v unknown_eq unknown_decides [] f.terms in
    let multiples = worth-multiples v by g.terms in
    let whole = times_sum by (worth v g.terms) g.constant in
    omega (arith, ints, left, parts, second, first, multiples, whole)

-- and so at rows and variables
pub form_sum-value : (db : List Row) (env : List ℤ) (f : Form) (by : ℤ) (g : Form)
    → form_value db env (form_sum f by g) ≡ form_value db env f +ℤ by *ℤ form_value db env g
form_sum-value db env f by g = form_sum-worth (unknown_value db env) f by g
