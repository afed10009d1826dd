-- Facts that are shown: what is known and the fact's contrary have no solution.
use Rattle.std.specs.Prelude.{Bool, if◌then◌else◌, List, [], ◌∷◌, ◌++◌, pos, negsuc}
use Rattle.acc_base.specs.declared.forms.Form.{Form}
use Rattle.acc_base.specs.declared.forms.Rel.{Rel}
use Rattle.acc_base.specs.Forms.{form, at_most}
use Rattle.acc_base.specs.Sums.{form_sum, is_sum_wide}
use Rattle.acc_farkas.specs.declared.refuting.Mults.{Mults}
use Rattle.acc_instanced.specs.Instances.{Fact}
use Rattle.acc_farkas.specs.Sums.{refutes_all, is_refuting_wide}
use Rattle.acc_proof.specs.Checked.{Checked, Gives, Fails, TooWide, and_then}

-- ---- forms and relations

abbrev pub one : Form
one = form [] (pos 1)

-- f + 1 <= 0 and 1 - f <= 0, and whether a number of them is too large
abbrev pub below_zero : Form → Rel
below_zero f = at_most (form_sum f (pos 1) one)

abbrev pub is_below_wide : Form → Bool
is_below_wide f = is_sum_wide f (pos 1) one

abbrev pub above_zero : Form → Rel
above_zero f = at_most (form_sum one (negsuc 0) f)

abbrev pub is_above_wide : Form → Bool
is_above_wide f = is_sum_wide one (negsuc 0) f

-- ---- facts

-- relations have no solution by the next multipliers; the ones after them are left
abbrev pub refuted : List Rel → List Mults → Checked (List Mults)
refuted rels [] = Fails
refuted rels (m ∷ ms) =
    if is_refuting_wide rels m.of then TooWide else (if refutes_all rels m.of then Gives ms else Fails)

-- the contrary of a fact, unless a number of it is too large, is refuted by what is known
abbrev pub excluded : List Rel → Bool → Rel → List Mults → Checked (List Mults)
excluded known wide r ms = if wide then TooWide else refuted (known ++ r ∷ []) ms

-- a form is shown to be at most 0, and to be at least 0
abbrev pub at_most_shown : List Rel → Form → List Mults → Checked (List Mults)
at_most_shown known f ms = excluded known (is_above_wide f) (above_zero f) ms

abbrev pub at_least_shown : List Rel → Form → List Mults → Checked (List Mults)
at_least_shown known f ms = excluded known (is_below_wide f) (below_zero f) ms

-- a relation is shown: an inequality by one multiplier list, an equation by two
abbrev pub shown : List Rel → Rel → List Mults → Checked (List Mults)
shown known r ms =
    if r.equal then and_then (at_least_shown known r.form) (at_most_shown known r.form ms) else at_most_shown known r.form ms

abbrev pub fact_shown : List Rel → Fact → List Mults → Checked (List Mults)
fact_shown known f ms = if f.wide then TooWide else shown known f.rel ms

-- facts one after the other
abbrev pub all_shown : List Rel → List Fact → List Mults → Checked (List Mults)
all_shown known [] ms = Gives ms
all_shown known (f ∷ fs) ms = and_then (all_shown known fs) (fact_shown known f ms)

-- all multipliers are used up
abbrev pub used_up : {A : Type 0} → Checked A → List Mults → Checked A
used_up o [] = o
used_up o (m ∷ ms) = Fails
