-- Solutions of relations: what each unknown is worth.
use Rattle.std.specs.Prelude.{◌≡◌, Bool, IsTrue, List, ℤ, pos}
use Rattle.std.specs.List.{list_all}
use Rattle.acc_base.specs.declared.forms.Unknown.{Unknown}
use Rattle.acc_base.specs.declared.forms.Rel.{Rel}
use Rattle.acc_base.specs.Linear.{meets}
use Rattle.acc_base.specs.Worths.{form_worth}
use Rattle.acc_base.specs.UnknownEquality.{bare_one}

-- a relation holds where each unknown is worth what v gives. With `unknown_value db env` for v it is `rel_true db env`
abbrev pub rel_holds : (Unknown → ℤ) → Rel → Bool
rel_holds v r = meets r.equal (form_worth v r.form)

-- no worths of the unknowns make each relation hold, where the number 1 without condition is worth 1
abbrev pub HaveNoSolution : List Rel → Type 0
HaveNoSolution rels = (v : Unknown → ℤ) → v bare_one ≡ pos 1 → IsTrue (list_all (rel_holds v) rels) → ⊥
