-- The sum of a form and a multiple of another: one term an unknown, in the order in which the unknowns first appear.
use Rattle.std.specs.Prelude.{Bool, ◌||◌, IsTrue, IsFalse, List, [], ◌∷◌, ◌++◌, map, filter, Result, Ok, Err, ℤ, ◌+ℤ◌, ◌*ℤ◌}
use Rattle.std.specs.List.{list_any}
use Rattle.acc_base.specs.declared.forms.Unknown.{Unknown}
use Rattle.acc_base.specs.declared.forms.Form.{Form}
use Rattle.acc_base.specs.declared.sums.FormSum.{FormSum}
use Rattle.acc_base.specs.declared.sums.FormSum.TheVariants.{Wide, Memory}
use Rattle.acc_base.specs.Bounded.{is_wide}
use Rattle.acc_base.specs.Collecting as collecting
use Rattle.acc_base.specs.UnknownEquality.{unknown_eq}

-- a term: an unknown with its coefficient
abbrev pub Term : Type 0
Term = Unknown × ℤ

-- ---- terms, collected

-- one more term: its coefficient is added to that of its unknown, which comes last where it is new
abbrev pub with_term : Term → List Term → List Term
with_term t sums = collecting.with_term unknown_eq t.0 t.1 sums

-- the coefficient that its unknown has then
abbrev pub grown : Term → List Term → ℤ
grown t sums = collecting.sum_of unknown_eq t.0 sums +ℤ t.1

-- more terms, one after the other
abbrev pub with_terms : List Term → List Term → List Term
with_terms sums terms = collecting.with_terms unknown_eq sums terms

-- the coefficients that they give one after the other
abbrev pub all_grown : List Term → List Term → List ℤ
all_grown sums [] = []
all_grown sums (t ∷ ts) = grown t sums ∷ all_grown (with_term t sums) ts

-- a term that is not zero
abbrev pub is_left : Term → Bool
is_left t = collecting.is_left t

-- ---- the sum

abbrev pub multiple : ℤ → Term → Term
multiple by t = collecting.multiple by t

-- the terms of f + by * g, before they are collected
abbrev pub summands : Form → ℤ → Form → List Term
summands f by g = f.terms ++ map (multiple by) g.terms

-- f + by * g: its terms collected, without those that are zero, and the sum of the constants
abbrev pub form_sum : Form → ℤ → Form → Form
form_sum f by g =
    record { terms = filter is_left (with_terms [] (summands f by g)); constant = f.constant +ℤ by *ℤ g.constant }

-- ---- the numbers that the sum computes

-- the products, each coefficient as the terms are collected, and the constant
abbrev pub sum_numbers : Form → ℤ → Form → List ℤ
sum_numbers f by g =
    (by *ℤ g.constant) ∷ (f.constant +ℤ by *ℤ g.constant) ∷ map (λ t. by *ℤ t.1) g.terms ++ all_grown [] (summands f by g)

-- whether one of them is beyond 2^120 on either side of 0
abbrev pub is_sum_wide : Form → ℤ → Form → Bool
is_sum_wide f by g = list_any is_wide (sum_numbers f by g)

-- parts of that: the products and coefficients as multiples of terms are added, and those of the sum
abbrev pub multiples_wide : ℤ → List Term → List Term → Bool
multiples_wide by sums terms =
    list_any is_wide (map (λ t. by *ℤ t.1) terms) || list_any is_wide (all_grown sums (map (multiple by) terms))

abbrev pub terms_wide : Form → ℤ → Form → Bool
terms_wide f by g = list_any is_wide (map (λ t. by *ℤ t.1) g.terms) || list_any is_wide (all_grown [] (summands f by g))

-- an answer tells whether a number is wide: Ok where none is, Wide where one is, and want of memory says nothing
abbrev pub TellsWide : {T : Type 0} → Result T FormSum → Bool → Type 0
TellsWide (Ok x) wide = IsFalse wide
TellsWide (Err Wide) wide = IsTrue wide
TellsWide (Err Memory) wide = Unit {0}
