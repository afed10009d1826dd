-- The tests of equality of unknowns and forms decide equality.
use Rattle.std.specs.Prelude.{◌≡◌, Bool, ◌&&◌, [], ℤ, Decides}
use Rattle.std.specs.Ordering.{int_eq}
use Rattle.std.specs.Cmp.Lexicographic.{pointwise, pointwise_decides}
use Rattle.std.proofs.Common.{ap}
use Rattle.std.proofs.lemmas.Bool.Decides.{Decides-and, Decides-like, Decides-int_eq}
use Rattle.acc_base.specs.declared.forms.Atom.TheVariants.{One}
use Rattle.acc_base.specs.declared.forms.Unknown.{Unknown}
use Rattle.acc_base.specs.declared.forms.Form.{Form}
use Rattle.acc_base.specs.Pairs.{pair_decides}
use Rattle.acc_base.specs.FormEquality.{lin_eq, lin_decides, atom_eq, atom_decides}

abbrev pub unknown_eq : Unknown → Unknown → Bool
unknown_eq x y = pointwise lin_eq x.under y.under && atom_eq x.atom y.atom

-- the number 1 without condition
abbrev pub bare_one : Unknown
bare_one = record { under = []; atom = One }

abbrev pub is_bare_one : Unknown → Bool
is_bare_one x = unknown_eq x bare_one

pub unknown_decides : (x y : Unknown) → Decides (unknown_eq x y) (x ≡ y)
unknown_decides x y =
    Decides-like (unknown_eq x y) (λ h. λ i. record { under = h.0 i; atom = h.1 i }) (λ e. (ap (λ u. u.under) e, ap (λ u. u.atom) e))
    (Decides-and (pointwise lin_eq x.under y.under) (atom_eq x.atom y.atom) (pointwise_decides lin_decides x.under y.under)
    (atom_decides x.atom y.atom))

abbrev pub product_eq : Unknown × ℤ → Unknown × ℤ → Bool
product_eq x y = unknown_eq x.0 y.0 && int_eq x.1 y.1

abbrev pub form_eq : Form → Form → Bool
form_eq x y = pointwise product_eq x.terms y.terms && int_eq x.constant y.constant

pub form_decides : (x y : Form) → Decides (form_eq x y) (x ≡ y)
form_decides x y =
    Decides-like (form_eq x y) (λ h. λ i. record { terms = h.0 i; constant = h.1 i }) (λ e. (ap (λ f. f.terms) e, ap (λ f. f.constant) e))
    (Decides-and (pointwise product_eq x.terms y.terms) (int_eq x.constant y.constant)
    (pointwise_decides (pair_decides unknown_eq int_eq unknown_decides Decides-int_eq) x.terms y.terms)
    (Decides-int_eq x.constant y.constant))
