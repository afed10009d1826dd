-- What is written has no float, and nests twelve deep.
use Rattle.std.proofs.Common.{◌≡◌, ℕ, suc, ◌≤◌, false, List, [], ◌∷◌, map, refl, arith, ℤ}
use Rattle.std.specs.Prelude.{codes}
use Rattle.std.specs.Fmt.{signed_decimal}
use Rattle.serde_json.specs.Data.{Data, string, array, Items, no_items, item, depth, items_depth}
use Rattle.serde_json.specs.View.{items_of}
use Rattle.serde_json.specs.Written.{has_float, items_have_float}
use Rattle.acc_base.specs.declared.forms.Lin.{Lin}
use Rattle.acc_base.specs.declared.forms.Atom.{Atom}
use Rattle.acc_base.specs.declared.forms.Atom.TheVariants as atom
use Rattle.acc_base.specs.declared.forms.Unknown.{Unknown}
use Rattle.acc_base.specs.declared.forms.Form.{Form}
use Rattle.acc_cert.specs.Spelled.{each, pair, index, signed, lin, lins, atom_data, unknown, form_data}

-- without a float, and nested at most so deep
pub record IsPlain (k : ℕ) (d : Data) : Type 0 where
  pub exact : has_float d ≡ false
  pub shallow : depth d ≤ k

pub record ArePlain (k : ℕ) (ds : Items) : Type 0 where
  pub exact : items_have_float ds ≡ false
  pub shallow : items_depth ds ≤ k

pub none : {k : ℕ} → ArePlain k no_items
none = record { exact = refl; shallow = omega arith }

pub more : {j k : ℕ} {d : Data} {ds : Items} → IsPlain j d → j ≤ k → ArePlain k ds → ArePlain k (item d ds)
more p low ps = record { exact = rw (p.exact, ps.exact) refl; shallow = omega (arith, p.shallow, ps.shallow) }

pub whole : {k : ℕ} {ds : Items} → ArePlain k ds → IsPlain (suc k) (array ds)
whole ps = record { exact = ps.exact; shallow = omega (arith, ps.shallow) }

pub number_plain : (n : ℕ) → IsPlain 0 (index n)
number_plain n = record { exact = refl; shallow = omega arith }

pub text_plain : (s : List ℕ) → IsPlain 0 (string s)
text_plain s = record { exact = refl; shallow = omega arith }

pub each_plain : {A : Type 0} (f : A → Data) (k : ℕ) → ((x : A) → IsPlain k (f x)) → (xs : List A) → IsPlain (suc k) (each f xs)
each_plain f k h xs = whole (all xs)
  where
    all : (ys : List _) → ArePlain k (items_of (map f ys))
    all [] = none
    all (y ∷ ys) = more (h y) (omega arith) (all ys)

pub pair_plain : (p : ℕ × ℤ) → IsPlain 1 (pair index signed p)
pair_plain p = whole (more (number_plain p.0) (omega arith) (more (text_plain (signed_decimal p.1)) (omega arith) none))

pub lin_plain : (l : Lin) → IsPlain 3 (lin l)
lin_plain l =
    whole (more (each_plain (pair index signed) 1 pair_plain l.coeffs) (omega arith)
    (more (text_plain (signed_decimal l.constant)) (omega arith) none))

pub lins_plain : (ls : List Lin) → IsPlain 4 (lins ls)
lins_plain ls = each_plain lin 3 lin_plain ls

key_plain : (t : ℕ) (ls : List Lin) {ds : Items} → ArePlain 4 ds → ArePlain 4 (item (index t) (item (lins ls) ds))
key_plain t ls ps = more (number_plain t) (omega arith) (more (lins_plain ls) (omega arith) ps)

pub atom_plain : (a : Atom) → IsPlain 5 (atom_data a)
atom_plain atom.One = whole (more (text_plain (codes "one")) (omega arith) none)
atom_plain (atom.Var x) = whole (more (text_plain (codes "var")) (omega arith) (more (number_plain x) (omega arith) none))
atom_plain (atom.Has t k) = whole (more (text_plain (codes "has")) (omega arith) (key_plain t k none))
atom_plain (atom.Col t k c) = whole (more (text_plain (codes "col")) (omega arith)
    (key_plain t k (more (number_plain c) (omega arith) none)))
atom_plain (atom.Count t k) = whole (more (text_plain (codes "count")) (omega arith) (key_plain t k none))
atom_plain (atom.Sum t k c) = whole (more (text_plain (codes "sum")) (omega arith)
    (key_plain t k (more (number_plain c) (omega arith) none)))

pub unknown_plain : (u : Unknown) → IsPlain 6 (unknown u)
unknown_plain u = whole (more (lins_plain u.under) (omega arith) (more (atom_plain u.atom) (omega arith) none))

term_plain : (p : Unknown × ℤ) → IsPlain 7 (pair unknown signed p)
term_plain p = whole (more (unknown_plain p.0) (omega arith) (more (text_plain (signed_decimal p.1)) (omega arith) none))

pub form_plain : (f : Form) → IsPlain 9 (form_data f)
form_plain f =
    whole (more (each_plain (pair unknown signed) 7 term_plain f.terms) (omega arith)
    (more (text_plain (signed_decimal f.constant)) (omega arith) none))
