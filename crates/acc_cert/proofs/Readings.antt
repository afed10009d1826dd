-- What is written is read back: numbers, linear values, unknowns and forms.
use Rattle.std.proofs.Common.{◌≡◌, ℕ, ◌+◌, Bool, true, List, [], ◌∷◌, map, refl, ap, ℤ}
use Rattle.std.specs.Cmp.{first_so, second_so}
use Rattle.std.specs.Prelude.{◌&&◌, codes}
use Rattle.std.specs.List.{list_all}
use Rattle.std.specs.Int.{w64, w128}
use Rattle.serde_json.specs.Data.{Data, string}
use Rattle.serde_json.specs.View.{items_of}
use Rattle.acc_base.specs.declared.forms.Lin.{Lin}
use Rattle.acc_base.specs.declared.forms.Atom.{Atom}
use Rattle.acc_base.specs.declared.forms.Atom.TheVariants as atom
use Rattle.acc_base.specs.declared.forms.Unknown.{Unknown}
use Rattle.acc_base.specs.declared.forms.Form.{Form}
use Rattle.acc_cert_bounds.specs.InBounds.{is_near, is_narrow}
use Rattle.acc_cert_bounds.specs.InBounds as bounds
use Rattle.acc_cert_read.specs.Parts.{Part, Good, gives, given, one, two, three, items_from, list_of}
use Rattle.acc_cert_read.specs.Forms.{index_of, wide_of, narrow_of, lin_of, lins_of, atom_of, unknown_of, form_of}
use Rattle.acc_cert_read.proofs.Numerals.{number_read, wide_holds, narrow_holds}
use Rattle.acc_cert.specs.Spelled.{array_of, each, pair, index, signed, lin, lins, atom_data, unknown, form_data}

module _ {A : Type 0} (f : A → Data) (g : Data → Part A) (ok : A → Bool) (h : (x : A) → ok x ≡ true → g (f x) ≡ Good x) where
  items_read : (i : ℕ) (xs : List A) → list_all ok xs ≡ true → items_from g i (items_of (map f xs)) ≡ Good xs
  items_read i [] all = refl
  items_read i (x ∷ xs) all =
      rw (h x (first_so (ok x) (list_all ok xs) all), items_read (i + 1) xs (second_so (ok x) (list_all ok xs) all)) refl

  pub each_read : (xs : List A) → list_all ok xs ≡ true → list_of g (each f xs) ≡ Good xs
  each_read xs all = items_read 0 xs all

-- ---- arrays of so many items

module _ {A : Type 0} (f : Data → Part A) (d : Data) (x : A) (a : f d ≡ Good x) where
  pub one_read : one 0 f (array_of (d ∷ [])) ≡ Good x
  one_read = rw a refl

  pub one_behind : (w : Data) → one 1 f (array_of (w ∷ d ∷ [])) ≡ Good x
  one_behind w = rw a refl

  module _ {B : Type 0} (g : Data → Part B) (e : Data) (y : B) (b : g e ≡ Good y) where
    pub two_read : two 0 f g (array_of (d ∷ e ∷ [])) ≡ Good (x, y)
    two_read = rw (a, b) refl

    pub two_behind : (w : Data) → two 1 f g (array_of (w ∷ d ∷ e ∷ [])) ≡ Good (x, y)
    two_behind w = rw (a, b) refl

    module _ {C : Type 0} (k : Data → Part C) (i : Data) (z : C) (c : k i ≡ Good z) where
      pub three_read : three 0 f g k (array_of (d ∷ e ∷ i ∷ [])) ≡ Good (x, y, z)
      three_read = rw (a, b, c) refl

      pub three_behind : (w : Data) → three 1 f g k (array_of (w ∷ d ∷ e ∷ i ∷ [])) ≡ Good (x, y, z)
      three_behind w = rw (a, b, c) refl

-- ---- numbers

pub index_read : (n : ℕ) → bounds.index n ≡ true → index_of (index n) ≡ Good n
index_read n h = rw h refl

pub wide_read : (z : ℤ) → is_near z ≡ true → wide_of (signed z) ≡ Good z
wide_read z h = ap given (number_read w128 is_near wide_holds z h)

pub narrow_read : (z : ℤ) → is_narrow z ≡ true → narrow_of (signed z) ≡ Good z
narrow_read z h = ap given (number_read w64 is_narrow narrow_holds z h)

-- ---- values

coefficient_read : (p : ℕ × ℤ) → bounds.pair bounds.index is_narrow p ≡ true → two 0 index_of narrow_of (pair index signed p) ≡ Good p
coefficient_read p h =
    two_read index_of (index p.0) p.0 (index_read p.0 (first_so (bounds.index p.0) (is_narrow p.1) h)) narrow_of (signed p.1) p.1
    (narrow_read p.1 (second_so (bounds.index p.0) (is_narrow p.1) h))

pub lin_read : (l : Lin) → bounds.lin l ≡ true → lin_of (lin l) ≡ Good l
lin_read l h =
    let all : Bool = list_all (bounds.pair bounds.index is_narrow) l.coeffs in
    let a = each_read (pair index signed) (two 0 index_of narrow_of) (bounds.pair bounds.index is_narrow) coefficient_read l.coeffs
    (first_so all (is_narrow l.constant) h) in
    let b = narrow_read l.constant (second_so all (is_narrow l.constant) h) in
    ap (gives (λ p. record { coeffs = p.0; constant = p.1 }))
    (two_read (list_of (two 0 index_of narrow_of)) (each (pair index signed) l.coeffs) l.coeffs a narrow_of (signed l.constant)
    l.constant b)

pub lins_read : (ls : List Lin) → bounds.lins ls ≡ true → lins_of (lins ls) ≡ Good ls
lins_read ls h = each_read lin lin_of bounds.lin lin_read ls h

module _ (t : ℕ) (ls : List Lin) where
  pub key_read : (bounds.index t && bounds.lins ls) ≡ true → two 0 index_of lins_of (array_of (index t ∷ lins ls ∷ [])) ≡ Good (t, ls)
  key_read h =
      two_read index_of (index t) t (index_read t (first_so (bounds.index t) (bounds.lins ls) h)) lins_of (lins ls) ls
      (lins_read ls (second_so (bounds.index t) (bounds.lins ls) h))

  key_behind : (bounds.index t && bounds.lins ls) ≡ true → (w : Data) →
      two 1 index_of lins_of (array_of (w ∷ index t ∷ lins ls ∷ [])) ≡ Good (t, ls)
  key_behind h w =
      two_behind index_of (index t) t (index_read t (first_so (bounds.index t) (bounds.lins ls) h)) lins_of (lins ls) ls
      (lins_read ls (second_so (bounds.index t) (bounds.lins ls) h)) w

  module _ (n : ℕ) (h : (bounds.index t && (bounds.lins ls && bounds.index n)) ≡ true) where
    later : (bounds.lins ls && bounds.index n) ≡ true
    later = second_so (bounds.index t) (bounds.lins ls && bounds.index n) h

    pub key_number_read : three 0 index_of lins_of index_of (array_of (index t ∷ lins ls ∷ index n ∷ [])) ≡ Good (t, ls, n)
    key_number_read =
        three_read index_of (index t) t (index_read t (first_so (bounds.index t) (bounds.lins ls && bounds.index n) h)) lins_of (lins ls) ls
        (lins_read ls (first_so (bounds.lins ls) (bounds.index n) later)) index_of (index n) n
        (index_read n (second_so (bounds.lins ls) (bounds.index n) later))

    key_number_behind : (w : Data) → three 1 index_of lins_of index_of (array_of (w ∷ index t ∷ lins ls ∷ index n ∷ [])) ≡ Good (t, ls, n)
    key_number_behind w =
        three_behind index_of (index t) t (index_read t (first_so (bounds.index t) (bounds.lins ls && bounds.index n) h)) lins_of (lins ls)
        ls (lins_read ls (first_so (bounds.lins ls) (bounds.index n) later)) index_of (index n) n
        (index_read n (second_so (bounds.lins ls) (bounds.index n) later)) w

pub atom_read : (a : Atom) → bounds.atom_in a ≡ true → atom_of (atom_data a) ≡ Good a
atom_read atom.One h = refl
atom_read (atom.Var x) h = ap (gives atom.Var) (one_behind index_of (index x) x (index_read x h) (string (codes "var")))
atom_read (atom.Has t k) h = ap (gives (λ p. atom.Has p.0 p.1)) (key_behind t k h (string (codes "has")))
atom_read (atom.Col t k c) h = ap (gives (λ p. atom.Col p.0 p.1 p.2)) (key_number_behind t k c h (string (codes "col")))
atom_read (atom.Count t k) h = ap (gives (λ p. atom.Count p.0 p.1)) (key_behind t k h (string (codes "count")))
atom_read (atom.Sum t k c) h = ap (gives (λ p. atom.Sum p.0 p.1 p.2)) (key_number_behind t k c h (string (codes "sum")))

pub unknown_read : (u : Unknown) → bounds.unknown u ≡ true → unknown_of (unknown u) ≡ Good u
unknown_read u h =
    ap (gives (λ p. record { under = p.0; atom = p.1 }))
    (two_read lins_of (lins u.under) u.under (lins_read u.under (first_so (bounds.lins u.under) (bounds.atom_in u.atom) h)) atom_of
    (atom_data u.atom) u.atom (atom_read u.atom (second_so (bounds.lins u.under) (bounds.atom_in u.atom) h)))

term_read : (p : Unknown × ℤ) → bounds.pair bounds.unknown is_near p ≡ true → two 0 unknown_of wide_of (pair unknown signed p) ≡ Good p
term_read p h =
    two_read unknown_of (unknown p.0) p.0 (unknown_read p.0 (first_so (bounds.unknown p.0) (is_near p.1) h)) wide_of (signed p.1) p.1
    (wide_read p.1 (second_so (bounds.unknown p.0) (is_near p.1) h))

pub form_read : (f : Form) → bounds.form_in f ≡ true → form_of (form_data f) ≡ Good f
form_read f h =
    let all : Bool = list_all (bounds.pair bounds.unknown is_near) f.terms in
    let a = each_read (pair unknown signed) (two 0 unknown_of wide_of) (bounds.pair bounds.unknown is_near) term_read f.terms
    (first_so all (is_near f.constant) h) in
    let b = wide_read f.constant (second_so all (is_near f.constant) h) in
    ap (gives (λ p. record { terms = p.0; constant = p.1 }))
    (two_read (list_of (two 0 unknown_of wide_of)) (each (pair unknown signed) f.terms) f.terms a wide_of (signed f.constant) f.constant
    b)
