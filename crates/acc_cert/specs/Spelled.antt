-- The JSON values that numbers, linear values, unknowns and forms are written as.
use Rattle.std.specs.Prelude.{ℕ, List, [], ◌∷◌, map, codes, ℤ}
use Rattle.std.specs.Fmt.{signed_decimal}
use Rattle.serde_json.specs.Data.{Data, number, unsigned, string, array}
use Rattle.serde_json.specs.View.{items_of}
use Rattle.acc_base.specs.declared.forms.Lin.{Lin}
use Rattle.acc_base.specs.declared.forms.Atom.{Atom}
use Rattle.acc_base.specs.declared.forms.Atom.TheVariants as atom
use Rattle.acc_base.specs.declared.forms.Unknown.{Unknown}
use Rattle.acc_base.specs.declared.forms.Form.{Form}

abbrev pub array_of : List Data → Data
array_of ds = array (items_of ds)

abbrev pub each : {A : Type 0} → (A → Data) → List A → Data
each f xs = array_of (map f xs)

abbrev pub pair : {A B : Type 0} → (A → Data) → (B → Data) → A × B → Data
pair f g p = array_of (f p.0 ∷ g p.1 ∷ [])

abbrev pub index : ℕ → Data
index n = number (unsigned n)

abbrev pub signed : ℤ → Data
signed z = string (signed_decimal z)

abbrev pub lin : Lin → Data
lin l = array_of (each (pair index signed) l.coeffs ∷ signed l.constant ∷ [])

abbrev pub lins : List Lin → Data
lins = each lin

abbrev pub atom_data : Atom → Data
atom_data atom.One = array_of (string (codes "one") ∷ [])
atom_data (atom.Var x) = array_of (string (codes "var") ∷ index x ∷ [])
atom_data (atom.Has t k) = array_of (string (codes "has") ∷ index t ∷ lins k ∷ [])
atom_data (atom.Col t k c) = array_of (string (codes "col") ∷ index t ∷ lins k ∷ index c ∷ [])
atom_data (atom.Count t k) = array_of (string (codes "count") ∷ index t ∷ lins k ∷ [])
atom_data (atom.Sum t k c) = array_of (string (codes "sum") ∷ index t ∷ lins k ∷ index c ∷ [])

abbrev pub unknown : Unknown → Data
unknown u = array_of (lins u.under ∷ atom_data u.atom ∷ [])

abbrev pub form_data : Form → Data
form_data f = array_of (each (pair unknown signed) f.terms ∷ signed f.constant ∷ [])
