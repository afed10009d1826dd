-- The shape of numbers, linear values, unknowns and forms.
use Rattle.std.specs.Prelude.{ℕ, List, [], ◌∷◌, Option, Some, None, ℤ}
use Rattle.serde_json.specs.Data.{Data}
use Rattle.serde_json.specs.Find.{as_str}
use Rattle.acc_base.specs.declared.forms.Lin.{Lin}
use Rattle.acc_base.specs.declared.forms.Atom.{Atom}
use Rattle.acc_base.specs.declared.forms.Atom.TheVariants as atom
use Rattle.acc_base.specs.declared.forms.Unknown.{Unknown}
use Rattle.acc_base.specs.declared.forms.Form.{Form}
use Rattle.acc_base.specs.declared.atoms.AtomKind.{AtomKind}
use Rattle.acc_base.specs.declared.atoms.AtomKind.TheVariants as kind
use Rattle.acc_cert_read.specs.Parts.{Part, Off, and_then, gives, given, field, ends, one, two, three, list_of}
use Rattle.acc_cert_read.specs.Spellings.{near_number, narrow_number, index}
use Rattle.acc_cert_read.specs.Words.{atom_word}

abbrev pub index_of : Data → Part ℕ
index_of d = given (index d)

abbrev pub wide_of : Data → Part ℤ
wide_of d = given (near_number d)

abbrev pub narrow_of : Data → Part ℤ
narrow_of d = given (narrow_number d)

abbrev pub word_of : Data → Part (List ℕ)
word_of d = given (as_str d)

abbrev pub lin_of : Data → Part Lin
lin_of d =
    gives (λ p. record { coeffs = p.0; constant = p.1 }) (two 0 (list_of (two 0 index_of narrow_of)) narrow_of d)

abbrev pub lins_of : Data → Part (List Lin)
lins_of = list_of lin_of

-- what stands behind the word
abbrev pub atom_rest : Option AtomKind → Data → Part Atom
atom_rest None d = Off (0 ∷ [])
atom_rest (Some kind.One) d = ends 1 atom.One d
atom_rest (Some kind.Var) d = gives atom.Var (one 1 index_of d)
atom_rest (Some kind.Has) d = gives (λ p. atom.Has p.0 p.1) (two 1 index_of lins_of d)
atom_rest (Some kind.Col) d = gives (λ p. atom.Col p.0 p.1 p.2) (three 1 index_of lins_of index_of d)
atom_rest (Some kind.Count) d = gives (λ p. atom.Count p.0 p.1) (two 1 index_of lins_of d)
atom_rest (Some kind.Sum) d = gives (λ p. atom.Sum p.0 p.1 p.2) (three 1 index_of lins_of index_of d)

abbrev pub atom_of : Data → Part Atom
atom_of d = and_then (field 0 word_of d) (λ w. atom_rest (atom_word w) d)

abbrev pub unknown_of : Data → Part Unknown
unknown_of d = gives (λ p. record { under = p.0; atom = p.1 }) (two 0 lins_of atom_of d)

abbrev pub form_of : Data → Part Form
form_of d =
    gives (λ p. record { terms = p.0; constant = p.1 }) (two 0 (list_of (two 0 unknown_of wide_of)) wide_of d)
