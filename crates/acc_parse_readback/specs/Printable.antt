-- Designs that some text stands for: what is named can be spelled, terms are collected, numbers are small, no limit is passed, and
-- no part is missing that a text must have. First values, rows and clauses.
-- Clause `read` of `print` speaks of this.
use Rattle.std.specs.Prelude.{◌≡◌, ◌≤◌, ◌⊎◌, ◌==◌, ℕ, Bool, None, false, List, [], ◌∷◌, length, filter, slice_get, ℤ, codes}
use Rattle.acc_grammar.specs.Readers.{AllIn}
use Rattle.acc_base.specs.declared.bounds.TheConstants.{LONGEST_NAME, MOST_GUARDS, MOST_VARIABLES}
use Rattle.acc_base.specs.Numbers.{IsSmall}
use Rattle.acc_base.specs.declared.forms.Lin.{Lin}
use Rattle.acc_base.specs.declared.forms.LinRel.{LinRel}
use Rattle.acc_base.specs.declared.forms.Atom.{Atom}
use Rattle.acc_base.specs.declared.forms.Atom.TheVariants as atom
use Rattle.acc_base.specs.declared.forms.Unknown.{Unknown}
use Rattle.acc_base.specs.declared.forms.Rel.{Rel}
use Rattle.acc_base.specs.declared.forms.Clause.{Clause}
use Rattle.acc_base.specs.UnknownEquality.{unknown_eq}
use Rattle.acc_grammar.specs.Runs.{IsRun}
use Rattle.acc_lex.specs.ByteKinds.{is_letter, is_inner}
use Rattle.acc_lex.specs.Keywords.{keyword_of}
use Rattle.acc_parse_names.specs.Names.{defines_again}
use Rattle.acc_terms.specs.Collected.{is_left, totals}
use Rattle.acc_print.specs.Names.{Scope, name_at, table_name, column_name, with_own}

-- ---- names

-- a name that can be spelled: a letter and then letters, digits and _, none of the words that the grammar fixes, and at most 32 bytes
abbrev pub IsName : List ℕ → Type 0
IsName x = IsRun is_letter is_inner x × (keyword_of x ≡ None) × (length x ≤ LONGEST_NAME)

-- a name, or `self`
abbrev pub IsVariable : List ℕ → Type 0
IsVariable x = IsName x ⊎ (x ≡ codes "self")

-- behind earlier names none is defined a second time
abbrev pub AreNew : List (List ℕ) → List (List ℕ) → Type 0
AreNew earlier names = defines_again earlier names ≡ false

-- ---- values and rows

-- terms with each unknown once and none that is zero: to collect them changes nothing
abbrev pub AreCollected : {K : Type 0} → (K → K → Bool) → List (K × ℤ) → Type 0
AreCollected is_same terms = filter is_left (totals is_same terms) ≡ terms

-- a term of a variable that is there
abbrev pub IsTermSaid : List (List ℕ) → ℕ × ℤ → Type 0
IsTermSaid names t = IsVariable (name_at names t.0) × IsSmall t.1

pub record IsLinSaid (names : List (List ℕ)) (l : Lin) : Type 0 where
  pub terms : AllIn (IsTermSaid names) l.coeffs
  pub collected : AreCollected ◌==◌ l.coeffs
  pub constant : IsSmall l.constant

-- a key has a component
abbrev pub IsKeySaid : List (List ℕ) → List Lin → Type 0
IsKeySaid names [] = ⊥
IsKeySaid names (l ∷ ls) = AllIn (IsLinSaid names) (l ∷ ls)

pub record IsRowSaid (s : Scope) (t : ℕ) (k : List Lin) : Type 0 where
  pub table : IsName (table_name (slice_get s.tables t))
  pub key : IsKeySaid s.names k

pub record IsCellSaid (s : Scope) (t : ℕ) (k : List Lin) (c : ℕ) : Type 0 where
  pub row : IsRowSaid s t k
  pub column : IsName (column_name (slice_get s.tables t) c)

abbrev pub IsLinRelSaid : List (List ℕ) → LinRel → Type 0
IsLinRelSaid names r = IsLinSaid names r.lin

-- ---- clauses

-- the atom One isn't said
abbrev pub IsAtomSaid : Scope → Atom → Type 0
IsAtomSaid s atom.One = ⊥
IsAtomSaid s (atom.Var x) = IsVariable (name_at s.names x)
IsAtomSaid s (atom.Has table key) = IsRowSaid s table key
IsAtomSaid s (atom.Col table key column) = IsCellSaid s table key column
IsAtomSaid s (atom.Count table key) = IsRowSaid s table key
IsAtomSaid s (atom.Sum table key column) = IsCellSaid s table key column

-- an unknown of a text counts always
abbrev pub IsUnknownSaid : Scope → Unknown × ℤ → Type 0
IsUnknownSaid s t = IsAtomSaid s t.0.atom × IsSmall t.1 × (t.0.under ≡ [])

pub record IsRelSaid (s : Scope) (r : Rel) : Type 0 where
  pub terms : AllIn (IsUnknownSaid s) r.form.terms
  pub collected : AreCollected unknown_eq r.form.terms
  pub constant : IsSmall r.form.constant

-- its variables are new, at most 8, and there are at most 16 guards
pub record IsClauseSaid (s : Scope) (c : Clause) : Type 0 where
  pub variables : AllIn IsName c.vars
  pub few_variables : length c.vars ≤ MOST_VARIABLES
  pub new : AreNew s.names c.vars
  pub few_guards : length c.guards ≤ MOST_GUARDS
  pub guards : AllIn (IsRelSaid (with_own s c.vars)) c.guards
  pub relation : IsRelSaid (with_own s c.vars) c.rel
