-- The axioms that a pass tries: kind by kind, for the unknowns that are known, in order. The unknown gives the arguments.
use Rattle.std.specs.Prelude.{◌+◌, ℕ, Bool, ◌&&◌, if◌then◌else◌, List, [], ◌∷◌, ◌++◌, take, Option, Some, None, option_map}
use Rattle.std.specs.List.{fold}
use Rattle.std.specs.Option.{is_some}
use Rattle.acc_base.specs.declared.forms.Lin.{Lin}
use Rattle.acc_base.specs.declared.forms.Atom.{Atom}
use Rattle.acc_base.specs.declared.forms.Atom.TheVariants.{One, Var, Has, Col, Count, Sum}
use Rattle.acc_base.specs.declared.forms.Unknown.{Unknown}
use Rattle.acc_base.specs.declared.atoms.AtomKind.{AtomKind}
use Rattle.acc_base.specs.declared.atoms.AtomKind.TheVariants as atoms
use Rattle.acc_base.specs.Atoms.{kind_of, kind_eq, table_of, alike}
use Rattle.acc_elim_readings.specs.Readings.{place_of}
use Rattle.acc_axioms.specs.Axioms.{count, is_plain}
use Rattle.acc_axioms.specs.declared.kinds.AxiomKind.{AxiomKind}
use Rattle.acc_axioms.specs.declared.kinds.AxiomKind.TheVariants as kind
use Rattle.acc_axioms.specs.declared.nodes.Schema.{Schema}
use Rattle.acc_axioms.specs.declared.nodes.Schema.TheVariants as schema
use Rattle.acc_axioms.specs.declared.nodes.TheConstants.{BELOW, ABOVE}

-- ---- an unknown that stands under values: each value may be below 0, or above 0; or all are 0

abbrev pub with_shut : Unknown → ℕ × List Schema → Lin → ℕ × List Schema
with_shut u s l = (s.0 + 1, s.1 ++ schema.Shut u s.0 BELOW ∷ schema.Shut u s.0 ABOVE ∷ [])

abbrev pub with_shuts : List Schema → Unknown → List Schema
with_shuts found u = (fold (with_shut u) (0, found) u.under).1

-- an axiom behind the others, if there is one
abbrev pub with_one : List Schema → Option Schema → List Schema
with_one found None = found
with_one found (Some x) = found ++ x ∷ []

abbrev pub for_opened : Unknown → Option Schema
for_opened u = if is_plain u then None else Some (schema.Opened u)

-- ---- an atom of a table

abbrev pub for_empty : Unknown → Option Schema
for_empty u = if is_some (table_of u.atom) then Some (schema.Empty u) else None

-- its table and key, and its table, key and column

abbrev pub table_key_of : Atom → Option (ℕ × List Lin)
table_key_of One = None
table_key_of (Var x) = None
table_key_of (Has t k) = Some (t, k)
table_key_of (Col t k c) = Some (t, k)
table_key_of (Count t p) = Some (t, p)
table_key_of (Sum t p c) = Some (t, p)

abbrev pub table_key_column_of : Atom → Option (ℕ × List Lin × ℕ)
table_key_column_of One = None
table_key_column_of (Var x) = None
table_key_column_of (Has t k) = None
table_key_column_of (Col t k c) = Some (t, k, c)
table_key_column_of (Count t p) = None
table_key_column_of (Sum t p c) = Some (t, p, c)

-- those of an unknown that counts always, if its atom is of a kind

abbrev pub keyed : AtomKind → Unknown → Option (ℕ × List Lin)
keyed k u = if is_plain u && kind_eq (kind_of u.atom) k then table_key_of u.atom else None

abbrev pub columned : AtomKind → Unknown → Option (ℕ × List Lin × ℕ)
columned k u = if is_plain u && kind_eq (kind_of u.atom) k then table_key_column_of u.atom else None

-- the axiom for such an unknown

abbrev pub for_key : AtomKind → (ℕ → List Lin → Schema) → Unknown → Option Schema
for_key k make u = option_map (λ p. make p.0 p.1) (keyed k u)

abbrev pub for_column : AtomKind → (ℕ → List Lin → ℕ → Schema) → Unknown → Option Schema
for_column k make u = option_map (λ p. make p.0 p.1 p.2) (columned k u)

-- ---- two unknowns, the earlier one first

abbrev pub is_pair : Unknown → Unknown → Bool
is_pair u v = is_plain u && (is_plain v && alike u.atom v.atom)

abbrev pub with_same : Unknown → List Schema → Unknown → List Schema
with_same u found v = if is_pair u v then found ++ schema.Same u v ∷ [] else found

abbrev pub with_pairs : List Schema → Unknown → List Unknown → List Schema
with_pairs found u later = fold (with_same u) found later

-- ---- the fronts of a key

abbrev pub is_known : List Unknown → Unknown → Bool
is_known names u = is_some (place_of names u)

-- each front of a key, from one part on, whose count is known
abbrev pub with_front : List Unknown → List Schema → ℕ → List Lin → ℕ → List Schema
with_front names found t k n =
    if is_known names (count t (take n k)) then found ++ schema.Front t k n ∷ [] else found

abbrev pub with_next_front : List Unknown → ℕ → List Lin → ℕ × List Schema → Lin → ℕ × List Schema
with_next_front names t k s l = (s.0 + 1, with_front names s.1 t k (s.0 + 1))

abbrev pub with_key_fronts : List Unknown → List Schema → ℕ → List Lin → List Schema
with_key_fronts names found t k = (fold (with_next_front names t k) (0, found) k).1

abbrev pub with_fronts : List Unknown → List Schema → Option (ℕ × List Lin) → List Schema
with_fronts names found None = found
with_fronts names found (Some p) = with_key_fronts names found p.0 p.1

-- ---- of one kind

-- those of an unknown, where others come later
abbrev pub with_unknown : List Unknown → AxiomKind → List Schema → Unknown → List Unknown → List Schema
with_unknown names kind.Shut found u later = with_shuts found u
with_unknown names kind.Opened found u later = with_one found (for_opened u)
with_unknown names kind.Empty found u later = with_one found (for_empty u)
with_unknown names kind.Same found u later = with_pairs found u later
with_unknown names kind.Fresh found u later = with_one found (for_key atoms.Has schema.Fresh u)
with_unknown names kind.Has found u later = with_one found (for_key atoms.Has schema.Has u)
with_unknown names kind.Front found u later = with_fronts names found (keyed atoms.Has u)
with_unknown names kind.OneCount found u later = with_one found (for_key atoms.Count schema.OneCount u)
with_unknown names kind.Count found u later = with_one found (for_key atoms.Count schema.Count u)
with_unknown names kind.NoCol found u later = with_one found (for_column atoms.Col schema.NoCol u)
with_unknown names kind.OneSum found u later = with_one found (for_column atoms.Sum schema.OneSum u)
with_unknown names kind.NoSum found u later = with_one found (for_column atoms.Sum schema.NoSum u)

abbrev pub with_all : List Unknown → AxiomKind → List Schema → List Unknown → List Schema
with_all names sort found [] = found
with_all names sort found (u ∷ later) = with_all names sort (with_unknown names sort found u later) later

abbrev pub candidates : List Unknown → AxiomKind → List Schema
candidates names sort = with_all names sort [] names
