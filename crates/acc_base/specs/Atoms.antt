-- What an atom is made of, and when two differ in their keys alone.
use Rattle.std.specs.Prelude.{◌≡◌, ◌==◌, ℕ, Bool, true, false, ◌&&◌, refl, List, [], length, Option, Some, None, is_some, Decides}
use Rattle.std.specs.Option.{option_eq}
use Rattle.acc_base.specs.declared.forms.Lin.{Lin}
use Rattle.acc_base.specs.declared.forms.Atom.{Atom}
use Rattle.acc_base.specs.declared.forms.Atom.TheVariants.{One, Var, Has, Col, Count, Sum}
use Rattle.acc_base.specs.declared.atoms.AtomKind.{AtomKind}
use Rattle.acc_base.specs.declared.atoms.AtomKind.TheVariants as kind
use Rattle.acc_base.specs.contracts.atoms.AtomKindPartialEq.TheImpl as derived

abbrev pub kind_of : Atom → AtomKind
kind_of One = kind.One
kind_of (Var x) = kind.Var
kind_of (Has t k) = kind.Has
kind_of (Col t k c) = kind.Col
kind_of (Count t p) = kind.Count
kind_of (Sum t p c) = kind.Sum

-- the derived test of kinds
abbrev pub kind_eq : AtomKind → AtomKind → Bool
kind_eq x y = derived.ghosts.eq x y

pub kind_decides : (x y : AtomKind) → Decides (kind_eq x y) (x ≡ y)
kind_decides kind.One kind.One = (λ h. refl, λ e. refl)
kind_decides kind.Var kind.Var = (λ h. refl, λ e. refl)
kind_decides kind.Has kind.Has = (λ h. refl, λ e. refl)
kind_decides kind.Col kind.Col = (λ h. refl, λ e. refl)
kind_decides kind.Count kind.Count = (λ h. refl, λ e. refl)
kind_decides kind.Sum kind.Sum = (λ h. refl, λ e. refl)
kind_decides x y = (λ h. cc, λ e. cc)

-- the table of which it speaks, if it speaks of one
abbrev pub table_of : Atom → Option ℕ
table_of One = None
table_of (Var x) = None
table_of (Has t k) = Some t
table_of (Col t k c) = Some t
table_of (Count t p) = Some t
table_of (Sum t p c) = Some t

-- its key, or its prefix; empty where it speaks of no table
abbrev pub key_of : Atom → List Lin
key_of One = []
key_of (Var x) = []
key_of (Has t k) = k
key_of (Col t k c) = k
key_of (Count t p) = p
key_of (Sum t p c) = p

-- the column of which it speaks, if it speaks of one
abbrev pub column_of : Atom → Option ℕ
column_of One = None
column_of (Var x) = None
column_of (Has t k) = None
column_of (Col t k c) = Some c
column_of (Count t p) = None
column_of (Sum t p c) = Some c

-- it speaks of all rows under a prefix
abbrev pub is_of_prefix : Atom → Bool
is_of_prefix One = false
is_of_prefix (Var x) = false
is_of_prefix (Has t k) = false
is_of_prefix (Col t k c) = false
is_of_prefix (Count t p) = true
is_of_prefix (Sum t p c) = true

-- the atom with another key or prefix; one that speaks of no table has none
abbrev pub with_key : Atom → List Lin → Atom
with_key One k = One
with_key (Var x) k = Var x
with_key (Has t l) k = Has t k
with_key (Col t l c) k = Col t k c
with_key (Count t l) k = Count t k
with_key (Sum t l c) k = Sum t k c

-- atoms of a table, of one kind, table and column, with keys of one length
abbrev pub alike : Atom → Atom → Bool
alike a b =
    is_some (table_of a) && (kind_eq (kind_of a) (kind_of b) && (option_eq ◌==◌ (table_of a) (table_of b) && (
    option_eq ◌==◌ (column_of a) (column_of b) && (length (key_of a) == length (key_of b)))))
