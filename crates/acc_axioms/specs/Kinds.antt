-- The kinds of axioms: their numbers, and what their arguments are.
use Rattle.std.specs.Prelude.{◌≡◌, ◌==◌, ℕ, List, [], ◌∷◌, Option, Some, find}
use Rattle.acc_axioms.specs.declared.nodes.Schema.{Schema}
use Rattle.acc_axioms.specs.declared.nodes.Schema.TheVariants as schema
use Rattle.acc_axioms.specs.declared.kinds.AxiomKind.{AxiomKind}
use Rattle.acc_axioms.specs.declared.kinds.AxiomKind.TheVariants as kind
use Rattle.acc_axioms.specs.declared.kinds.Arguments.{Arguments}
use Rattle.acc_axioms.specs.declared.kinds.Arguments.TheVariants.{TableKey, TableKeyNumber, UnknownPair, Unknown, UnknownPlaceSide}

abbrev pub axiom_kind : Schema → AxiomKind
axiom_kind (schema.Has t k) = kind.Has
axiom_kind (schema.Count t p) = kind.Count
axiom_kind (schema.Front t k n) = kind.Front
axiom_kind (schema.Same u v) = kind.Same
axiom_kind (schema.NoCol t k c) = kind.NoCol
axiom_kind (schema.NoSum t p c) = kind.NoSum
axiom_kind (schema.OneCount t k) = kind.OneCount
axiom_kind (schema.OneSum t k c) = kind.OneSum
axiom_kind (schema.Opened u) = kind.Opened
axiom_kind (schema.Shut u n side) = kind.Shut
axiom_kind (schema.Empty u) = kind.Empty
axiom_kind (schema.Fresh t k) = kind.Fresh

-- the number of a kind, as it stands in certificates
abbrev pub axiom_number : AxiomKind → ℕ
axiom_number kind.Has = 1
axiom_number kind.Count = 2
axiom_number kind.Front = 3
axiom_number kind.Same = 4
axiom_number kind.NoCol = 5
axiom_number kind.NoSum = 6
axiom_number kind.OneCount = 7
axiom_number kind.OneSum = 8
axiom_number kind.Opened = 9
axiom_number kind.Shut = 10
axiom_number kind.Empty = 11
axiom_number kind.Fresh = 12

-- all kinds, in the order of their numbers
abbrev pub axiom_kinds : List AxiomKind
axiom_kinds =
    kind.Has ∷ kind.Count ∷ kind.Front ∷ kind.Same ∷ kind.NoCol ∷ kind.NoSum ∷ kind.OneCount ∷ kind.OneSum ∷ kind.Opened ∷ kind.Shut
    ∷ kind.Empty ∷ kind.Fresh ∷ []

-- the kind with a number, if there is one
unfoldable pub kind_numbered : ℕ → Option AxiomKind
kind_numbered n = find (λ k. axiom_number k == n) axiom_kinds

-- each kind with the number is the one that is found
abbrev pub FindsEach : Option AxiomKind → ℕ → Type 0
FindsEach found n = (k : AxiomKind) → axiom_number k ≡ n → found ≡ Some k

-- what the arguments of an axiom are
abbrev pub arguments_of : AxiomKind → Arguments
arguments_of kind.Has = TableKey
arguments_of kind.Count = TableKey
arguments_of kind.Front = TableKeyNumber
arguments_of kind.Same = UnknownPair
arguments_of kind.NoCol = TableKeyNumber
arguments_of kind.NoSum = TableKeyNumber
arguments_of kind.OneCount = TableKey
arguments_of kind.OneSum = TableKeyNumber
arguments_of kind.Opened = Unknown
arguments_of kind.Shut = UnknownPlaceSide
arguments_of kind.Empty = Unknown
arguments_of kind.Fresh = TableKey
