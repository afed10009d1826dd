-- The kinds of axioms in the order in which they are tried.
use Rattle.std.specs.Prelude.{◌≡◌, true, List, [], ◌∷◌}
use Rattle.std.specs.List.{list_any}
use Rattle.acc_axioms.specs.SchemaEquality.{axiom_kind_eq}
use Rattle.acc_axioms.specs.declared.kinds.AxiomKind.{AxiomKind}
use Rattle.acc_axioms.specs.declared.kinds.AxiomKind.TheVariants as kind

abbrev pub kinds : List AxiomKind
kinds =
    kind.Shut ∷ kind.Opened ∷ kind.Empty ∷ kind.Fresh ∷ kind.Same ∷ kind.OneCount ∷ kind.OneSum ∷ kind.Has ∷ kind.Count ∷ kind.Front
    ∷ kind.NoCol ∷ kind.NoSum ∷ []

-- no kind is left out
abbrev pub NamesEachKind : List AxiomKind → Type 0
NamesEachKind ks = (k : AxiomKind) → list_any (axiom_kind_eq k) ks ≡ true
