-- The tests of equality of axioms and of their kinds decide it.
use Rattle.std.specs.Prelude.{◌≡◌, ◌==◌, ℕ, Bool, ◌&&◌, refl, List, Decides}
use Rattle.std.specs.Cmp.Lexicographic.{pointwise, pointwise_decides}
use Rattle.std.proofs.Common.{ap}
use Rattle.std.proofs.lemmas.Bool.Decides.{Decides-like, Decides-eqb}
use Rattle.acc_base.specs.declared.forms.Lin.{Lin}
use Rattle.acc_base.specs.declared.forms.Unknown.{Unknown}
use Rattle.acc_base.specs.FormEquality.{lin_eq, lin_decides}
use Rattle.acc_base.specs.UnknownEquality.{unknown_eq, unknown_decides}
use Rattle.acc_base.specs.Pairs.{both}
use Rattle.acc_axioms.specs.declared.nodes.Schema.{Schema}
use Rattle.acc_axioms.specs.declared.nodes.Schema.TheVariants as schema
use Rattle.acc_axioms.specs.declared.kinds.AxiomKind.{AxiomKind}
use Rattle.acc_axioms.specs.declared.kinds.AxiomKind.TheVariants as kind
use Rattle.acc_axioms.specs.contracts.nodes.SchemaPartialEq.TheImpl as derived_schema
use Rattle.acc_axioms.specs.contracts.kinds.AxiomKindPartialEq.TheImpl as derived_kind

-- the derived test of kinds
abbrev pub axiom_kind_eq : AxiomKind → AxiomKind → Bool
axiom_kind_eq x y = derived_kind.ghosts.eq x y

pub axiom_kind_decides : (x y : AxiomKind) → Decides (axiom_kind_eq x y) (x ≡ y)
axiom_kind_decides kind.Has kind.Has = (λ h. refl, λ e. refl)
axiom_kind_decides kind.Count kind.Count = (λ h. refl, λ e. refl)
axiom_kind_decides kind.Front kind.Front = (λ h. refl, λ e. refl)
axiom_kind_decides kind.Same kind.Same = (λ h. refl, λ e. refl)
axiom_kind_decides kind.NoCol kind.NoCol = (λ h. refl, λ e. refl)
axiom_kind_decides kind.NoSum kind.NoSum = (λ h. refl, λ e. refl)
axiom_kind_decides kind.OneCount kind.OneCount = (λ h. refl, λ e. refl)
axiom_kind_decides kind.OneSum kind.OneSum = (λ h. refl, λ e. refl)
axiom_kind_decides kind.Opened kind.Opened = (λ h. refl, λ e. refl)
axiom_kind_decides kind.Shut kind.Shut = (λ h. refl, λ e. refl)
axiom_kind_decides kind.Empty kind.Empty = (λ h. refl, λ e. refl)
axiom_kind_decides kind.Fresh kind.Fresh = (λ h. refl, λ e. refl)
axiom_kind_decides x y = (λ h. cc, λ e. cc)

-- the derived test of axioms
abbrev pub schema_eq : Schema → Schema → Bool
schema_eq x y = derived_schema.ghosts.eq x y

of_key : (t u : ℕ) (k l : List Lin) → Decides ((t == u) && pointwise lin_eq k l) ((t ≡ u) × (k ≡ l))
of_key t u k l = both (Decides-eqb t u) (pointwise_decides lin_decides k l)

of_key_and_number : (t u : ℕ) (k l : List Lin) (n m : ℕ)
    → Decides ((t == u) && (pointwise lin_eq k l && (n == m))) ((t ≡ u) × ((k ≡ l) × (n ≡ m)))
of_key_and_number t u k l n m = both (Decides-eqb t u) (both (pointwise_decides lin_decides k l) (Decides-eqb n m))

of_place_and_side : (u w : Unknown) (n m s r : ℕ)
    → Decides (unknown_eq u w && ((n == m) && (s == r))) ((u ≡ w) × ((n ≡ m) × (s ≡ r)))
of_place_and_side u w n m s r = both (unknown_decides u w) (both (Decides-eqb n m) (Decides-eqb s r))

pub schema_decides : (x y : Schema) → Decides (schema_eq x y) (x ≡ y)
schema_decides (schema.Has t k) (schema.Has u l) =
    Decides-like ((t == u) && pointwise lin_eq k l) (λ h. λ i. schema.Has (h.0 i) (h.1 i)) (λ e. (cc, cc)) (of_key t u k l)
schema_decides (schema.Count t k) (schema.Count u l) =
    Decides-like ((t == u) && pointwise lin_eq k l) (λ h. λ i. schema.Count (h.0 i) (h.1 i)) (λ e. (cc, cc)) (of_key t u k l)
schema_decides (schema.Front t k n) (schema.Front u l m) =
    Decides-like ((t == u) && (pointwise lin_eq k l && (n == m))) (λ h. λ i. schema.Front (h.0 i) (h.1.0 i) (h.1.1 i))
    (λ e. (cc, (cc, cc))) (of_key_and_number t u k l n m)
schema_decides (schema.Same u v) (schema.Same w x) =
    Decides-like (unknown_eq u w && unknown_eq v x) (λ h. λ i. schema.Same (h.0 i) (h.1 i)) (λ e. (cc, cc))
    (both (unknown_decides u w) (unknown_decides v x))
schema_decides (schema.NoCol t k n) (schema.NoCol u l m) =
    Decides-like ((t == u) && (pointwise lin_eq k l && (n == m))) (λ h. λ i. schema.NoCol (h.0 i) (h.1.0 i) (h.1.1 i))
    (λ e. (cc, (cc, cc))) (of_key_and_number t u k l n m)
schema_decides (schema.NoSum t k n) (schema.NoSum u l m) =
    Decides-like ((t == u) && (pointwise lin_eq k l && (n == m))) (λ h. λ i. schema.NoSum (h.0 i) (h.1.0 i) (h.1.1 i))
    (λ e. (cc, (cc, cc))) (of_key_and_number t u k l n m)
schema_decides (schema.OneCount t k) (schema.OneCount u l) =
    Decides-like ((t == u) && pointwise lin_eq k l) (λ h. λ i. schema.OneCount (h.0 i) (h.1 i)) (λ e. (cc, cc)) (of_key t u k l)
schema_decides (schema.OneSum t k n) (schema.OneSum u l m) =
    Decides-like ((t == u) && (pointwise lin_eq k l && (n == m))) (λ h. λ i. schema.OneSum (h.0 i) (h.1.0 i) (h.1.1 i))
    (λ e. (cc, (cc, cc))) (of_key_and_number t u k l n m)
schema_decides (schema.Opened u) (schema.Opened w) =
    Decides-like (unknown_eq u w) (λ h. ap schema.Opened h) (λ e. cc) (unknown_decides u w)
schema_decides (schema.Shut u n s) (schema.Shut w m r) =
    Decides-like (unknown_eq u w && ((n == m) && (s == r))) (λ h. λ i. schema.Shut (h.0 i) (h.1.0 i) (h.1.1 i)) (λ e. (cc, (cc, cc)))
    (of_place_and_side u w n m s r)
schema_decides (schema.Empty u) (schema.Empty w) =
    Decides-like (unknown_eq u w) (λ h. ap schema.Empty h) (λ e. cc) (unknown_decides u w)
schema_decides (schema.Fresh t k) (schema.Fresh u l) =
    Decides-like ((t == u) && pointwise lin_eq k l) (λ h. λ i. schema.Fresh (h.0 i) (h.1 i)) (λ e. (cc, cc)) (of_key t u k l)
schema_decides x y = (λ h. cc, λ e. cc)
