-- What single form rules say in other words.
use Rattle.std.proofs.Common.{◌≡◌, ℕ, ◌-◌, ◌<◌, ◌≤◌, ◌==◌, Bool, true, false, ◌||◌, not, nat_le, nat_lt, List, [], ◌∷◌, length, get_or}
use Rattle.std.proofs.Common.{Option, None, Some, slice_get, All, ℤ, pos, ◌+ℤ◌, ◌*ℤ◌, refl, ap, arith}
use Rattle.std.specs.Ordering.{int_eq}
use Rattle.std.proofs.lemmas.Bool.{false≢true, and_parts, leb-true, ltb-true, eqb-true}
use Rattle.std.proofs.lemmas.Bool.Decides.{Decides-int_eq}
use Rattle.std.proofs.lemmas.Int.{ints}
use Rattle.std.proofs.lemmas.List.Elements.{All-head}
use Rattle.acc_base.specs.declared.forms.Lin.{Lin}
use Rattle.acc_base.specs.declared.tables.Table.{Table}
use Rattle.acc_base.specs.declared.steps.Read.{Read}
use Rattle.acc_base.specs.declared.steps.Action.{Action}
use Rattle.acc_base.specs.declared.steps.Target.{Target}
use Rattle.acc_base.specs.declared.steps.Target.TheVariants.{Point as ToPoint, Commit, Undone, Refuse}
use Rattle.acc_base.specs.declared.steps.Path.{Path}
use Rattle.acc_base.specs.declared.steps.Step.{Step}
use Rattle.acc_base.specs.declared.designs.Side.{Side}
use Rattle.acc_base.specs.declared.designs.TxType.{TxType}
use Rattle.acc_base.specs.Reads.{assigned}
use Rattle.acc_base.specs.Linear.{var, lin_value}
use Rattle.acc_formed.specs.Widths.{is_key, is_prefix, is_once, is_variable, is_own_component, is_own_key, may_write}
use Rattle.acc_formed.specs.Ends.{assigns_local, is_undone}
use Rattle.acc_formed.specs.WellFormed.{IsActionFormed, IsPathFormed, IsStepFormed}

-- ---- keys and prefixes

pub key_width : (t : Table) (k : List Lin) → is_key (Some t) k ≡ true → length k ≡ t.width
key_width t k h = eqb-true (length k) t.width h

pub prefix_width : (t : Table) (p : List Lin) → is_prefix (Some t) p ≡ true → (1 ≤ length p) × (length p ≤ t.width)
prefix_width t p h =
    let a = and_parts (nat_le 1 (length p)) (nat_le (length p) t.width) h in
    (leb-true 1 (length p) a.0, leb-true (length p) t.width a.1)

-- ---- a variable alone

-- the linear value of a variable
abbrev pub alone : ℕ → Lin
alone x = record { coeffs = (x, pos 1) ∷ []; constant = pos 0 }

once : (x : ℕ) (coeffs : List (ℕ × ℤ)) → is_once x coeffs ≡ true → coeffs ≡ (x, pos 1) ∷ []
once x [] h = absurd (false≢true h)
once x (t ∷ []) h =
    let a = and_parts (t.0 == x) (int_eq t.1 (pos 1)) h in
    let variable : t.0 ≡ x = eqb-true t.0 x a.0 in
    let number : t.1 ≡ pos 1 = (Decides-int_eq t.1 (pos 1)).0 a.1 in
    λ i. (variable i, number i) ∷ []
once x (t ∷ u ∷ rest) h = absurd (false≢true h)

pub is_alone : (x : ℕ) (l : Lin) → is_variable x l ≡ true → l ≡ alone x
is_alone x l h =
    let a = and_parts (is_once x l.coeffs) (int_eq l.constant (pos 0)) h in
    let coeffs : l.coeffs ≡ (x, pos 1) ∷ [] = once x l.coeffs a.0 in
    let constant : l.constant ≡ pos 0 = (Decides-int_eq l.constant (pos 0)).0 a.1 in
    λ i. record { coeffs = coeffs i; constant = constant i }

alone_value : (v : ℤ) → (pos 1 *ℤ v +ℤ pos 0) +ℤ pos 0 ≡ v
alone_value v = omega (arith, ints)

-- it is worth what the variable is
pub value_alone : (env : List ℤ) (x : ℕ) → lin_value env (alone x) ≡ var env x
value_alone env x = alone_value (var env x)

own_component : (me : ℕ) (o : Option Lin) → is_own_component me o ≡ true → o ≡ Some (alone me)
own_component me None h = absurd (false≢true h)
own_component me (Some l) h = ap (λ (x : Lin). Some x) (is_alone me l h)

own_of_private : (own key : Bool) → own ≡ true → (not own || key) ≡ true → key ≡ true
own_of_private true key h g = g
own_of_private false key h g = absurd (false≢true h)

-- a write to a private table has `self` alone as the last component of its key
pub private_key : (t : Table) (me : ℕ) (k : List Lin) → t.own ≡ true → may_write (Some t) me k ≡ true →
    slice_get k (length k - 1) ≡ Some (alone me)
private_key t me k private h = own_component me (slice_get k (length k - 1)) (own_of_private t.own (is_own_key me k) private h)

-- ---- reads, paths, start points

pub assigned_within : (t : TxType) (r : Read) → assigns_local t r ≡ true → (t.params ≤ assigned r) × (assigned r < length t.locals)
assigned_within t r h =
    let a = and_parts (nat_le t.params (assigned r)) (nat_lt (assigned r) (length t.locals)) h in
    (leb-true t.params (assigned r) a.0, ltb-true (assigned r) (length t.locals) a.1)

empty_of_none : {T : Type 0} (xs : List T) → length xs ≡ 0 → xs ≡ []
empty_of_none [] h = refl
empty_of_none (x ∷ xs) h = absurd (omega arith)

-- the last path of a step has no guard
pub last_unguarded : (tables : List Table) (t : TxType) (side : Side) (is_bare : Bool) (s : Step) (d : Path) →
    IsStepFormed tables t side is_bare s → 0 < length s.paths → (get_or s.paths (length s.paths - 1) d).guard ≡ []
last_unguarded tables t side is_bare s d f some =
    let i = length s.paths - 1 in
    empty_of_none (get_or s.paths i d).guard (f.last i d (omega arith) (omega arith))

undone : (to : Target) → is_undone to ≡ true → to ≡ Undone
undone (ToPoint p) h = absurd (false≢true h)
undone Commit h = absurd (false≢true h)
undone Undone h = refl
undone (Refuse n) h = absurd (false≢true h)

no_actions : (tables : List Table) (t : TxType) (actions : List Action) → All (IsActionFormed tables t true) actions → actions ≡ []
no_actions tables t [] all = refl
no_actions tables t (a ∷ rest) all = absurd (false≢true (All-head (IsActionFormed tables t true) a rest all).allowed)

-- a path of a start point's undo does nothing and ends undone
pub bare_path : (tables : List Table) (t : TxType) (side : Side) (p : Path) → IsPathFormed tables t side true p → (p.actions ≡ []) ×
    (p.target ≡ Undone)
bare_path tables t side p f = (no_actions tables t p.actions f.actions, undone p.target f.bare)
