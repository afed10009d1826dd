-- Printed types use names that are defined, and define new ones.
use Rattle.std.proofs.Common.{◌≡◌, ℕ, Bool, true, false, ◌||◌, not, List, [], ◌∷◌, ◌++◌, Some, None, refl, sym, ap, subst, ◌∙◌}
use Rattle.std.proofs.Common.{append_assoc, take, drop}
use Rattle.std.specs.Prelude.{map, if◌then◌else◌}
use Rattle.std.proofs.lemmas.List.{append-nil, take-append-drop}
use Rattle.acc_grammar.specs.Readers.{AllIn}
use Rattle.acc_base.specs.declared.tables.Table.{Table}
use Rattle.acc_base.specs.declared.designs.Point.{Point}
use Rattle.acc_base.specs.declared.designs.TxType.{TxType}
use Rattle.acc_parse_syntax.specs.declared.trees.Sum.{Sum}
use Rattle.acc_parse_syntax.specs.declared.trees.PointTree.{PointTree}
use Rattle.acc_parse_names.specs.Names.{stands_in, defines_again}
use Rattle.acc_parse_names.specs.Scopes.{Scope as Known, locals_of, points_in, point_names}
use Rattle.acc_parse_names.specs.Faults.{sum_fault, clause_fault, variant_faults, step_faults, point_faults, points_faults, returns_faults}
use Rattle.acc_parse_names.specs.Faults.{locals_faults, head_faults, type_scope, type_faults, types_faults}
use Rattle.acc_print.specs.Names.{Scope, name_at, names_within, within}
use Rattle.acc_print.specs.Types.{is_zero}
use Rattle.acc_parse_readback.specs.Trees.{lin_tree, names_tree, clause_tree}
use Rattle.acc_parse_readback.specs.TypeTrees.{table_tree, step_tree, variant_tree, point_tree, first_point, type_tree}
use Rattle.acc_parse_readback.specs.Printable.{IsName, AreNew, IsClauseSaid}
use Rattle.acc_parse_readback.specs.PrintableTypes.{IsPointSaid, ArePointsSaid, IsTypeSaid}
use Rattle.acc_parse_readback.proofs.Faultless.{neither, not_either, none_any, AreFalse, false_both, false_mapped}
use Rattle.acc_parse_readback.proofs.StandingNames.{stands_at, AreSame, same_within}
use Rattle.acc_parse_readback.proofs.NamedValues.{Fits, lin_defined}
use Rattle.acc_parse_readback.proofs.NamedClauses.{names_listed, clause_defined}
use Rattle.acc_parse_readback.proofs.NamedSteps.{titles, step_defined}

-- ---- points

by_zero : (b : Bool) (variables : List (List ℕ)) (v : Sum) → sum_fault variables v ≡ false →
    AreFalse (variant_faults variables (if b then None else Some v))
by_zero true variables v h = tt
by_zero false variables v h = (h, tt)

module _ (s : Scope) (v : Known) (fits : Fits s v) (points : List Point) where
  point_defined : (again : Bool) (p : Point) → again ≡ false → IsPointSaid s points p →
      AreFalse (point_faults v (titles points) again (point_tree s points p))
  point_defined again p new h = (
    new,
    false_both (variant_faults v.variables (variant_tree s.names p.variant)) _
        (by_zero (is_zero p.variant.coeffs p.variant.constant) v.variables (lin_tree s.names p.variant)
        (lin_defined s.names v.variables fits.same p.variant h.variant))
        (false_both (map (clause_fault v) (map (clause_tree s) p.clauses)) _
        (false_mapped (IsClauseSaid s) (clause_fault v) (clause_tree s) (clause_defined s v fits) p.clauses h.clauses)
        (false_both (step_faults v (titles points) (step_tree s points p.next)) _ (step_defined s v fits points p.next h.next)
        (step_defined s v fits points p.undo h.undo))),
  )

  pub points_defined : (earlier : List (List ℕ)) (ps : List Point) → defines_again earlier (titles ps) ≡ false →
      AllIn (IsPointSaid s points) ps → AreFalse (points_faults v (titles points) earlier (map (point_tree s points) ps))
  points_defined earlier [] new h = tt
  points_defined earlier (p ∷ ps) new h =
      let both = not_either (stands_in p.name earlier) (defines_again (earlier ++ p.name ∷ []) (titles ps)) new in
      false_both (point_faults v (titles points) (stands_in p.name earlier) (point_tree s points p)) _
      (point_defined (stands_in p.name earlier) p both.0 h.0)
      (points_defined (earlier ++ p.name ∷ []) ps both.1 h.1)

-- the points, a first one and the others
pub points_are : (s : Scope) (points ps : List Point) → ArePointsSaid s points ps →
    first_point s points ps ∷ map (point_tree s points) (drop 1 ps) ≡ map (point_tree s points) ps
points_are s points [] h = absurd h
points_are s points (p ∷ ps) h = refl

each_point : (s : Scope) (points ps : List Point) → ArePointsSaid s points ps → AllIn (IsPointSaid s points) ps
each_point s points [] h = absurd h
each_point s points (p ∷ ps) h = h

titles_are : (s : Scope) (points ps : List Point) → map (λ (p : PointTree). p.name) (map (point_tree s points) ps) ≡ titles ps
titles_are s points [] = refl
titles_are s points (p ∷ ps) = ap (λ (xs : List (List ℕ)). p.name ∷ xs) (titles_are s points ps)

-- ---- what a type names

module _ (tables : List Table) (t : TxType) (h : IsTypeSaid tables t) where
  pub point_names_are : point_names (type_tree tables t) ≡ titles t.points
  point_names_are =
      ap (λ (ps : List PointTree). map (λ (p : PointTree). p.name) ps) (points_are (within tables t) t.points t.points h.points) ∙
      titles_are (within tables t) t.points t.points

pub locals_are : (tables : List Table) (t : TxType) → locals_of (type_tree tables t) ≡ t.locals
locals_are tables t = ap (λ (xs : List (List ℕ)). take t.params t.locals ++ xs) (names_listed (drop t.params t.locals)) ∙ take-append-drop
    t.params t.locals

pub type_same : (tables : List Table) (t : TxType) → AreSame (names_within t.locals) (locals_of (type_tree tables t))
type_same tables t = subst (AreSame (names_within t.locals)) (sym (locals_are tables t)) (same_within t.locals)

type_fits : (tables : List Table) (t : TxType) → AreNew [] (map (λ (u : Table). u.name) tables) →
    Fits (within tables t) (type_scope (map table_tree tables) (type_tree tables t))
type_fits tables t new = record { tables = refl; new = new; same = type_same tables t }

-- ---- the head of a type

-- names are new where a front of them is, and the rest behind that front
again_parts : (earlier xs ys : List (List ℕ)) →
    defines_again earlier (xs ++ ys) ≡ (defines_again earlier xs || defines_again (earlier ++ xs) ys)
again_parts earlier [] ys = ap (λ (zs : List (List ℕ)). defines_again zs ys) (sym (append-nil earlier))
again_parts earlier (x ∷ xs) ys =
    ap (λ (b : Bool). stands_in x earlier || b) (again_parts (earlier ++ x ∷ []) xs ys ∙ ap
    (λ (zs : List (List ℕ)). defines_again (earlier ++ x ∷ []) xs || defines_again zs ys) (append_assoc earlier (x ∷ []) xs))
    ∙ or_assoc (stands_in x earlier) (defines_again (earlier ++ x ∷ []) xs) (defines_again (earlier ++ (x ∷ xs)) ys)
  where
    or_assoc : (a b c : Bool) → (a || (b || c)) ≡ ((a || b) || c)
    or_assoc true b c = refl
    or_assoc false b c = refl

-- locals are new: the parameters, and what is behind them
locals_new : (n : ℕ) (xs : List (List ℕ)) → AreNew [] xs → (defines_again [] (take n xs) ≡ false) ×
    (defines_again (take n xs) (drop n xs) ≡ false)
locals_new n xs new = not_either (defines_again [] (take n xs)) (defines_again (take n xs) (drop n xs))
    (sym (again_parts [] (take n xs) (drop n xs)) ∙ ap (defines_again []) (take-append-drop n xs) ∙ new)

locals_defined : (params xs : List (List ℕ)) → defines_again params xs ≡ false → AreFalse (locals_faults params (names_tree xs))
locals_defined params [] h = tt
locals_defined params (x ∷ xs) h = (h, tt)

numbered_stand : (locals : List (List ℕ)) (ns : List ℕ) → AllIn IsName (map (name_at locals) ns) →
    AllIn (λ x. not (stands_in x locals) ≡ false) (map (name_at locals) ns)
numbered_stand locals [] h = tt
numbered_stand locals (n ∷ ns) h = (ap not (stands_at locals n h.0), numbered_stand locals ns h.1)

returns_defined : (locals xs : List (List ℕ)) → AllIn (λ x. not (stands_in x locals) ≡ false) xs →
    AreFalse (returns_faults locals (names_tree xs))
returns_defined locals [] h = tt
returns_defined locals (x ∷ xs) h = (none_any (λ y. not (stands_in y locals)) (x ∷ xs) h, tt)

head_defined : (tables : List Table) (again : Bool) (t : TxType) → again ≡ false → IsTypeSaid tables t →
    AreFalse (head_faults again (type_tree tables t))
head_defined tables again t new h =
    let returned = map (name_at t.locals) t.returns in
    let both = locals_new t.params t.locals h.new_locals in (
      neither again (defines_again [] (take t.params t.locals)) new both.0,
      (
        refl,
        false_both (returns_faults (locals_of (type_tree tables t)) (names_tree returned)) _
            (subst (λ (xs : List (List ℕ)). AreFalse (returns_faults xs (names_tree returned))) (sym (locals_are tables t))
            (returns_defined t.locals returned (numbered_stand t.locals t.returns h.returns)))
            (locals_defined (take t.params t.locals) (drop t.params t.locals) both.1),
      ),
    )

-- ---- types

module _ (tables : List Table) (new_tables : AreNew [] (map (λ (u : Table). u.name) tables)) where
  type_defined : (again : Bool) (t : TxType) → again ≡ false → IsTypeSaid tables t →
      AreFalse (type_faults (map table_tree tables) again (type_tree tables t))
  type_defined again t new h =
      let s = within tables t in
      let v = type_scope (map table_tree tables) (type_tree tables t) in
      let fits = type_fits tables t new_tables in
      false_both (head_faults again (type_tree tables t)) _ (head_defined tables again t new h)
      (false_both (map (clause_fault v) (map (clause_tree s) t.posts)) _
      (false_mapped (IsClauseSaid s) (clause_fault v) (clause_tree s) (clause_defined s v fits) t.posts h.posts)
      (false_both (map (clause_fault v) (map (clause_tree s) t.repairs)) _
      (false_mapped (IsClauseSaid s) (clause_fault v) (clause_tree s) (clause_defined s v fits) t.repairs h.repairs)
      (subst (λ (xs : List (List ℕ)). AreFalse (points_faults v xs [] (points_in (type_tree tables t)))) (sym (point_names_are tables t h))
      (subst (λ (ps : List PointTree). AreFalse (points_faults v (titles t.points) [] ps)) (sym (points_are s t.points t.points h.points))
      (points_defined s v fits t.points [] t.points h.new_points (each_point s t.points t.points h.points))))))

  pub types_defined : (earlier : List (List ℕ)) (ts : List TxType) → defines_again earlier (map (λ (t : TxType). t.name) ts) ≡ false →
      AllIn (IsTypeSaid tables) ts → AreFalse (types_faults (map table_tree tables) earlier (map (type_tree tables) ts))
  types_defined earlier [] new h = tt
  types_defined earlier (t ∷ ts) new h =
      let both = not_either (stands_in t.name earlier) (defines_again (earlier ++ t.name ∷ []) (map (λ (u : TxType). u.name) ts)) new in
      false_both (type_faults (map table_tree tables) (stands_in t.name earlier) (type_tree tables t)) _
      (type_defined (stands_in t.name earlier) t both.0 h.0)
      (types_defined (earlier ++ t.name ∷ []) ts both.1 h.1)
