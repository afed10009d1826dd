-- The clauses of a well-formed design can be tried.
use Rattle.std.proofs.Common.{◌≡◌, ℕ, ◌+◌, ◌<◌, ◌≤◌, ◌^◌, ◌==◌, true, ◌&&◌, List, [], ◌∷◌, length, get_or, Option, Some}
use Rattle.std.proofs.Common.{None, All, refl, ℤ, pos, arith, slice_get, length-append, nat_le}
use Rattle.std.specs.Prelude.{IsTrue, option_and_then}
use Rattle.std.specs.List.{list_all}
use Rattle.std.proofs.lemmas.Bool.{false≢true, and_parts, leb-true, eqb-true}
use Rattle.std.proofs.lemmas.List.Elements.{All-nil}
use Rattle.std.proofs.lemmas.List.Sums.{AllPass-from_list_all}
use Rattle.acc_base.specs.declared.forms.Lin.{Lin}
use Rattle.acc_base.specs.declared.forms.Atom.{Atom}
use Rattle.acc_base.specs.declared.forms.Atom.TheVariants.{One, Var, Has, Col, Count, Sum}
use Rattle.acc_base.specs.declared.forms.Rel.{Rel}
use Rattle.acc_base.specs.declared.forms.Clause.{Clause}
use Rattle.acc_base.specs.declared.tables.Table.{Table}
use Rattle.acc_base.specs.declared.designs.Design.{Design}
use Rattle.acc_base.specs.declared.designs.TxType.{TxType}
use Rattle.acc_base.specs.declared.designs.Point.{Point}
use Rattle.acc_base.specs.declared.machines.Frame.{Frame}
use Rattle.acc_base.specs.Assertions.{clauses_of}
use Rattle.acc_base.specs.Atoms.{key_of}
use Rattle.acc_base.specs.Effects.{point_of}
use Rattle.acc_base.specs.Linear.{variables}
use Rattle.acc_base.specs.Runnable.{IsKey, IsSmallFrame}
use Rattle.acc_base.specs.Sums.{Term}
use Rattle.acc_base.proofs.Items.{at_slice_get}
use Rattle.acc_formed.specs.Ranges.{clause_in, rel_in, product_in, atom_in}
use Rattle.acc_formed.specs.Widths.{is_key, is_prefix, rel_fits, product_fits, atom_fits}
use Rattle.acc_formed.specs.Sizes.{clause_small, is_short, rel_small}
use Rattle.acc_formed.specs.WellFormed.{IsClauseFormed, AreClausesFormed, IsTypeFormed, IsPointFormed, IsWellFormed}
use Rattle.acc_formed.proofs.InRange.{design_range, TypeInRange, PointInRange}
use Rattle.acc_formed.proofs.Runs.{IsTableSmall, table_is_small}
use Rattle.acc_formed.proofs.Uses.{key_width, prefix_width}
use Rattle.acc_lift.proofs.FormRules.{numbered_at}
use Rattle.acc_audit_trial.specs.Trials.{CanWeigh, CanMeet, CanTry}
use Rattle.acc_audit_complaints.specs.Complaints.{IsShort}

no_items : {X : Type 0} (xs : List X) → length xs ≡ 0 → xs ≡ []
no_items [] h = refl
no_items (x ∷ xs) h = absurd (omega (arith, h))

module _ (tables : List Table) (small : All IsTableSmall tables) where
  key_few : (o : Option Table) → ((t : Table) → o ≡ Some t → IsTableSmall t) → (k : List Lin) → is_key o k ≡ true → length k ≤ 6
  key_few None is k h = absurd (false≢true h)
  key_few (Some t) is k h = let s = is t refl in omega (arith, key_width t k h, s.width)

  prefix_few : (o : Option Table) → ((t : Table) → o ≡ Some t → IsTableSmall t) → (p : List Lin) → is_prefix o p ≡ true → length p ≤ 6
  prefix_few None is p h = absurd (false≢true h)
  prefix_few (Some t) is p h = let s = is t refl in omega (arith, (prefix_width t p h).1, s.width)

  at : (t : ℕ) (x : Table) → slice_get tables t ≡ Some x → IsTableSmall x
  at t x e = at_slice_get IsTableSmall tables t x small e

  atom_few : (a : Atom) → atom_fits tables a ≡ true → IsKey (key_of a)
  atom_few One h = omega arith
  atom_few (Var x) h = omega arith
  atom_few (Has t k) h = key_few (slice_get tables t) (at t) k h
  atom_few (Col t k c) h = key_few (slice_get tables t) (at t) k h
  atom_few (Count t p) h = prefix_few (slice_get tables t) (at t) p h
  atom_few (Sum t p c) h = prefix_few (slice_get tables t) (at t) p h

  module _ (vars : ℕ) where
    term_tries : (t : Term) → product_in tables vars t ≡ true → product_fits tables t ≡ true → CanWeigh t
    term_tries t h g =
        let a = and_parts (length t.0.under == 0) (atom_in tables vars t.0.atom) h in
        record { bare = no_items t.0.under (eqb-true (length t.0.under) 0 a.0); key = atom_few t.0.atom g }

    rel_tries : (r : Rel) → rel_in tables vars r ≡ true → rel_fits tables r ≡ true → CanMeet r
    rel_tries r h g = λ i d l. term_tries (get_or r.form.terms i d) (AllPass-from_list_all (product_in tables vars) r.form.terms h i d l)
        (AllPass-from_list_all (product_fits tables) r.form.terms g i d l)

  clause_tries : (vars : ℕ) (names : List (List ℕ)) (c : Clause) → clause_in tables vars c ≡ true → IsClauseFormed tables names c → CanTry c
  clause_tries vars names c h f =
      let n = vars + length c.vars in
      let a = and_parts (list_all (rel_in tables n) c.guards) (rel_in tables n c.rel) h in
      let b = and_parts (list_all (rel_fits tables) c.guards) (rel_fits tables c.rel) f.widths in
      record {
        guards = λ i d l. rel_tries n (get_or c.guards i d) (AllPass-from_list_all (rel_in tables n) c.guards a.0 i d l)
            (AllPass-from_list_all (rel_fits tables) c.guards b.0 i d l);
        rel = rel_tries n c.rel a.1 b.1;
      }

  all_try : (vars : ℕ) (names : List (List ℕ)) (most : ℕ) (cs : List Clause) → All (λ c. IsTrue (clause_in tables vars c)) cs →
      AreClausesFormed tables names most cs → All CanTry cs
  all_try vars names most cs h f = λ i d l. clause_tries vars names (get_or cs i d) (h i d l) (f.each i d l)

few_vars : (c : Clause) → clause_small c ≡ true → length c.vars ≤ 8
few_vars c h =
    let a = and_parts (nat_le (length c.vars) 8 && list_all is_short c.vars && nat_le (length c.guards) 16 && list_all rel_small c.guards)
    (rel_small c.rel) h in
    let b = and_parts (nat_le (length c.vars) 8 && list_all is_short c.vars && nat_le (length c.guards) 16) (list_all rel_small c.guards)
    a.0 in
    let e = and_parts (nat_le (length c.vars) 8 && list_all is_short c.vars) (nat_le (length c.guards) 16) b.0 in
    let f = and_parts (nat_le (length c.vars) 8) (list_all is_short c.vars) e.0 in
    leb-true (length c.vars) 8 f.0

all_short : (tables : List Table) (names : List (List ℕ)) (most : ℕ) (cs : List Clause) (env : List ℤ) → AreClausesFormed tables names most cs →
    length env ≤ 49 → All (IsShort env) cs
all_short tables names most cs env f few = λ i d l. let v = few_vars (get_or cs i d) (f.each i d l).limits in omega (arith, v, few)

-- what `first_complaint` asks of clauses
pub record AreAsked (env : List ℤ) (cs : List Clause) : Type 0 where
  pub can : All CanTry cs
  pub short : All (IsShort env) cs
  pub few : length cs < 2 ^ 32

module _ (d : Design) (f : IsWellFormed d) where
  small_tables : All IsTableSmall d.tables
  small_tables = λ i t m. table_is_small _ (f.tables i t m).limits

  pub always_asked : AreAsked [] d.always
  always_asked = record {
    can = all_try d.tables small_tables 0 [] 128 d.always (design_range d f.in_range).always f.always;
    short = all_short d.tables [] 128 d.always [] f.always (omega arith);
    few = let n = f.always.few in omega (arith, n);
  }

  none_asked : (env : List ℤ) → AreAsked env []
  none_asked env = record { can = All-nil CanTry; short = All-nil (IsShort env); few = omega arith }

  type_asked : (ty p : ℕ) (env : List ℤ) → length env ≤ 49 → (x : Option TxType) → slice_get d.types ty ≡ x →
      AreAsked env (clauses_of (option_and_then (λ t. slice_get t.points p) x))
  type_asked ty p env few None e = none_asked env
  type_asked ty p env few (Some x) e = by (slice_get x.points p) refl
    where
      by : (o : Option Point) → slice_get x.points p ≡ o → AreAsked env (clauses_of o)
      by None g = none_asked env
      by (Some point) g =
          let formed = numbered_at (IsTypeFormed d.tables d.types) d.types ty x f.types e in
          let range = at_slice_get (TypeInRange d.tables) d.types ty x (design_range d f.in_range).types e in
          let point_formed = numbered_at (IsPointFormed d.tables x) x.points p point formed.points g in
          let point_range = at_slice_get (PointInRange d.tables (length x.locals + 1) (length x.points)) x.points p point range.points g in
          record {
            can = all_try d.tables small_tables (length x.locals + 1) x.locals 64 point.clauses point_range.clauses point_formed.clauses;
            short = all_short d.tables x.locals 64 point.clauses env point_formed.clauses few;
            few = let n = point_formed.clauses.few in omega (arith, n);
          }

  pub frame_asked : (frame : Frame) → IsSmallFrame frame →
      AreAsked (variables frame.t frame.locals) (clauses_of (point_of d frame.ty frame.point))
  frame_asked frame small =
      let n = small.few in
      type_asked frame.ty frame.point (variables frame.t frame.locals)
      (omega (arith, n, length-append frame.locals (pos frame.t ∷ []))) (slice_get d.types frame.ty) refl
