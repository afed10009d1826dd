-- The points and paths of a design are small where it is well-formed but for the number of its entries.
use Rattle.std.proofs.Common.{◌≡◌, ℕ, zero, suc, ◌+◌, ◌<◌, ◌≤◌, Bool, true, false, List, [], ◌∷◌, ◌++◌, length, subst, refl, arith, Option}
use Rattle.std.proofs.Common.{Some, None}
use Rattle.std.specs.Prelude.{slice_get, slice_index_or, nat_le, nat_lt, All, ◌&&◌, ◌==◌}
use Rattle.std.specs.List.{AllByRecursion, list_all}
use Rattle.std.proofs.lemmas.Bool.{and_parts, leb-true, ltb-true}
use Rattle.std.proofs.lemmas.List.Sums.{AllPass-from_list_all}
use Rattle.acc_base.specs.declared.forms.Clause.{Clause}
use Rattle.acc_base.specs.declared.tables.Table.{Table}
use Rattle.acc_base.specs.declared.steps.Step.{Step}
use Rattle.acc_base.specs.declared.designs.At.{At}
use Rattle.acc_base.specs.declared.designs.Side.{Side}
use Rattle.acc_base.specs.declared.designs.Side.TheVariants.{Next, Undo}
use Rattle.acc_base.specs.declared.designs.Point.{Point}
use Rattle.acc_base.specs.declared.designs.TxType.{TxType}
use Rattle.acc_base.specs.declared.designs.Entry.{Entry}
use Rattle.acc_base.specs.declared.designs.Design.{Design}
use Rattle.acc_base.specs.Effects.{step_at}
use Rattle.acc_oblig.specs.FormedRanges.{locals_of, entry_in}
use Rattle.acc_oblig.specs.Sizes.{is_short, rel_small, clause_small, table_small}
use Rattle.acc_oblig.specs.WellFormed.{AreClausesFormed, IsStepFormed, IsPointFormed, IsTypeFormed}
use Rattle.acc_oblig.proofs.InRange.{entry_range}
use Rattle.acc_oblig.proofs.Runs.{table_is_small}
use Rattle.acc_oblig.specs.Drafts.{each_from, each, step_paths}
use Rattle.acc_oblig.proofs.OnPath.{numbered_at}
use Rattle.acc_oblig_places.specs.ManyEntries.{IsFormedButEntries}
use Rattle.acc_oblig_places.specs.Rooms.{HasFewVars, IsSmallEntry, IsSmallStep, IsSmallTable, IsSmallDesign, IsSmallPoint, IsSmallType}
use Rattle.acc_oblig_places.specs.Rooms.{IsSmallAt, IsSmallPointPlace, IsSmallPathPlace}
use Rattle.acc_oblig_places.specs.DesignPlaces.{PointPlace, joined, point_place_alone, path_place_alone, places_of_point, point_places}

-- ---- what holds of each item holds of all that is joined

module _ {U : Type 0} (P : U → Type 0) where
  all_join : (xs ys : List U) → AllByRecursion P xs → AllByRecursion P ys → AllByRecursion P (xs ++ ys)
  all_join [] ys h g = g
  all_join (x ∷ xs) ys h g = (h.0, all_join xs ys h.1 g)

  all_from :
      {T : Type 0} (make : ℕ → T → List U) (i : ℕ) (xs : List T)
      → ((k : ℕ) (x : T) → k < length xs → AllByRecursion P (make (i + k) (slice_index_or xs k x))) → AllByRecursion P (each_from i make xs)
  all_from make i [] h = tt
  all_from make i (x ∷ xs) h =
      let e : i + zero ≡ i = omega arith in
      all_join (make i x) (each_from (i + 1) make xs) (subst (λ n. AllByRecursion P (make n x)) e (h zero x (omega arith)))
      (all_from make (i + 1) xs (λ k d l. let f : i + suc k ≡ i + 1 + k = omega arith in
      subst (λ n. AllByRecursion P (make n (slice_index_or xs k d))) f (h (suc k) d (omega arith))))

  pub all_joined :
      {S : Type 0} (Q : S → Type 0) (make : S → List U) (xs : List S) → ((x : S) → Q x → AllByRecursion P (make x)) → AllByRecursion Q xs
      → AllByRecursion P (joined make xs)
  all_joined Q make [] h g = tt
  all_joined Q make (x ∷ xs) h g = all_join (make x) (joined make xs) (h x g.0) (all_joined Q make xs h g.1)

-- ---- the parts of a design

few_vars : (c : Clause) → clause_small c ≡ true → HasFewVars c
few_vars c h =
    let vars = nat_le (length c.vars) 8 in
    let names = list_all is_short c.vars in
    let guards = nat_le (length c.guards) 16 in
    let a = and_parts (vars && names && guards && list_all rel_small c.guards) (rel_small c.rel) h in
    let b = and_parts (vars && names && guards) (list_all rel_small c.guards) a.0 in
    let e = and_parts (vars && names) guards b.0 in
    leb-true (length c.vars) 8 (and_parts vars names e.0).0

pub clauses_small :
    (tables : List Table) (names : List (List ℕ)) (most : ℕ) (cs : List Clause) → AreClausesFormed tables names most cs → All HasFewVars cs
clauses_small tables names most cs f = λ k c l. few_vars (slice_index_or cs k c) (f.each k c l).limits

small_step : (tables : List Table) (x : TxType) (side : Side) (bare : Bool) (s : Step) → IsStepFormed tables x side bare s → IsSmallStep s
small_step tables x side bare s f = record { reads = f.few_reads; paths = f.few_paths }

small_point : (tables : List Table) (x : TxType) (i : ℕ) (p : Point) → IsPointFormed tables x i p → IsSmallPoint p
small_point tables x i p f =
    record {
      few = f.clauses.few;
      clauses = clauses_small tables x.locals 64 p.clauses f.clauses;
      next = small_step tables x Next false p.next f.next;
      undo = small_step tables x Undo (i == 0) p.undo f.undo;
    }

small_type : (tables : List Table) (types : List TxType) (i : ℕ) (x : TxType) → IsTypeFormed tables types i x → IsSmallType x
small_type tables types i x f =
    record {
      locals = f.few_locals;
      few_points = f.few_points;
      points = λ k p l. small_point tables x k (slice_index_or x.points k p) (f.points k p l);
      posts = clauses_small tables x.locals 64 x.posts f.posts;
      repairs = clauses_small tables x.locals 64 x.repairs f.repairs;
    }

small_steps :
    (at : At) (side : Side) (x : TxType) (p : Point) (step : Step) → IsSmallAt at → IsSmallType x → IsSmallPoint p → IsSmallStep step
    → AllByRecursion IsSmallPathPlace (step_paths path_place_alone at side x p step)
small_steps at side x p step a t q s =
    all_from IsSmallPathPlace (λ j path. path_place_alone (record { at = at; side = side; path = j }) x p step path) 0 step.paths
    (λ j path l. (record { at = a; number = (let few = s.paths in omega arith); x = t; p = q; step = s }, tt))

pub small_path_places : (q : PointPlace) → IsSmallPointPlace q → AllByRecursion IsSmallPathPlace (places_of_point q)
small_path_places q s =
    all_join IsSmallPathPlace (step_paths path_place_alone q.at Next q.x q.p (step_at Next q.p))
    (step_paths path_place_alone q.at Undo q.x q.p (step_at Undo q.p))
    (small_steps q.at Next q.x q.p q.p.next s.at s.x s.p s.p.next) (small_steps q.at Undo q.x q.p q.p.undo s.at s.x s.p s.p.undo)

module _ (d : Design) (wf : IsFormedButEntries d) where
  pub small_point_places : AllByRecursion IsSmallPointPlace (point_places d)
  small_point_places =
      all_from IsSmallPointPlace (λ ty x. each (λ i p. point_place_alone ty x i p) x.points) 0 d.types
      (λ k x l. let y : TxType = slice_index_or d.types k x in
      let f : IsTypeFormed d.tables d.types k y = wf.rest.types k x l in
      let few_types = wf.rest.few_types in
      let few_points = f.few_points in
      all_from IsSmallPointPlace (λ i p. point_place_alone (0 + k) y i p) 0 y.points
      (λ i p m. (
        record {
          at = record { ty = omega arith; point = omega arith };
          x = small_type d.tables d.types k y f;
          p = small_point d.tables y i (slice_index_or y.points i p) (f.points i p m);
        },
        tt,
      )))

  small_type_locals : (t : ℕ) → locals_of (slice_get d.types t) ≤ 48
  small_type_locals t = by (slice_get d.types t) refl
    where
      by : (o : Option TxType) → slice_get d.types t ≡ o → locals_of o ≤ 48
      by None e = omega arith
      by (Some x) e = (numbered_at (IsTypeFormed d.tables d.types) d.types t x wf.rest.types e).few_locals

  entries_small : All IsSmallEntry d.entries
  entries_small = λ k e l. λ j p m.
      let entry : Entry = slice_index_or d.entries k e in
      let pairs = entry_range d.types entry (AllPass-from_list_all (entry_in d.types) d.entries wf.in_range k e l) in
      let pair : ℕ × ℕ = slice_index_or entry.pairs j p in
      let held = locals_of (slice_get d.types entry.held.ty) in
      let step = locals_of (slice_get d.types entry.step.ty) in
      let a = ltb-true pair.0 held (and_parts (nat_lt pair.0 held) (nat_lt pair.1 step) (pairs.pairs j p m)).0 in
      let b = small_type_locals entry.held.ty in
      omega (arith, a, b)

  table_width : (t : Table) → table_small t ≡ true → 1 ≤ t.width
  table_width t h =
      let a = and_parts (is_short t.name && nat_le 1 t.width && nat_le t.width 6 && nat_le (length t.cols) 12) (list_all is_short t.cols)
      h in
      let b = and_parts (is_short t.name && nat_le 1 t.width && nat_le t.width 6) (nat_le (length t.cols) 12) a.0 in
      let e = and_parts (is_short t.name && nat_le 1 t.width) (nat_le t.width 6) b.0 in
      leb-true 1 t.width (and_parts (is_short t.name) (nat_le 1 t.width) e.0).1

  tables_small : All IsSmallTable d.tables
  tables_small = λ k t l.
      let table : Table = slice_index_or d.tables k t in
      let limits = (wf.rest.tables k t l).limits in
      record { some = table_width table limits; few = (table_is_small table limits).width }

  pub design_small : IsSmallDesign d
  design_small =
      record {
        few_tables = wf.rest.few_tables;
        tables = tables_small;
        few_always = wf.rest.always.few;
        always = clauses_small d.tables [] 128 d.always wf.rest.always;
        few_types = wf.rest.few_types;
        types = λ k x l. small_type d.tables d.types k (slice_index_or d.types k x) (wf.rest.types k x l);
        entries = entries_small;
      }
