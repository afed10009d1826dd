-- What is in range in a well-formed design, part by part.
use Rattle.std.proofs.Common.{◌≡◌, ℕ, ◌+◌, ◌<◌, ◌≤◌, ◌==◌, true, ◌&&◌, not, nat_le, nat_lt, List, length, slice_get, IsTrue, All, arith}
use Rattle.std.specs.List.{list_all}
use Rattle.std.proofs.lemmas.Bool.{and_parts, leb-true}
use Rattle.std.proofs.lemmas.Bool.Decides.{nat_tests}
use Rattle.std.proofs.lemmas.List.Sums.{AllPass-from_list_all}
use Rattle.acc_base.specs.declared.tables.Table.{Table}
use Rattle.acc_base.specs.declared.steps.Path.{Path}
use Rattle.acc_base.specs.declared.steps.Step.{Step}
use Rattle.acc_base.specs.declared.designs.Point.{Point}
use Rattle.acc_base.specs.declared.designs.TxType.{TxType}
use Rattle.acc_base.specs.declared.designs.Entry.{Entry}
use Rattle.acc_base.specs.declared.designs.Design.{Design}
use Rattle.acc_formed.specs.Ranges.{lin_in, lin_rel_in, clause_in, read_in, action_in, target_in, path_in, step_in, point_in, head_in}
use Rattle.acc_formed.specs.Ranges.{clauses_in, type_in, at_in, locals_of, pair_in, entry_in, hint_in, design_in}

not_empty : (n : ℕ) → not (n == 0) ≡ true → 0 < n
not_empty n h = grind (arith, nat_tests)

-- ---- steps, with so many variables and points

pub record PathInRange (tables : List Table) (vars points : ℕ) (p : Path) : Type 0 where
  pub guard : All (λ r. IsTrue (lin_rel_in vars r)) p.guard
  pub actions : All (λ a. IsTrue (action_in tables vars a)) p.actions
  pub target : IsTrue (target_in points p.target)

pub path_range : (tables : List Table) (vars points : ℕ) (p : Path) → IsTrue (path_in tables vars points p) →
    PathInRange tables vars points p
path_range tables vars points p h =
    let a = and_parts (list_all (lin_rel_in vars) p.guard && list_all (action_in tables vars) p.actions) (target_in points p.target) h in
    let b = and_parts (list_all (lin_rel_in vars) p.guard) (list_all (action_in tables vars) p.actions) a.0 in
    record {
      guard = AllPass-from_list_all (lin_rel_in vars) p.guard b.0;
      actions = AllPass-from_list_all (action_in tables vars) p.actions b.1;
      target = a.1;
    }

pub record StepInRange (tables : List Table) (vars points : ℕ) (s : Step) : Type 0 where
  pub some : 0 < length s.paths
  pub reads : All (λ r. IsTrue (read_in tables vars r)) s.reads
  pub paths : All (PathInRange tables vars points) s.paths

pub step_range : (tables : List Table) (vars points : ℕ) (s : Step) → IsTrue (step_in tables vars points s) →
    StepInRange tables vars points s
step_range tables vars points s h =
    let a = and_parts (not (length s.paths == 0) && list_all (read_in tables vars) s.reads) (list_all (path_in tables vars points) s.paths)
    h in
    let b = and_parts (not (length s.paths == 0)) (list_all (read_in tables vars) s.reads) a.0 in
    record {
      some = not_empty (length s.paths) b.0;
      reads = AllPass-from_list_all (read_in tables vars) s.reads b.1;
      paths = λ k d l. path_range tables vars points _ (AllPass-from_list_all (path_in tables vars points) s.paths a.1 k d l);
    }

-- ---- points and types

pub record PointInRange (tables : List Table) (vars points : ℕ) (p : Point) : Type 0 where
  pub clauses : All (λ c. IsTrue (clause_in tables vars c)) p.clauses
  pub variant : IsTrue (lin_in vars p.variant)
  pub next : StepInRange tables vars points p.next
  pub undo : StepInRange tables vars points p.undo

pub point_range : (tables : List Table) (vars points : ℕ) (p : Point) → IsTrue (point_in tables vars points p) →
    PointInRange tables vars points p
point_range tables vars points p h =
    let a = and_parts (list_all (clause_in tables vars) p.clauses && lin_in vars p.variant && step_in tables vars points p.next)
    (step_in tables vars points p.undo) h in
    let b = and_parts (list_all (clause_in tables vars) p.clauses && lin_in vars p.variant) (step_in tables vars points p.next) a.0 in
    let e = and_parts (list_all (clause_in tables vars) p.clauses) (lin_in vars p.variant) b.0 in
    record {
      clauses = AllPass-from_list_all (clause_in tables vars) p.clauses e.0;
      variant = e.1;
      next = step_range tables vars points p.next b.1;
      undo = step_range tables vars points p.undo a.1;
    }

pub record TypeInRange (tables : List Table) (t : TxType) : Type 0 where
  pub params : t.params ≤ length t.locals
  pub some : 0 < length t.points
  pub returns : All (λ x. IsTrue (nat_lt x (length t.locals))) t.returns
  pub posts : All (λ c. IsTrue (clause_in tables (length t.locals + 1) c)) t.posts
  pub repairs : All (λ c. IsTrue (clause_in tables (length t.locals + 1) c)) t.repairs
  pub points : All (PointInRange tables (length t.locals + 1) (length t.points)) t.points

pub type_range : (tables : List Table) (t : TxType) → IsTrue (type_in tables t) → TypeInRange tables t
type_range tables t h =
    let n = length t.locals in
    let point = point_in tables (n + 1) (length t.points) in
    let a = and_parts (head_in t && clauses_in tables t) (list_all point t.points) h in
    let b = and_parts (head_in t) (clauses_in tables t) a.0 in
    let e = and_parts (nat_le t.params n && not (length t.points == 0)) (list_all (λ x. nat_lt x n) t.returns) b.0 in
    let f = and_parts (nat_le t.params n) (not (length t.points == 0)) e.0 in
    let g = and_parts (list_all (clause_in tables (n + 1)) t.posts) (list_all (clause_in tables (n + 1)) t.repairs) b.1 in
    record {
      params = leb-true t.params n f.0;
      some = not_empty (length t.points) f.1;
      returns = AllPass-from_list_all (λ x. nat_lt x n) t.returns e.1;
      posts = AllPass-from_list_all (clause_in tables (n + 1)) t.posts g.0;
      repairs = AllPass-from_list_all (clause_in tables (n + 1)) t.repairs g.1;
      points = λ k d l. point_range tables (n + 1) (length t.points) _ (AllPass-from_list_all point t.points a.1 k d l);
    }

-- ---- entries, and the whole

pub record EntryInRange (types : List TxType) (e : Entry) : Type 0 where
  pub held : IsTrue (at_in types e.held)
  pub step : IsTrue (at_in types e.step)
  pub pairs : All (λ p. IsTrue (pair_in (locals_of (slice_get types e.held.ty)) (locals_of (slice_get types e.step.ty)) p)) e.pairs

pub entry_range : (types : List TxType) (e : Entry) → IsTrue (entry_in types e) → EntryInRange types e
entry_range types e h =
    let pair = pair_in (locals_of (slice_get types e.held.ty)) (locals_of (slice_get types e.step.ty)) in
    let a = and_parts (at_in types e.held && at_in types e.step) (list_all pair e.pairs) h in
    let b = and_parts (at_in types e.held) (at_in types e.step) a.0 in
    record { held = b.0; step = b.1; pairs = AllPass-from_list_all pair e.pairs a.1 }

pub record DesignInRange (d : Design) : Type 0 where
  pub always : All (λ c. IsTrue (clause_in d.tables 0 c)) d.always
  pub types : All (TypeInRange d.tables) d.types
  pub entries : All (EntryInRange d.types) d.entries
  pub hints : All (λ h. IsTrue (hint_in d.types h)) d.hints

pub design_range : (d : Design) → IsTrue (design_in d) → DesignInRange d
design_range d h =
    let always = list_all (clause_in d.tables 0) d.always in
    let types = list_all (type_in d.tables) d.types in
    let entries = list_all (entry_in d.types) d.entries in
    let a = and_parts (always && types && entries) (list_all (hint_in d.types) d.hints) h in
    let b = and_parts (always && types) entries a.0 in
    let e = and_parts always types b.0 in
    record {
      always = AllPass-from_list_all (clause_in d.tables 0) d.always e.0;
      types = λ k x l. type_range d.tables _ (AllPass-from_list_all (type_in d.tables) d.types e.1 k x l);
      entries = λ k x l. entry_range d.types _ (AllPass-from_list_all (entry_in d.types) d.entries b.1 k x l);
      hints = AllPass-from_list_all (hint_in d.types) d.hints a.1;
    }
