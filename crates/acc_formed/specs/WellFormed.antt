-- Well-formed designs, part by part: what each rule asks of each statement.
use Rattle.std.specs.Prelude.{◌≡◌, ℕ, ◌+◌, ◌<◌, ◌≤◌, Bool, false, not, ◌||◌, ◌==◌, List, [], length, take, drop, slice_index_or, IsTrue}
use Rattle.std.specs.Prelude.{All}
use Rattle.std.specs.List.{list_all, list_any}
use Rattle.acc_base.specs.declared.bounds.TheConstants.{MOST_ACTIONS, MOST_ALWAYS, MOST_CLAUSES, MOST_ENTRIES, MOST_HINTS}
use Rattle.acc_base.specs.declared.bounds.TheConstants.{MOST_LOCALS, MOST_PATHS, MOST_POINTS, MOST_READS, MOST_TABLES, MOST_TYPES}
use Rattle.acc_base.specs.declared.forms.Clause.{Clause}
use Rattle.acc_base.specs.declared.tables.Table.{Table}
use Rattle.acc_base.specs.declared.steps.Read.{Read}
use Rattle.acc_base.specs.declared.steps.Action.{Action}
use Rattle.acc_base.specs.declared.steps.Path.{Path}
use Rattle.acc_base.specs.declared.steps.Step.{Step}
use Rattle.acc_base.specs.declared.designs.Side.{Side}
use Rattle.acc_base.specs.declared.designs.Side.TheVariants.{Next, Undo}
use Rattle.acc_base.specs.declared.designs.Point.{Point}
use Rattle.acc_base.specs.declared.designs.TxType.{TxType}
use Rattle.acc_base.specs.declared.designs.Entry.{Entry}
use Rattle.acc_base.specs.declared.designs.Hint.{Hint}
use Rattle.acc_base.specs.declared.designs.Design.{Design}
use Rattle.acc_formed.specs.Ranges.{design_in}
use Rattle.acc_formed.specs.Widths.{clause_fits, read_fits, action_fits, read_leaves_a_component, action_is_own}
use Rattle.acc_formed.specs.Sizes.{is_short, lin_small, clause_small, table_small, read_small, action_small, guard_small, target_small}
use Rattle.acc_formed.specs.Names.{are_distinct, are_new, names_table, names_point, names_type}
use Rattle.acc_formed.specs.Ends.{is_limit, refuses_by_number, divides, may_end, refuses_plainly, assigns_local, may_read, is_undone}
use Rattle.acc_formed.specs.Entries.{leaves_starts, same_entry, pairs_stay}

-- each item, with its number from 0
abbrev pub EachNumbered : {T : Type 0} → (ℕ → T → Type 0) → List T → Type 0
EachNumbered {T} P xs = (i : ℕ) (d : T) → i < length xs → P i (slice_index_or xs i d)

pub record IsTableFormed (tables : List Table) (i : ℕ) (t : Table) : Type 0 where
  pub limits : IsTrue (table_small t)
  pub new : IsTrue (not (names_table (take i tables) t.name))
  pub columns : IsTrue (are_distinct t.cols)

-- behind names that its own variables don't repeat
pub record IsClauseFormed (tables : List Table) (names : List (List ℕ)) (c : Clause) : Type 0 where
  pub widths : IsTrue (clause_fits tables c)
  pub limits : IsTrue (clause_small c)
  pub new : IsTrue (are_new names c.vars)

pub record IsReadFormed (tables : List Table) (t : TxType) (side : Side) (r : Read) : Type 0 where
  pub widths : IsTrue (read_fits tables r)
  pub short_prefix : IsTrue (read_leaves_a_component tables r)
  pub limits : IsTrue (read_small r)
  pub divisor : IsTrue (divides r)
  pub assigns : IsTrue (assigns_local t r)
  pub allowed : IsTrue (may_read side r)

pub record IsActionFormed (tables : List Table) (t : TxType) (is_bare : Bool) (a : Action) : Type 0 where
  pub widths : IsTrue (action_fits tables a)
  pub limits : IsTrue (action_small a)
  pub own : IsTrue (action_is_own tables (length t.locals) a)
  pub allowed : IsTrue (not is_bare)

pub record IsPathFormed (tables : List Table) (t : TxType) (side : Side) (is_bare : Bool) (p : Path) : Type 0 where
  pub guard : IsTrue (guard_small p.guard)
  pub few : length p.actions ≤ MOST_ACTIONS
  pub actions : All (IsActionFormed tables t is_bare) p.actions
  pub limits : IsTrue (target_small t.points p.target)
  pub number : IsTrue (refuses_by_number p.target)
  pub ends : IsTrue (may_end side p.target)
  pub plain : IsTrue (refuses_plainly p.actions p.target)
  pub bare : IsTrue (not is_bare || is_undone p.target)

-- the last path has no guard
pub record IsStepFormed (tables : List Table) (t : TxType) (side : Side) (is_bare : Bool) (s : Step) : Type 0 where
  pub few_reads : length s.reads ≤ MOST_READS
  pub reads : All (IsReadFormed tables t side) s.reads
  pub few_paths : length s.paths ≤ MOST_PATHS
  pub paths : All (IsPathFormed tables t side is_bare) s.paths
  pub last : EachNumbered (λ i (p : Path). i + 1 ≡ length s.paths → length p.guard ≡ 0) s.paths

-- at most so many clauses
pub record AreClausesFormed (tables : List Table) (names : List (List ℕ)) (most : ℕ) (cs : List Clause) : Type 0 where
  pub few : length cs ≤ most
  pub each : All (IsClauseFormed tables names) cs

-- the undo of the first point does nothing
pub record IsPointFormed (tables : List Table) (t : TxType) (i : ℕ) (p : Point) : Type 0 where
  pub limits : IsTrue (is_short p.name)
  pub new : IsTrue (not (names_point (take i t.points) p.name))
  pub variant : IsTrue (lin_small p.variant)
  pub clauses : AreClausesFormed tables t.locals MOST_CLAUSES p.clauses
  pub next : IsStepFormed tables t Next false p.next
  pub undo : IsStepFormed tables t Undo (i == 0) p.undo

pub record IsTypeFormed (tables : List Table) (types : List TxType) (i : ℕ) (t : TxType) : Type 0 where
  pub name : IsTrue (is_short t.name)
  pub new : IsTrue (not (names_type (take i types) t.name))
  pub limit : IsTrue (is_limit t.limit)
  pub few_params : t.params ≤ MOST_LOCALS
  pub few_locals : length t.locals ≤ MOST_LOCALS
  pub locals : IsTrue (list_all is_short t.locals)
  pub params_distinct : IsTrue (are_distinct (take t.params t.locals))
  pub others_new : IsTrue (are_new (take t.params t.locals) (drop t.params t.locals))
  pub posts : AreClausesFormed tables t.locals MOST_CLAUSES t.posts
  pub repairs : AreClausesFormed tables t.locals MOST_CLAUSES t.repairs
  pub few_points : length t.points ≤ MOST_POINTS
  pub points : EachNumbered (IsPointFormed tables t) t.points

pub record IsEntryFormed (types : List TxType) (entries : List Entry) (i : ℕ) (e : Entry) : Type 0 where
  pub starts : IsTrue (leaves_starts e)
  pub new : IsTrue (not (list_any (same_entry e) (take i entries)))
  pub pairs : IsTrue (pairs_stay types e)

abbrev pub IsHintFormed : Hint → Type 0
IsHintFormed h = IsTrue (lin_small h.lin)

-- every rule is kept
pub record IsWellFormed (d : Design) : Type 0 where
  pub in_range : IsTrue (design_in d)
  pub few_tables : length d.tables ≤ MOST_TABLES
  pub tables : EachNumbered (IsTableFormed d.tables) d.tables
  pub always : AreClausesFormed d.tables [] MOST_ALWAYS d.always
  pub few_types : length d.types ≤ MOST_TYPES
  pub types : EachNumbered (IsTypeFormed d.tables d.types) d.types
  pub few_entries : length d.entries ≤ MOST_ENTRIES
  pub entries : EachNumbered (IsEntryFormed d.types d.entries) d.entries
  pub few_hints : length d.hints ≤ MOST_HINTS
  pub hints : All IsHintFormed d.hints
