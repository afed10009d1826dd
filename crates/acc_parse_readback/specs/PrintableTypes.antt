-- Designs that some text stands for: steps, types and the whole.
-- Clause `read` of `print` speaks of this.
use Rattle.std.specs.Prelude.{◌≡◌, ◌≤◌, ◌<◌, ℕ, false, List, [], ◌∷◌, length, map, take, drop, slice_get, ℤ}
use Rattle.acc_grammar.specs.Readers.{AllIn}
use Rattle.acc_base.specs.declared.bounds.TheConstants.{MOST_ACTIONS, MOST_ALWAYS, MOST_CLAUSES, MOST_COLUMNS, MOST_ENTRIES, MOST_GUARDS}
use Rattle.acc_base.specs.declared.bounds.TheConstants.{MOST_HINTS, MOST_KEY_PARTS, MOST_LOCALS, MOST_PATHS, MOST_POINTS, MOST_READS}
use Rattle.acc_base.specs.declared.bounds.TheConstants.{MOST_TABLES, MOST_TYPES, PAST_SMALL_NUMBERS}
use Rattle.acc_base.specs.Numbers.{IsSmall}
use Rattle.acc_base.specs.Lines.{type_name, point_name}
use Rattle.acc_base.specs.Effects.{point_of}
use Rattle.acc_base.specs.declared.tables.Table.{Table}
use Rattle.acc_base.specs.declared.steps.Read.{Read}
use Rattle.acc_base.specs.declared.steps.Read.TheVariants as read
use Rattle.acc_base.specs.declared.steps.Action.{Action}
use Rattle.acc_base.specs.declared.steps.Action.TheVariants as action
use Rattle.acc_base.specs.declared.steps.Target.{Target}
use Rattle.acc_base.specs.declared.steps.Target.TheVariants as target
use Rattle.acc_base.specs.declared.steps.Path.{Path}
use Rattle.acc_base.specs.declared.steps.Step.{Step}
use Rattle.acc_base.specs.declared.designs.Point.{Point}
use Rattle.acc_base.specs.declared.designs.TxType.{TxType}
use Rattle.acc_base.specs.declared.designs.At.{At}
use Rattle.acc_base.specs.declared.designs.Entry.{Entry}
use Rattle.acc_base.specs.declared.designs.Hint.{Hint}
use Rattle.acc_base.specs.declared.designs.Design.{Design}
use Rattle.acc_print.specs.Sums.{is_negative}
use Rattle.acc_print.specs.Names.{Scope, name_at, outside, within}
use Rattle.acc_print.specs.Designs.{scope_at}
use Rattle.acc_parse_readback.specs.Printable.{IsName, IsVariable, AreNew, IsLinSaid, IsRowSaid, IsCellSaid, IsLinRelSaid, IsClauseSaid}

-- a type's limit, or the number of a refusal
abbrev pub IsCount : ℕ → Type 0
IsCount n = n < PAST_SMALL_NUMBERS

-- ---- steps

-- what a read assigns, and what it reads
abbrev pub IsReadSaid : Scope → Read → Type 0
IsReadSaid s (read.Let x v) = IsVariable (name_at s.names x) × IsLinSaid s.names v
IsReadSaid s (read.Col x table key column) = IsVariable (name_at s.names x) × IsCellSaid s table key column
IsReadSaid s (read.Has x table key) = IsVariable (name_at s.names x) × IsRowSaid s table key
IsReadSaid s (read.Count x table key) = IsVariable (name_at s.names x) × IsRowSaid s table key
IsReadSaid s (read.Sum x table key column) = IsVariable (name_at s.names x) × IsCellSaid s table key column
IsReadSaid s (read.Least x table key) = IsVariable (name_at s.names x) × IsRowSaid s table key
IsReadSaid s (read.Greatest x table key) = IsVariable (name_at s.names x) × IsRowSaid s table key
IsReadSaid s (read.Take x) = IsVariable (name_at s.names x)
IsReadSaid s (read.Mul x a b) = IsVariable (name_at s.names x) × IsVariable (name_at s.names a) × IsVariable (name_at s.names b)
IsReadSaid s (read.Div x a n) = IsVariable (name_at s.names x) × IsVariable (name_at s.names a) × (is_negative n ≡ false) × IsSmall n

abbrev pub IsActionSaid : Scope → Action → Type 0
IsActionSaid s (action.Put table key values) = IsRowSaid s table key × AllIn (IsLinSaid s.names) values
IsActionSaid s (action.Del table key) = IsRowSaid s table key
IsActionSaid s (action.Set table key column v) = IsCellSaid s table key column × IsLinSaid s.names v
IsActionSaid s (action.Add table key column v) = IsCellSaid s table key column × IsLinSaid s.names v

abbrev pub IsTargetSaid : List Point → Target → Type 0
IsTargetSaid points (target.Point n) = IsName (point_name (slice_get points n))
IsTargetSaid points target.Commit = Unit {0}
IsTargetSaid points target.Undone = Unit {0}
IsTargetSaid points (target.Refuse n) = IsCount n

-- at most 16 relations, and at most 16 actions
pub record IsPathSaid (s : Scope) (points : List Point) (p : Path) : Type 0 where
  pub few_relations : length p.guard ≤ MOST_GUARDS
  pub few_actions : length p.actions ≤ MOST_ACTIONS
  pub guard : AllIn (IsLinRelSaid s.names) p.guard
  pub actions : AllIn (IsActionSaid s) p.actions
  pub target : IsTargetSaid points p.target

-- a step has a path
abbrev pub ArePathsSaid : Scope → List Point → List Path → Type 0
ArePathsSaid s points [] = ⊥
ArePathsSaid s points (p ∷ ps) = AllIn (IsPathSaid s points) (p ∷ ps)

-- at most 32 reads, and at most 16 paths
pub record IsStepSaid (s : Scope) (points : List Point) (st : Step) : Type 0 where
  pub few_reads : length st.reads ≤ MOST_READS
  pub few_paths : length st.paths ≤ MOST_PATHS
  pub reads : AllIn (IsReadSaid s) st.reads
  pub paths : ArePathsSaid s points st.paths

-- ---- types

-- at most 64 clauses hold
pub record IsPointSaid (s : Scope) (points : List Point) (p : Point) : Type 0 where
  pub name : IsName p.name
  pub few_clauses : length p.clauses ≤ MOST_CLAUSES
  pub variant : IsLinSaid s.names p.variant
  pub clauses : AllIn (IsClauseSaid s) p.clauses
  pub next : IsStepSaid s points p.next
  pub undo : IsStepSaid s points p.undo

-- a type has a point
abbrev pub ArePointsSaid : Scope → List Point → List Point → Type 0
ArePointsSaid s points [] = ⊥
ArePointsSaid s points (p ∷ ps) = AllIn (IsPointSaid s points) (p ∷ ps)

-- at most 48 locals, none twice, the parameters among them; at most 64 clauses of a kind; at most 32 points, none twice
pub record IsTypeSaid (tables : List Table) (t : TxType) : Type 0 where
  pub name : IsName t.name
  pub params : t.params ≤ length t.locals
  pub few_locals : length t.locals ≤ MOST_LOCALS
  pub new_locals : AreNew [] t.locals
  pub parameters : AllIn IsName (take t.params t.locals)
  pub locals : AllIn IsName (drop t.params t.locals)
  pub returns : AllIn IsName (map (name_at t.locals) t.returns)
  pub limit : IsCount t.limit
  pub few_posts : length t.posts ≤ MOST_CLAUSES
  pub few_repairs : length t.repairs ≤ MOST_CLAUSES
  pub few_points : length t.points ≤ MOST_POINTS
  pub new_points : AreNew [] (map (λ (p : Point). p.name) t.points)
  pub posts : AllIn (IsClauseSaid (within tables t)) t.posts
  pub repairs : AllIn (IsClauseSaid (within tables t)) t.repairs
  pub points : ArePointsSaid (within tables t) t.points t.points

-- ---- the whole

-- keys of 1 to 6 components; at most 12 columns, none twice
pub record IsTableSaid (t : Table) : Type 0 where
  pub name : IsName t.name
  pub some_width : 1 ≤ t.width
  pub width : t.width ≤ MOST_KEY_PARTS
  pub columns : AllIn IsName t.cols
  pub few_columns : length t.cols ≤ MOST_COLUMNS
  pub new_columns : AreNew [] t.cols

-- a point of a type
pub record IsAtSaid (d : Design) (at : At) : Type 0 where
  pub ty : IsName (type_name (slice_get d.types at.ty))
  pub point : IsName (point_name (point_of d at.ty at.point))

-- `self` stands within types alone
abbrev pub IsPairSaid : List (List ℕ) → List (List ℕ) → ℕ × ℕ → Type 0
IsPairSaid held step p = IsName (name_at held p.0) × IsName (name_at step p.1)

pub record IsEntrySaid (d : Design) (e : Entry) : Type 0 where
  pub held : IsAtSaid d e.held
  pub step : IsAtSaid d e.step
  pub pairs : AllIn (IsPairSaid (scope_at d e.held).names (scope_at d e.step).names) e.pairs

pub record IsHintSaid (d : Design) (h : Hint) : Type 0 where
  pub at : IsAtSaid d h.at
  pub named : AllIn (λ (t : ℕ × ℤ). IsName (name_at (scope_at d h.at).names t.0)) h.lin.coeffs
  pub value : IsLinSaid (scope_at d h.at).names h.lin

-- some text stands for the design
pub record IsSaid (d : Design) : Type 0 where
  pub tables : AllIn IsTableSaid d.tables
  pub few_tables : length d.tables ≤ MOST_TABLES
  pub new_tables : AreNew [] (map (λ (t : Table). t.name) d.tables)
  pub few_always : length d.always ≤ MOST_ALWAYS
  pub few_types : length d.types ≤ MOST_TYPES
  pub new_types : AreNew [] (map (λ (t : TxType). t.name) d.types)
  pub few_entries : length d.entries ≤ MOST_ENTRIES
  pub few_hints : length d.hints ≤ MOST_HINTS
  pub always : AllIn (IsClauseSaid (outside d.tables)) d.always
  pub types : AllIn (IsTypeSaid d.tables) d.types
  pub entries : AllIn (IsEntrySaid d) d.entries
  pub hints : AllIn (IsHintSaid d) d.hints
