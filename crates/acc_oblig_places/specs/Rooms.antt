-- Designs that are small enough for their variables, clauses and paths to be numbered.
use Rattle.std.specs.Prelude.{ℕ, ◌≤◌, ◌<◌, length, All}
use Rattle.acc_base.specs.declared.bounds.TheConstants.{MOST_VARIABLES, MOST_LOCALS, MOST_READS, MOST_PATHS, MOST_TYPES, MOST_POINTS}
use Rattle.acc_base.specs.declared.bounds.TheConstants.{MOST_CLAUSES, MOST_ALWAYS, MOST_TABLES, MOST_KEY_PARTS}
use Rattle.acc_base.specs.declared.forms.Clause.{Clause}
use Rattle.acc_base.specs.declared.steps.Step.{Step}
use Rattle.acc_base.specs.declared.designs.At.{At}
use Rattle.acc_base.specs.declared.designs.Entry.{Entry}
use Rattle.acc_base.specs.declared.designs.Point.{Point}
use Rattle.acc_base.specs.declared.designs.TxType.{TxType}
use Rattle.acc_base.specs.declared.designs.Design.{Design}
use Rattle.acc_base.specs.declared.tables.Table.{Table}
use Rattle.acc_oblig_places.specs.DesignPlaces.{PointPlace, PathPlace}

abbrev pub HasFewVars : Clause → Type 0
HasFewVars c = length c.vars ≤ MOST_VARIABLES

pub record IsSmallStep (s : Step) : Type 0 where
  pub reads : length s.reads ≤ MOST_READS
  pub paths : length s.paths ≤ MOST_PATHS

pub record IsSmallPoint (p : Point) : Type 0 where
  pub few : length p.clauses ≤ MOST_CLAUSES
  pub clauses : All HasFewVars p.clauses
  pub next : IsSmallStep p.next
  pub undo : IsSmallStep p.undo

pub record IsSmallType (x : TxType) : Type 0 where
  pub locals : length x.locals ≤ MOST_LOCALS
  pub few_points : length x.points ≤ MOST_POINTS
  pub points : All IsSmallPoint x.points
  pub posts : All HasFewVars x.posts
  pub repairs : All HasFewVars x.repairs

pub record IsSmallAt (at : At) : Type 0 where
  pub ty : at.ty < MOST_TYPES
  pub point : at.point < MOST_POINTS

pub record IsSmallPointPlace (q : PointPlace) : Type 0 where
  pub at : IsSmallAt q.at
  pub x : IsSmallType q.x
  pub p : IsSmallPoint q.p

pub record IsSmallPathPlace (q : PathPlace) : Type 0 where
  pub at : IsSmallAt q.w.at
  pub number : q.w.path < MOST_PATHS
  pub x : IsSmallType q.x
  pub p : IsSmallPoint q.p
  pub step : IsSmallStep q.step

abbrev pub HasFewLocals : ℕ × ℕ → Type 0
HasFewLocals p = p.0 ≤ MOST_LOCALS

abbrev pub IsSmallEntry : Entry → Type 0
IsSmallEntry e = All HasFewLocals e.pairs

pub record IsSmallTable (t : Table) : Type 0 where
  pub some : 1 ≤ t.width
  pub few : t.width ≤ MOST_KEY_PARTS

pub record IsSmallDesign (d : Design) : Type 0 where
  pub few_tables : length d.tables ≤ MOST_TABLES
  pub tables : All IsSmallTable d.tables
  pub few_always : length d.always ≤ MOST_ALWAYS
  pub always : All HasFewVars d.always
  pub few_types : length d.types ≤ MOST_TYPES
  pub types : All IsSmallType d.types
  pub entries : All IsSmallEntry d.entries
