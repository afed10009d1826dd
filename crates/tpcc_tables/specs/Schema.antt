-- The tables that a design of TPC-C has (clause 1.3 of the standard), and which of a design's tables they are.
use Rattle.std.specs.Prelude.{◌≡◌, ⊤, ℕ, ◌==◌, Bool, ◌&&◌, List, [], ◌∷◌, ◌++◌, ◌+◌, length, map, All, Option, Some, None, IsSome, codes}
use Rattle.std.specs.Prelude.{nat_eq}
use Rattle.std.specs.Prelude.{slice_index}
use Rattle.std.specs.List.{position}
use Rattle.std.specs.Borrow.{Bor}
use Rattle.std.specs.Cmp.Lexicographic.{pointwise}
use Rattle.acc_base.specs.declared.designs.Design.{Design}
use Rattle.acc_base.specs.declared.tables.Table.{Table}
use Rattle.tpcc_tables.specs.declared.tables.SchemaError.{SchemaError}
use Rattle.tpcc_tables.specs.declared.tables.SchemaError.TheVariants.{Lacks, Memory}
use Rattle.tpcc_tables.specs.declared.tables.SchemaTable.{SchemaTable}
use Rattle.tpcc_tables.specs.declared.tables.SchemaTable.TheVariants as table
use Rattle.tpcc_tables.specs.declared.tables.TableSet.{TableSet}
use Rattle.tpcc_tables.specs.declared.tables.TheConstants.{SCHEMA}

abbrev pub name_of : SchemaTable → List ℕ
name_of table.Warehouse = codes "WAREHOUSE"
name_of table.District = codes "DISTRICT"
name_of table.Customer = codes "CUSTOMER"
name_of table.History = codes "HISTORY"
name_of table.CustomerHistory = codes "HCUST"
name_of table.NewOrder = codes "NEWORDER"
name_of table.Orders = codes "ORDERS"
name_of table.CustomerOrder = codes "CUSTORDER"
name_of table.OrderLine = codes "LINE"
name_of table.Item = codes "ITEM"
name_of table.Stock = codes "STOCK"

-- how many parts its keys have
abbrev pub width_of : SchemaTable → ℕ
width_of table.Warehouse = 1
width_of table.District = 2
width_of table.Customer = 3
width_of table.History = 3
width_of table.CustomerHistory = 4
width_of table.NewOrder = 3
width_of table.Orders = 3
width_of table.CustomerOrder = 4
width_of table.OrderLine = 5
width_of table.Item = 1
width_of table.Stock = 2

abbrev pub columns_of : SchemaTable → List (List ℕ)
columns_of table.Warehouse = codes "ytd" ∷ codes "tax" ∷ []
columns_of table.District = codes "ytd" ∷ codes "tax" ∷ codes "nxt" ∷ codes "low" ∷ []
columns_of table.Customer = codes "bal" ∷ codes "paid" ∷ codes "pays" ∷ codes "dels" ∷ codes "disc" ∷ []
columns_of table.History = codes "amt" ∷ []
columns_of table.CustomerHistory = codes "amt" ∷ []
columns_of table.NewOrder = []
columns_of table.Orders = codes "c" ∷ codes "carrier" ∷ codes "cnt" ∷ codes "entered" ∷ codes "owner" ∷ codes "agent" ∷ []
columns_of table.CustomerOrder = []
columns_of table.OrderLine = codes "item" ∷ codes "supply" ∷ codes "qty" ∷ codes "amt" ∷ codes "date" ∷ codes "delta" ∷ []
columns_of table.Item = codes "price" ∷ []
columns_of table.Stock = codes "qty" ∷ codes "ytd" ∷ codes "cnt" ∷ codes "remote" ∷ []

-- its place in the schema
abbrev pub place_of : SchemaTable → ℕ
place_of table.Warehouse = 0
place_of table.District = 1
place_of table.Customer = 2
place_of table.History = 3
place_of table.CustomerHistory = 4
place_of table.NewOrder = 5
place_of table.Orders = 6
place_of table.CustomerOrder = 7
place_of table.OrderLine = 8
place_of table.Item = 9
place_of table.Stock = 10

abbrev pub texts : List (Bor (List ℕ)) → List (List ℕ)
texts names = map (λ n. n.now) names

-- whether a table of a design is one of the schema: its name, width and columns are
abbrev pub is_table : SchemaTable → Table → Bool
is_table t x = pointwise nat_eq x.name (name_of t) && (x.width == width_of t) && pointwise (pointwise nat_eq) x.cols (columns_of t)

-- the number of a table of the schema among those of a design
abbrev pub number_in : List Table → SchemaTable → Option ℕ
number_in tables t = position (is_table t) tables

-- the set has the numbers of the schema's tables in a design, in order
abbrev pub IsSchemaOf : TableSet → Design → Type 0
IsSchemaOf s d = map Some s.tables ≡ map (number_in d.tables) SCHEMA

-- the n-th of these tables, counted from 1, isn't among a design's, and those before it are
pub record IsFirstLacking (tables : List Table) (schema : List SchemaTable) (n : ℕ) : Type 0 where
  pub before : List SchemaTable
  pub wanted : SchemaTable
  pub behind : List SchemaTable
  pub split : schema ≡ before ++ wanted ∷ behind
  pub nth : n ≡ length before + 1
  pub lacks : number_in tables wanted ≡ None
  pub there : All (λ t. IsSome (number_in tables t)) before

-- why a design has no such set; want of memory tells nothing of its tables
abbrev pub Refuses : List Table → List SchemaTable → SchemaError → Type 0
Refuses tables schema (Lacks n) = IsFirstLacking tables schema n
Refuses tables schema Memory = ⊤

-- the number of a table of the schema
abbrev pub number_of : TableSet → SchemaTable → ℕ
number_of s t = slice_index s.tables (place_of t)
