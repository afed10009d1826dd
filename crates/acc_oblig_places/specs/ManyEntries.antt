-- Designs that may have more entries than a well-formed one: what is asked of a design before one entry more is tried.
use Rattle.std.specs.Prelude.{List, [], IsTrue}
use Rattle.std.specs.List.{list_all}
use Rattle.acc_base.specs.declared.designs.Entry.{Entry}
use Rattle.acc_base.specs.declared.designs.Design.{Design}
use Rattle.acc_oblig.specs.FormedRanges.{entry_in}
use Rattle.acc_oblig.specs.WellFormed.{EachNumbered, IsEntryFormed, IsWellFormed}

-- the design with these entries in place of its own
abbrev pub with_entries : Design → List Entry → Design
with_entries d es = record d { entries = es }

-- Well-formed but for the number of its entries: without entries the design is well-formed, and each entry is formed.
pub record IsFormedButEntries (d : Design) : Type 0 where
  pub rest : IsWellFormed (with_entries d [])
  pub in_range : IsTrue (list_all (entry_in d.types) d.entries)
  pub entries : EachNumbered (IsEntryFormed d.types d.entries) d.entries
