-- The marks on a design are ends alone exactly where it is well-formed.
use Rattle.std.proofs.Common.{◌≡◌, ◌==◌, true, ◌&&◌, not, List, [], take, refl}
use Rattle.std.specs.List.{list_any}
use Rattle.std.proofs.lemmas.Bool.{and_parts, and_from}
use Rattle.acc_base.specs.declared.rules.FormRule.TheVariants as rules
use Rattle.acc_base.specs.declared.tables.Table.{Table}
use Rattle.acc_base.specs.declared.designs.TxType.{TxType}
use Rattle.acc_base.specs.declared.designs.Entry.{Entry}
use Rattle.acc_base.specs.declared.designs.Design.{Design}
use Rattle.acc_form.specs.Marks.{ending, numbered}
use Rattle.acc_formed.specs.Ranges.{design_in}
use Rattle.acc_formed.specs.Sizes.{lin_small, table_small}
use Rattle.acc_formed.specs.Names.{are_distinct, names_table}
use Rattle.acc_formed.specs.Entries.{leaves_starts, same_entry, pairs_stay}
use Rattle.acc_form.specs.Statements.{table_marks, clause_marks, type_marks, entry_marks, hint_marks, design_marks}
use Rattle.acc_formed.specs.WellFormed.{IsTableFormed, IsTypeFormed, IsEntryFormed, IsHintFormed, IsWellFormed}
use Rattle.acc_form.proofs.Clean.{Clean, Asks, asks, keeps, clean_parts, clean_from, each_of_clean, clean_of_each}
use Rattle.acc_form.proofs.FormedSteps.{clauses_open, clauses_shut}
use Rattle.acc_form.proofs.FormedTypes.{type_asks}

table_asks : (tables : List Table) → Asks (table_marks tables) 64 (IsTableFormed tables)
table_asks tables = record {
  opens = λ i t h.
      let a = asks rules.Limits (not (i == 64) && table_small t) _ h in
      let b = asks rules.Names (not (names_table (take i tables) t.name) && are_distinct t.cols) ending a.1 in
      let l = and_parts (not (i == 64)) (table_small t) a.0 in
      let m = and_parts (not (names_table (take i tables) t.name)) (are_distinct t.cols) b.0 in
      (l.0, record { limits = l.1; new = m.0; columns = m.1 });
  shuts = λ i t n f.
      keeps rules.Limits (not (i == 64) && table_small t) _ (and_from (not (i == 64)) (table_small t) n f.limits) (
      keeps rules.Names (not (names_table (take i tables) t.name) && are_distinct t.cols) ending (and_from _ _ f.new f.columns) refl);
}

entry_asks : (types : List TxType) (entries : List Entry) → Asks (entry_marks types entries) 1024 (IsEntryFormed types entries)
entry_asks types entries = record {
  opens = λ i e h.
      let a = asks rules.Limits (not (i == 1024)) _ h in
      let b = asks rules.Starts (leaves_starts e) _ a.1 in
      let f = asks rules.Entries (not (list_any (same_entry e) (take i entries))) _ b.1 in
      let g = asks rules.Pairs (pairs_stay types e) ending f.1 in
      (a.0, record { starts = b.0; new = f.0; pairs = g.0 });
  shuts = λ i e n f.
      keeps rules.Limits (not (i == 1024)) _ n (
      keeps rules.Starts (leaves_starts e) _ f.starts (
      keeps rules.Entries (not (list_any (same_entry e) (take i entries))) _ f.new (
      keeps rules.Pairs (pairs_stay types e) ending f.pairs refl)));
}

hint_asks : Asks hint_marks 1024 (λ i h. IsHintFormed h)
hint_asks = record {
  opens = λ i h g.
      let a = asks rules.Limits (not (i == 1024) && lin_small h.lin) ending g in
      and_parts (not (i == 1024)) (lin_small h.lin) a.0;
  shuts = λ i h n f.
      keeps rules.Limits (not (i == 1024) && lin_small h.lin) ending (and_from (not (i == 1024)) (lin_small h.lin) n f) refl;
}

pub design_opens : (d : Design) → design_in d ≡ true → Clean (design_marks d) → IsWellFormed d
design_opens d inside h =
    let a = clean_parts (numbered (table_marks d.tables) d.tables) _ h in
    let b = clean_parts (numbered (clause_marks d.tables [] 128) d.always) _ a.1 in
    let e = clean_parts (numbered (type_marks d.tables d.types) d.types) _ b.1 in
    let f = clean_parts (numbered (entry_marks d.types d.entries) d.entries) (numbered hint_marks d.hints) e.1 in
    let tables = each_of_clean (table_marks d.tables) 64 (IsTableFormed d.tables) (table_asks d.tables) d.tables a.0 in
    let types = each_of_clean (type_marks d.tables d.types) 64 (IsTypeFormed d.tables d.types) (type_asks d.tables d.types) d.types e.0 in
    let entries = each_of_clean (entry_marks d.types d.entries) 1024 (IsEntryFormed d.types d.entries) (entry_asks d.types d.entries)
    d.entries f.0 in
    let hints = each_of_clean hint_marks 1024 (λ i h. IsHintFormed h) hint_asks d.hints f.1 in
    record {
      in_range = inside;
      few_tables = tables.0;
      tables = tables.1;
      always = clauses_open d.tables [] 128 d.always b.0;
      few_types = types.0;
      types = types.1;
      few_entries = entries.0;
      entries = entries.1;
      few_hints = hints.0;
      hints = hints.1;
    }

pub design_shuts : (d : Design) → IsWellFormed d → Clean (design_marks d)
design_shuts d f =
    clean_from (numbered (table_marks d.tables) d.tables) _
    (clean_of_each (table_marks d.tables) 64 (IsTableFormed d.tables) (table_asks d.tables) d.tables f.few_tables f.tables) (
    clean_from (numbered (clause_marks d.tables [] 128) d.always) _ (clauses_shut d.tables [] 128 d.always f.always) (
    clean_from (numbered (type_marks d.tables d.types) d.types) _
    (clean_of_each (type_marks d.tables d.types) 64 (IsTypeFormed d.tables d.types) (type_asks d.tables d.types) d.types f.few_types
    f.types) (
    clean_from (numbered (entry_marks d.types d.entries) d.entries) (numbered hint_marks d.hints)
    (clean_of_each (entry_marks d.types d.entries) 1024 (IsEntryFormed d.types d.entries) (entry_asks d.types d.entries) d.entries
    f.few_entries f.entries)
    (clean_of_each hint_marks 1024 (λ i h. IsHintFormed h) hint_asks d.hints f.few_hints f.hints))))
