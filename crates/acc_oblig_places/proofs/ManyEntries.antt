-- A well-formed design is well-formed but for the number of its entries, and where these are few it is the same.
use Rattle.std.proofs.Common.{◌≡◌, ◌≤◌, Bool, true, false, length, refl, arith}
use Rattle.std.specs.Prelude.{◌&&◌}
use Rattle.std.specs.List.{list_all}
use Rattle.std.proofs.lemmas.Bool.{false≢true}
use Rattle.acc_base.specs.declared.designs.Design.{Design}
use Rattle.acc_oblig.specs.FormedRanges.{clause_in, type_in, entry_in, hint_in}
use Rattle.acc_oblig.specs.WellFormed.{IsWellFormed}
use Rattle.acc_oblig_places.specs.ManyEntries.{IsFormedButEntries}

-- the middle of three answers, and the others without it
without : (before it behind : Bool) → before && it && behind ≡ true → (before && true && behind ≡ true) × (it ≡ true)
without true true behind h = (h, refl)
without true false behind h = absurd (false≢true h)
without false it behind h = absurd (false≢true h)

-- and the other way round
within : (before it behind : Bool) → before && true && behind ≡ true → it ≡ true → before && it && behind ≡ true
within before true behind h e = h
within before false behind h e = absurd (false≢true e)

pub formed_but_entries : (d : Design) → IsWellFormed d → IsFormedButEntries d
formed_but_entries d f =
    let range = without (list_all (clause_in d.tables 0) d.always && list_all (type_in d.tables) d.types)
    (list_all (entry_in d.types) d.entries) (list_all (hint_in d.types) d.hints) f.in_range in
    record {
      rest =
          record {
            in_range = range.0;
            few_tables = f.few_tables;
            tables = f.tables;
            always = f.always;
            few_types = f.few_types;
            types = f.types;
            few_entries = omega arith;
            entries = λ i e l. absurd (omega arith);
            few_hints = f.few_hints;
            hints = f.hints;
          };
      in_range = range.1;
      entries = f.entries;
    }

-- the number of its entries is all that is left out
pub few_entries_are_formed : (d : Design) → IsFormedButEntries d → length d.entries ≤ 1024 → IsWellFormed d
few_entries_are_formed d f few =
    record {
      in_range =
          within (list_all (clause_in d.tables 0) d.always && list_all (type_in d.tables) d.types)
          (list_all (entry_in d.types) d.entries) (list_all (hint_in d.types) d.hints) f.rest.in_range f.in_range;
      few_tables = f.rest.few_tables;
      tables = f.rest.tables;
      always = f.rest.always;
      few_types = f.rest.few_types;
      types = f.rest.types;
      few_entries = few;
      entries = f.entries;
      few_hints = f.rest.few_hints;
      hints = f.rest.hints;
    }
