use Rattle.std.proofs.Common.{◌≡◌, ◌++◌, take, drop}
use Rattle.std.specs.Prelude.{◌||◌}
use Rattle.acc_parse_names.specs.Names.{defines_again}
use Rattle.acc_parse_names.proofs.names.NameIndex.add_all.Given as goal

-- what is answered so far, or a name that is left, decides
abbrev pub invariant-loop-name : goal.invariant-loop-name
invariant-loop-name l = record {
  again : (l.again || defines_again l.self (drop l.name-index l.names)) ≡ defines_again l.initial.self l.names;
  names : l.self ≡ l.initial.self ++ take l.name-index l.names;
}
