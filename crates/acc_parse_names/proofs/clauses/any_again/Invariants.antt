use Rattle.std.proofs.Common.{◌≡◌, ◌++◌, take, drop}
use Rattle.std.specs.Prelude.{◌||◌}
use Rattle.acc_parse_names.specs.Names.{defines_again}
use Rattle.acc_parse_names.proofs.clauses.any_again.Given as goal

-- what is answered so far, or a name that is left, decides
abbrev pub invariant-loop-name : goal.invariant-loop-name
invariant-loop-name l = record {
  again : (l.again || defines_again (l.locals ++ l.own) (drop l.name-index l.names)) ≡ defines_again (l.locals ++ l.initial.own) l.names;
  own : l.own ≡ l.initial.own ++ take l.name-index l.names;
}
