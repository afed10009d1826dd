use Rattle.std.proofs.Common.{◌∙◌, sym, ap}
use Rattle.acc_parse_names.specs.Faults.{first_fault_of}
use Rattle.acc_parse.proofs.parsers.design_of_tree.Goals as goal

-- the first statement with a fault of names
pub returns-in-Some-clause-err : goal.returns-in-Some-clause-err
returns-in-Some-clause-err c =
    let g = c.requires.grammatical in
    record {
      of = g.0;
      statement = c.in-Some.n;
      first = ap first_fault_of g.1 ∙ sym c.in_ok-names.ensures.first ∙ c.in-Some.is;
      on_line = c.in_ok-line_in.ensures;
    }
