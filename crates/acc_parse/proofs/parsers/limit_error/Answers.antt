use Rattle.std.proofs.Common.{◌∙◌, sym, ap, subst}
use Rattle.acc_parse_syntax.specs.declared.trees.DesignTree.{DesignTree}
use Rattle.acc_parse_names.specs.Faults.{first_fault_of}
use Rattle.acc_parse.specs.Faults.{PassesAt}
use Rattle.acc_parse.proofs.parsers.limit_error.Goals as goal

pub returns : goal.returns
returns c =
    let g = c.requires.grammatical in
    let p = c.in_ok-passed.passed in
    record {
      of = g.0;
      named = ap first_fault_of g.1 ∙ c.requires.named;
      passed = subst (λ (t : DesignTree). PassesAt c.args.text.now t p.line p.which) (sym g.1) c.in_ok-passed.ensures;
    }
