use Rattle.std.proofs.Common.{◌-◌, List, sym, subst, ◌∙◌}
use Rattle.acc_lex.specs.declared.words.Word.{Word}
use Rattle.acc_parse_syntax.specs.declared.trees.DesignTree.{DesignTree}
use Rattle.acc_parse_designs.specs.Texts.{IsSpelling}
use Rattle.acc_diagnose_sources.specs.Sources.{IsPrintedBehind}
use Rattle.acc_diagnose_faults.proofs.forms.source_line.Goals as goal

-- the words and the tree are those by which the text stands for the design
pub returns : goal.returns
returns c =
    let s = c.requires.stands in
    let same = c.in_ok-words.ensures.only s.of.words s.of.lexed in
    let spelled = subst (λ (ws : List Word). IsSpelling ws s.of.tree) (sym (c.as_slice.ensures ∙ same)) s.of.spelled in
    let tree = c.in_ok-tree.ensures s.of.tree spelled in
    record {
      design = c.args.design.now;
      stands = s;
      broken = c.requires.broken;
      statement = c.in_ok-statement.statement;
      is_printed = subst (λ (t : DesignTree). IsPrintedBehind t c.args.design.now (c.args.printed - 1) c.in_ok-statement.statement)
          tree c.in_ok-statement.ensures;
      on_line = c.in_ok-line.ensures;
    }
