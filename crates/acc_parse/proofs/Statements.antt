-- The statements of a text are those of the tree that it spells.
use Rattle.std.proofs.Common.{◌≡◌, ℕ, ◌<◌, ◌^◌, List, ap, ◌∙◌, arith}
use Rattle.std.proofs.lemmas.List.Elements.{All-append, All-contains}
use Rattle.acc_parse_syntax.specs.declared.trees.DesignTree.{DesignTree}
use Rattle.acc_parse_statements.specs.Ends.{ends}
use Rattle.acc_parse_statements.specs.Counts.{statements_of}
use Rattle.acc_parse_statements.specs.Lines.{HasStatement}
use Rattle.acc_parse_statements.proofs.Counted.{spelled_ends}
use Rattle.acc_base.specs.declared.limits.Limit.{Limit}
use Rattle.acc_parse_limits.specs.Faults.{limit_faults}
use Rattle.acc_parse_limits.proofs.Ended.{faults_within as written_within}
use Rattle.acc_parse_meaning.specs.Sizes.{size_faults}
use Rattle.acc_parse_meaning.proofs.Ended.{faults_within as collected_within}
use Rattle.acc_parse.specs.Texts.{IsGrammatical, past_limits}
use Rattle.acc_parse.specs.Faults.{IsFirstIn}

-- a statement of the tree is one of the text
pub has_statement : (text : List ℕ) (tree : DesignTree) (n : ℕ) → (g : IsGrammatical text) × (g.tree ≡ tree) → statements_of tree < 2 ^ 64 →
    n < statements_of tree → HasStatement text n
has_statement text tree n g few there =
    let same : ends g.0.words ≡ statements_of tree = ap ends g.0.spelled.spelled ∙ spelled_ends g.0.tree ∙ ap statements_of g.1 in
    record { words = g.0.words; lexed = g.0.lexed; there = omega (arith, same, there); few = omega (arith, same, few) }

-- the first statement that passes a limit is one of the tree
pub first_within : (tree : DesignTree) (n : ℕ) → IsFirstIn (past_limits tree) n → n < statements_of tree
first_within tree n h =
    let all = All-append (λ (f : ℕ × Limit). f.0 < statements_of tree) (limit_faults tree) (size_faults tree) (written_within tree)
    (collected_within tree) in
    All-contains (λ (f : ℕ × Limit). f.0 < statements_of tree) (past_limits tree) (n, h.limit) all h.there
