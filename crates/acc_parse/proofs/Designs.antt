-- A text stands for one design at most, and is refused only where it stands for none.
use Rattle.std.proofs.Common.{◌≡◌, ℕ, List, [], Contains, Ok, Err, IfOk, refl, sym, ap, subst, ◌∙◌, arith}
use Rattle.std.specs.Prelude.{Result, IfErr, MatchResult}
use Rattle.acc_base.specs.declared.designs.Design.{Design}
use Rattle.acc_parse_syntax.specs.declared.trees.DesignTree.{DesignTree}
use Rattle.acc_parse_names.specs.Faults.{first_fault_of}
use Rattle.acc_parse_meaning.specs.Designs.{design_of}
use Rattle.acc_parse.specs.declared.errors.ParseError.{ParseError}
use Rattle.acc_parse.specs.declared.errors.ParseError.TheVariants as errors
use Rattle.acc_parse.specs.Texts.{IsGrammatical, IsAllowed, IsDesignText, past_limits}
use Rattle.acc_parse.specs.Faults.{Refuses}

-- what the tree that a text spells stands for
abbrev pub IsMade : DesignTree → Design → Type 0
IsMade tree d = IsAllowed tree × (d ≡ design_of tree)

pub stands : (text : List ℕ) (tree : DesignTree) (r : Result Design ParseError) → (g : IsGrammatical text) × (g.tree ≡ tree) →
    IfOk r (IsMade tree) → IfOk r (IsDesignText text)
stands text tree (Ok d) g h = record { of = g.0; allowed = subst IsAllowed (sym g.1) h.0; means = h.1 ∙ ap design_of (sym g.1) }
stands text tree (Err e) g h = tt

nothing_in : {X : Type 0} (xs : List X) (x : X) → xs ≡ [] → Contains xs x → ⊥
nothing_in xs x e h = let c = subst (λ ys. Contains ys x) e h in omega (arith, c.1)

pub only_one : (text : List ℕ) (tree : DesignTree) (r : Result Design ParseError) → ((g : IsGrammatical text) → tree ≡ g.tree) →
    IfOk r (IsMade tree) → IfErr r (Refuses text) → (d : Design) → IsDesignText text d →
    MatchResult r (λ found. found ≡ d) (λ e. e ≡ errors.Memory)
only_one text tree (Ok found) same made refused d t = made.1 ∙ ap design_of (same t.of) ∙ sym t.means
only_one text tree (Err (errors.Syntax line)) same made refused d t = absurd (refused.none t.of)
only_one text tree (Err (errors.Name line)) same made refused d t =
    let first = sym refused.first ∙ ap first_fault_of (sym (same refused.of) ∙ same t.of) ∙ t.allowed.names in absurd (cc first)
only_one text tree (Err (errors.Limit line limit)) same made refused d t =
    let none : past_limits refused.of.tree ≡ [] = ap past_limits (sym (same refused.of) ∙ same t.of) ∙ t.allowed.limits in
    absurd (nothing_in (past_limits refused.of.tree) (refused.passed.statement, limit) none refused.passed.there)
only_one text tree (Err errors.Memory) same made refused d t = refl
