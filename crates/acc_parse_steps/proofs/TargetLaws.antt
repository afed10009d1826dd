-- The readers of targets are exact.
use Rattle.std.proofs.Common.{◌≡◌, ℕ, false, List, ◌++◌, refl, ap, inl, inr}
use Rattle.acc_lex.specs.declared.words.Sign.{Sign}
use Rattle.acc_lex.specs.declared.words.Sign.TheVariants as sign
use Rattle.acc_lex.specs.declared.words.Word.{Word}
use Rattle.acc_grammar.proofs.Exact.{bind_assoc, Exact, All, Free, trees_exact, same_exact, Or}
use Rattle.acc_parse_syntax.specs.declared.trees.TargetTree.{TargetTree}
use Rattle.acc_parse_syntax.specs.declared.trees.TargetTree.TheVariants as target
use Rattle.acc_parse_syntax.specs.Spelling.{target_statement}
use Rattle.acc_parse_steps.specs.ActionReaders.{goto_at, commit_at, undone_at, refuse_at, target_at, starts_action}
use Rattle.acc_parse_syntax.proofs.Following.{CanFollow}
use Rattle.acc_parse_syntax.proofs.Combinators.{made_free}
use Rattle.acc_parse_syntax.proofs.WordLaws.{sign_exact, name_exact, number_exact, after_exact, closed_exact}
use Rattle.acc_parse_syntax.proofs.KindLaws.{Begun, or_kind, last_kind}

-- ---- each kind

abbrev IsGoto : TargetTree → Type 0
IsGoto t = (x : List ℕ) × (target.Goto x ≡ t)

goto_exact : Exact CanFollow target_statement IsGoto Free goto_at
goto_exact =
    let point = closed_exact sign.End refl name_exact (λ x rest. tt) in
    let whole = made_free (after_exact sign.Goto refl point) (λ x. target.Goto x) target_statement (λ a p. refl) (λ a rest. tt) in
    trees_exact (same_exact (λ ws. simp bind_assoc) whole) (λ t p. (p.0, p.2)) (λ t q. (q.0, tt, q.1))

abbrev Is : TargetTree → TargetTree → Type 0
Is u t = u ≡ t

commit_exact : Exact CanFollow target_statement (Is target.Commit) Free commit_at
commit_exact =
    let whole = made_free (after_exact sign.Commit refl (sign_exact sign.End refl)) (λ o. target.Commit) target_statement (λ a p. refl)
    (λ a rest. tt) in
    trees_exact (same_exact (λ ws. simp bind_assoc) whole) (λ t p. p.2) (λ t q. (tt, tt, q))

undone_exact : Exact CanFollow target_statement (Is target.Undone) Free undone_at
undone_exact =
    let whole = made_free (after_exact sign.Undone refl (sign_exact sign.End refl)) (λ o. target.Undone) target_statement (λ a p. refl)
    (λ a rest. tt) in
    trees_exact (same_exact (λ ws. simp bind_assoc) whole) (λ t p. p.2) (λ t q. (tt, tt, q))

abbrev IsRefuse : TargetTree → Type 0
IsRefuse t = (n : ℕ) × (target.Refuse n ≡ t)

refuse_exact : Exact CanFollow target_statement IsRefuse Free refuse_at
unfolding refuse_at
refuse_exact =
    let number = closed_exact sign.End refl number_exact (λ n rest. tt) in
    let whole = made_free (after_exact sign.Refuse refl number) (λ n. target.Refuse n) target_statement (λ a p. refl) (λ a rest. tt) in
    trees_exact (same_exact (λ ws. simp bind_assoc) whole) (λ t p. (p.0, p.2)) (λ t q. (q.0, tt, q.1))

-- ---- a target of any kind

-- the word that a target begins with
abbrev first : TargetTree → Sign
first (target.Goto x) = sign.Goto
first target.Commit = sign.Commit
first target.Undone = sign.Undone
first (target.Refuse n) = sign.Refuse

begun : Begun target_statement first
begun (target.Goto x) = (_, refl)
begun target.Commit = (_, refl)
begun target.Undone = (_, refl)
begun (target.Refuse n) = (_, refl)

pub target_exact : Exact CanFollow target_statement All Free target_at
unfolding target_at
target_exact =
    let kinds =
    or_kind begun sign.Goto goto_exact (λ t p. ap first p.1) refl (
    or_kind begun sign.Commit commit_exact (λ t p. ap first p) refl (
    or_kind begun sign.Undone undone_exact (λ t p. ap first p) refl (
    last_kind begun sign.Refuse refuse_exact (λ t p. ap first p.1)))) in
    trees_exact kinds.exact (λ t p. tt) (λ t q. trees t)
  where
    trees : (t : TargetTree) → Or IsGoto (Or (Is target.Commit) (Or (Is target.Undone) IsRefuse)) t
    trees (target.Goto x) = inl (x, refl)
    trees target.Commit = inr (inl refl)
    trees target.Undone = inr (inr (inl refl))
    trees (target.Refuse n) = inr (inr (inr (n, refl)))

-- no action begins with the word of a target
pub target_is_no_action : (t : TargetTree) (rest : List Word) → starts_action (target_statement t ++ rest) ≡ false
target_is_no_action (target.Goto x) rest = refl
target_is_no_action target.Commit rest = refl
target_is_no_action target.Undone rest = refl
target_is_no_action (target.Refuse n) rest = refl
