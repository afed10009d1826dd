-- The readers of paths and steps are exact.
use Rattle.std.proofs.Common.{◌≡◌, false, List, [], ◌∷◌, refl, arith}
use Rattle.acc_lex.specs.declared.words.Sign.{Sign}
use Rattle.acc_lex.specs.declared.words.Sign.TheVariants as sign
use Rattle.acc_lex.specs.declared.words.Word.{Word}
use Rattle.acc_grammar.specs.Readers.{joined, many}
use Rattle.acc_grammar.proofs.Exact.{bind_assoc, Exact, All, Free, seq_exact, made_exact, trees_exact, same_exact}
use Rattle.acc_grammar.proofs.Many.{Shrinks, item_shrinks, Runs, many_exact}
use Rattle.acc_parse_syntax.specs.declared.trees.PathTree.{PathTree}
use Rattle.acc_parse_syntax.specs.declared.trees.StepTree.{StepTree}
use Rattle.acc_parse_syntax.specs.Spelling.{path, step, side}
use Rattle.acc_parse_syntax.specs.WordReaders.{comes}
use Rattle.acc_parse_steps.specs.StepReaders.{path_at, step_at, side_at}
use Rattle.acc_parse_syntax.proofs.Following.{CanFollow, is_own}
use Rattle.acc_parse_syntax.proofs.Combinators.{made_free, all_in}
use Rattle.acc_parse_syntax.proofs.WordLaws.{comes_head, after_exact}
use Rattle.acc_parse_syntax.proofs.GuardLaws.{guard_exact, guard_ends}
use Rattle.acc_parse_steps.proofs.ReadLaws.{reads_exact, reads_end}
use Rattle.acc_parse_steps.proofs.ActionLaws.{actions_exact, actions_end}
use Rattle.acc_parse_steps.proofs.TargetLaws.{target_exact, target_is_no_action}

-- ---- paths

pub path_exact : Exact CanFollow path All Free path_at
unfolding path_at
path_exact =
    let whole = made_free (after_exact sign.Path refl
    (seq_exact guard_exact (after_exact sign.End refl (seq_exact actions_exact target_exact))))
    (λ p. record { guard = p.0; actions = p.1.0; target = p.1.1 }) path (λ a p. refl)
    (λ a rest. (
      guard_ends a.0 _ refl refl (record { times = refl; signed = refl }),
      (actions_end a.1.0 _ (target_is_no_action a.1.1 rest), tt),
    )) in
    trees_exact (same_exact (λ ws. simp bind_assoc) whole) (λ t p. tt) (λ t q. ((t.guard, (t.actions, t.target)), (tt, (tt, tt)), refl))

pub path_shrinks : Shrinks path_at
path_shrinks = item_shrinks path_exact (comes sign.Path) (comes_head sign.Path) refl (λ t rest p g. refl) (λ t p. omega arith)

abbrev PathsRun : List PathTree → List Word → Type 0
PathsRun = Runs path (comes sign.Path) Free

paths_exact : Exact CanFollow (joined path) All PathsRun (many (comes sign.Path) path_at)
paths_exact = trees_exact (many_exact path_exact (comes sign.Path) (comes_head sign.Path) refl (λ t rest p g. refl) (λ t p. omega arith))
    (λ t p. tt) (λ t q. all_in t)

paths_end : (ts : List PathTree) (rest : List Word) → comes sign.Path rest ≡ false → PathsRun ts rest
paths_end [] rest h = h
paths_end (t ∷ ts) rest h = (tt, paths_end ts rest h)

-- ---- steps

abbrev pub StepGoes : StepTree → List Word → Type 0
StepGoes s rest = PathsRun s.others rest

step_heads : (s : StepTree) (w : Word) (more after : List Word) → StepGoes s (w ∷ more) → StepGoes s (w ∷ after)
step_heads s w more after g = paths_exact.heads s.others w more after g

pub step_exact : Exact CanFollow step All StepGoes step_at
unfolding step_at
step_exact =
    let whole = made_exact (seq_exact reads_exact (seq_exact path_exact paths_exact))
    (λ p. record { reads = p.0; first = p.1.0; others = p.1.1 }) step StepGoes (λ a p. refl) (λ a rest g. g.1.1)
    (λ a rest p g. (reads_end a.0 _ refl, (tt, g))) step_heads in
    trees_exact (same_exact (λ ws. simp bind_assoc) whole) (λ t p. tt) (λ t q. ((t.reads, (t.first, t.others)), (tt, (tt, tt)), refl))

pub step_ends : (s : StepTree) (rest : List Word) → comes sign.Path rest ≡ false → StepGoes s rest
step_ends s rest h = paths_end s.others rest h

pub side_exact : (s : Sign) → is_own s ≡ false → Exact CanFollow (side s) All StepGoes (side_at s)
unfolding side_at
side_exact s n = same_exact (λ ws. simp bind_assoc) (after_exact s n (after_exact sign.End refl step_exact))
