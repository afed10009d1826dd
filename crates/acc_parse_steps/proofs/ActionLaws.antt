-- The readers of actions are exact.
use Rattle.std.proofs.Common.{◌≡◌, true, false, List, [], ◌∷◌, ◌++◌, Option, refl, ap, inl, inr}
use Rattle.acc_lex.specs.declared.words.Sign.{Sign}
use Rattle.acc_lex.specs.declared.words.Sign.TheVariants as sign
use Rattle.acc_lex.specs.declared.words.Word.{Word}
use Rattle.acc_lex.specs.declared.words.Word.TheVariants as word
use Rattle.acc_grammar.specs.Readers.{joined, many}
use Rattle.acc_grammar.proofs.Exact.{bind_assoc, Exact, All, Free, seq_exact, trees_exact, same_exact, Or, ByHead}
use Rattle.acc_grammar.proofs.Many.{Shrinks, item_shrinks, Runs, many_exact}
use Rattle.acc_parse_syntax.specs.declared.trees.Sum.{Sum}
use Rattle.acc_parse_syntax.specs.declared.trees.Sums.{Sums}
use Rattle.acc_parse_syntax.specs.declared.trees.Place.{Place}
use Rattle.acc_parse_syntax.specs.declared.trees.Cell.{Cell}
use Rattle.acc_parse_syntax.specs.declared.trees.ActionTree.{ActionTree}
use Rattle.acc_parse_syntax.specs.declared.trees.ActionTree.TheVariants as action
use Rattle.acc_parse_syntax.specs.Spelling.{action_statement}
use Rattle.acc_parse_steps.specs.ActionReaders.{put_at, del_at, set_at, add_at, action_at, starts_action}
use Rattle.acc_parse_syntax.proofs.Following.{CanFollow}
use Rattle.acc_parse_syntax.proofs.Combinators.{made_free, all_in}
use Rattle.acc_parse_syntax.proofs.WordLaws.{after_exact, closed_exact}
use Rattle.acc_parse_syntax.proofs.KindLaws.{Begun, or_kind, last_kind, begun_long}
use Rattle.acc_parse_syntax.proofs.SumLaws.{sum_exact, sum_ends}
use Rattle.acc_parse_syntax.proofs.RowLaws.{place_exact, cell_exact, values_exact, values_end}

-- ---- each kind

abbrev IsPut : ActionTree → Type 0
IsPut t = (p : Place) × (vs : Option Sums) × (action.Put p vs ≡ t)

put_exact : Exact CanFollow action_statement IsPut Free put_at
unfolding put_at
put_exact =
    let values = closed_exact sign.End refl values_exact (λ vs rest. values_end vs _ refl refl (record { times = refl; signed = refl })) in
    let whole = made_free (after_exact sign.Put refl (seq_exact place_exact values)) (λ p. action.Put p.0 p.1) action_statement
    (λ a p. refl) (λ a rest. (tt, tt)) in
    trees_exact (same_exact (λ ws. simp bind_assoc) whole) (λ t p. (p.0.0, p.0.1, p.2)) (λ t q. ((q.0, q.1), (tt, tt), q.2))

abbrev IsDel : ActionTree → Type 0
IsDel t = (p : Place) × (action.Del p ≡ t)

del_exact : Exact CanFollow action_statement IsDel Free del_at
unfolding del_at
del_exact =
    let row = closed_exact sign.End refl place_exact (λ p rest. tt) in
    let whole = made_free (after_exact sign.Del refl row) (λ p. action.Del p) action_statement (λ a p. refl) (λ a rest. tt) in
    trees_exact (same_exact (λ ws. simp bind_assoc) whole) (λ t p. (p.0, p.2)) (λ t q. (q.0, tt, q.1))

abbrev IsSet : ActionTree → Type 0
IsSet t = (c : Cell) × (v : Sum) × (action.Set c v ≡ t)

set_exact : Exact CanFollow action_statement IsSet Free set_at
unfolding set_at
set_exact =
    let value = closed_exact sign.End refl sum_exact (λ v rest. sum_ends v _ (record { times = refl; signed = refl })) in
    let whole = made_free (after_exact sign.Set refl (seq_exact cell_exact value)) (λ p. action.Set p.0 p.1) action_statement (λ a p. refl)
    (λ a rest. (tt, tt)) in
    trees_exact (same_exact (λ ws. simp bind_assoc) whole) (λ t p. (p.0.0, p.0.1, p.2)) (λ t q. ((q.0, q.1), (tt, tt), q.2))

abbrev IsAdd : ActionTree → Type 0
IsAdd t = (c : Cell) × (v : Sum) × (action.Add c v ≡ t)

add_exact : Exact CanFollow action_statement IsAdd Free add_at
unfolding add_at
add_exact =
    let value = closed_exact sign.End refl sum_exact (λ v rest. sum_ends v _ (record { times = refl; signed = refl })) in
    let whole = made_free (after_exact sign.Add refl (seq_exact cell_exact value)) (λ p. action.Add p.0 p.1) action_statement (λ a p. refl)
    (λ a rest. (tt, tt)) in
    trees_exact (same_exact (λ ws. simp bind_assoc) whole) (λ t p. (p.0.0, p.0.1, p.2)) (λ t q. ((q.0, q.1), (tt, tt), q.2))

-- ---- an action of any kind

-- the word that an action begins with
abbrev first : ActionTree → Sign
first (action.Put p vs) = sign.Put
first (action.Del p) = sign.Del
first (action.Set c v) = sign.Set
first (action.Add c v) = sign.Add

begun : Begun action_statement first
begun (action.Put p vs) = (_, refl)
begun (action.Del p) = (_, refl)
begun (action.Set c v) = (_, refl)
begun (action.Add c v) = (_, refl)

pub action_exact : Exact CanFollow action_statement All Free action_at
unfolding action_at
action_exact =
    let kinds =
    or_kind begun sign.Put put_exact (λ t p. ap first p.2) refl (
    or_kind begun sign.Del del_exact (λ t p. ap first p.1) refl (
    or_kind begun sign.Set set_exact (λ t p. ap first p.2) refl (
    last_kind begun sign.Add add_exact (λ t p. ap first p.2)))) in
    trees_exact kinds.exact (λ t p. tt) (λ t q. trees t)
  where
    trees : (t : ActionTree) → Or IsPut (Or IsDel (Or IsSet IsAdd)) t
    trees (action.Put p vs) = inl (p, vs, refl)
    trees (action.Del p) = inr (inl (p, refl))
    trees (action.Set c v) = inr (inr (inl (c, v, refl)))
    trees (action.Add c v) = inr (inr (inr (c, v, refl)))

-- ---- actions

action_head : ByHead starts_action
action_head (word.Sign t) more after = refl
action_head (word.Name x) more after = refl
action_head (word.Number n) more after = refl

action_starts : (t : ActionTree) (rest : List Word) → starts_action (action_statement t ++ rest) ≡ true
action_starts (action.Put p vs) rest = refl
action_starts (action.Del p) rest = refl
action_starts (action.Set c v) rest = refl
action_starts (action.Add c v) rest = refl

pub action_shrinks : Shrinks action_at
action_shrinks = item_shrinks action_exact starts_action action_head refl (λ t rest p g. action_starts t rest) (λ t p. begun_long begun t)

pub actions_exact : Exact CanFollow (joined action_statement) All (Runs action_statement starts_action Free) (many starts_action action_at)
actions_exact = trees_exact (many_exact action_exact starts_action action_head refl (λ t rest p g. action_starts t rest)
    (λ t p. begun_long begun t)) (λ t p. tt) (λ t q. all_in t)

pub actions_end : (ts : List ActionTree) (rest : List Word) → starts_action rest ≡ false → Runs action_statement starts_action Free ts rest
actions_end [] rest h = h
actions_end (t ∷ ts) rest h = (tt, actions_end ts rest h)
