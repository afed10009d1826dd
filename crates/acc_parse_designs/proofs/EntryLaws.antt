-- The readers of entries and hints are exact.
use Rattle.std.proofs.Common.{◌≡◌, true, false, List, [], ◌∷◌, ◌++◌, Option, Some, None, refl, sym, ap, subst, ◌∙◌, arith, inl, inr}
use Rattle.acc_lex.specs.declared.words.Sign.TheVariants as sign
use Rattle.acc_lex.specs.declared.words.Word.{Word}
use Rattle.acc_grammar.specs.Readers.{joined, many}
use Rattle.acc_grammar.proofs.Exact.{bind_assoc, Exact, All, Free, Each, seq_exact, Made, made_exact, trees_exact, same_exact, Or}
use Rattle.acc_grammar.proofs.Exact.{maybe_exact}
use Rattle.acc_grammar.proofs.Many.{Shrinks, item_shrinks, Runs, many_exact}
use Rattle.acc_parse_syntax.specs.declared.trees.SideTree.{SideTree}
use Rattle.acc_parse_syntax.specs.declared.trees.SideTree.TheVariants as side_tree
use Rattle.acc_parse_syntax.specs.declared.trees.PairTree.{PairTree}
use Rattle.acc_parse_syntax.specs.declared.trees.Pairs.{Pairs}
use Rattle.acc_parse_syntax.specs.Spelling.{just, further, side_sign, point_name, pair, pairs, entry, hint}
use Rattle.acc_parse_syntax.specs.WordReaders.{comes, further_at}
use Rattle.acc_parse_designs.specs.EntryReaders.{point_name_at, side_name_at, pair_at, pairs_at, entry_head_at, entry_at, hint_at}
use Rattle.acc_parse_syntax.proofs.Following.{CanFollow}
use Rattle.acc_parse_syntax.proofs.Combinators.{made_free, all_in, runs_end}
use Rattle.acc_parse_syntax.proofs.WordLaws.{comes_head, sign_exact, name_exact, after_exact, closed_exact, further_shrinks, furthers_exact}
use Rattle.acc_parse_syntax.proofs.KindLaws.{Begun, or_kind, last_kind}
use Rattle.acc_parse_syntax.proofs.SumLaws.{variable_exact, sum_exact, sum_ends}

-- ---- steps by name

point_name_exact : Exact CanFollow point_name All Free point_name_at
unfolding point_name_at
point_name_exact =
    let whole = made_free (seq_exact name_exact (after_exact sign.Dot refl name_exact)) (λ p. record { type_name = p.0; point = p.1 })
    point_name (λ a p. refl) (λ a rest. (tt, tt)) in
    trees_exact (same_exact (λ ws. simp bind_assoc) whole) (λ t p. tt) (λ t q. ((t.type_name, t.point), (tt, tt), refl))

abbrev side_word : SideTree → List Word
side_word s = just (side_sign s)

side_begun : Begun side_word side_sign
side_begun s = ([], refl)

side_name_exact : Exact CanFollow side_word All Free side_name_at
unfolding side_name_at
side_name_exact =
    let next = made_free (sign_exact sign.Next refl) (λ o. side_tree.Next) side_word (λ a p. refl) (λ a rest. tt) in
    let undo = made_free (sign_exact sign.Undo refl) (λ o. side_tree.Undo) side_word (λ a p. refl) (λ a rest. tt) in
    let kinds = or_kind side_begun sign.Next next (λ t p. ap side_sign p.2) refl
    (last_kind side_begun sign.Undo undo (λ t p. ap side_sign p.2)) in
    trees_exact kinds.exact (λ t p. tt) (λ t q. trees t)
  where
    trees : (s : SideTree) → Or (Made (λ (o : Unit {0}). side_tree.Next) All) (Made (λ (o : Unit {0}). side_tree.Undo) All) s
    trees side_tree.Next = inl (tt, tt, refl)
    trees side_tree.Undo = inr (tt, tt, refl)

-- ---- pairs

pair_exact : Exact CanFollow pair All Free pair_at
unfolding pair_at
pair_exact =
    let whole = made_free (seq_exact variable_exact (after_exact sign.Equal refl variable_exact)) (λ p. record { held = p.0; step = p.1 })
    pair (λ a p. refl) (λ a rest. (tt, tt)) in
    trees_exact (same_exact (λ ws. simp bind_assoc) whole) (λ t p. tt) (λ t q. ((t.held, t.step), (tt, tt), refl))

pub further_pair_shrinks : Shrinks (further_at pair_at)
further_pair_shrinks = further_shrinks pair_exact

abbrev PairsRun : List PairTree → List Word → Type 0
PairsRun = Runs (further pair) (comes sign.Comma) Free

further_pairs_exact : Exact CanFollow (joined (further pair)) All PairsRun (many (comes sign.Comma) (further_at pair_at))
further_pairs_exact = trees_exact (furthers_exact pair_exact) (λ t p. tt) (λ t q. all_in t)

-- no pairs follow where there are none
abbrev PairsGoes : Option Pairs → List Word → Type 0
PairsGoes None rest = comes sign.Colon rest ≡ false
PairsGoes (Some ps) rest = PairsRun ps.others rest

pairs_heads : (ps : Option Pairs) (w : Word) (more after : List Word) → PairsGoes ps (w ∷ more) → PairsGoes ps (w ∷ after)
pairs_heads None w more after g = sym (comes_head sign.Colon w more after) ∙ g
pairs_heads (Some ps) w more after g = further_pairs_exact.heads ps.others w more after g

pairs_exact : Exact CanFollow pairs All PairsGoes pairs_at
unfolding pairs_at
pairs_exact =
    let there = made_exact (after_exact sign.Colon refl (seq_exact pair_exact further_pairs_exact))
    (λ p. Some (record { first = p.0; others = p.1 })) pairs PairsGoes (λ a p. refl) (λ a rest g. g.1) (λ a rest p g. (tt, g))
    pairs_heads in
    let whole = maybe_exact there (comes sign.Colon) (comes_head sign.Colon) None refl
    (λ t rest p g. subst (λ (z : Option Pairs). comes sign.Colon (pairs z ++ rest) ≡ true) p.2 refl) (λ rest h. h) (λ rest h. h) in
    trees_exact (same_exact (λ ws. simp bind_assoc) whole) (λ t p. tt) (λ t q. trees t)
  where
    trees : (ps : Option Pairs) → Or (Made (λ (p : PairTree × List PairTree). Some (record { first = p.0; others = p.1 })) (Each All All))
        (λ (u : Option Pairs). None ≡ u) ps
    trees None = inr refl
    trees (Some ps) = inl ((ps.first, ps.others), (tt, tt), refl)

pairs_end : (ps : Option Pairs) (rest : List Word) → comes sign.Colon rest ≡ false → comes sign.Comma rest ≡ false → PairsGoes ps rest
pairs_end None rest h c = h
pairs_end (Some ps) rest h c = runs_end (further pair) (comes sign.Comma) ps.others rest c

-- ---- entries

pub entry_exact : Exact CanFollow entry All Free entry_at
unfolding entry_at entry_head_at
entry_exact =
    let ended = closed_exact sign.End refl pairs_exact (λ ps rest. pairs_end ps _ refl refl) in
    let by = after_exact sign.By refl (seq_exact point_name_exact (seq_exact side_name_exact ended)) in
    let whole = made_free (after_exact sign.Entry refl (seq_exact point_name_exact by))
    (λ p. record { held = p.0; by = p.1.0; side = p.1.1.0; pairs = p.1.1.1 }) entry (λ a p. refl) (λ a rest. (tt, (tt, (tt, tt)))) in
    trees_exact (same_exact (λ ws. simp bind_assoc) whole) (λ t p. tt)
    (λ t q. ((t.held, (t.by, (t.side, t.pairs))), (tt, (tt, (tt, tt))), refl))

pub entry_shrinks : Shrinks entry_at
entry_shrinks = item_shrinks entry_exact (comes sign.Entry) (comes_head sign.Entry) refl (λ t rest p g. refl) (λ t p. omega arith)

pub entries_exact : Exact CanFollow (joined entry) All (Runs entry (comes sign.Entry) Free) (many (comes sign.Entry) entry_at)
entries_exact = trees_exact (many_exact entry_exact (comes sign.Entry) (comes_head sign.Entry) refl (λ t rest p g. refl)
    (λ t p. omega arith)) (λ t p. tt) (λ t q. all_in t)

-- ---- hints

pub hint_exact : Exact CanFollow hint All Free hint_at
unfolding hint_at
hint_exact =
    let value = closed_exact sign.End refl sum_exact (λ v rest. sum_ends v _ (record { times = refl; signed = refl })) in
    let whole = made_free (after_exact sign.Hint refl (seq_exact point_name_exact (seq_exact side_name_exact value)))
    (λ p. record { of = p.0; side = p.1.0; value = p.1.1 }) hint (λ a p. refl) (λ a rest. (tt, (tt, tt))) in
    trees_exact (same_exact (λ ws. simp bind_assoc) whole) (λ t p. tt) (λ t q. ((t.of, (t.side, t.value)), (tt, (tt, tt)), refl))

pub hint_shrinks : Shrinks hint_at
hint_shrinks = item_shrinks hint_exact (comes sign.Hint) (comes_head sign.Hint) refl (λ t rest p g. refl) (λ t p. omega arith)

pub hints_exact : Exact CanFollow (joined hint) All (Runs hint (comes sign.Hint) Free) (many (comes sign.Hint) hint_at)
hints_exact = trees_exact (many_exact hint_exact (comes sign.Hint) (comes_head sign.Hint) refl (λ t rest p g. refl) (λ t p. omega arith))
    (λ t p. tt) (λ t q. all_in t)
