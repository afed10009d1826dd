-- The readers of guards are exact.
use Rattle.std.proofs.Common.{◌≡◌, true, false, List, [], ◌∷◌, ◌++◌, Option, Some, None, refl, sym, ap, subst, ◌∙◌, append_assoc, inl, inr}
use Rattle.acc_lex.specs.declared.words.Sign.TheVariants as sign
use Rattle.acc_lex.specs.declared.words.Word.{Word}
use Rattle.acc_grammar.specs.Readers.{joined, many}
use Rattle.acc_grammar.proofs.Exact.{bind_assoc, Exact, All, Free, seq_exact, Made, made_exact, trees_exact, same_exact, Or, maybe_exact}
use Rattle.acc_grammar.proofs.Many.{Shrinks, Runs}
use Rattle.acc_parse_syntax.specs.declared.trees.Relation.{Relation}
use Rattle.acc_parse_syntax.specs.declared.trees.Relation.TheVariants as relation
use Rattle.acc_parse_syntax.specs.declared.trees.LinRelTree.{LinRelTree}
use Rattle.acc_parse_syntax.specs.declared.trees.LinRels.{LinRels}
use Rattle.acc_parse_syntax.specs.Spelling.{just, further, sum, relation_sign, lin_rel, guard}
use Rattle.acc_parse_syntax.specs.WordReaders.{comes, further_at}
use Rattle.acc_parse_syntax.specs.ValueReaders.{starts_sum, relation_at, lin_rel_at, lin_rels_at, guard_at}
use Rattle.acc_parse_syntax.proofs.Following.{CanFollow}
use Rattle.acc_parse_syntax.proofs.Combinators.{made_free, all_in}
use Rattle.acc_parse_syntax.proofs.WordLaws.{sign_exact, further_shrinks, furthers_exact, ends_before, furthers_end}
use Rattle.acc_parse_syntax.proofs.KindLaws.{Begun, or_kind, last_kind}
use Rattle.acc_parse_syntax.proofs.SumLaws.{SumGoes, sum_heads, sum_exact, Stop, sum_ends, sum_head, sum_starts}
use Rattle.acc_parse_syntax.proofs.RowLaws.{comma_stops}

-- ---- relations

abbrev pub relation_word : Relation → List Word
relation_word r = just (relation_sign r)

relation_begun : Begun relation_word relation_sign
relation_begun r = ([], refl)

pub relation_exact : Exact CanFollow relation_word All Free relation_at
unfolding relation_at
relation_exact =
    let at_most = made_free (sign_exact sign.AtMost refl) (λ o. relation.AtMost) relation_word (λ a p. refl) (λ a rest. tt) in
    let at_least = made_free (sign_exact sign.AtLeast refl) (λ o. relation.AtLeast) relation_word (λ a p. refl) (λ a rest. tt) in
    let equal = made_free (sign_exact sign.Equal refl) (λ o. relation.Equal) relation_word (λ a p. refl) (λ a rest. tt) in
    let kinds =
    or_kind relation_begun sign.AtMost at_most (λ t p. ap relation_sign p.2) refl (
    or_kind relation_begun sign.AtLeast at_least (λ t p. ap relation_sign p.2) refl (
    last_kind relation_begun sign.Equal equal (λ t p. ap relation_sign p.2))) in
    trees_exact kinds.exact (λ t p. tt) (λ t q. trees t)
  where
    trees : (r : Relation) → Or (Made (λ (o : Unit {0}). relation.AtMost) All)
        (Or (Made (λ (o : Unit {0}). relation.AtLeast) All) (Made (λ (o : Unit {0}). relation.Equal) All)) r
    trees relation.AtMost = inl (tt, tt, refl)
    trees relation.AtLeast = inr (inl (tt, tt, refl))
    trees relation.Equal = inr (inr (tt, tt, refl))

-- a sum ends before each of them
pub relation_stops : (r : Relation) (rest : List Word) → Stop (relation_word r ++ rest)
relation_stops relation.AtMost rest = record { times = refl; signed = refl }
relation_stops relation.AtLeast rest = record { times = refl; signed = refl }
relation_stops relation.Equal rest = record { times = refl; signed = refl }

abbrev pub LinRelGoes : LinRelTree → List Word → Type 0
LinRelGoes r rest = SumGoes r.right rest

lin_rel_heads : (r : LinRelTree) (w : Word) (more after : List Word) → LinRelGoes r (w ∷ more) → LinRelGoes r (w ∷ after)
lin_rel_heads r w more after g = sum_heads r.right w more after g

left_ends : (r : Relation) (behind : List Word) (rest : List Word) → Stop ((relation_word r ++ behind) ++ rest)
left_ends r behind rest = relation_stops r (behind ++ rest)

pub lin_rel_exact : Exact CanFollow lin_rel All LinRelGoes lin_rel_at
unfolding lin_rel_at
lin_rel_exact =
    let whole = made_exact (seq_exact sum_exact (seq_exact relation_exact sum_exact))
    (λ p. record { left = p.0; relation = p.1.0; right = p.1.1 }) lin_rel LinRelGoes (λ a p. refl) (λ a rest g. g.1.1)
    (λ a rest p g. (sum_ends a.0 _ (left_ends a.1.0 (sum a.1.1) rest), (tt, g))) lin_rel_heads in
    trees_exact (same_exact (λ ws. simp bind_assoc) whole) (λ t p. tt) (λ t q. ((t.left, (t.relation, t.right)), (tt, (tt, tt)), refl))

pub further_lin_rel_shrinks : Shrinks (further_at lin_rel_at)
further_lin_rel_shrinks = further_shrinks lin_rel_exact

-- ---- lists of relations

abbrev LinRelsRun : List LinRelTree → List Word → Type 0
LinRelsRun = Runs (further lin_rel) (comes sign.Comma) LinRelGoes

further_lin_rels_exact : Exact CanFollow (joined (further lin_rel)) All LinRelsRun (many (comes sign.Comma) (further_at lin_rel_at))
further_lin_rels_exact = trees_exact (furthers_exact lin_rel_exact) (λ t p. tt) (λ t q. all_in t)

abbrev lin_rels : LinRels → List Word
lin_rels rs = lin_rel rs.first ++ joined (further lin_rel) rs.others

abbrev LinRelsGoes : LinRels → List Word → Type 0
LinRelsGoes rs rest = LinRelGoes rs.first (joined (further lin_rel) rs.others ++ rest) × LinRelsRun rs.others rest

lin_rels_heads : (rs : LinRels) (w : Word) (more after : List Word) → LinRelsGoes rs (w ∷ more) → LinRelsGoes rs (w ∷ after)
lin_rels_heads rs w more after g = (seq_exact lin_rel_exact further_lin_rels_exact).heads (rs.first, rs.others) w more after g

lin_rels_exact : Exact CanFollow lin_rels All LinRelsGoes lin_rels_at
unfolding lin_rels_at
lin_rels_exact =
    let whole = made_exact (seq_exact lin_rel_exact further_lin_rels_exact) (λ p. record { first = p.0; others = p.1 }) lin_rels LinRelsGoes
    (λ a p. refl) (λ a rest g. g) (λ a rest p g. g) lin_rels_heads in
    trees_exact (same_exact (λ ws. simp bind_assoc) whole) (λ t p. tt) (λ t q. ((t.first, t.others), (tt, tt), refl))

lin_rel_ends : (r : LinRelTree) (rest : List Word) → Stop rest → LinRelGoes r rest
lin_rel_ends r rest h = sum_ends r.right rest h

lin_rels_end : (rs : LinRels) (rest : List Word) → comes sign.Comma rest ≡ false → Stop rest → LinRelsGoes rs rest
lin_rels_end rs rest c h = (
  lin_rel_ends rs.first (joined (further lin_rel) rs.others ++ rest)
      (ends_before Stop lin_rel comma_stops rs.others rest h),
  furthers_end Stop lin_rel LinRelGoes comma_stops lin_rel_ends rs.others rest c h,
)

-- ---- a guard that may be left out

abbrev pub GuardGoes : Option LinRels → List Word → Type 0
GuardGoes None rest = starts_sum rest ≡ false
GuardGoes (Some rs) rest = LinRelsGoes rs rest

guard_heads : (g : Option LinRels) (w : Word) (more after : List Word) → GuardGoes g (w ∷ more) → GuardGoes g (w ∷ after)
guard_heads None w more after g = sym (sum_head w more after) ∙ g
guard_heads (Some rs) w more after g = lin_rels_heads rs w more after g

lin_rel_starts : (r : LinRelTree) (rest : List Word) → starts_sum (lin_rel r ++ rest) ≡ true
lin_rel_starts r rest = ap starts_sum (append_assoc (sum r.left) (relation_word r.relation ++ sum r.right) rest) ∙ sum_starts r.left _

lin_rels_start : (rs : LinRels) (rest : List Word) → starts_sum (lin_rels rs ++ rest) ≡ true
lin_rels_start rs rest = ap starts_sum (append_assoc (lin_rel rs.first) (joined (further lin_rel) rs.others) rest) ∙ lin_rel_starts rs.first
    _

pub guard_exact : Exact CanFollow guard All GuardGoes guard_at
unfolding guard_at
guard_exact =
    let there = made_exact lin_rels_exact Some guard GuardGoes (λ a p. refl) (λ a rest g. g) (λ a rest p g. g) guard_heads in
    trees_exact (maybe_exact there starts_sum sum_head None refl
    (λ t rest p g. subst (λ (z : Option LinRels). starts_sum (guard z ++ rest) ≡ true) p.2 (lin_rels_start p.0 rest)) (λ rest h. h)
    (λ rest h. h)) (λ t p. tt) (λ t q. trees t)
  where
    trees : (g : Option LinRels) → Or (Made Some All) (λ (u : Option LinRels). None ≡ u) g
    trees None = inr refl
    trees (Some rs) = inl (rs, tt, refl)

pub guard_ends : (g : Option LinRels) (rest : List Word) → comes sign.Comma rest ≡ false → starts_sum rest ≡ false → Stop rest →
    GuardGoes g rest
guard_ends None rest c s h = s
guard_ends (Some rs) rest c s h = lin_rels_end rs rest c h
