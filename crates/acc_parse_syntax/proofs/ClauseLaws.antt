-- The readers of clauses and variants are exact.
use Rattle.std.proofs.Common.{◌≡◌, true, false, List, [], ◌∷◌, ◌++◌, Option, Some, None, refl, sym, ap, subst, ◌∙◌, append_assoc, arith}
use Rattle.std.proofs.Common.{inl, inr}
use Rattle.acc_lex.specs.declared.words.Sign.{Sign}
use Rattle.acc_lex.specs.declared.words.Sign.TheVariants as sign
use Rattle.acc_lex.specs.declared.words.Word.{Word}
use Rattle.acc_lex.specs.declared.words.Word.TheVariants as word
use Rattle.acc_grammar.specs.Readers.{joined, many}
use Rattle.acc_grammar.proofs.Exact.{bind_assoc, Exact, All, Free, Each, seq_exact, Made, made_exact, trees_exact, same_exact, Or, ByHead}
use Rattle.acc_grammar.proofs.Exact.{maybe_exact}
use Rattle.acc_grammar.proofs.Many.{Shrinks, Runs, many_exact}
use Rattle.acc_parse_syntax.specs.declared.trees.Names.{Names}
use Rattle.acc_parse_syntax.specs.declared.trees.Sum.{Sum}
use Rattle.acc_parse_syntax.specs.declared.trees.FormRelTree.{FormRelTree}
use Rattle.acc_parse_syntax.specs.declared.trees.FormRels.{FormRels}
use Rattle.acc_parse_syntax.specs.declared.trees.ClauseTree.{ClauseTree}
use Rattle.acc_parse_syntax.specs.Spelling.{just, further, form_rel, binder, clause, clause_statement, variant_statement}
use Rattle.acc_parse_syntax.specs.WordReaders.{same_sign, comes}
use Rattle.acc_parse_syntax.specs.ClauseReaders.{binder_at, starts_conclusion, conclusion_at, clause_of, clause_at, clause_statement_at}
use Rattle.acc_parse_syntax.specs.ClauseReaders.{variant_at}
use Rattle.acc_parse_syntax.proofs.Following.{CanFollow, is_own}
use Rattle.acc_parse_syntax.proofs.Combinators.{made_free, all_in, runs_end}
use Rattle.acc_parse_syntax.proofs.WordLaws.{same_refl, comes_head, after, after_exact, after_shrinks, closed, closed_exact, names_end}
use Rattle.acc_parse_syntax.proofs.WordLaws.{list_skips}
use Rattle.acc_parse_syntax.proofs.TableLaws.{some_names_exact}
use Rattle.acc_parse_syntax.proofs.SumLaws.{sum_exact, sum_ends}
use Rattle.acc_parse_syntax.proofs.FormLaws.{FormStop, FormRelGoes, form_rel_exact, form_rel_ends, rel_is_no_forall, further_form_rels_exact}
use Rattle.acc_parse_syntax.proofs.FormLaws.{further_form_rels_end}

-- ---- the variables

-- nothing follows that binds where nothing does
abbrev BinderGoes : Option Names → List Word → Type 0
BinderGoes None rest = comes sign.Forall rest ≡ false
BinderGoes (Some ns) rest = Unit {0}

binder_heads : (ns : Option Names) (w : Word) (more after : List Word) → BinderGoes ns (w ∷ more) → BinderGoes ns (w ∷ after)
binder_heads None w more after g = sym (comes_head sign.Forall w more after) ∙ g
binder_heads (Some ns) w more after g = tt

binder_exact : Exact CanFollow binder All BinderGoes binder_at
unfolding binder_at
binder_exact =
    let ended = closed_exact sign.Colon refl some_names_exact (λ ns rest. names_end ns.others _ refl) in
    let there = made_exact (after_exact sign.Forall refl ended) (λ ns. Some ns) binder BinderGoes (λ a p. refl) (λ a rest g. tt)
    (λ a rest p g. tt) binder_heads in
    let whole = maybe_exact there (comes sign.Forall) (comes_head sign.Forall) None refl
    (λ t rest p g. subst (λ (z : Option Names). comes sign.Forall (binder z ++ rest) ≡ true) p.2 refl) (λ rest h. h) (λ rest h. h) in
    trees_exact (same_exact (λ ws. simp bind_assoc) whole) (λ t p. tt) (λ t q. trees t)
  where
    trees : (ns : Option Names) → Or (Made (λ (x : Names). Some x) All) (λ (u : Option Names). None ≡ u) ns
    trees None = inr refl
    trees (Some ns) = inl (ns, tt, refl)

binder_ends : (ns : Option Names) (r : FormRelTree) (behind rest : List Word) → BinderGoes ns ((form_rel r ++ behind) ++ rest)
binder_ends (Some ns) r behind rest = tt
binder_ends None r behind rest = ap (comes sign.Forall) (append_assoc (form_rel r) behind rest) ∙ rel_is_no_forall r _

-- ---- what makes of the first relation a guard

-- further guards, and the relation behind the arrow; or nothing
abbrev conclusion : Option (List FormRelTree × FormRelTree) → List Word
conclusion None = []
conclusion (Some c) = joined (further form_rel) c.0 ++ (just sign.Implies ++ form_rel c.1)

abbrev ConclusionGoes : Option (List FormRelTree × FormRelTree) → List Word → Type 0
ConclusionGoes None rest = starts_conclusion rest ≡ false
ConclusionGoes (Some c) rest = FormRelGoes c.1 rest

conclusion_head : ByHead starts_conclusion
conclusion_head (word.Sign t) more after = refl
conclusion_head (word.Name x) more after = refl
conclusion_head (word.Number n) more after = refl

conclusion_heads : (c : Option (List FormRelTree × FormRelTree)) (w : Word) (more after : List Word) → ConclusionGoes c (w ∷ more) →
    ConclusionGoes c (w ∷ after)
conclusion_heads None w more after g = sym (conclusion_head w more after) ∙ g
conclusion_heads (Some c) w more after g = form_rel_exact.heads c.1 w more after g

conclusion_starts : (gs : List FormRelTree) (r : FormRelTree) (rest : List Word) →
    starts_conclusion (conclusion (Some (gs, r)) ++ rest) ≡ true
conclusion_starts [] r rest = refl
conclusion_starts (g ∷ gs) r rest = refl

conclusion_exact : Exact CanFollow conclusion All ConclusionGoes conclusion_at
unfolding conclusion_at
conclusion_exact =
    let there = made_exact (seq_exact further_form_rels_exact (after_exact sign.Implies refl form_rel_exact)) (λ c. Some c) conclusion
    ConclusionGoes (λ a p. refl) (λ a rest g. g.1)
    (λ a rest p g. (further_form_rels_end a.0 _ refl (record { stop = record { times = refl; signed = refl }; key = refl }), g))
    conclusion_heads in
    let whole = maybe_exact there starts_conclusion conclusion_head None refl
    (λ t rest p g. subst (λ (z : Option (List FormRelTree × FormRelTree)). starts_conclusion (conclusion z ++ rest) ≡ true) p.2
    (conclusion_starts p.0.0 p.0.1 rest)) (λ rest h. h) (λ rest h. h) in
    trees_exact (same_exact (λ ws. simp bind_assoc) whole) (λ t p. tt) (λ t q. trees t)
  where
    trees : (c : Option (List FormRelTree × FormRelTree)) →
        Or (Made (λ (x : List FormRelTree × FormRelTree). Some x) (Each All All))
        (λ (u : Option (List FormRelTree × FormRelTree)). None ≡ u) c
    trees None = inr refl
    trees (Some c) = inl (c, (tt, tt), refl)

-- a statement's end may follow
conclusion_ends : (c : Option (List FormRelTree × FormRelTree)) (rest : List Word) → ConclusionGoes c (word.Sign sign.End ∷ rest)
conclusion_ends None rest = refl
conclusion_ends (Some c) rest = form_rel_ends c.1 _ (record { stop = record { times = refl; signed = refl }; key = refl })

-- the first relation ends before it
conclusion_stops : (c : Option (List FormRelTree × FormRelTree)) (rest : List Word) → FormStop ((conclusion c ++ just sign.End) ++ rest)
conclusion_stops None rest = record { stop = record { times = refl; signed = refl }; key = refl }
conclusion_stops (Some c) rest = stops c.0 c.1 rest
  where
    stops : (gs : List FormRelTree) (r : FormRelTree) (rest : List Word) → FormStop ((conclusion (Some (gs, r)) ++ just sign.End) ++ rest)
    stops [] r rest = record { stop = record { times = refl; signed = refl }; key = refl }
    stops (g ∷ gs) r rest = record { stop = record { times = refl; signed = refl }; key = refl }

-- ---- clauses

abbrev ended_clause : ClauseTree → List Word
ended_clause c = clause c ++ just sign.End

-- the words of a clause with guards, as they are read
regroup : (names first others arrow relation end : List Word) →
    (names ++ (((first ++ others) ++ arrow) ++ relation)) ++ end ≡ names ++ (first ++ ((others ++ (arrow ++ relation)) ++ end))
regroup names first others arrow relation end = simp append_assoc

clause_is : (ns : Option Names) (r : FormRelTree) (c : Option (List FormRelTree × FormRelTree)) →
    ended_clause (clause_of ns r c) ≡ binder ns ++ (form_rel r ++ (conclusion c ++ just sign.End))
clause_is ns r None = append_assoc (binder ns) (form_rel r) (just sign.End)
clause_is ns r (Some c) = regroup (binder ns) (form_rel r) (joined (further form_rel) c.0) (just sign.Implies) (form_rel c.1)
    (just sign.End)

ended_clause_exact : Exact CanFollow ended_clause All Free (closed sign.End clause_at)
unfolding clause_at
ended_clause_exact =
    let concluded = closed_exact sign.End refl conclusion_exact conclusion_ends in
    let whole = made_free (seq_exact binder_exact (seq_exact form_rel_exact concluded)) (λ p. clause_of p.0 p.1.0 p.1.1) ended_clause
    (λ a p. clause_is a.0 a.1.0 a.1.1) (λ a rest. (
      binder_ends a.0 a.1.0 _ rest,
      (form_rel_ends a.1.0 _ (conclusion_stops a.1.1 rest), tt),
    )) in
    trees_exact (same_exact (λ ws. simp bind_assoc) whole) (λ t p. tt) (λ t q. trees t.variables t.guards t.relation)
  where
    trees : (ns : Option Names) (gs : Option FormRels) (r : FormRelTree) →
        Made (λ (p : Option Names × (FormRelTree × Option (List FormRelTree × FormRelTree))). clause_of p.0 p.1.0 p.1.1)
        (Each All (Each All All)) (record { variables = ns; guards = gs; relation = r })
    trees ns None r = ((ns, (r, None)), (tt, (tt, tt)), refl)
    trees ns (Some gs) r = ((ns, (gs.first, Some (gs.others, r))), (tt, (tt, tt)), refl)

statement_is : (s : Sign) (ws : List Word) → clause_statement_at s ws ≡ after s (closed sign.End clause_at) ws
unfolding clause_statement_at
statement_is s ws = simp bind_assoc

pub clause_statement_exact : (s : Sign) → is_own s ≡ false → Exact CanFollow (clause_statement s) All Free (clause_statement_at s)
clause_statement_exact s n = same_exact (statement_is s) (after_exact s n ended_clause_exact)

pub clause_statement_shrinks : (s : Sign) → Shrinks (clause_statement_at s)
clause_statement_shrinks s ws t rest h = after_shrinks s ended_clause_exact ws t rest (sym (statement_is s ws) ∙ h)

-- statements of the word, as long as one comes
abbrev pub ClausesRun : Sign → List ClauseTree → List Word → Type 0
ClausesRun s = Runs (clause_statement s) (comes s) Free

pub clauses_exact : (s : Sign) → is_own s ≡ false →
    Exact CanFollow (joined (clause_statement s)) All (ClausesRun s) (many (comes s) (clause_statement_at s))
clauses_exact s n = trees_exact (many_exact (clause_statement_exact s n) (comes s) (comes_head s) refl (λ t rest p g. same_refl s)
    (λ t p. omega arith)) (λ t p. tt) (λ t q. all_in t)

pub clauses_end : (s : Sign) (cs : List ClauseTree) (rest : List Word) → comes s rest ≡ false → ClausesRun s cs rest
clauses_end s cs rest h = runs_end (clause_statement s) (comes s) cs rest h

-- where neither the clauses nor what stands behind them begins with the word
pub clauses_skip : (s k : Sign) → same_sign s k ≡ false → (cs : List ClauseTree) (behind rest : List Word) →
    comes k (behind ++ rest) ≡ false → comes k ((joined (clause_statement s) cs ++ behind) ++ rest) ≡ false
clauses_skip s k apart cs behind rest h = list_skips s k (clause_statement s) (λ c. (_, refl)) apart cs behind rest h

-- ---- a variant that may be left out

abbrev pub VariantGoes : Option Sum → List Word → Type 0
VariantGoes None rest = comes sign.Variant rest ≡ false
VariantGoes (Some v) rest = Unit {0}

variant_heads : (v : Option Sum) (w : Word) (more after : List Word) → VariantGoes v (w ∷ more) → VariantGoes v (w ∷ after)
variant_heads None w more after g = sym (comes_head sign.Variant w more after) ∙ g
variant_heads (Some v) w more after g = tt

pub variant_exact : Exact CanFollow variant_statement All VariantGoes variant_at
unfolding variant_at
variant_exact =
    let value = closed_exact sign.End refl sum_exact (λ v rest. sum_ends v _ (record { times = refl; signed = refl })) in
    let there = made_exact (after_exact sign.Variant refl value) (λ v. Some v) variant_statement VariantGoes (λ a p. refl) (λ a rest g. tt)
    (λ a rest p g. tt) variant_heads in
    let whole = maybe_exact there (comes sign.Variant) (comes_head sign.Variant) None refl
    (λ t rest p g. subst (λ (z : Option Sum). comes sign.Variant (variant_statement z ++ rest) ≡ true) p.2 refl) (λ rest h. h)
    (λ rest h. h) in
    trees_exact (same_exact (λ ws. simp bind_assoc) whole) (λ t p. tt) (λ t q. trees t)
  where
    trees : (v : Option Sum) → Or (Made (λ (x : Sum). Some x) All) (λ (u : Option Sum). None ≡ u) v
    trees None = inr refl
    trees (Some v) = inl (v, tt, refl)

pub variant_ends : (v : Option Sum) (rest : List Word) → comes sign.Variant rest ≡ false → VariantGoes v rest
variant_ends None rest h = h
variant_ends (Some v) rest h = tt
