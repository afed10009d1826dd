-- The readers of tables, and of statements of names, are exact.
use Rattle.std.proofs.Common.{◌≡◌, ℕ, ◌<◌, Bool, true, false, List, [], ◌∷◌, ◌++◌, length, Option, Some, None, refl, sym, ap, subst, ◌∙◌}
use Rattle.std.proofs.Common.{arith, inl, inr}
use Rattle.acc_lex.specs.declared.words.Sign.{Sign}
use Rattle.acc_lex.specs.declared.words.Sign.TheVariants as sign
use Rattle.acc_lex.specs.declared.words.Word.{Word}
use Rattle.acc_lex.specs.declared.words.Word.TheVariants as word
use Rattle.acc_grammar.specs.Readers.{joined, many}
use Rattle.acc_grammar.proofs.Exact.{bind_assoc, Exact, All, Free, seq_exact, Made, made_exact, trees_exact, same_exact, Or, ByHead}
use Rattle.acc_grammar.proofs.Exact.{maybe_exact}
use Rattle.acc_grammar.proofs.Many.{Shrinks, item_shrinks, Runs, many_exact}
use Rattle.acc_parse_syntax.specs.declared.trees.Names.{Names}
use Rattle.acc_parse_syntax.specs.declared.trees.TableTree.{TableTree}
use Rattle.acc_parse_syntax.specs.Spelling.{just, name, names, number, table, names_statement}
use Rattle.acc_parse_syntax.specs.WordReaders.{same_sign, comes, is_name}
use Rattle.acc_parse_syntax.specs.TableReaders.{private_at, table_at, starts_table, names_at, names_statement_at}
use Rattle.acc_parse_syntax.proofs.Following.{CanFollow, is_own}
use Rattle.acc_parse_syntax.proofs.Combinators.{made_free, all_in}
use Rattle.acc_parse_syntax.proofs.WordLaws.{same_refl, comes_head, sign_exact, name_exact, number_exact, after_exact, closed_exact, names_run}
use Rattle.acc_parse_syntax.proofs.WordLaws.{names_end}
use Rattle.acc_parse_syntax.proofs.KindLaws.{Begun, or_kind, last_kind}

-- ---- tables

-- `private` or `table`
abbrev owner_sign : Bool → Sign
owner_sign true = sign.Private
owner_sign false = sign.Table

abbrev owner : Bool → List Word
owner b = just (owner_sign b)

owner_begun : Begun owner owner_sign
owner_begun b = ([], refl)

private_exact : Exact CanFollow owner All Free private_at
unfolding private_at
private_exact =
    let yes = made_free (sign_exact sign.Private refl) (λ o. true) owner (λ a p. refl) (λ a rest. tt) in
    let no = made_free (sign_exact sign.Table refl) (λ o. false) owner (λ a p. refl) (λ a rest. tt) in
    let kinds = or_kind owner_begun sign.Private yes (λ t p. ap owner_sign p.2) refl
    (last_kind owner_begun sign.Table no (λ t p. ap owner_sign p.2)) in
    trees_exact kinds.exact (λ t p. tt) (λ t q. trees t)
  where
    trees : (b : Bool) → Or (Made (λ (o : Unit {0}). true) All) (Made (λ (o : Unit {0}). false) All) b
    trees true = inl (tt, tt, refl)
    trees false = inr (tt, tt, refl)

table_is : (b : Bool) (x : List ℕ) (n : ℕ) (cs : List (List ℕ)) →
    table (record { private = b; name = x; width = n; columns = cs }) ≡ owner b ++
    (name x ++ (number n ++ (joined name cs ++ just sign.End)))
table_is true x n cs = refl
table_is false x n cs = refl

pub table_exact : Exact CanFollow table All Free table_at
unfolding table_at
table_exact =
    let columns = closed_exact sign.End refl names_run (λ ns rest. names_end ns _ refl) in
    let whole = made_free (seq_exact private_exact (seq_exact name_exact (seq_exact number_exact columns)))
    (λ p. record { private = p.0; name = p.1.0; width = p.1.1.0; columns = p.1.1.1 }) table (λ a p. table_is a.0 a.1.0 a.1.1.0 a.1.1.1)
    (λ a rest. (tt, (tt, (tt, tt)))) in
    trees_exact (same_exact (λ ws. simp bind_assoc) whole) (λ t p. tt)
    (λ t q. ((t.private, (t.name, (t.width, t.columns))), (tt, (tt, (tt, tt))), refl))

table_head : ByHead starts_table
table_head (word.Sign t) more after = refl
table_head (word.Name x) more after = refl
table_head (word.Number n) more after = refl

table_starts : (b : Bool) (t : TableTree) (rest : List Word) → starts_table (table (record t { private = b }) ++ rest) ≡ true
table_starts true t rest = refl
table_starts false t rest = refl

table_long : (b : Bool) (t : TableTree) → 0 < length (table (record t { private = b }))
table_long true t = omega arith
table_long false t = omega arith

pub table_shrinks : Shrinks table_at
table_shrinks = item_shrinks table_exact starts_table table_head refl (λ t rest p g. table_starts t.private t rest)
    (λ t p. table_long t.private t)

pub tables_exact : Exact CanFollow (joined table) All (Runs table starts_table Free) (many starts_table table_at)
tables_exact = trees_exact (many_exact table_exact starts_table table_head refl (λ t rest p g. table_starts t.private t rest)
    (λ t p. table_long t.private t)) (λ t p. tt) (λ t q. all_in t)

pub tables_end : (ts : List TableTree) (rest : List Word) → starts_table rest ≡ false → Runs table starts_table Free ts rest
tables_end [] rest h = h
tables_end (t ∷ ts) rest h = (tt, tables_end ts rest h)

-- ---- one or more names

abbrev NamesGoes : Names → List Word → Type 0
NamesGoes ns rest = Runs name is_name Free ns.others rest

pub some_names_exact : Exact CanFollow names All NamesGoes names_at
unfolding names_at
some_names_exact =
    let whole = made_exact (seq_exact name_exact names_run) (λ p. record { first = p.0; others = p.1 }) names NamesGoes (λ a p. refl)
    (λ a rest g. g.1) (λ a rest p g. (tt, g)) (λ b w more after g. names_run.heads b.others w more after g) in
    trees_exact (same_exact (λ ws. simp bind_assoc) whole) (λ t p. tt) (λ t q. ((t.first, t.others), (tt, tt), refl))

-- ---- a statement of names that may be left out

-- no such statement follows where there is none
abbrev pub NamesStatementGoes : Sign → Option Names → List Word → Type 0
NamesStatementGoes s None rest = comes s rest ≡ false
NamesStatementGoes s (Some ns) rest = Unit {0}

names_statement_heads : (s : Sign) (ns : Option Names) (w : Word) (more after : List Word) → NamesStatementGoes s ns (w ∷ more) →
    NamesStatementGoes s ns (w ∷ after)
names_statement_heads s None w more after g = sym (comes_head s w more after) ∙ g
names_statement_heads s (Some ns) w more after g = tt

pub names_statement_exact : (s : Sign) → is_own s ≡ false →
    Exact CanFollow (names_statement s) All (NamesStatementGoes s) (names_statement_at s)
unfolding names_statement_at
names_statement_exact s n =
    let ended = closed_exact sign.End refl some_names_exact (λ ns rest. names_end ns.others _ refl) in
    let there = made_exact (after_exact s n ended) (λ ns. Some ns) (names_statement s) (NamesStatementGoes s) (λ a p. refl) (λ a rest g. tt)
    (λ a rest p g. tt) (names_statement_heads s) in
    let whole = maybe_exact there (comes s) (comes_head s) None refl
    (λ t rest p g. subst (λ (z : Option Names). comes s (names_statement s z ++ rest) ≡ true) p.2 (same_refl s)) (λ rest h. h)
    (λ rest h. h) in
    trees_exact (same_exact (λ ws. simp bind_assoc) whole) (λ t p. tt) (λ t q. trees t)
  where
    trees : (ns : Option Names) → Or (Made (λ (x : Names). Some x) All) (λ (u : Option Names). None ≡ u) ns
    trees None = inr refl
    trees (Some ns) = inl (ns, tt, refl)

pub names_statement_ends : (s : Sign) (ns : Option Names) (rest : List Word) → comes s rest ≡ false → NamesStatementGoes s ns rest
names_statement_ends s None rest h = h
names_statement_ends s (Some ns) rest h = tt

-- where neither the statement nor what stands behind it begins with the word
pub names_skip : (s k : Sign) → same_sign s k ≡ false → (ns : Option Names) (behind rest : List Word) → comes k (behind ++ rest) ≡ false →
    comes k ((names_statement s ns ++ behind) ++ rest) ≡ false
names_skip s k apart None behind rest h = h
names_skip s k apart (Some ns) behind rest h = apart
