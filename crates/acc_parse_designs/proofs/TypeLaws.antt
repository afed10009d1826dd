-- The readers of points, types and whole designs are exact.
use Rattle.std.proofs.Common.{◌≡◌, false, List, [], ◌∷◌, ◌++◌, Option, refl, sym, ap, arith}
use Rattle.std.proofs.lemmas.List.{append-nil}
use Rattle.acc_lex.specs.declared.words.Sign.{Sign}
use Rattle.acc_lex.specs.declared.words.Sign.TheVariants as sign
use Rattle.acc_lex.specs.declared.words.Word.{Word}
use Rattle.acc_grammar.specs.Readers.{joined, many}
use Rattle.acc_grammar.proofs.Exact.{bind_assoc, Exact, All, Free, seq_exact, made_exact, trees_exact, same_exact}
use Rattle.acc_grammar.proofs.Many.{Shrinks, item_shrinks, Runs, many_exact}
use Rattle.acc_parse_syntax.specs.declared.trees.Names.{Names}
use Rattle.acc_parse_syntax.specs.declared.trees.Sum.{Sum}
use Rattle.acc_parse_syntax.specs.declared.trees.StepTree.{StepTree}
use Rattle.acc_parse_syntax.specs.declared.trees.ClauseTree.{ClauseTree}
use Rattle.acc_parse_syntax.specs.declared.trees.TableTree.{TableTree}
use Rattle.acc_parse_syntax.specs.declared.trees.PointTree.{PointTree}
use Rattle.acc_parse_syntax.specs.declared.trees.TypeTree.{TypeTree}
use Rattle.acc_parse_syntax.specs.declared.trees.EntryTree.{EntryTree}
use Rattle.acc_parse_syntax.specs.declared.trees.HintTree.{HintTree}
use Rattle.acc_parse_syntax.specs.declared.trees.DesignTree.{DesignTree}
use Rattle.acc_parse_syntax.specs.Spelling.{side, clause_statement, point, limit, names_statement, type_words, entry, hint, spelled_design, table}
use Rattle.acc_parse_syntax.specs.WordReaders.{same_sign, comes, is_word}
use Rattle.acc_parse_syntax.specs.TableReaders.{starts_table}
use Rattle.acc_parse_designs.specs.DesignReaders.{point_head_at, point_at, limit_at, type_head_at, type_names_at, type_clauses_at, type_points_at}
use Rattle.acc_parse_designs.specs.DesignReaders.{type_at, design_at}
use Rattle.acc_parse_syntax.proofs.Following.{CanFollow}
use Rattle.acc_parse_syntax.proofs.Combinators.{all_in, runs_end}
use Rattle.acc_parse_syntax.proofs.WordLaws.{comes_head, name_exact, number_exact, end_exact, after_exact, closed_exact, names_run, names_end}
use Rattle.acc_parse_syntax.proofs.WordLaws.{list_skips}
use Rattle.acc_parse_syntax.proofs.TableLaws.{tables_exact, tables_end, NamesStatementGoes, names_statement_exact, names_statement_ends}
use Rattle.acc_parse_syntax.proofs.TableLaws.{names_skip}
use Rattle.acc_parse_syntax.proofs.ClauseLaws.{ClausesRun, clauses_exact, clauses_end, clauses_skip, VariantGoes, variant_exact, variant_ends}
use Rattle.acc_parse_designs.proofs.EntryLaws.{entries_exact, hints_exact}
use Rattle.acc_parse_steps.proofs.StepLaws.{StepGoes, step_exact, step_ends, side_exact}

-- ---- points

abbrev PointGoes : PointTree → List Word → Type 0
PointGoes p rest = StepGoes p.undo rest

-- what holds at the point, and its steps, are statements of their own
variant_before : (v : Option Sum) (hs : List ClauseTree) (n u : StepTree) (rest : List Word) →
    VariantGoes v ((joined (clause_statement sign.Holds) hs ++ (side sign.Next n ++ side sign.Undo u)) ++ rest)
variant_before v hs n u rest = variant_ends v _
    (clauses_skip sign.Holds sign.Variant refl hs (side sign.Next n ++ side sign.Undo u) rest refl)

pub point_exact : Exact CanFollow point All PointGoes point_at
unfolding point_at point_head_at
point_exact =
    let sides = seq_exact (side_exact sign.Next refl) (side_exact sign.Undo refl) in
    let body = seq_exact variant_exact (seq_exact (clauses_exact sign.Holds refl) sides) in
    let whole = made_exact (after_exact sign.Point refl (seq_exact name_exact (after_exact sign.End refl body)))
    (λ p. record { name = p.0; variant = p.1.0; holds = p.1.1.0; next = p.1.1.1.0; undo = p.1.1.1.1 }) point PointGoes (λ a p. refl)
    (λ a rest g. g.1.1.1.1) (λ a rest p g. (
      tt,
      (
        variant_before a.1.0 a.1.1.0 a.1.1.1.0 a.1.1.1.1 rest,
        (clauses_end sign.Holds a.1.1.0 _ refl, (step_ends a.1.1.1.0 _ refl, g)),
      ),
    ))
    (λ b w more after g. step_exact.heads b.undo w more after g) in
    trees_exact (same_exact (λ ws. simp bind_assoc) whole) (λ t p. tt)
    (λ t q. ((t.name, (t.variant, (t.holds, (t.next, t.undo)))), (tt, (tt, (tt, (tt, tt)))), refl))

pub point_shrinks : Shrinks point_at
point_shrinks = item_shrinks point_exact (comes sign.Point) (comes_head sign.Point) refl (λ t rest p g. refl) (λ t p. omega arith)

abbrev PointsRun : List PointTree → List Word → Type 0
PointsRun = Runs point (comes sign.Point) PointGoes

points_exact : Exact CanFollow (joined point) All PointsRun (many (comes sign.Point) point_at)
points_exact = trees_exact (many_exact point_exact (comes sign.Point) (comes_head sign.Point) refl (λ t rest p g. refl)
    (λ t p. omega arith)) (λ t p. tt) (λ t q. all_in t)

-- where a point, and the points, may end
pub record TypeStop (rest : List Word) : Type 0 where
  pub path : comes sign.Path rest ≡ false
  pub point : comes sign.Point rest ≡ false

no_path : (ps : List PointTree) (rest : List Word) → comes sign.Path rest ≡ false → comes sign.Path (joined point ps ++ rest) ≡ false
no_path [] rest h = h
no_path (p ∷ ps) rest h = refl

points_end : (ps : List PointTree) (rest : List Word) → TypeStop rest → PointsRun ps rest
points_end [] rest h = h.point
points_end (p ∷ ps) rest h = (step_ends p.undo _ (no_path ps rest h.path), points_end ps rest h)

-- ---- types

limit_exact : Exact CanFollow limit All Free limit_at
unfolding limit_at
limit_exact = same_exact (λ ws. simp bind_assoc) (after_exact sign.Limit refl (closed_exact sign.End refl number_exact (λ n rest. tt)))

abbrev TypeGoes : TypeTree → List Word → Type 0
TypeGoes t rest = PointGoes t.first (joined point t.others ++ rest) × PointsRun t.others rest

type_heads : (t : TypeTree) (w : Word) (more after : List Word) → TypeGoes t (w ∷ more) → TypeGoes t (w ∷ after)
type_heads t w more after g = (seq_exact point_exact points_exact).heads (t.first, t.others) w more after g

-- what a type has between its limit and its points are statements of their own
repairs_before : (rs : List ClauseTree) (p : PointTree) (behind rest : List Word) → ClausesRun sign.Repairs rs ((point p ++ behind) ++ rest)
repairs_before rs p behind rest = clauses_end sign.Repairs rs _ refl

ensures_before : (es rs : List ClauseTree) (p : PointTree) (behind rest : List Word) →
    ClausesRun sign.Ensures es ((joined (clause_statement sign.Repairs) rs ++ (point p ++ behind)) ++ rest)
ensures_before es rs p behind rest = clauses_end sign.Ensures es _
    (clauses_skip sign.Repairs sign.Ensures refl rs (point p ++ behind) rest refl)

-- no clause of a type begins with the word
clauses_apart : (k : Sign) → same_sign sign.Ensures k ≡ false → same_sign sign.Repairs k ≡ false → same_sign sign.Point k ≡ false →
    (es rs : List ClauseTree) (p : PointTree) (behind rest : List Word) →
    comes k ((joined (clause_statement sign.Ensures) es ++ (joined (clause_statement sign.Repairs) rs ++ (point p ++ behind))) ++ rest) ≡
    false
clauses_apart k e r o es rs p behind rest = clauses_skip sign.Ensures k e es
    (joined (clause_statement sign.Repairs) rs ++ (point p ++ behind)) rest (clauses_skip sign.Repairs k r rs (point p ++ behind) rest o)

locals_before : (ls : Option Names) (es rs : List ClauseTree) (p : PointTree) (behind rest : List Word) →
    NamesStatementGoes sign.Local ls ((joined (clause_statement sign.Ensures) es ++
    (joined (clause_statement sign.Repairs) rs ++ (point p ++ behind))) ++ rest)
locals_before ls es rs p behind rest = names_statement_ends sign.Local ls _ (clauses_apart sign.Local refl refl refl es rs p behind rest)

returns_before : (ns ls : Option Names) (es rs : List ClauseTree) (p : PointTree) (behind rest : List Word) →
    NamesStatementGoes sign.Returns ns ((names_statement sign.Local ls ++
    (joined (clause_statement sign.Ensures) es ++ (joined (clause_statement sign.Repairs) rs ++ (point p ++ behind)))) ++ rest)
returns_before ns ls es rs p behind rest = names_statement_ends sign.Returns ns _
    (names_skip sign.Local sign.Returns refl ls (joined (clause_statement sign.Ensures) es ++
    (joined (clause_statement sign.Repairs) rs ++ (point p ++ behind))) rest
    (clauses_apart sign.Returns refl refl refl es rs p behind rest))

-- what stands behind a type's head
abbrev BodyRead : Type 0
BodyRead = Option Names × (Option Names × (List ClauseTree × (List ClauseTree × (PointTree × List PointTree))))

abbrev body_words : BodyRead → List Word
body_words b =
    names_statement sign.Returns b.0 ++ (
    names_statement sign.Local b.1.0 ++ (
    joined (clause_statement sign.Ensures) b.1.1.0 ++ (
    joined (clause_statement sign.Repairs) b.1.1.1.0 ++ (
    point b.1.1.1.1.0 ++ joined point b.1.1.1.1.1))))

abbrev BodyGoes : BodyRead → List Word → Type 0
BodyGoes b rest = PointGoes b.1.1.1.1.0 (joined point b.1.1.1.1.1 ++ rest) × PointsRun b.1.1.1.1.1 rest

pub type_exact : Exact CanFollow type_words All TypeGoes type_at
unfolding type_at type_head_at type_names_at type_clauses_at type_points_at
type_exact =
    let clauses = seq_exact (clauses_exact sign.Ensures refl)
    (seq_exact (clauses_exact sign.Repairs refl) (seq_exact point_exact points_exact)) in
    let body = seq_exact (names_statement_exact sign.Returns refl) (seq_exact (names_statement_exact sign.Local refl) clauses) in
    let ended = made_exact body (λ b. b) body_words BodyGoes (λ a p. refl) (λ a rest g. g.1.1.1.1)
    (λ a rest p g. (
      returns_before a.0 a.1.0 a.1.1.0 a.1.1.1.0 a.1.1.1.1.0 (joined point a.1.1.1.1.1) rest,
      (
        locals_before a.1.0 a.1.1.0 a.1.1.1.0 a.1.1.1.1.0 (joined point a.1.1.1.1.1) rest,
        (
          ensures_before a.1.1.0 a.1.1.1.0 a.1.1.1.1.0 (joined point a.1.1.1.1.1) rest,
          (repairs_before a.1.1.1.0 a.1.1.1.1.0 (joined point a.1.1.1.1.1) rest, g),
        ),
      ),
    ))
    (λ b w more after g. (seq_exact point_exact points_exact).heads b.1.1.1.1 w more after g) in
    let whole = made_exact (after_exact sign.Type refl
    (seq_exact name_exact (seq_exact names_run (after_exact sign.End refl (seq_exact limit_exact ended)))))
    (λ p. record {
      name = p.0;
      params = p.1.0;
      limit = p.1.1.0;
      returns = p.1.1.1.0;
      locals = p.1.1.1.1.0;
      ensured = p.1.1.1.1.1.0;
      repaired = p.1.1.1.1.1.1.0;
      first = p.1.1.1.1.1.1.1.0;
      others = p.1.1.1.1.1.1.1.1;
    }) type_words TypeGoes (λ a p. refl)
    (λ a rest g. g.1.1.1) (λ a rest p g. (tt, (names_end a.1.0 _ refl, (tt, g)))) type_heads in
    trees_exact (same_exact (λ ws. simp bind_assoc) whole) (λ t p. tt)
    (λ t q. (
      (t.name, (t.params, (t.limit, (t.returns, (t.locals, (t.ensured, (t.repaired, (t.first, t.others)))))))),
      (tt, (tt, (tt, ((t.returns, (t.locals, (t.ensured, (t.repaired, (t.first, t.others))))), (tt, (tt, (tt, (tt, (tt, tt))))), refl)))),
      refl,
    ))

pub type_shrinks : Shrinks type_at
type_shrinks = item_shrinks type_exact (comes sign.Type) (comes_head sign.Type) refl (λ t rest p g. refl) (λ t p. omega arith)

abbrev TypesRun : List TypeTree → List Word → Type 0
TypesRun = Runs type_words (comes sign.Type) TypeGoes

types_exact : Exact CanFollow (joined type_words) All TypesRun (many (comes sign.Type) type_at)
types_exact = trees_exact (many_exact type_exact (comes sign.Type) (comes_head sign.Type) refl (λ t rest p g. refl) (λ t p. omega arith))
    (λ t p. tt) (λ t q. all_in t)

type_ends : (t : TypeTree) (rest : List Word) → TypeStop rest → TypeGoes t rest
type_ends t rest h = (step_ends t.first.undo _ (no_path t.others rest h.path), points_end t.others rest h)

-- ---- designs

-- nothing follows
abbrev pub DesignGoes : DesignTree → List Word → Type 0
DesignGoes d rest = is_word rest ≡ false

-- the words of the entries and the hints
abbrev last_words : List EntryTree → List HintTree → List Word
last_words es hs = joined entry es ++ (joined hint hs ++ [])

-- they begin with no other word
last_apart : (k : Sign) → same_sign sign.Entry k ≡ false → same_sign sign.Hint k ≡ false → (es : List EntryTree) (hs : List HintTree) →
    comes k (last_words es hs ++ []) ≡ false
last_apart k e h es hs = list_skips sign.Entry k entry (λ t. (_, refl)) e es (joined hint hs ++ []) []
    (list_skips sign.Hint k hint (λ t. (_, refl)) h hs [] [] refl)

type_stop : (ts : List TypeTree) (es : List EntryTree) (hs : List HintTree) → TypeStop (joined type_words ts ++ (last_words es hs ++ []))
type_stop [] es hs = record { path = last_apart sign.Path refl refl es hs; point = last_apart sign.Point refl refl es hs }
type_stop (t ∷ ts) es hs = record { path = refl; point = refl }

types_end : (ts : List TypeTree) (es : List EntryTree) (hs : List HintTree) → TypesRun ts (last_words es hs ++ [])
types_end [] es hs = last_apart sign.Type refl refl es hs
types_end (t ∷ ts) es hs = (type_ends t _ (type_stop ts es hs), types_end ts es hs)

-- the words of the types, the entries and the hints begin with no other word
types_apart : (k : Sign) → same_sign sign.Type k ≡ false → same_sign sign.Entry k ≡ false → same_sign sign.Hint k ≡ false →
    (ts : List TypeTree) (es : List EntryTree) (hs : List HintTree) → comes k ((joined type_words ts ++ last_words es hs) ++ []) ≡ false
types_apart k t e h ts es hs = list_skips sign.Type k type_words (λ y. (_, refl)) t ts (last_words es hs) [] (last_apart k e h es hs)

no_table : (cs : List ClauseTree) (ts : List TypeTree) (es : List EntryTree) (hs : List HintTree) →
    starts_table ((joined (clause_statement sign.Always) cs ++ (joined type_words ts ++ last_words es hs)) ++ []) ≡ false
no_table cs ts es hs =
    let private = clauses_skip sign.Always sign.Private refl cs (joined type_words ts ++ last_words es hs) []
    (types_apart sign.Private refl refl refl ts es hs) in
    let plain = clauses_skip sign.Always sign.Table refl cs (joined type_words ts ++ last_words es hs) []
    (types_apart sign.Table refl refl refl ts es hs) in
    rw (private, plain) refl

-- what is read of a design
abbrev DesignRead : Type 0
DesignRead = List TableTree × (List ClauseTree × (List TypeTree × (List EntryTree × (List HintTree × Unit {0}))))

abbrev DesignRuns : DesignRead → List Word → Type 0
DesignRuns d rest =
    Runs table starts_table Free d.0 ((joined (clause_statement sign.Always) d.1.0 ++
    (joined type_words d.1.1.0 ++ last_words d.1.1.1.0 d.1.1.1.1.0)) ++ rest) × (
    ClausesRun sign.Always d.1.0 ((joined type_words d.1.1.0 ++ last_words d.1.1.1.0 d.1.1.1.1.0) ++ rest) × (
    TypesRun d.1.1.0 (last_words d.1.1.1.0 d.1.1.1.1.0 ++ rest) × (
    Runs entry (comes sign.Entry) Free d.1.1.1.0 ((joined hint d.1.1.1.1.0 ++ []) ++ rest) × (
    Runs hint (comes sign.Hint) Free d.1.1.1.1.0 ([] ++ rest) × (
    is_word rest ≡ false)))))

parts_end : (d : DesignRead) (rest : List Word) → is_word rest ≡ false → DesignRuns d rest
parts_end d (w ∷ rest) h = absurd cc
parts_end d [] h = (
  tables_end d.0 _ (no_table d.1.0 d.1.1.0 d.1.1.1.0 d.1.1.1.1.0),
  (
    clauses_end sign.Always d.1.0 _ (types_apart sign.Always refl refl refl d.1.1.0 d.1.1.1.0 d.1.1.1.1.0),
    (
      types_end d.1.1.0 d.1.1.1.0 d.1.1.1.1.0,
      (
        runs_end entry (comes sign.Entry) d.1.1.1.0 _ (list_skips sign.Hint sign.Entry hint (λ t. (_, refl)) refl d.1.1.1.1.0 [] [] refl),
        (runs_end hint (comes sign.Hint) d.1.1.1.1.0 _ refl, h),
      ),
    ),
  ),
)

-- nothing is spelled behind the hints
no_more : (ts cs ys es hs : List Word) → ts ++ (cs ++ (ys ++ (es ++ hs))) ≡ ts ++ (cs ++ (ys ++ (es ++ (hs ++ []))))
no_more ts cs ys es hs = ap (λ (z : List Word). ts ++ (cs ++ (ys ++ (es ++ z)))) (sym (append-nil hs))

pub design_exact : Exact CanFollow spelled_design All DesignGoes design_at
unfolding design_at
design_exact =
    let ended = seq_exact entries_exact (seq_exact hints_exact end_exact) in
    let whole = made_exact (seq_exact tables_exact (seq_exact (clauses_exact sign.Always refl) (seq_exact types_exact ended)))
    (λ p. record { tables = p.0; always = p.1.0; types = p.1.1.0; entries = p.1.1.1.0; hints = p.1.1.1.1.0 }) spelled_design DesignGoes
    (λ a p. no_more (joined table a.0) (joined (clause_statement sign.Always) a.1.0) (joined type_words a.1.1.0)
    (joined entry a.1.1.1.0) (joined hint a.1.1.1.1.0)) (λ a rest g. g.1.1.1.1.1) (λ a rest p g. parts_end a rest g)
    (λ b w more after g. g) in
    trees_exact (same_exact (λ ws. simp bind_assoc) whole) (λ t p. tt)
    (λ t q. ((t.tables, (t.always, (t.types, (t.entries, (t.hints, tt))))), (tt, (tt, (tt, (tt, (tt, tt))))), refl))
