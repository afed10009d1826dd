-- Whole lines can be continued to a text of the grammar exactly where they are words that can be continued to a design's.
use Rattle.std.proofs.Common.{◌≡◌, ℕ, ◌+◌, ◌-◌, ◌≤◌, zero, suc, true, List, [], ◌∷◌, ◌++◌, length, take, drop, refl, sym, ap, subst, ◌∙◌}
use Rattle.std.proofs.Common.{arith, append_assoc, length-append, Result, Ok, Err, IfOk}
use Rattle.std.proofs.Math.Seq.{take-append-add, take-append_seam}
use Rattle.std.proofs.lemmas.List.{take-append-le, take-append-drop, append-nil}
use Rattle.acc_grammar.specs.Readers.{AllIn}
use Rattle.acc_grammar.proofs.Exact.{AllIn-append}
use Rattle.acc_lex.specs.declared.words.Word.{Word}
use Rattle.acc_lex.specs.Words.{CanSpell}
use Rattle.acc_lex.specs.Texts.{IsLexed}
use Rattle.acc_lex.proofs.WholeTexts.{one_reading, can_spell}
use Rattle.acc_lex.proofs.StatementWords.{InStatements, in_behind, lexed_in}
use Rattle.acc_lex.proofs.WrittenWords.{written}
use Rattle.acc_lex.proofs.LineFronts.{IsFed, fed_both, fed_parted}
use Rattle.acc_parse_syntax.specs.declared.trees.DesignTree.{DesignTree}
use Rattle.acc_parse_designs.specs.Texts.{IsSpelling, Begins as Opens, StopsAt}
use Rattle.acc_parse_designs.proofs.SpelledStatements.{spelled_in}
use Rattle.acc_parse.specs.declared.errors.ParseError.{ParseError}
use Rattle.acc_parse.specs.Texts.{IsGrammatical}
use Rattle.acc_parse.specs.Syntax.{Begins}
use Rattle.acc_parse.specs.GoodWords.{AreGood, GoesOn}

-- ---- whole lines, and their words

-- the words that go on are written on one line
pub can_go_on : (f : List ℕ) (v : List Word) → IsFed f → IsLexed f v → Opens v → Begins f
can_go_on f v h k b =
    let all : InStatements true (v ++ b.0) = subst (InStatements true) (sym b.3.spelled) (spelled_in b.1) in
    let more = written b.0 b.2 (in_behind true v b.0 (lexed_in f v k) all) in
    (more.0, record { words = v ++ b.0; lexed = fed_both f more.0 v b.0 h k more.1; tree = b.1; spelled = b.3 })

-- a text that begins with whole lines has words that begin with theirs
pub goes_on : (f : List ℕ) (v : List Word) → IsFed f → IsLexed f v → Begins f → Opens v
goes_on f v h k b =
    let p = fed_parted f b.0 b.1.words h b.1.lexed in
    let is : v ++ p.back ≡ p.front ++ p.back = ap (λ (z : List Word). z ++ p.back) (one_reading f v p.front k p.first) in
    (p.back, b.1.tree, can_spell b.0 p.back p.second, subst (λ (z : List Word). IsSpelling z b.1.tree) (sym (is ∙ sym p.whole)) b.1.spelled)

pub has_words : (f : List ℕ) → IsFed f → Begins f → (v : List Word) × IsLexed f v
has_words f h b = let p = fed_parted f b.0 b.1.words h b.1.lexed in (p.front, p.first)

-- what begins a text, begins it with less
pub begins_less : (f more : List ℕ) → Begins (f ++ more) → Begins f
begins_less f more b = (more ++ b.0, subst IsGrammatical (append_assoc f more b.0) b.1)

-- ---- the words of whole lines, and those of all

all_taken : (n : ℕ) (ws : List Word) → AllIn CanSpell ws → AllIn CanSpell (take n ws)
all_taken zero ws h = tt
all_taken (suc n) [] h = tt
all_taken (suc n) (w ∷ ws) h = (h.0, all_taken n ws h.1)

all_dropped : (n : ℕ) (ws : List Word) → AllIn CanSpell ws → AllIn CanSpell (drop n ws)
all_dropped zero ws h = h
all_dropped (suc n) [] h = tt
all_dropped (suc n) (w ∷ ws) h = all_dropped n ws h.1

opens_less : (v more : List Word) → AllIn CanSpell more → Opens (v ++ more) → Opens v
opens_less v more p b = (
  more ++ b.0,
  b.1,
  AllIn-append CanSpell more b.0 p b.2,
  subst (λ (z : List Word). IsSpelling z b.1) (append_assoc v more b.0) b.3,
)

opens_within : (v w : List Word) (good : ℕ) → AllIn CanSpell w → Opens (take good (v ++ w)) → length v ≤ good → Opens v
opens_within v w good p b le =
    let more : ℕ = good - length v in
    let sum : good ≡ length v + more = omega (arith, le) in
    let is : take good (v ++ w) ≡ v ++ take more w = ap (λ (z : ℕ). take z (v ++ w)) sum ∙ take-append-add v w more in
    opens_less v (take more w) (all_taken more w p) (subst Opens is b)

opens_first : (v w : List Word) (n : ℕ) → AllIn CanSpell v → n ≤ length v → Opens v → Opens (take n (v ++ w))
opens_first v w n p le b =
    let is : take n (v ++ w) ≡ take n v = take-append-le n v w le in
    subst Opens (sym is) (opens_less (take n v) (drop n v) (all_dropped n v p) (subst Opens (sym (take-append-drop n v)) b))

-- the words of the first lines of a text, by how many of the text's words are good
pub part_goes : (f rest : List ℕ) (words v : List Word) (good : ℕ) → IsFed f → IsLexed (f ++ rest) words → AreGood words good →
    IsLexed f v → GoesOn good v
part_goes f rest words v good h l g k =
    let p = fed_parted f rest words h l in
    let is : words ≡ v ++ p.back = p.whole ∙ ap (λ (z : List Word). z ++ p.back) (one_reading f p.front v p.first k) in
    record {
      within = λ le. opens_within v p.back good (can_spell rest p.back p.second)
          (subst (λ (z : List Word). Opens (take good z)) is g.begins) le;
      past = λ lt b. g.stops (omega (arith, lt, ap length is, length-append v p.back))
          (subst (λ (z : List Word). Opens (take (good + 1) z)) (sym is)
          (opens_first v p.back (good + 1) (can_spell f v k) (omega (arith, lt)) b));
    }

-- ---- good words by the tree, or by where there is none

-- all words that spell a tree
pub good_all : (words : List Word) (t : DesignTree) → IsSpelling words t → AreGood words (length words)
good_all words t s = record {
  begins = (let whole : take (length words) words ≡ words = ap (take (length words)) (sym (append-nil words)) ∙ take-append_seam words [] in
      subst Opens (sym whole) ([], t, tt, subst (λ (z : List Word). IsSpelling z t) (sym (append-nil words)) s));
  stops = λ lt. absurd (omega (arith, lt));
}

-- those before the first with which no design goes on
pub good_front : (words : List Word) (k : ℕ) → StopsAt words k → AreGood words k
good_front words k s = record { begins = s.begins; stops = s.stops }

-- a text whose words spell no tree
pub no_tree : (text : List ℕ) (words : List Word) → IsLexed text words → ((t : DesignTree) → ¬ IsSpelling words t) → ¬ IsGrammatical text
no_tree text words l never g = never g.tree (subst (λ (z : List Word). IsSpelling z g.tree) (sym (one_reading text words g.words l g.lexed))
    g.spelled)

-- a text whose words spell a tree is of the grammar
pub spelled_text : (text : List ℕ) (words : List Word) (r : Result DesignTree ParseError) → IsLexed text words → IfOk r (IsSpelling words) →
    IfOk r (λ t. (g : IsGrammatical text) × (g.tree ≡ t))
spelled_text text words (Ok t) l e = (record { words = words; lexed = l; tree = t; spelled = e }, refl)
spelled_text text words (Err f) l e = tt
