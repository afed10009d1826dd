-- A statement ends on one line at most.
use Rattle.std.proofs.Common.{◌≡◌, ℕ, ◌+◌, ◌-◌, ◌<◌, ◌≤◌, List, ap, subst, ◌∙◌, arith}
use Rattle.acc_lex.specs.declared.words.Word.{Word}
use Rattle.acc_lex.specs.Texts.{IsLexed}
use Rattle.acc_lex.proofs.LineFronts.{fed_parted}
use Rattle.acc_lex.proofs.WholeTexts.{one_reading}
use Rattle.acc_parse_statements.specs.Ends.{ends}
use Rattle.acc_parse_statements.specs.Lines.{feeds, first_lines, IsLineOf}
use Rattle.acc_parse_statements.proofs.FirstLines.{later_lines, lines_fed}
use Rattle.acc_parse_statements.proofs.Within.{ends_both}

-- of more lines at least as many statements end
more_ends : (text : List ℕ) (m n : ℕ) (v w : List Word) → m ≤ n → m ≤ feeds text → IsLexed (first_lines m text) v →
    IsLexed (first_lines n text) w → ends v ≤ ends w
more_ends text m n v w le few k l =
    let r = later_lines m n text le in
    let p = fed_parted (first_lines m text) r.0 w (lines_fed m text few) (subst (λ (z : List ℕ). IsLexed z w) r.1 l) in
    let same : p.front ≡ v = one_reading (first_lines m text) p.front v p.first k in
    let sum : ends w ≡ ends p.front + ends p.back = ap ends p.whole ∙ ends_both p.front p.back in
    omega (arith, sum, ap ends same)

-- a later statement isn't on an earlier line
pub no_earlier : (text : List ℕ) (n m a b : ℕ) → n ≤ m → IsLineOf text m a → IsLineOf text n b → a < b → ⊥
no_earlier text n m a b le p q lt =
    let more = more_ends text a (b - 1) p.within q.before (omega (arith, lt)) (omega (arith, lt, q.high)) p.within_lexed q.before_lexed in
    omega (arith, le, more, p.ended, q.not_yet)

pub one_line_of : (text : List ℕ) (n a b : ℕ) → IsLineOf text n a → IsLineOf text n b → a ≡ b
one_line_of text n a b p q =
    let not_less : ¬ (a < b) = no_earlier text n n a b (omega arith) p q in
    let not_more : ¬ (b < a) = no_earlier text n n b a (omega arith) q p in
    omega (arith, not_less, not_more)
