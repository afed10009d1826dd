-- Looking for the line on which a text goes wrong: line by line, as long as the words that came are good.
use Rattle.std.proofs.Common.{◌≡◌, ℕ, ◌+◌, ◌-◌, ◌<◌, ◌≤◌, List, [], ◌∷◌, ◌++◌, length, take, refl, sym, ap, subst, ◌∙◌, inl, inr, arith}
use Rattle.std.proofs.Common.{append_assoc, length-append, add-one}
use Rattle.std.proofs.lemmas.Bool.{cases_lt}
use Rattle.acc_lex.specs.declared.words.Word.{Word}
use Rattle.acc_lex.specs.Texts.{IsLexed, IsBadAt, Begins as Lexes}
use Rattle.acc_lex.proofs.LineFronts.{IsFed, nothing_lexed, fed_line, with_feed, without_feed, fed_both, fed_parted}
use Rattle.acc_lex.proofs.WholeTexts.{one_reading}
use Rattle.acc_parse_statements.specs.Lines.{feeds, first_lines}
use Rattle.acc_parse_statements.proofs.FirstLines.{feeds_taken, behind_lines, later_lines, lines_fed, lines_within, lines_past}
use Rattle.acc_parse_statements.proofs.Fronts.{Comes, longer, longer_whole, longer_feeds, first_are, feeds_front}
use Rattle.acc_parse.specs.Texts.{IsGrammatical}
use Rattle.acc_parse.specs.Syntax.{Begins, IsWrongAt}
use Rattle.acc_parse.specs.GoodWords.{AreGood, GoesOn, Judges}
use Rattle.acc_parse.proofs.Continued.{can_go_on, goes_on, has_words, begins_less, part_goes}

-- ---- one line at most is wrong

apart : (text : List ℕ) (a b : ℕ) → IsWrongAt text a → IsWrongAt text b → a < b → ⊥
apart text a b p q lt =
    let k = later_lines a (b - 1) text (omega (arith, lt)) in
    p.stops (omega (arith, lt, q.high)) (begins_less (first_lines a text) k.0 (subst Begins k.1 q.begins))

-- at most one line of a text is wrong
pub one_wrong : (text : List ℕ) (a b : ℕ) → IsWrongAt text a → IsWrongAt text b → a ≡ b
one_wrong text a b p q =
    let not_less : ¬ (a < b) = apart text a b p q in
    let not_more : ¬ (b < a) = apart text b a q p in
    omega (arith, not_less, not_more)

-- ---- how many words are good

-- of a text with words
pub judged : (text : List ℕ) (words : List Word) (good : ℕ) → IsLexed text words → AreGood words good → Judges text good
judged text words good l g n v le k =
    let r = behind_lines n text in
    part_goes (first_lines n text) r.0 words v good (lines_fed n text le) (subst (λ (z : List ℕ). IsLexed z words) r.1 l) g k

-- as many lines as end before the first k bytes stand in them
front_within : (text : List ℕ) (k : ℕ) → Lexes (take k text) → (v : List Word) × IsLexed (first_lines (feeds (take k text)) text) v
front_within text k b =
    let m : ℕ = feeds (take k text) in
    let few : m ≤ feeds text = feeds_taken k text in
    let r = lines_within m k text (omega arith) in
    let whole : take k text ++ b.0 ≡ first_lines m text ++ (r.0 ++ b.0) =
    ap (λ (z : List ℕ). z ++ b.0) r.1 ∙ append_assoc (first_lines m text) r.0 b.0 in
    let p = fed_parted (first_lines m text) (r.0 ++ b.0) b.1 (lines_fed m text few) (subst (λ (z : List ℕ). IsLexed z b.1) whole b.2) in
    (p.front, p.first)

-- the lines before that of the first bad byte are words
pub front_lexed : (text : List ℕ) (line : ℕ) → IsBadAt text line → (v : List Word) × IsLexed (first_lines (line - 1) text) v
front_lexed text line bad =
    let is : feeds (take bad.0 text) ≡ line - 1 = omega (arith, bad.2) in
    subst (λ (z : ℕ). (v : List Word) × IsLexed (first_lines z text) v) is (front_within text bad.0 bad.1.begins)

-- of a text with a bad byte, by the words of the lines before its line
pub judged_front : (text : List ℕ) (line : ℕ) (words : List Word) (good : ℕ) → IsBadAt text line →
    IsLexed (first_lines (line - 1) text) words → AreGood words good → Judges text good
judged_front text line words good bad l g n v le k = elim (cases_lt (line - 1) n) [
  | inr few ↦ (
      let r = later_lines n (line - 1) text few in
      part_goes (first_lines n text) r.0 words v good (lines_fed n text le) (subst (λ (z : List ℕ). IsLexed z words) r.1 l) g k)
  | inl many ↦ (
      let past : feeds (take bad.0 text) < n = omega (arith, many, bad.2) in
      let r = lines_past n bad.0 text past le in
      absurd (bad.1.stops r.0 (
        r.1.0,
        v,
        subst (λ (z : List ℕ). IsLexed z v)
            (r.1.1 ∙ ap (λ (z : ℕ). take z text ++ r.1.0) (sym (add-one bad.0))) k,
      )))
]

-- ---- going over the lines

-- So far whole lines have come, they are words, and of the good words this many are left; the next line has this number.
pub record IsAt (text rest : List ℕ) (line left good : ℕ) : Type 0 where
  pub front : List ℕ
  pub fed : IsFed front
  pub whole : text ≡ front ++ rest
  pub words : List Word
  pub lexed : IsLexed front words
  pub counted : length words + left ≡ good
  pub number : line ≡ 1 + feeds front

pub at_start : (text : List ℕ) (good : ℕ) → IsAt text text 1 good good
at_start text good = record { front = []; fed = tt; whole = refl; words = []; lexed = nothing_lexed; counted = omega arith; number = refl }

-- a line that is words, and of which all are good
pub at_next : (text rest l behind : List ℕ) (w : List Word) (line left good : ℕ) → IsAt text rest line left good → Comes rest l behind →
    IsLexed l w → length w ≤ left → IsAt text behind (line + 1) (left - length w) good
at_next text rest l behind w line left good a s k le = record {
  front = longer a.front l;
  fed = fed_line a.front l a.fed;
  whole = longer_whole text a.front rest l behind a.whole s.0;
  words = a.words ++ w;
  lexed = fed_both a.front (l ++ (10 ∷ [])) a.words w a.fed a.lexed (with_feed l w k);
  counted = omega (arith, length-append a.words w, a.counted, le);
  number = omega (arith, longer_feeds a.front l s.1, a.number);
}

-- words of the lines so far are judged by their number
judged_words : (text f rest : List ℕ) (good : ℕ) (v : List Word) → Judges text good → IsFed f → text ≡ f ++ rest → IsLexed f v →
    GoesOn good v
judged_words text f rest good v j h e k =
    j (feeds f) v (omega (arith, feeds_front text f rest e)) (subst (λ (z : List ℕ). IsLexed z v) (sym (first_are text f rest h e)) k)

-- the lines so far can be continued
begins_at : (text rest : List ℕ) (line left good : ℕ) → Judges text good → IsAt text rest line left good →
    Begins (first_lines (line - 1) text)
begins_at text rest line left good j a =
    let is : feeds a.front ≡ line - 1 = omega (arith, a.number) in
    let goes = judged_words text a.front rest good a.words j a.fed a.whole a.lexed in
    let here : Begins a.front = can_go_on a.front a.words a.fed a.lexed (goes.within (omega (arith, a.counted))) in
    subst (λ (z : ℕ). Begins (first_lines z text)) is (subst Begins (sym (first_are text a.front rest a.fed a.whole)) here)

-- the text ends here, too early or in a line without a line feed
pub wrong_at_end : (text rest : List ℕ) (line left good : ℕ) → ¬ IsGrammatical text → Judges text good → IsAt text rest line left good →
    feeds rest ≡ 0 → IsWrongAt text line
wrong_at_end text rest line left good never j a e =
    let all = feeds_front text a.front rest a.whole in record {
      none = never;
      low = omega (arith, a.number);
      high = omega (arith, a.number, all);
      begins = begins_at text rest line left good j a;
      stops = λ le. absurd (omega (arith, a.number, all, e, le));
    }

-- a line that is no words, or has more than the good ones
abbrev pub GoesWrong : List ℕ → ℕ → Type 0
GoesWrong l left = (w : List Word) → IsLexed l w → left < length w

wrong_words : (text rest l behind : List ℕ) (line left good : ℕ) → Judges text good → (a : IsAt text rest line left good) →
    Comes rest l behind → GoesWrong l left → ¬ Begins (longer a.front l)
wrong_words text rest l behind line left good j a s bad b =
    let fed = fed_line a.front l a.fed in
    let u = has_words (longer a.front l) fed b in
    let p = fed_parted a.front (l ++ (10 ∷ [])) u.0 a.fed u.1 in
    let same : p.front ≡ a.words = one_reading a.front p.front a.words p.first a.lexed in
    let more : left < length p.back = bad p.back (without_feed l p.back p.second) in
    let goes = judged_words text (longer a.front l) behind good u.0 j fed (longer_whole text a.front rest l behind a.whole s.0) u.1 in
    let sum : length u.0 ≡ length a.words + length p.back =
    ap length p.whole ∙ length-append p.front p.back ∙ ap (λ (z : List Word). length z + length p.back) same in
    goes.past (omega (arith, sum, more, a.counted)) (goes_on (longer a.front l) u.0 fed u.1 b)

-- the text goes wrong in this line
pub wrong_here : (text rest l behind : List ℕ) (line left good : ℕ) → ¬ IsGrammatical text → Judges text good →
    IsAt text rest line left good → Comes rest l behind → GoesWrong l left → IsWrongAt text line
wrong_here text rest l behind line left good never j a s bad =
    let whole = longer_whole text a.front rest l behind a.whole s.0 in
    let all = feeds_front text (longer a.front l) behind whole in
    let number : feeds (longer a.front l) ≡ line = omega (arith, longer_feeds a.front l s.1, a.number) in
    let first : first_lines line text ≡ longer a.front l =
    ap (λ (z : ℕ). first_lines z text) (sym number) ∙ first_are text (longer a.front l) behind (fed_line a.front l a.fed) whole in
    record {
      none = never;
      low = omega (arith, a.number);
      high = omega (arith, all, number);
      begins = begins_at text rest line left good j a;
      stops = λ le b. wrong_words text rest l behind line left good j a s bad (subst Begins first b);
    }
