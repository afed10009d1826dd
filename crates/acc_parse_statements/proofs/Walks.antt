-- Looking for the line on which a statement ends: line by line, as long as there are too few.
use Rattle.std.proofs.Common.{◌≡◌, ℕ, ◌+◌, ◌-◌, ◌^◌, ◌<◌, ◌≤◌, List, [], ◌∷◌, ◌++◌, refl, sym, ap, subst, ◌∙◌, arith}
use Rattle.std.specs.Prelude.{◌↔◌}
use Rattle.acc_lex.specs.declared.words.Word.{Word}
use Rattle.acc_lex.specs.Texts.{IsLexed}
use Rattle.acc_lex.proofs.LineFeeds.{lexed_cut}
use Rattle.acc_lex.proofs.LineFronts.{IsFed, nothing_lexed, fed_line, with_feed, fed_both, fed_parted}
use Rattle.acc_lex.proofs.WholeTexts.{one_reading}
use Rattle.acc_parse_statements.specs.Ends.{ends}
use Rattle.acc_parse_statements.specs.Lines.{feeds, first_lines, HasStatement, IsLineOf, OnLine}
use Rattle.acc_parse_statements.proofs.Fronts.{Comes, longer, longer_whole, longer_feeds, first_are, feeds_front, all_lines}
use Rattle.acc_parse_statements.proofs.Within.{no_ends, ends_both}

-- So far whole lines have come, so many statements end on them, and not the one with the number n; the next line has this number.
pub record IsAt (text rest : List ℕ) (number from n : ℕ) : Type 0 where
  pub front : List ℕ
  pub fed : IsFed front
  pub whole : text ≡ front ++ rest
  pub words : List Word
  pub lexed : IsLexed front words
  pub counted : from ≡ ends words
  pub line : number ≡ 1 + feeds front
  pub few : from ≤ n

pub at_start : (text : List ℕ) (n : ℕ) → IsAt text text 1 0 n
at_start text n = record {
  front = [];
  fed = tt;
  whole = refl;
  words = [];
  lexed = nothing_lexed;
  counted = sym no_ends;
  line = refl;
  few =
      omega arith;
}

-- the words of what is left, and of how many more statements they are the end
pub record IsLeft (text rest : List ℕ) (from n : ℕ) : Type 0 where
  pub words : List Word
  pub lexed : IsLexed rest words
  pub there : n < from + ends words
  pub few : from + ends words < 2 ^ 64

pub left_at : (text rest : List ℕ) (number from n : ℕ) → HasStatement text n → IsAt text rest number from n → IsLeft text rest from n
left_at text rest number from n s a =
    let p = fed_parted a.front rest s.words a.fed (subst (λ (z : List ℕ). IsLexed z s.words) a.whole s.lexed) in
    let same : p.front ≡ a.words = one_reading a.front p.front a.words p.first a.lexed in
    let sum : ends s.words ≡ ends p.front + ends p.back = ap ends p.whole ∙ ends_both p.front p.back in
    record {
      words = p.back;
      lexed = p.second;
      there = omega (arith, sum, ap ends same, a.counted, s.there);
      few = omega (arith, sum, ap ends same, a.counted, s.few);
    }

-- the words of the next line
pub record IsNext (l : List ℕ) (from : ℕ) : Type 0 where
  pub words : List Word
  pub lexed : IsLexed l words
  pub few : from + ends words < 2 ^ 64

pub next_at : (text rest l behind : List ℕ) (number from n : ℕ) → HasStatement text n → IsAt text rest number from n → Comes rest l behind →
    IsNext l from
next_at text rest l behind number from n s a c =
    let left = left_at text rest number from n s a in
    let p = lexed_cut l behind left.words (subst (λ (z : List ℕ). IsLexed z left.words) c.0 left.lexed) in
    let sum : ends left.words ≡ ends p.front + ends p.back = ap ends p.whole ∙ ends_both p.front p.back in
    record { words = p.front; lexed = p.first; few = omega (arith, sum, left.few) }

-- the lines so far and a further one, with the words of both
further_lexed : (text rest l behind : List ℕ) (w : List Word) (number from n : ℕ) → (a : IsAt text rest number from n) →
    Comes rest l behind → IsLexed l w → IsLexed (longer a.front l) (a.words ++ w)
further_lexed text rest l behind w number from n a c k = fed_both a.front (l ++ (10 ∷ [])) a.words w a.fed a.lexed (with_feed l w k)

-- a line on which the statement doesn't end
pub at_next : (text rest l behind : List ℕ) (w : List Word) (number from to n : ℕ) → IsAt text rest number from n → Comes rest l behind →
    IsLexed l w → to ≡ from + ends w → to ≤ n → IsAt text behind (number + 1) to n
at_next text rest l behind w number from to n a c k is le = record {
  front = longer a.front l;
  fed = fed_line a.front l a.fed;
  whole = longer_whole text a.front rest l behind a.whole c.0;
  words = a.words ++ w;
  lexed = further_lexed text rest l behind w number from n a c k;
  counted = omega (arith, is, a.counted, ends_both a.words w);
  line = omega (arith, longer_feeds a.front l c.1, a.line);
  few = le;
}

-- the lines before the next one
before_lexed : (text rest : List ℕ) (number from n : ℕ) → (a : IsAt text rest number from n) →
    IsLexed (first_lines (number - 1) text) a.words
before_lexed text rest number from n a =
    let is : feeds a.front ≡ number - 1 = omega (arith, a.line) in
    subst (λ (z : List ℕ). IsLexed z a.words) (sym (first_are text a.front rest a.fed a.whole) ∙ ap (λ (z : ℕ). first_lines z text) is)
    a.lexed

-- the statements of a line that has its line feed
pub on_line : (text rest l behind : List ℕ) (w : List Word) (number from to n : ℕ) → IsAt text rest number from n → Comes rest l behind →
    IsLexed l w → to ≡ from + ends w → OnLine text number from to
on_line text rest l behind w number from to n a c k is =
    let whole = longer_whole text a.front rest l behind a.whole c.0 in
    let line : feeds (longer a.front l) ≡ number = omega (arith, longer_feeds a.front l c.1, a.line) in
    let first : longer a.front l ≡ first_lines number text =
    sym (first_are text (longer a.front l) behind (fed_line a.front l a.fed) whole) ∙ ap (λ (z : ℕ). first_lines z text) line in
    record {
      low = omega (arith, a.line);
      high = omega (arith, feeds_front text (longer a.front l) behind whole, line);
      before = a.words;
      before_lexed = before_lexed text rest number from n a;
      from_is = a.counted;
      within = a.words ++ w;
      within_lexed = subst (λ (z : List ℕ). IsLexed z (a.words ++ w)) first (further_lexed text rest l behind w number from n a c k);
      to_is = omega (arith, is, a.counted, ends_both a.words w);
    }

-- those of the last line, which has none
pub on_last : (text rest : List ℕ) (w : List Word) (number from to n : ℕ) → IsAt text rest number from n → feeds rest ≡ 0 → IsLexed rest w →
    to ≡ from + ends w → OnLine text number from to
on_last text rest w number from to n a none k is =
    let count = feeds_front text a.front rest a.whole in
    let all : text ≡ first_lines number text = sym (all_lines number text (omega (arith, count, none, a.line))) in
    record {
      low = omega (arith, a.line);
      high = omega (arith, count, none, a.line);
      before = a.words;
      before_lexed = before_lexed text rest number from n a;
      from_is = a.counted;
      within = a.words ++ w;
      within_lexed = subst (λ (z : List ℕ). IsLexed z (a.words ++ w)) (sym a.whole ∙ all) (fed_both a.front rest a.words w a.fed a.lexed k);
      to_is = omega (arith, is, a.counted, ends_both a.words w);
    }

-- ---- the statements of a line, by their numbers

pub is_line_of : (text : List ℕ) (line from to m : ℕ) → OnLine text line from to → from ≤ m → m < to → IsLineOf text m line
is_line_of text line from to m o le lt = record {
  low = o.low;
  high = o.high;
  before = o.before;
  before_lexed = o.before_lexed;
  not_yet = omega (arith, o.from_is, le);
  within = o.within;
  within_lexed = o.within_lexed;
  ended = omega (arith, o.to_is, lt);
}

stands_within : (text : List ℕ) (line from to m : ℕ) → OnLine text line from to → IsLineOf text m line → (from ≤ m) × (m < to)
stands_within text line from to m o s =
    let before = ap ends (one_reading (first_lines (line - 1) text) o.before s.before o.before_lexed s.before_lexed) in
    let within = ap ends (one_reading (first_lines line text) o.within s.within o.within_lexed s.within_lexed) in
    (omega (arith, before, o.from_is, s.not_yet), omega (arith, within, o.to_is, s.ended))

pub others_are : (text : List ℕ) (line from to : ℕ) → OnLine text line from to → (m : ℕ) → IsLineOf text m line ↔ ((from ≤ m) × (m < to))
others_are text line from to o m = (stands_within text line from to m o, λ h. is_line_of text line from to m o h.0 h.1)
