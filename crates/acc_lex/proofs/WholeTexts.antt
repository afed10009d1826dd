-- What reading a whole text says of it.
use Rattle.std.proofs.Common.{◌≡◌, ℕ, ◌+◌, ◌-◌, ◌≤◌, List, [], ◌∷◌, ◌++◌, length, take, Option, Some, None, Ok, Err, refl, sym, ap, subst}
use Rattle.std.proofs.Common.{◌∙◌, arith, append_assoc, length-append}
use Rattle.std.specs.Prelude.{map}
use Rattle.std.proofs.lemmas.List.{append-nil, take_at}
use Rattle.acc_grammar.specs.Readers.{AllIn, joined}
use Rattle.acc_grammar.specs.Runs.{IsRow}
use Rattle.acc_grammar.proofs.Exact.{AllIn-append, ok_is}
use Rattle.acc_lex.specs.declared.words.Word.{Word}
use Rattle.acc_lex.specs.Keywords.{keyword_of}
use Rattle.acc_lex.specs.Words.{CanSpell}
use Rattle.acc_lex.specs.Spellings.{Token, Letters, Digits, Mark, Item, Line, Comment, Statements, item_bytes, IsToken, IsItem, ItemParted}
use Rattle.acc_lex.specs.Spellings.{IsStatement, IsLine, AreLines, lines_bytes}
use Rattle.acc_lex.specs.LineWords.{name_or_sign, token_word, item_word, ended, statement_words, line_words, lines_words}
use Rattle.acc_lex.specs.Readings.{lines_at}
use Rattle.acc_lex.specs.Texts.{IsLexed, Begins, StopsAt}
use Rattle.acc_lex.proofs.Lines.{nothing_left, lines_exact}

-- ---- what is read

-- the lines that are read fit, and are the text
pub read_lines : (text : List ℕ) (lines : Line × List Line) (rest : List ℕ) → lines_at text ≡ Ok (lines, rest) → AreLines lines ×
    (text ≡ lines_bytes lines)
read_lines text lines rest h =
    let k = lines_exact.takes text lines rest h in
    (k.1, k.0 ∙ ap (λ (z : List ℕ). lines_bytes lines ++ z) (nothing_left rest k.2) ∙ append-nil (lines_bytes lines))

pub is_read : (text : List ℕ) (words : List Word) (l : IsLexed text words) → lines_at text ≡ Ok (l.lines, [])
is_read text words l = ap lines_at (l.spelled ∙ sym (append-nil (lines_bytes l.lines))) ∙ lines_exact.again l.lines [] l.fit refl

-- a text has the words of the lines that are read
pub same_words : (text : List ℕ) (words : List Word) (lines : Line × List Line) (rest : List ℕ) → lines_at text ≡ Ok (lines, rest) →
    IsLexed text words → lines_words lines ≡ words
same_words text words lines rest h l =
    let one : (Line × List Line) × List ℕ = (lines, rest) in
    let is : one ≡ (l.lines, []) = ok_is one (l.lines, []) (sym h ∙ is_read text words l) in
    ap (λ (z : (Line × List Line) × List ℕ). lines_words z.0) is ∙ sym l.mean

-- a text has its words alone
pub one_reading : (text : List ℕ) (v w : List Word) → IsLexed text v → IsLexed text w → v ≡ w
one_reading text v w k l = k.mean ∙ same_words text w k.lines [] (is_read text v k) l

pub not_text : (text rest : List ℕ) → lines_at text ≡ Err rest → (words : List Word) → ¬ IsLexed text words
not_text text rest h words l = let wrong = sym h ∙ is_read text words l in cc

-- ---- where reading stops

pub fewer : (text rest : List ℕ) → lines_at text ≡ Err rest → length rest ≤ length text
fewer text rest h = let s = lines_exact.stops text rest h in omega (arith, ap length s.split, length-append s.front rest)

no_further : (front : List ℕ) (b : ℕ) → ((after : List ℕ) → lines_at (front ++ (b ∷ after)) ≡ Err (b ∷ after)) →
    ¬ Begins (front ++ (b ∷ []))
no_further front b stuck h =
    not_text (front ++ (b ∷ h.0)) (b ∷ h.0) (stuck h.0) h.1 (subst (λ (z : List ℕ). IsLexed z h.1) (append_assoc front (b ∷ []) h.0) h.2)

stops_here : (front rest text : List ℕ) → text ≡ front ++ rest → Begins front →
    ((b : ℕ) (others after : List ℕ) → rest ≡ b ∷ others → lines_at (front ++ (b ∷ after)) ≡ Err (b ∷ after)) →
    ((words : List Word) → ¬ IsLexed text words) → StopsAt text (length front)
stops_here front [] text split begins stuck never = record {
  in_range = omega (arith, ap length split, length-append front []);
  begins = subst Begins (sym (take_at front [] (length front) refl) ∙ ap (take (length front)) (sym split)) begins;
  stops = λ lt. absurd (omega (arith, ap length split, length-append front []));
  ends = never;
}
stops_here front (b ∷ others) text split begins stuck never = record {
  in_range = omega (arith, ap length split, length-append front (b ∷ others));
  begins = subst Begins (sym (take_at front (b ∷ others) (length front) refl) ∙ ap (take (length front)) (sym split)) begins;
  stops = λ lt more.
      let parted : text ≡ (front ++ (b ∷ [])) ++ others = split ∙ sym (append_assoc front (b ∷ []) others) in
      let long : length (front ++ (b ∷ [])) ≡ length front + 1 = omega (arith, length-append front (b ∷ [])) in
      let is : take (length front + 1) text ≡ front ++ (b ∷ []) =
      ap (take (length front + 1)) parted ∙ take_at (front ++ (b ∷ [])) others (length front + 1) long in
      no_further front b (λ after. stuck b others after refl) (subst Begins is more);
  ends = never;
}

pub stops_at : (text rest : List ℕ) → lines_at text ≡ Err rest → StopsAt text (length text - length rest)
stops_at text rest h =
    let s = lines_exact.stops text rest h in
    let k : length s.front ≡ length text - length rest = omega (arith, ap length s.split, length-append s.front rest) in
    let whole : IsLexed (s.front ++ s.more) (lines_words s.tree) =
    record { lines = s.tree; fit = s.fits; spelled = s.viable; mean = refl } in
    subst (StopsAt text) k (stops_here s.front rest text s.split (s.more, lines_words s.tree, whole) s.stuck (not_text text rest h))

-- ---- the words can be spelled

word_can : (t : Token) → IsToken t → CanSpell (token_word t)
word_can (Letters w) h = known (keyword_of w) refl
  where
    known : (o : Option _) → keyword_of w ≡ o → CanSpell (name_or_sign w o)
    known (Some s) is = tt
    known None is = (h, is)
word_can (Digits w) h = (w, h, refl)
word_can (Mark s) h = tt

items_can : (is : List Item) → IsRow item_bytes IsItem ItemParted is → AllIn CanSpell (map item_word is)
items_can [] h = tt
items_can (i ∷ is) h = (word_can i.token h.0, items_can is h.2)

ended_can : (ws : List Word) → AllIn CanSpell ws → AllIn CanSpell (ended ws)
ended_can [] h = tt
ended_can (w ∷ ws) h = (h.0, AllIn-append CanSpell ws _ h.1 (tt, tt))

joined_can : {T : Type 0} (words : T → List Word) (P : T → Type 0) → ((t : T) → P t → AllIn CanSpell (words t)) → (ts : List T) →
    AllIn P ts → AllIn CanSpell (joined words ts)
joined_can words P each [] h = tt
joined_can words P each (t ∷ ts) h = AllIn-append CanSpell (words t) (joined words ts) (each t h.0) (joined_can words P each ts h.1)

line_can : (l : Line) → IsLine l → AllIn CanSpell (line_words l)
line_can (Comment n bytes) h = tt
line_can (Statements s others) h = joined_can statement_words IsStatement (λ t p. ended_can (map item_word t.items) (items_can t.items p))
    (s ∷ others) h

pub can_spell : (text : List ℕ) (words : List Word) → IsLexed text words → AllIn CanSpell words
can_spell text words l = subst (AllIn CanSpell) (sym l.mean) (joined_can line_words IsLine line_can (l.lines.0 ∷ l.lines.1) l.fit)
