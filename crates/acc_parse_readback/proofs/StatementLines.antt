-- Each statement of a printed text stands on a line of its own.
use Rattle.std.proofs.Common.{◌≡◌, ◌≢◌, ℕ, zero, suc, ◌-◌, ◌<◌, ◌≤◌, Bool, true, false, List, [], ◌∷◌, ◌++◌, length, take, drop, refl, sym}
use Rattle.std.proofs.Common.{ap, subst, ◌∙◌, inl, inr, arith, append_assoc}
use Rattle.std.specs.Prelude.{map, not, ◌==◌}
use Rattle.std.specs.List.{list_all}
use Rattle.std.specs.Str.{bytes_eq}
use Rattle.std.proofs.lemmas.List.{append-nil}
use Rattle.acc_grammar.specs.Readers.{AllIn, joined}
use Rattle.acc_grammar.specs.Runs.{IsRow}
use Rattle.acc_grammar.proofs.RunReaders.{flag}
use Rattle.acc_lex.specs.declared.words.Word.{Word}
use Rattle.acc_lex.specs.declared.words.Word.TheVariants as word
use Rattle.acc_lex.specs.declared.words.Sign.{Sign}
use Rattle.acc_lex.specs.declared.words.Sign.TheVariants as sign
use Rattle.acc_lex.specs.Keywords.{keywords, sign_in, keyword_of}
use Rattle.acc_lex.specs.Spellings.{Token, Letters, Digits, Mark, Item, Statement, mark_bytes, token_bytes, blanks, item_bytes}
use Rattle.acc_lex.specs.Spellings.{statement_bytes, IsToken, IsItem, ItemParted, IsStatement}
use Rattle.acc_lex.specs.Texts.{IsLexed}
use Rattle.acc_lex.specs.LineWords.{name_or_sign, token_word, item_word, statement_words}
use Rattle.acc_lex.proofs.ByteFacts.{and_both}
use Rattle.acc_lex.proofs.LineFeeds.{Unfed, unfed_token, unfed_blanks}
use Rattle.acc_lex.proofs.LineFronts.{IsFed, fed_line}
use Rattle.acc_parse_statements.specs.Ends.{is_end, ends}
use Rattle.acc_parse_statements.specs.Lines.{feeds, first_lines, IsLineOf}
use Rattle.acc_parse_statements.proofs.Within.{ends_both, past_word, end_last}
use Rattle.acc_parse_statements.proofs.FirstLines.{feeds_both, feeds_past, lines_of}
use Rattle.acc_parse_readback.proofs.Lines.{Lines, HasWords, ended_bytes, lexed}

-- ---- the words of a statement have one end

abbrev no_end : List ℕ × Sign → Bool
no_end k = not (is_end (word.Sign k.1))

found_no_end : (ks : List (List ℕ × Sign)) (w : List ℕ) → list_all no_end ks ≡ true → is_end (name_or_sign w (sign_in ks w)) ≡ false
found_no_end [] w h = refl
found_no_end (k ∷ ks) w h =
    let all = and_both (no_end k) (list_all no_end ks) h in
    elim (flag (bytes_eq w k.0)) [ inl e ↦ rw e (is_false (is_end (word.Sign k.1)) all.0) | inr e ↦ rw e (found_no_end ks w all.1) ]
  where
    is_false : (b : Bool) → not b ≡ true → b ≡ false
    is_false true e = absurd cc
    is_false false e = refl

mark_no_end : (s : Sign) → mark_bytes s ≢ [] → is_end (word.Sign s) ≡ false
mark_no_end sign.End h = absurd (h refl)
mark_no_end _ h = refl

token_no_end : (t : Token) → IsToken t → is_end (token_word t) ≡ false
unfolding keyword_of
token_no_end (Letters w) h = found_no_end keywords w refl
token_no_end (Digits w) h = refl
token_no_end (Mark s) h = mark_no_end s h

items_end : (is : List Item) → IsRow item_bytes IsItem ItemParted is → ends (map item_word is ++ word.Sign sign.End ∷ []) ≡ 1
items_end [] h = end_last
items_end (i ∷ is) h = past_word 1 (item_word i) (map item_word is ++ word.Sign sign.End ∷ []) (token_no_end i.token h.0) (items_end is h.2)

statement_end : (s : Statement) → IsStatement s → HasWords s → ends (statement_words s) ≡ 1
statement_end s h g = by_items s.items h g
  where
    by_items : (is : List Item) → IsRow item_bytes IsItem ItemParted is → HasWords (record { spaces = 0; items = is }) →
        ends (statement_words (record { spaces = 0; items = is })) ≡ 1
    by_items [] h g = absurd cc
    by_items (i ∷ is) h g = items_end (i ∷ is) h

all_ends : (ss : List Statement) → AllIn IsStatement ss → AllIn HasWords ss → ends (joined statement_words ss) ≡ length ss
unfolding ends
all_ends [] h g = refl
all_ends (s ∷ ss) h g =
    let both = ends_both (statement_words s) (joined statement_words ss) in
    let one = statement_end s h.0 g.0 in
    let others = all_ends ss h.1 g.1 in omega (arith, both, one, others)

-- ---- and their bytes one line feed

no_feeds : (bs : List ℕ) → Unfed bs → feeds bs ≡ 0
no_feeds [] h = refl
no_feeds (b ∷ bs) h = feeds_past b bs (is_false (b == 10) h.0) ∙ no_feeds bs h.1
  where
    is_false : (b : Bool) → not b ≡ true → b ≡ false
    is_false true e = absurd cc
    is_false false e = refl

items_feeds : (is : List Item) → IsRow item_bytes IsItem ItemParted is → feeds (joined item_bytes is) ≡ 0
items_feeds [] h = refl
items_feeds (i ∷ is) h =
    let token = no_feeds (token_bytes i.token) (unfed_token i.token h.0) in
    let spaces = no_feeds (blanks i.spaces) (unfed_blanks i.spaces) in
    let both = feeds_both (token_bytes i.token) (blanks i.spaces) in
    let all = feeds_both (item_bytes i) (joined item_bytes is) in
    let others = items_feeds is h.2 in omega (arith, token, spaces, both, all, others)

line_feeds : (s : Statement) → IsStatement s → feeds (ended_bytes s) ≡ 1
line_feeds s h =
    let spaces = no_feeds (blanks s.spaces) (unfed_blanks s.spaces) in
    let items = items_feeds s.items h in
    let both = feeds_both (blanks s.spaces) (joined item_bytes s.items) in
    let all = feeds_both (statement_bytes s) (10 ∷ []) in
    let last : feeds (10 ∷ []) ≡ 1 = refl in omega (arith, spaces, items, both, all, last)

all_feeds : (ss : List Statement) → AllIn IsStatement ss → feeds (joined ended_bytes ss) ≡ length ss
all_feeds [] h = refl
all_feeds (s ∷ ss) h =
    let both = feeds_both (ended_bytes s) (joined ended_bytes ss) in
    let one = line_feeds s h.0 in
    let others = all_feeds ss h.1 in omega (arith, both, one, others)

-- lines have as many line feeds as their words have ends
pub lines_feeds : (text : List ℕ) (words : List Word) → Lines text words → feeds text ≡ ends words
lines_feeds text words l = ap feeds l.spelled ∙ all_feeds l.statements l.fit ∙ sym (ap ends l.mean ∙ all_ends l.statements l.fit l.some)

fed_behind : (f : List ℕ) (ss : List Statement) → IsFed f → IsFed (f ++ joined ended_bytes ss)
fed_behind f [] h = subst IsFed (sym (append-nil f)) h
fed_behind f (s ∷ ss) h = subst IsFed (append_assoc f (ended_bytes s) (joined ended_bytes ss))
    (fed_behind (f ++ ended_bytes s) ss (fed_line f (statement_bytes s) h))

-- ---- the first statements are the first lines

joined_parts : {S T : Type 0} (f : T → List S) (n : ℕ) (xs : List T) → joined f xs ≡ joined f (take n xs) ++ joined f (drop n xs)
joined_parts f zero xs = refl
joined_parts f (suc n) [] = refl
joined_parts {S} f (suc n) (x ∷ xs) = ap (λ (bs : List S). f x ++ bs) (joined_parts f n xs) ∙ sym
    (append_assoc (f x) (joined f (take n xs)) (joined f (drop n xs)))

all_taken : {T : Type 0} (P : T → Type 0) (n : ℕ) (xs : List T) → AllIn P xs → AllIn P (take n xs)
all_taken P zero xs h = tt
all_taken P (suc n) [] h = tt
all_taken P (suc n) (x ∷ xs) h = (h.0, all_taken P n xs h.1)

taken : {T : Type 0} (n : ℕ) (xs : List T) → n ≤ length xs → length (take n xs) ≡ n
taken zero xs h = refl
taken (suc n) [] h = absurd (omega (arith, h))
taken (suc n) (x ∷ xs) h = ap suc (taken n xs (omega (arith, h)))

first_of : (ss : List Statement) → AllIn IsStatement ss → AllIn HasWords ss → (n : ℕ) →
    Lines (joined ended_bytes (take n ss)) (joined statement_words (take n ss))
first_of ss h g n = record {
  statements = take n ss;
  fit = all_taken IsStatement n ss h;
  some = all_taken HasWords n ss g;
  spelled = refl;
  mean = refl;
}

-- the first lines have so many ends
record IsFront (text : List ℕ) (n : ℕ) : Type 0 where
  words : List Word
  is_lexed : IsLexed (first_lines n text) words
  ends_are : ends words ≡ n

front_is : (text : List ℕ) (words : List Word) (l : Lines text words) (n : ℕ) → n ≤ length l.statements → IsFront text n
front_is text words l n h =
    let f = joined ended_bytes (take n l.statements) in
    let fit = all_taken IsStatement n l.statements l.fit in
    let some = all_taken HasWords n l.statements l.some in
    let count : feeds f ≡ n = all_feeds (take n l.statements) fit ∙ taken n l.statements h in
    let is : first_lines n text ≡ f = ap (first_lines n) (l.spelled ∙ joined_parts ended_bytes n l.statements) ∙ lines_of n f
    (joined ended_bytes (drop n l.statements)) (fed_behind [] (take n l.statements) tt) (sym count) in
    record {
      words = joined statement_words (take n l.statements);
      is_lexed = subst (λ (bs : List ℕ). IsLexed bs (joined statement_words (take n l.statements))) (sym is)
          (lexed f (joined statement_words (take n l.statements)) (first_of l.statements l.fit l.some n));
      ends_are = all_ends (take n l.statements) fit some ∙ taken n l.statements h;
    }

-- the statement with the number n, from 0, stands on the line with the number n + 1
pub own_line : (text : List ℕ) (words : List Word) → Lines text words → (n : ℕ) → n < ends words → IsLineOf text n (suc n)
own_line text words l n h =
    let count : ends words ≡ length l.statements = ap ends l.mean ∙ all_ends l.statements l.fit l.some in
    let feeds_are : feeds text ≡ length l.statements = ap feeds l.spelled ∙ all_feeds l.statements l.fit in
    let before = front_is text words l n (omega (arith, h, count)) in
    let within = front_is text words l (suc n) (omega (arith, h, count)) in
    let not_yet = before.ends_are in
    let ended = within.ends_are in
    let last : n ≡ suc n - 1 = omega arith in
    record {
      low = omega arith;
      high = omega (arith, h, count, feeds_are);
      before = before.words;
      before_lexed = subst (λ (k : ℕ). IsLexed (first_lines k text) before.words) last before.is_lexed;
      not_yet = omega (arith, not_yet);
      within = within.words;
      within_lexed = within.is_lexed;
      ended = omega (arith, ended);
    }
