-- The readers of single words are exact, and ways to put readers together by fixed words.
use Rattle.std.proofs.Common.{◌≡◌, ℕ, ◌<◌, length, length-append, true, false, List, [], ◌∷◌, ◌++◌, Ok, Err, refl, sym, ap, subst, ◌∙◌}
use Rattle.std.proofs.Common.{arith, inl, inr, ◌⊎◌, rules}
use denote.Enum.Bare.{same_true, true_same}
use Rattle.acc_lex.specs.contracts.words.Sign.{the_type}
use Rattle.acc_lex.specs.declared.words.Sign.{Sign}
use Rattle.acc_lex.specs.declared.words.Sign.TheVariants as sign
use Rattle.acc_lex.specs.declared.words.Word.{Word}
use Rattle.acc_lex.specs.declared.words.Word.TheVariants as word
use Rattle.acc_lex.specs.Keywords.{keyword_of}
use Rattle.acc_grammar.specs.Readers.{AllIn, joined, ◌>>=◌, many}
use Rattle.acc_grammar.proofs.Exact.{ok_is, bind_ok, bind_assoc, chosen, Stops, Exact, All, Free, seq_exact, made_exact, trees_exact}
use Rattle.acc_grammar.proofs.Exact.{same_exact, ByHead}
use Rattle.acc_grammar.proofs.Many.{Shrinks, item_shrinks, Runs, many_exact}
use Rattle.acc_parse_syntax.specs.Spelling.{just, name, number, further}
use Rattle.acc_parse_syntax.specs.WordReaders.{WordsRead, same_sign, comes, is_name, is_number, every, is_word, sign_at, name_at, number_at}
use Rattle.acc_parse_syntax.specs.WordReaders.{end_at, further_at}
use Rattle.acc_grammar.proofs.RunReaders.{flag, nothing, absent_exact}
use Rattle.acc_parse_syntax.proofs.Following.{CanFollow, is_own}
use Rattle.acc_parse_syntax.proofs.Combinators.{all_in}

-- ---- fixed words

pub same_refl : (s : Sign) → same_sign s s ≡ true
same_refl s = true_same the_type s s refl

pub same_is : (s t : Sign) → same_sign s t ≡ true → s ≡ t
same_is s t e = same_true the_type (search rules) s t e

-- ---- what the next word is, is judged by that word

pub comes_head : (s : Sign) → ByHead (comes s)
comes_head s (word.Sign t) more after = refl
comes_head s (word.Name x) more after = refl
comes_head s (word.Number n) more after = refl

pub number_head : ByHead is_number
number_head (word.Sign t) more after = refl
number_head (word.Name x) more after = refl
number_head (word.Number n) more after = refl

pub name_head : ByHead is_name
name_head (word.Sign t) more after = refl
name_head (word.Name x) more after = refl
name_head (word.Number n) more after = refl

-- ---- readers of one word

-- what a reader of one word does at a word
abbrev pub AtWord : {T : Type 0} → (T → List Word) → (List Word → WordsRead T) → Word → Type 0
AtWord {T} spell read w = ((t : T) × (spell t ≡ w ∷ []) × ((rest : List Word) → read (w ∷ rest) ≡ Ok (t, rest))) ⊎
    ((rest : List Word) → read (w ∷ rest) ≡ Err (w ∷ rest))

pub one_word : {T : Type 0} (spell : T → List Word) (read : List Word → WordsRead T) (some : T) → AllIn CanFollow (spell some) →
    ((t : T) (rest : List Word) → read (spell t ++ rest) ≡ Ok (t, rest)) → (read [] ≡ Err []) → ((w : Word) → AtWord spell read w) →
    Exact CanFollow spell All Free read
one_word {T} spell read some plain again nothing_read each = record {
  takes = takes;
  again = λ t rest p g. again t rest;
  stops = stops;
  heads = λ t w more after h. tt;
  some = some;
  some_fits = tt;
  some_plain = plain;
}
  where
    takes_at : (w : Word) (ws : List Word) (t : T) (rest : List Word) → read (w ∷ ws) ≡ Ok (t, rest) → AtWord spell read w →
        (w ∷ ws ≡ spell t ++ rest) × All t × Free t rest
    takes_at w ws t rest h (inl k) =
        let e : T × List Word = (k.0, ws) in
        let is : e ≡ (t, rest) = ok_is e (t, rest) (sym (k.2 ws) ∙ h) in
        subst (λ (z : T × List Word). (w ∷ ws ≡ spell z.0 ++ z.1) × All z.0 × Free z.0 z.1) is (
          ap (λ (z : List Word). z ++ ws) (sym k.1),
          tt,
          tt,
        )
    takes_at w ws t rest h (inr k) = absurd (let wrong = sym (k ws) ∙ h in cc)

    takes : (ws : List Word) (t : T) (rest : List Word) → read ws ≡ Ok (t, rest) → (ws ≡ spell t ++ rest) × All t × Free t rest
    takes [] t rest h = absurd (let wrong = sym nothing_read ∙ h in cc)
    takes (w ∷ ws) t rest h = takes_at w ws t rest h (each w)

    stops_at : (w : Word) (ws rest : List Word) → read (w ∷ ws) ≡ Err rest → AtWord spell read w →
        Stops CanFollow spell All read (w ∷ ws) rest
    stops_at w ws rest h (inl k) = absurd (let wrong = sym (k.2 ws) ∙ h in cc)
    stops_at w ws rest h (inr k) =
        let is : w ∷ ws ≡ rest = let e = sym (k ws) ∙ h in cc in record {
          front = [];
          split = is;
          more = spell some;
          tree = some;
          fits = tt;
          viable = refl;
          plain = plain;
          stuck = λ v others after e. let head : w ≡ v = cc in subst (λ (z : Word). read (z ∷ after) ≡ Err (z ∷ after)) head (k after);
        }

    stops : (ws rest : List Word) → read ws ≡ Err rest → Stops CanFollow spell All read ws rest
    stops [] rest h =
        let is : [] ≡ rest = let e = sym nothing_read ∙ h in cc in record {
          front = [];
          split = is;
          more = spell some;
          tree = some;
          fits = tt;
          viable = refl;
          plain = plain;
          stuck = λ v others after e. absurd cc;
        }
    stops (w ∷ ws) rest h = stops_at w ws rest h (each w)

-- the spelling of a fixed word, with nothing chosen
abbrev pub fixed : Sign → Unit {0} → List Word
fixed s o = just s

sign_each : (s : Sign) (w : Word) → AtWord (fixed s) (sign_at s) w
unfolding sign_at
sign_each s (word.Name x) = inr (λ rest. refl)
sign_each s (word.Number n) = inr (λ rest. refl)
sign_each s (word.Sign t) =
    elim (flag (same_sign t s)) [
      | inl h ↦ inl (tt, ap (λ (z : Sign). word.Sign z ∷ []) (sym (same_is t s h)), λ rest. rw h refl)
      | inr h ↦ inr (λ rest. rw h refl)
    ]

-- a fixed word, which isn't `self`
pub sign_exact : (s : Sign) → is_own s ≡ false → Exact CanFollow (fixed s) All Free (sign_at s)
unfolding sign_at
sign_exact s n = one_word (fixed s) (sign_at s) tt (n, tt) (λ t rest. rw (same_refl s) refl) refl (sign_each s)

name_each : (w : Word) → AtWord name name_at w
unfolding name_at
name_each (word.Name x) = inl (x, refl, λ rest. refl)
name_each (word.Number n) = inr (λ rest. refl)
name_each (word.Sign t) = inr (λ rest. refl)

-- the letter a is a name
pub name_exact : Exact CanFollow name All Free name_at
unfolding name_at keyword_of
name_exact = one_word name name_at (97 ∷ []) (((refl, tt), refl), tt) (λ t rest. refl) refl name_each

number_each : (w : Word) → AtWord number number_at w
unfolding number_at
number_each (word.Name x) = inr (λ rest. refl)
number_each (word.Number n) = inl (n, refl, λ rest. refl)
number_each (word.Sign t) = inr (λ rest. refl)

pub number_exact : Exact CanFollow number All Free number_at
unfolding number_at
number_exact = one_word number number_at 0 ((48 ∷ [], inl refl, refl), tt) (λ t rest. refl) refl number_each

-- the end of the words
pub end_exact : Exact CanFollow nothing All (λ o rest. is_word rest ≡ false) end_at
unfolding end_at
end_exact = absent_exact CanFollow every

-- ---- a fixed word before or behind a part

-- a fixed word, and the part
abbrev pub after : {T : Type 0} → Sign → (List Word → WordsRead T) → List Word → WordsRead T
after s read ws = sign_at s ws >>= λ o. read o.1 >>= λ x. Ok (x.0, x.1)

-- the part, and a fixed word
abbrev pub closed : {T : Type 0} → Sign → (List Word → WordsRead T) → List Word → WordsRead T
closed s read ws = read ws >>= λ x. sign_at s x.1 >>= λ o. Ok (x.0, o.1)

module _ {T : Type 0} {spell : T → List Word} {P : T → Type 0} {goes : T → List Word → Type 0} {read : List Word → WordsRead T} (s : Sign)
    (n : is_own s ≡ false) (e : Exact CanFollow spell P goes read) where
  pub after_exact : Exact CanFollow (λ (t : T). just s ++ spell t) P goes (after s read)
  after_exact =
      let whole = made_exact (seq_exact (sign_exact s n) e) (λ p. p.1) (λ (t : T). just s ++ spell t) goes (λ a p. refl) (λ a rest g. g.1)
      (λ a rest p g. (tt, g)) e.heads in
      trees_exact (same_exact (λ ws. simp bind_assoc) whole) (λ t p. subst P p.2 p.1.1) (λ t q. ((tt, t), (tt, q), refl))

  pub closed_exact : ((t : T) (rest : List Word) → goes t (word.Sign s ∷ rest)) →
      Exact CanFollow (λ (t : T). spell t ++ just s) P Free (closed s read)
  closed_exact ends =
      let whole = made_exact (seq_exact e (sign_exact s n)) (λ p. p.0) (λ (t : T). spell t ++ just s) Free (λ a p. refl) (λ a rest g. tt)
      (λ a rest p g. (ends a.0 rest, tt)) (λ b w more behind g. tt) in
      trees_exact (same_exact (λ ws. simp bind_assoc) whole) (λ t p. subst P p.2 p.1.0) (λ t q. ((t, tt), (q, tt), refl))

sign_shorter : (s : Sign) (ws : List Word) (o : Unit {0}) (rest : List Word) → sign_at s ws ≡ Ok (o, rest) → length rest < length ws
unfolding sign_at
sign_shorter s [] o rest h = absurd cc
sign_shorter s (w ∷ ws) o rest h =
    elim (chosen (comes s (w ∷ ws)) (Ok (tt, ws)) (Err (w ∷ ws)) (Ok (o, rest)) h) [
      | inl k ↦ (let is : ws ≡ rest = ap (λ (z : Unit {0} × List Word). z.1) (ok_is (tt, ws) (o, rest) k.1) in omega (arith, ap length is))
      | inr k ↦ absurd (let wrong = k.1 in cc)
    ]

-- a part behind a fixed word uses up words
pub after_shrinks : {T : Type 0} {spell : T → List Word} {P : T → Type 0} {goes : T → List Word → Type 0} {read : List Word → WordsRead T}
    (s : Sign) (e : Exact CanFollow spell P goes read) → Shrinks (after s read)
after_shrinks {T} {spell = spell} {read = read} s e ws t rest h =
    let x = bind_ok (sign_at s ws) (λ o. read o.1 >>= λ y. Ok (y.0, y.1)) (t, rest) h in
    let y = bind_ok (read x.0.1) (λ y. Ok (y.0, y.1)) (t, rest) x.2 in
    let one : T × List Word = (y.0.0, y.0.1) in
    let is : one ≡ (t, rest) = ok_is one (t, rest) y.2 in
    let k = e.takes x.0.1 y.0.0 y.0.1 y.1 in
    let fewer = sign_shorter s ws x.0.0 x.0.1 x.1 in
    omega (arith, fewer, ap length k.0, length-append (spell y.0.0) y.0.1, ap (λ (z : T × List Word). length z.1) is)

-- ---- lists with commas

module _ {T : Type 0} {spell : T → List Word} {goes : T → List Word → Type 0} {read : List Word → WordsRead T}
    (e : Exact CanFollow spell All goes read) where
  pub further_exact : Exact CanFollow (further spell) All goes (further_at read)
  unfolding further_at
  further_exact = after_exact sign.Comma refl e

  pub further_shrinks : Shrinks (further_at read)
  further_shrinks = item_shrinks further_exact (comes sign.Comma) (comes_head sign.Comma) refl (λ t rest p g. refl) (λ t p. omega arith)

  pub furthers_exact : Exact CanFollow (joined (further spell)) (AllIn All) (Runs (further spell) (comes sign.Comma) goes)
      (many (comes sign.Comma) (further_at read))
  furthers_exact = many_exact further_exact (comes sign.Comma) (comes_head sign.Comma) refl (λ t rest p g. refl) (λ t p. omega arith)

-- what a reader reads is answered as it is
read_as_is : {T : Type 0} (outcome : WordsRead T) → (outcome >>= (λ x. Ok (x.0, x.1))) ≡ outcome
read_as_is (Ok x) = refl
read_as_is (Err rest) = refl

-- behind a comma, a further part is read as the first
pub behind_comma : {T : Type 0} (item : List Word → WordsRead T) (ws after : List Word) → sign_at sign.Comma ws ≡ Ok (tt, after) →
    further_at item ws ≡ item after
unfolding further_at
behind_comma item ws after e = rw e (read_as_is (item after))

-- where a part may end at a comma, and what follows may end it too
pub ends_before : {T : Type 0} (stop : List Word → Type 0) (spell : T → List Word) → ((ws : List Word) → stop (word.Sign sign.Comma ∷ ws)) →
    (ts : List T) (rest : List Word) → stop rest → stop (joined (further spell) ts ++ rest)
ends_before stop spell comma [] rest h = h
ends_before stop spell comma (t ∷ ts) rest h = comma _

-- each of a list may be followed by the next one's comma, or by what ends the last
pub furthers_end : {T : Type 0} (stop : List Word → Type 0) (spell : T → List Word) (goes : T → List Word → Type 0) →
    ((ws : List Word) → stop (word.Sign sign.Comma ∷ ws)) → ((t : T) (rest : List Word) → stop rest → goes t rest) →
    (ts : List T) (rest : List Word) → comes sign.Comma rest ≡ false → stop rest → Runs (further spell) (comes sign.Comma) goes ts rest
furthers_end stop spell goes comma ends [] rest c h = c
furthers_end stop spell goes comma ends (t ∷ ts) rest c h = (
  ends t (joined (further spell) ts ++ rest) (ends_before stop spell comma ts rest h),
  furthers_end stop spell goes comma ends ts rest c h,
)

-- ---- names

pub name_shrinks : Shrinks name_at
name_shrinks = item_shrinks name_exact is_name name_head refl (λ t rest p g. refl) (λ t p. omega arith)

pub names_exact : Exact CanFollow (joined name) (AllIn All) (Runs name is_name Free) (many is_name name_at)
names_exact = many_exact name_exact is_name name_head refl (λ t rest p g. refl) (λ t p. omega arith)

-- names as a part that is made from all lists
pub names_run : Exact CanFollow (joined name) All (Runs name is_name Free) (many is_name name_at)
names_run = trees_exact names_exact (λ t p. tt) (λ t q. all_in t)

pub names_end : (ns : List (List ℕ)) (rest : List Word) → is_name rest ≡ false → Runs name is_name Free ns rest
names_end [] rest h = h
names_end (n ∷ ns) rest h = (tt, names_end ns rest h)

-- ---- what may come behind lists of statements

-- where neither the statements nor what stands behind them begins with the word
pub list_skips : {T : Type 0} (s k : Sign) (spell : T → List Word) → ((t : T) → (ws : List Word) × (spell t ≡ word.Sign s ∷ ws)) →
    same_sign s k ≡ false → (ts : List T) (behind rest : List Word) → comes k (behind ++ rest) ≡ false →
    comes k ((joined spell ts ++ behind) ++ rest) ≡ false
list_skips s k spell begun apart [] behind rest h = h
list_skips s k spell begun apart (t ∷ ts) behind rest h =
    ap (λ (z : List Word). comes k (((z ++ joined spell ts) ++ behind) ++ rest)) (begun t).1 ∙ apart
