-- A choice between readers by the first word, where each kind of tree begins with a fixed word of its own.
use Rattle.std.proofs.Common.{◌≡◌, ◌<◌, Bool, true, false, cond, List, [], ◌∷◌, ◌++◌, length, refl, ap, subst, ◌∙◌, arith, inl, inr, ◌⊎◌}
use Rattle.acc_lex.specs.declared.words.Sign.{Sign}
use Rattle.acc_lex.specs.declared.words.Word.{Word}
use Rattle.acc_lex.specs.declared.words.Word.TheVariants as word
use Rattle.acc_grammar.proofs.Exact.{Exact, Free, Or, either_exact}
use Rattle.acc_parse_syntax.specs.WordReaders.{WordsRead, same_sign, comes}
use Rattle.acc_parse_syntax.proofs.Following.{CanFollow}
use Rattle.acc_parse_syntax.proofs.WordLaws.{same_refl, comes_head}

-- the tree begins with one of these words
abbrev pub BeginsOne : {T : Type 0} → (T → Sign) → List Sign → T → Type 0
BeginsOne first [] t = ⊥
BeginsOne first (s ∷ ss) t = (s ≡ first t) ⊎ BeginsOne first ss t

-- none of the words is this
abbrev pub none_is : List Sign → Sign → Bool
none_is [] k = true
none_is (s ∷ ss) k = cond (same_sign s k) false (none_is ss k)

head_not : (b c : Bool) → cond b false c ≡ true → (b ≡ false) × (c ≡ true)
head_not true c h = absurd cc
head_not false c h = (refl, h)

pub not_that : {T : Type 0} (first : T → Sign) (ss : List Sign) (k : Sign) (t : T) → none_is ss k ≡ true → BeginsOne first ss t →
    same_sign (first t) k ≡ false
not_that first [] k t n q = absurd q
not_that first (s ∷ ss) k t n (inl p) = subst (λ (z : Sign). same_sign z k ≡ false) p (head_not (same_sign s k) (none_is ss k) n).0
not_that first (s ∷ ss) k t n (inr q) = not_that first ss k t (head_not (same_sign s k) (none_is ss k) n).1 q

-- each tree is spelled by its first word, and others
abbrev pub Begun : {T : Type 0} → (T → List Word) → (T → Sign) → Type 0
Begun {T} spell first = (t : T) → (ws : List Word) × (spell t ≡ word.Sign (first t) ∷ ws)

-- a reader of the trees that begin with one of these words
pub record Kinds {T : Type 0} (spell : T → List Word) (first : T → Sign) (goes : T → List Word → Type 0) (Q : T → Type 0) (ss : List Sign)
    (read : List Word → WordsRead T) : Type 0 where
  pub exact : Exact CanFollow spell Q goes read
  pub firsts : (t : T) → Q t → BeginsOne first ss t

-- a kind by a word that tells which trees begin with it, and then the others
pub or_told : {T : Type 0} {spell : T → List Word} {first : T → Sign} {goes : T → List Word → Type 0} {P Q : T → Type 0} {ss : List Sign}
    {ra rb : List Word → WordsRead T} (k : Sign) → ((t : T) (rest : List Word) → comes k (spell t ++ rest) ≡ same_sign (first t) k) →
    Exact CanFollow spell P goes ra → ((t : T) → P t → k ≡ first t) → none_is ss k ≡ true → Kinds spell first goes Q ss rb →
    Kinds spell first goes (Or P Q) (k ∷ ss) (λ ws. cond (comes k ws) (ra ws) (rb ws))
or_told {first = first} {ss = ss} k tells e is n others = record {
  exact = either_exact e others.exact (comes k) (comes_head k)
      (λ t rest p g. tells t rest ∙ subst (λ (z : Sign). same_sign z k ≡ true) (is t p) (same_refl k))
      (λ t rest q g. tells t rest ∙ not_that first ss k t n (others.firsts t q));
  firsts = λ t o. elim o [ inl p ↦ inl (is t p) | inr q ↦ inr (others.firsts t q) ];
}

module _ {T : Type 0} {spell : T → List Word} {first : T → Sign} (begun : Begun spell first) where
  comes_first : (s : Sign) (t : T) (rest : List Word) → comes s (spell t ++ rest) ≡ same_sign (first t) s
  comes_first s t rest = let b = begun t in ap (λ (z : List Word). comes s (z ++ rest)) b.1

  -- a kind by its first word, and then the others
  pub or_kind : {P Q : T → Type 0} {ss : List Sign} {ra rb : List Word → WordsRead T} (k : Sign) → Exact CanFollow spell P Free ra →
      ((t : T) → P t → k ≡ first t) → none_is ss k ≡ true → Kinds spell first Free Q ss rb →
      Kinds spell first Free (Or P Q) (k ∷ ss) (λ ws. cond (comes k ws) (ra ws) (rb ws))
  or_kind k e is n others = or_told k (λ t rest. comes_first k t rest) e is n others

  -- the last kind
  pub last_kind : {P : T → Type 0} {ra : List Word → WordsRead T} (k : Sign) → Exact CanFollow spell P Free ra →
      ((t : T) → P t → k ≡ first t) → Kinds spell first Free P (k ∷ []) ra
  last_kind k e is = record { exact = e; firsts = λ t p. inl (is t p) }

  pub begun_long : (t : T) → 0 < length (spell t)
  begun_long t = let b = begun t in omega (arith, ap length b.1)
