-- Where `self` stands: with more words, with fewer, and with one more.
use Rattle.std.proofs.Common.{◌≡◌, ℕ, zero, suc, ◌+◌, ◌<◌, Bool, true, false, List, [], ◌∷◌, ◌++◌, length, take, get_or, refl, sym, ap}
use Rattle.std.proofs.Common.{subst, ◌∙◌, arith, append_assoc, inl, inr, ◌⊎◌}
use Rattle.std.specs.Prelude.{Contains, ◌||◌}
use Rattle.std.proofs.lemmas.List.{append-nil, take_more}
use Rattle.std.proofs.lemmas.List.Elements.{Contains-append_right, Contains-append_cases}
use Rattle.acc_lex.specs.declared.words.Sign.{Sign}
use Rattle.acc_lex.specs.declared.words.Sign.TheVariants as sign
use Rattle.acc_lex.specs.declared.words.Word.{Word}
use Rattle.acc_lex.specs.declared.words.Word.TheVariants as word
use Rattle.acc_grammar.specs.Readers.{AllIn}
use Rattle.acc_parse_designs.specs.OwnWords.{EndsInTypes, OwnInTypes}
use Rattle.acc_parse_syntax.specs.WordReaders.{comes}
use Rattle.acc_parse_syntax.proofs.Following.{CanFollow}
use Rattle.acc_parse_syntax.proofs.WordLaws.{same_refl, same_is}

abbrev oneself : Word
oneself = word.Sign sign.Oneself

-- ---- more and fewer words

pub own_front : (front more : List Word) → OwnInTypes (front ++ more) → OwnInTypes front
own_front front more h before after e = h before (after ++ more)
    (ap (λ (z : List Word). z ++ more) e ∙ append_assoc before (oneself ∷ after) more)

-- a split of one more word is one behind all, or one of the others
abbrev IsSplitOf : List Word → Word → List Word → List Word → Type 0
IsSplitOf front w before after = ((front ≡ before) × (w ≡ oneself)) ⊎ ((rest : List Word) × (front ≡ before ++ (oneself ∷ rest)))

split_push : (front : List Word) (w : Word) (before after : List Word) → front ++ (w ∷ []) ≡ before ++ (oneself ∷ after) →
    IsSplitOf front w before after
split_push [] w [] after e = let head : w ≡ oneself = cc in inl (refl, head)
split_push [] w (b ∷ []) after e = absurd cc
split_push [] w (b ∷ c ∷ before) after e = absurd cc
split_push (f ∷ front) w [] after e = let head : f ≡ oneself = cc in inr (front, ap (λ (z : Word). z ∷ front) head)
split_push (f ∷ front) w (b ∷ before) after e =
    let head : f ≡ b = cc in
    let tail : front ++ (w ∷ []) ≡ before ++ (oneself ∷ after) = cc in
    elim (split_push front w before after tail) [
      | inl h ↦ inl (λ i. head i ∷ h.0 i, h.1)
      | inr h ↦ inr (h.0, λ i. head i ∷ h.1 i)
    ]

pub own_push : (front : List Word) (w : Word) → OwnInTypes front → (w ≡ oneself → EndsInTypes front) → OwnInTypes (front ++ (w ∷ []))
own_push front w h ends before after e = elim (split_push front w before after e) [
  | inl k ↦ subst EndsInTypes k.0 (ends k.1)
  | inr k ↦ h before k.0 k.1
]

-- a `self` behind words that don't end in types
pub not_own : (front : List Word) (w : Word) → w ≡ oneself → ¬ EndsInTypes front → ¬ OwnInTypes (front ++ (w ∷ []))
not_own front w is ends h = ends (h front [] (ap (λ (z : Word). front ++ (z ∷ [])) is))

no_oneself : (w : Word) → CanFollow w → ¬ (w ≡ oneself)
no_oneself w h e = let wrong : CanFollow oneself = subst CanFollow e h in absurd cc

-- what follows without `self`
pub own_more : (front more : List Word) → AllIn CanFollow more → OwnInTypes front → OwnInTypes (front ++ more)
own_more front [] p h = subst OwnInTypes (sym (append-nil front)) h
own_more front (w ∷ more) p h =
    subst OwnInTypes (append_assoc front (w ∷ []) more)
    (own_more (front ++ (w ∷ [])) more p.1 (own_push front w h (λ e. absurd (no_oneself w p.0 e))))

pub nothing_own : OwnInTypes []
nothing_own [] after e = absurd cc
nothing_own (b ∷ before) after e = absurd cc

-- ---- whether a fixed word came

abbrev pub has : Sign → List Word → Bool
has s [] = false
has s (w ∷ ws) = comes s (w ∷ []) || has s ws

or_assoc : (a b c : Bool) → (a || (b || c)) ≡ ((a || b) || c)
or_assoc true b c = refl
or_assoc false b c = refl

or_swap : (a b c d : Bool) → ((a || b) || (c || d)) ≡ ((a || c) || (b || d))
or_swap true b c d = refl
or_swap false true true d = refl
or_swap false true false d = refl
or_swap false false c d = refl

or_false : (a : Bool) → (a || false) ≡ a
or_false true = refl
or_false false = refl

pub has_push : (s : Sign) (ws : List Word) (w : Word) → has s (ws ++ (w ∷ [])) ≡ (has s ws || comes s (w ∷ []))
has_push s [] w = or_false (comes s (w ∷ []))
has_push s (v ∷ ws) w = ap (λ (z : Bool). comes s (v ∷ []) || z) (has_push s ws w) ∙ or_assoc (comes s (v ∷ [])) (has s ws)
    (comes s (w ∷ []))

pub comes_is : (s : Sign) (w : Word) → comes s (w ∷ []) ≡ true → w ≡ word.Sign s
comes_is s (word.Sign t) h = ap (λ (z : Sign). word.Sign z) (same_is t s h)
comes_is s (word.Name x) h = absurd cc
comes_is s (word.Number n) h = absurd cc

is_comes : (s : Sign) (w : Word) → w ≡ word.Sign s → comes s (w ∷ []) ≡ true
is_comes s w e = ap (λ (z : Word). comes s (z ∷ [])) e ∙ same_refl s

or_cases : (a b : Bool) → (a || b) ≡ true → (a ≡ true) ⊎ (b ≡ true)
or_cases true b h = inl refl
or_cases false b h = inr h

or_right : (a b : Bool) → b ≡ true → (a || b) ≡ true
or_right true b h = refl
or_right false b h = h

contains_first : (w x : Word) (ws : List Word) → w ≡ x → Contains (w ∷ ws) x
contains_first w x ws e = (0, omega arith, e)

first_contained : (w x : Word) → Contains (w ∷ []) x → w ≡ x
first_contained w x (zero, lt, e) = e
first_contained w x (suc k, lt, e) = absurd (omega (arith, lt))

pub has_contains : (s : Sign) (ws : List Word) → has s ws ≡ true → Contains ws (word.Sign s)
has_contains s [] h = absurd cc
has_contains s (w ∷ ws) h = elim (or_cases (comes s (w ∷ [])) (has s ws) h) [
  | inl k ↦ contains_first w (word.Sign s) ws (comes_is s w k)
  | inr k ↦ Contains-append_right (w ∷ []) ws (word.Sign s) (has_contains s ws k)
]

pub contains_has : (s : Sign) (ws : List Word) → Contains ws (word.Sign s) → has s ws ≡ true
contains_has s [] h = absurd (omega (arith, h.1))
contains_has s (w ∷ ws) h = elim (Contains-append_cases (w ∷ []) ws (word.Sign s) h) [
  | inl k ↦ ap (λ (z : Bool). z || has s ws) (is_comes s w (first_contained w (word.Sign s) k))
  | inr k ↦ or_right (comes s (w ∷ [])) (has s ws) (contains_has s ws k)
]

-- ---- whether words end in types, by the words that came

lacks : (s : Sign) (ws : List Word) → has s ws ≡ false → ¬ Contains ws (word.Sign s)
lacks s ws h c = let wrong : true ≡ false = sym (contains_has s ws c) ∙ h in absurd cc

or_neither : (a b : Bool) → (a || b) ≡ false → (a ≡ false) × (b ≡ false)
or_neither true b h = absurd cc
or_neither false b h = (refl, h)

pub ends_in : (ws : List Word) → has sign.Type ws ≡ true → (has sign.Entry ws || has sign.Hint ws) ≡ false → EndsInTypes ws
ends_in ws began unended =
    let neither = or_neither (has sign.Entry ws) (has sign.Hint ws) unended in record {
      began = has_contains sign.Type ws began;
      no_entry = lacks sign.Entry ws neither.0;
      no_hint = lacks sign.Hint ws neither.1;
    }

pub not_begun : (ws : List Word) → has sign.Type ws ≡ false → ¬ EndsInTypes ws
not_begun ws h e = lacks sign.Type ws h e.began

pub ended_before : (ws : List Word) → (has sign.Entry ws || has sign.Hint ws) ≡ true → ¬ EndsInTypes ws
ended_before ws h e = elim (or_cases (has sign.Entry ws) (has sign.Hint ws) h) [
  | inl k ↦ e.no_entry (has_contains sign.Entry ws k)
  | inr k ↦ e.no_hint (has_contains sign.Hint ws k)
]

-- ---- one word on

module _ (ws : List Word) (i : ℕ) (w : Word) (lt : i < length ws) (is : w ≡ get_or ws i w) where
  one_more : take (i + 1) ws ≡ take i ws ++ (w ∷ [])
  one_more = take_more ws i w lt ∙ ap (λ (z : Word). take i ws ++ (z ∷ [])) (sym is)

  pub stray_at : comes sign.Oneself (w ∷ []) ≡ true → ¬ EndsInTypes (take i ws) → ¬ OwnInTypes (take (i + 1) ws)
  stray_at own ends h = not_own (take i ws) w (comes_is sign.Oneself w own) ends (subst OwnInTypes one_more h)

  pub own_on : OwnInTypes (take i ws) → (comes sign.Oneself (w ∷ []) ≡ true → EndsInTypes (take i ws)) → OwnInTypes (take (i + 1) ws)
  own_on h ends = subst OwnInTypes (sym one_more) (own_push (take i ws) w h (λ e. ends (is_comes sign.Oneself w e)))

  pub has_on : (s : Sign) → has s (take (i + 1) ws) ≡ (has s (take i ws) || comes s (w ∷ []))
  has_on s = ap (has s) one_more ∙ has_push s (take i ws) w

  pub either_on : (has sign.Entry (take (i + 1) ws) || has sign.Hint (take (i + 1) ws)) ≡
      ((has sign.Entry (take i ws) || has sign.Hint (take i ws)) || (comes sign.Entry (w ∷ []) || comes sign.Hint (w ∷ [])))
  either_on = rw (has_on sign.Entry, has_on sign.Hint)
      (or_swap (has sign.Entry (take i ws)) (comes sign.Entry (w ∷ [])) (has sign.Hint (take i ws)) (comes sign.Hint (w ∷ [])))
