-- Words other than some that the grammar fixes; and where `self` stands among words, where some parts have none and others neither `entry`
-- nor `hint`.
use Rattle.std.proofs.Common.{◌≡◌, Bool, true, false, List, [], ◌∷◌, ◌++◌, if◌then◌else◌, refl, sym, subst, ◌∙◌, zero, suc, arith, inl, inr}
use Rattle.std.specs.Prelude.{Contains}
use Rattle.std.proofs.lemmas.List.Elements.{Contains-append_right, Contains-append_cases}
use Rattle.acc_grammar.specs.Readers.{AllIn, joined}
use Rattle.acc_grammar.proofs.Exact.{AllIn-append}
use Rattle.acc_lex.specs.declared.words.Sign.{Sign}
use Rattle.acc_lex.specs.declared.words.Sign.TheVariants as sign
use Rattle.acc_lex.specs.declared.words.Word.{Word}
use Rattle.acc_lex.specs.declared.words.Word.TheVariants as word
use Rattle.acc_parse.specs.OwnWords.{OwnInTypes}
use Rattle.acc_parse_syntax.proofs.Following.{is_own}

-- ---- other words

-- `entry` or `hint`
abbrev pub is_behind : Sign → Bool
is_behind sign.Entry = true
is_behind sign.Hint = true
is_behind s = false

-- none of these fixed words
abbrev pub IsOther : (Sign → Bool) → Word → Type 0
IsOther bad (word.Sign s) = bad s ≡ false
IsOther bad (word.Name x) = Unit {0}
IsOther bad (word.Number n) = Unit {0}

abbrev pub Without : (Sign → Bool) → List Word → Type 0
Without bad ws = AllIn (IsOther bad) ws

module _ (bad : Sign → Bool) where
  pub without_both : (ws vs : List Word) → Without bad ws → Without bad vs → Without bad (ws ++ vs)
  without_both ws vs h g = AllIn-append (IsOther bad) ws vs h g

  pub without_either : (b : Bool) (ws vs : List Word) → Without bad ws → Without bad vs → Without bad (if b then ws else vs)
  without_either true ws vs h g = h
  without_either false ws vs h g = g

  pub without_each : {X : Type 0} (spell : X → List Word) (xs : List X) → AllIn (λ x. Without bad (spell x)) xs →
      Without bad (joined spell xs)
  without_each spell [] h = tt
  without_each spell (x ∷ xs) h = without_both (spell x) (joined spell xs) h.0 (without_each spell xs h.1)

-- ---- where `self` stands

not_own : (w : Word) → IsOther is_own w → ¬ (w ≡ word.Sign sign.Oneself)
not_own w h e = let wrong : true ≡ false = subst (IsOther is_own) e h in absurd cc

not_there : (bad : Sign → Bool) (s : Sign) (ws : List Word) → bad s ≡ true → Without bad ws → ¬ Contains ws (word.Sign s)
not_there bad s [] is h c = absurd (omega (arith, c.1))
not_there bad s (w ∷ ws) is h (zero, lt, e) = let other : bad s ≡ false = subst (IsOther bad) e h.0 in let wrong : true ≡ false =
    sym is ∙ other in absurd cc
not_there bad s (w ∷ ws) is h (suc k, lt, e) = not_there bad s ws is h.1 (k, omega (arith, lt), e)

none_led : (s : Sign) (w : Word) (ws : List Word) → is_behind s ≡ true → IsOther is_behind w → ¬ Contains ws (word.Sign s) →
    ¬ Contains (w ∷ ws) (word.Sign s)
none_led s w ws is other lacks c = elim (Contains-append_cases (w ∷ []) ws (word.Sign s) c) [
  | inl k ↦ not_there is_behind s (w ∷ []) is (other, tt) k
  | inr k ↦ lacks k
]

-- one word before them that isn't `self`, `entry` or `hint`
own_behind_one : (w : Word) (ws : List Word) → IsOther is_own w → IsOther is_behind w → OwnInTypes ws → OwnInTypes (w ∷ ws)
own_behind_one w ws own behind h [] after e = absurd (not_own w own (let is : w ≡ word.Sign sign.Oneself = cc in is))
own_behind_one w ws own behind h (b ∷ before) after e =
    let is : w ≡ b = cc in
    let rest : ws ≡ before ++ (word.Sign sign.Oneself ∷ after) = cc in
    let ends = h before after rest in
    let other = subst (IsOther is_behind) is behind in
    record {
      began = Contains-append_right (b ∷ []) before (word.Sign sign.Type) ends.began;
      no_entry = none_led sign.Entry b before refl other ends.no_entry;
      no_hint = none_led sign.Hint b before refl other ends.no_hint;
    }

-- words before them with none of the three
pub own_behind : (ws vs : List Word) → Without is_own ws → Without is_behind ws → OwnInTypes vs → OwnInTypes (ws ++ vs)
own_behind [] vs own behind h = h
own_behind (w ∷ ws) vs own behind h = own_behind_one w (ws ++ vs) own.0 behind.0 (own_behind ws vs own.1 behind.1 h)

no_split : (ws : List Word) → Without is_own ws → (before after : List Word) → ¬ (ws ≡ before ++ (word.Sign sign.Oneself ∷ after))
no_split [] own [] after e = absurd cc
no_split [] own (b ∷ before) after e = absurd cc
no_split (w ∷ ws) own [] after e = not_own w own.0 (let is : w ≡ word.Sign sign.Oneself = cc in is)
no_split (w ∷ ws) own (b ∷ before) after e = no_split ws own.1 before after (let rest : ws ≡ before ++ (word.Sign sign.Oneself ∷ after) =
    cc in rest)

-- words without `self`
pub none_own : (ws : List Word) → Without is_own ws → OwnInTypes ws
none_own ws own before after e = absurd (no_split ws own before after e)

-- what is before a `self` is before the words that have none
early : (ws vs before after : List Word) → Without is_behind ws → Without is_own vs →
    ws ++ vs ≡ before ++ (word.Sign sign.Oneself ∷ after) → Without is_behind before
early [] vs before after behind own e = absurd (no_split vs own before after e)
early (w ∷ ws) vs [] after behind own e = tt
early (w ∷ ws) vs (b ∷ before) after behind own e =
    let is : w ≡ b = cc in (
      subst (IsOther is_behind) is behind.0,
      early ws vs before after behind.1 own
          (let rest : ws ++ vs ≡ before ++ (word.Sign sign.Oneself ∷ after) = cc in rest),
    )

-- words of types, and words without `self` behind them
pub own_within : (ws vs : List Word) → Without is_behind ws → Without is_own vs → OwnInTypes (word.Sign sign.Type ∷ (ws ++ vs))
own_within ws vs behind own [] after e = absurd cc
own_within ws vs behind own (b ∷ before) after e =
    let is : b ≡ word.Sign sign.Type = cc in
    let none : Without is_behind (b ∷ before) = early (word.Sign sign.Type ∷ ws) vs (b ∷ before) after (refl, behind) own e in
    record {
      began = (0, omega arith, is);
      no_entry = not_there is_behind sign.Entry (b ∷ before) refl none;
      no_hint = not_there is_behind sign.Hint (b ∷ before) refl none;
    }
