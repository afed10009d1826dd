-- Outside types no word of a text is `self`.
use Rattle.std.proofs.Common.{◌≡◌, Bool, true, false, List, [], ◌∷◌, ◌++◌, refl, ap, sym, ◌∙◌, subst, append_assoc, arith}
use Rattle.std.specs.Prelude.{◌||◌}
use Rattle.std.proofs.lemmas.List.{append-nil}
use Rattle.std.proofs.lemmas.List.Elements.{Contains-append_left, Contains-append_right}
use Rattle.acc_grammar.specs.Readers.{AllIn, joined}
use Rattle.acc_grammar.proofs.Exact.{AllIn-append}
use Rattle.acc_lex.specs.declared.words.Word.{Word}
use Rattle.acc_lex.specs.declared.words.Word.TheVariants as word
use Rattle.acc_lex.specs.declared.words.Sign.TheVariants as sign
use Rattle.acc_lex.specs.Words.{CanSpell}
use Rattle.acc_parse.specs.OwnWords.{EndsInTypes, OwnInTypes}
use Rattle.acc_parse_syntax.specs.declared.trees.EntryTree.{EntryTree}
use Rattle.acc_parse_syntax.specs.declared.trees.HintTree.{HintTree}
use Rattle.acc_parse_syntax.specs.declared.trees.DesignTree.{DesignTree}
use Rattle.acc_parse_syntax.specs.Spelling.{clause_statement, table, type_words, entry, hint, spelled_design}
use Rattle.acc_parse.proofs.OwnWords.{has, contains_has}
use Rattle.acc_parse_readback.proofs.SaidParts.{all_parts, all_by_two, all_weaker}
use Rattle.acc_parse_readback.proofs.SaidNames.{is_oneself, IsHeard, AreHeard}
use Rattle.acc_parse_readback.proofs.SaidWords.{IsInner, AreInner, tables_inner, clauses_inner}

abbrev IsOther : Word → Type 0
IsOther w = is_oneself w ≡ false

oneself_is : (w : Word) → is_oneself w ≡ true → w ≡ word.Sign sign.Oneself
oneself_is (word.Sign sign.Oneself) h = refl
oneself_is _ h = absurd cc

-- where no front of some words ends in types, none of these is `self`
none_own : (front ws rest : List Word) → OwnInTypes (front ++ (ws ++ rest)) →
    ((part more : List Word) → ws ≡ part ++ more → ¬ EndsInTypes (front ++ part)) → AllIn IsOther ws
none_own front [] rest own not = tt
none_own front (w ∷ ws) rest own not = (
  first (is_oneself w) refl,
  none_own (front ++ (w ∷ [])) ws rest (subst OwnInTypes (sym (append_assoc front (w ∷ []) (ws ++ rest))) own) later,
)
  where
    first : (b : Bool) → is_oneself w ≡ b → b ≡ false
    first true e =
        absurd (not [] (w ∷ ws) refl (subst EndsInTypes (sym (append-nil front))
        (own front (ws ++ rest) (ap (λ (v : Word). front ++ (v ∷ (ws ++ rest))) (oneself_is w e)))))
    first false e = refl

    later : (part more : List Word) → ws ≡ part ++ more → ¬ EndsInTypes ((front ++ (w ∷ [])) ++ part)
    later part more e h = not (w ∷ part) more (ap (λ (vs : List Word). w ∷ vs) e) (subst EndsInTypes (append_assoc front (w ∷ []) part) h)

-- ---- before types

inner_has : (ws : List Word) → AreInner ws → has sign.Type ws ≡ false
inner_has [] h = refl
inner_has (w ∷ ws) h = ap (λ (b : Bool). b || has sign.Type ws) h.0 ∙ inner_has ws h.1

not_begun : (ws : List Word) → AreInner ws → ¬ EndsInTypes ws
not_begun ws h e = let wrong : true ≡ false = sym (contains_has sign.Type ws e.began) ∙ inner_has ws h in absurd cc

-- no word before the first type is `self`
none_before : (front ws rest : List Word) → OwnInTypes (front ++ (ws ++ rest)) → AreInner front → AreInner ws → AllIn IsOther ws
none_before front ws rest own h g =
    none_own front ws rest own (λ part more e. not_begun (front ++ part)
    (AllIn-append IsInner front part h (all_parts IsInner part more (subst AreInner e g)).0))

-- ---- behind types

-- no word behind an `entry` is `self`, and none behind a `hint`
behind_entry : (front ws : List Word) → OwnInTypes (front ++ (word.Sign sign.Entry ∷ ws)) → AllIn IsOther ws
behind_entry front ws own =
    none_own (front ++ (word.Sign sign.Entry ∷ [])) ws []
    (subst OwnInTypes (ap (λ (vs : List Word). front ++ (word.Sign sign.Entry ∷ vs)) (sym (append-nil ws)) ∙ sym
    (append_assoc front (word.Sign sign.Entry ∷ []) (ws ++ []))) own)
    (λ part more e h. h.no_entry (Contains-append_left (front ++ (word.Sign sign.Entry ∷ [])) part (word.Sign sign.Entry)
    (Contains-append_right front (word.Sign sign.Entry ∷ []) (word.Sign sign.Entry) (0, omega arith, refl))))

behind_hint : (front ws : List Word) → OwnInTypes (front ++ (word.Sign sign.Hint ∷ ws)) → AllIn IsOther ws
behind_hint front ws own =
    none_own (front ++ (word.Sign sign.Hint ∷ [])) ws []
    (subst OwnInTypes (ap (λ (vs : List Word). front ++ (word.Sign sign.Hint ∷ vs)) (sym (append-nil ws)) ∙ sym
    (append_assoc front (word.Sign sign.Hint ∷ []) (ws ++ []))) own)
    (λ part more e h. h.no_hint (Contains-append_left (front ++ (word.Sign sign.Hint ∷ [])) part (word.Sign sign.Hint)
    (Contains-append_right front (word.Sign sign.Hint ∷ []) (word.Sign sign.Hint) (0, omega arith, refl))))

-- no word of entries and hints is `self`
none_behind : (front : List Word) (es : List EntryTree) (hs : List HintTree) → OwnInTypes (front ++ (joined entry es ++ joined hint hs)) →
    AllIn IsOther (joined entry es ++ joined hint hs)
none_behind front [] [] own = tt
none_behind front [] (h ∷ hs) own = (refl, behind_hint front _ own)
none_behind front (e ∷ es) hs own = (refl, behind_entry front _ own)

-- ---- what is heard

heard_within : (ws : List Word) → AllIn CanSpell ws → AreHeard true ws
heard_within ws h = all_weaker CanSpell (IsHeard true) ws (λ w p. (p, λ e. absurd cc)) h

heard_outside : (ws : List Word) → AllIn CanSpell ws → AllIn IsOther ws → AreHeard false ws
heard_outside ws h g = all_by_two CanSpell IsOther (IsHeard false) ws (λ w p q. (p, λ e. q)) h g

-- ---- the words of a text

-- which words are heard, part by part
pub record IsAllHeard (d : DesignTree) : Type 0 where
  pub tables : AreHeard false (joined table d.tables)
  pub always : AreHeard false (joined (clause_statement sign.Always) d.always)
  pub types : AreHeard true (joined type_words d.types)
  pub entries : AreHeard false (joined entry d.entries)
  pub hints : AreHeard false (joined hint d.hints)

pub all_heard : (d : DesignTree) → AllIn CanSpell (spelled_design d) → OwnInTypes (spelled_design d) → IsAllHeard d
all_heard d can own =
    let tables = joined table d.tables in
    let always = joined (clause_statement sign.Always) d.always in
    let types = joined type_words d.types in
    let entries = joined entry d.entries in
    let hints = joined hint d.hints in
    let c_tables = all_parts CanSpell tables (always ++ (types ++ (entries ++ hints))) can in
    let c_always = all_parts CanSpell always (types ++ (entries ++ hints)) c_tables.1 in
    let c_types = all_parts CanSpell types (entries ++ hints) c_always.1 in
    let c_entries = all_parts CanSpell entries hints c_types.1 in
    let o_tables = none_before [] tables (always ++ (types ++ (entries ++ hints))) own tt (tables_inner d.tables) in
    let o_always = none_before tables always (types ++ (entries ++ hints)) own (tables_inner d.tables) (clauses_inner d.always) in
    let regrouped = sym (append_assoc tables always (types ++ (entries ++ hints))) ∙ sym
    (append_assoc (tables ++ always) types (entries ++ hints)) in
    let behind = none_behind ((tables ++ always) ++ types) d.entries d.hints (subst OwnInTypes regrouped own) in
    let o_entries = all_parts IsOther entries hints behind in
    record {
      tables = heard_outside tables c_tables.0 o_tables;
      always = heard_outside always c_always.0 o_always;
      types = heard_within types c_types.0;
      entries = heard_outside entries c_entries.0 o_entries.0;
      hints = heard_outside hints c_entries.1 o_entries.1;
    }
