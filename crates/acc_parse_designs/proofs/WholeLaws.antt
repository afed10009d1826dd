-- What reading all words says of them.
use Rattle.std.proofs.Common.{◌≡◌, ℕ, ◌+◌, ◌-◌, ◌<◌, ◌≤◌, false, List, [], ◌∷◌, ◌++◌, length, take, drop, Ok, Err, refl, sym, ap, subst}
use Rattle.std.proofs.Common.{◌∙◌, arith, append_assoc, length-append, inl, inr}
use Rattle.std.proofs.lemmas.Bool.{cases_lt}
use Rattle.std.proofs.lemmas.List.{append-nil, take_at, take_all, take-take, take-append-drop, length-take-le}
use Rattle.acc_lex.specs.declared.words.Word.{Word}
use Rattle.acc_grammar.proofs.Exact.{ok_is}
use Rattle.acc_parse_syntax.specs.declared.trees.DesignTree.{DesignTree}
use Rattle.acc_parse_syntax.specs.Spelling.{spelled_design}
use Rattle.acc_parse_syntax.specs.WordReaders.{is_word}
use Rattle.acc_parse_designs.specs.DesignReaders.{design_at}
use Rattle.acc_parse_designs.specs.OwnWords.{OwnInTypes}
use Rattle.acc_parse_designs.specs.Texts.{IsSpelling, Begins, StopsAt}
use Rattle.acc_parse_syntax.proofs.Following.{all_spell}
use Rattle.acc_parse_designs.proofs.OwnWords.{own_front, own_more}
use Rattle.acc_parse_designs.proofs.TypeLaws.{design_exact}

nothing_left : (rest : List Word) → is_word rest ≡ false → rest ≡ []
nothing_left [] h = refl
nothing_left (w ∷ ws) h = absurd cc

-- ---- trees and their words

spelled_as : (ws : List Word) (t : DesignTree) (rest : List Word) → design_at ws ≡ Ok (t, rest) → ws ≡ spelled_design t
spelled_as ws t rest h =
    let k = design_exact.takes ws t rest h in
    k.0 ∙ ap (λ (z : List Word). spelled_design t ++ z) (nothing_left rest k.2) ∙ append-nil (spelled_design t)

is_read : (ws : List Word) (t : DesignTree) → ws ≡ spelled_design t → design_at ws ≡ Ok (t, [])
is_read ws t e = ap design_at (e ∙ sym (append-nil (spelled_design t))) ∙ design_exact.again t [] tt refl

-- no two trees are spelled alike
pub one_tree : (t u : DesignTree) → spelled_design t ≡ spelled_design u → t ≡ u
one_tree t u e =
    let one : DesignTree × List Word = (t, []) in
    let other : DesignTree × List Word = (u, []) in
    ap (λ (z : DesignTree × List Word). z.0) (ok_is one other (sym (is_read (spelled_design t) t refl) ∙ is_read (spelled_design t) u e))

not_text : (ws rest : List Word) → design_at ws ≡ Err rest → (t : DesignTree) → ¬ (ws ≡ spelled_design t)
not_text ws rest h t e = let wrong = sym h ∙ is_read ws t e in absurd cc

no_further : (front : List Word) (w : Word) → ((after : List Word) → design_at (front ++ (w ∷ after)) ≡ Err (w ∷ after)) →
    ¬ Begins (front ++ (w ∷ []))
no_further front w stuck b =
    not_text (front ++ (w ∷ b.0)) (w ∷ b.0) (stuck b.0) b.1 (sym (append_assoc front (w ∷ []) b.0) ∙ b.3.spelled)

-- ---- words up to the first `self` outside the types, of which a tree is read

module _ (ws : List Word) (k : ℕ) (within : k ≤ length ws) (own : OwnInTypes (take k ws)) (stray : k < length ws →
    ¬ OwnInTypes (take (k + 1) ws)) where
  -- a `self` stands outside
  pub none_past : k < length ws → (t : DesignTree) → ¬ IsSpelling ws t
  none_past lt t s = stray lt (own_front (take (k + 1) ws) (drop (k + 1) ws) (subst OwnInTypes (sym (take-append-drop (k + 1) ws)) s.own))

  no_begin_past : k < length ws → ¬ Begins (take (k + 1) ws)
  no_begin_past lt b = stray lt (own_front (take (k + 1) ws) b.0 b.3.own)

  -- no `self` stands outside
  pub text_is : (t : DesignTree) (rest : List Word) → length ws ≤ k → design_at (take k ws) ≡ Ok (t, rest) → IsSpelling ws t
  text_is t rest all h =
      subst (λ (z : List Word). IsSpelling z t) (take_all k ws all) (record { spelled = spelled_as (take k ws) t rest h; own = own })

  -- the words before the `self` are a design's
  pub stops_before : (t : DesignTree) (rest : List Word) → k < length ws → design_at (take k ws) ≡ Ok (t, rest) → StopsAt ws k
  stops_before t rest lt h = record {
    in_range = within;
    begins = (
      [],
      t,
      tt,
      subst (λ (z : List Word). IsSpelling z t) (sym (append-nil (take k ws)))
          (record { spelled = spelled_as (take k ws) t rest h; own = own }),
    );
    stops = no_begin_past;
    ends = none_past lt;
  }

  pub not_read : (rest : List Word) → design_at (take k ws) ≡ Err rest → (t : DesignTree) → ¬ IsSpelling ws t
  not_read rest h t s = elim (cases_lt k (length ws)) [
    | inl lt ↦ none_past lt t s
    | inr all ↦ not_text (take k ws) rest h t (take_all k ws all ∙ s.spelled)
  ]

  pub fewer : (rest : List Word) → design_at (take k ws) ≡ Err rest → length rest ≤ k
  fewer rest h =
      let s = design_exact.stops (take k ws) rest h in
      omega (arith, ap length s.split, length-append s.front rest, length-take-le k ws within)

  stuck_at : (front rest : List Word) → take k ws ≡ front ++ rest → length front + length rest ≡ k →
      ((w : Word) (others after : List Word) → rest ≡ w ∷ others → design_at (front ++ (w ∷ after)) ≡ Err (w ∷ after)) →
      length front < length ws → ¬ Begins (take (length front + 1) ws)
  stuck_at front [] split len stuck lt b =
      let is : length front ≡ k = omega (arith, len) in
      no_begin_past (omega (arith, is, lt)) (subst (λ (z : ℕ). Begins (take (z + 1) ws)) is b)
  stuck_at front (w ∷ others) split len stuck lt b =
      let parted : take k ws ≡ (front ++ (w ∷ [])) ++ others = split ∙ sym (append_assoc front (w ∷ []) others) in
      let long : length (front ++ (w ∷ [])) ≡ length front + 1 = omega (arith, length-append front (w ∷ [])) in
      let is : take (length front + 1) ws ≡ front ++ (w ∷ []) =
      sym (take-take (length front + 1) k ws (omega (arith, len))) ∙ ap (take (length front + 1)) parted ∙ take_at (front ++ (w ∷ []))
      others (length front + 1) long in
      no_further front w (λ after. stuck w others after refl) (subst Begins is b)

  -- a word with which no design goes on comes first
  pub stops_at : (rest : List Word) → design_at (take k ws) ≡ Err rest → StopsAt ws (k - length rest)
  stops_at rest h =
      let s = design_exact.stops (take k ws) rest h in
      let len : length s.front + length rest ≡ k =
      omega (arith, ap length s.split, length-append s.front rest, length-take-le k ws within) in
      let place : length s.front ≡ k - length rest = omega (arith, len) in
      let is : take (length s.front) ws ≡ s.front =
      sym (take-take (length s.front) k ws (omega (arith, len))) ∙ ap (take (length s.front)) s.split ∙ take_at s.front rest
      (length s.front) refl in
      let front_own : OwnInTypes s.front = own_front s.front rest (subst OwnInTypes s.split own) in
      let begins : Begins s.front = (
        s.more,
        s.tree,
        all_spell s.more s.plain,
        record { spelled = s.viable; own = own_more s.front s.more s.plain front_own },
      ) in
      subst (StopsAt ws) place (record {
        in_range = omega (arith, len, within);
        begins = subst Begins (sym is) begins;
        stops = stuck_at s.front rest s.split len s.stuck;
        ends = not_read rest h;
      })
