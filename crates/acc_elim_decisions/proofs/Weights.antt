-- What a weighted sum of relations is worth, and of which unknowns its terms are.
use Rattle.std.proofs.Common.{◌≡◌, ℕ, zero, suc, Bool, true, false, List, [], ◌∷◌, refl, subst, arith, ℤ, pos, ◌+ℤ◌, ◌*ℤ◌}
use Rattle.std.proofs.Common.{Option, Some, None, if◌then◌else◌}
use Rattle.std.specs.Prelude.{All, slice_get}
use Rattle.std.proofs.lemmas.Int.{ints}
use Rattle.std.proofs.lemmas.List.Elements.{All-head, All-tail}
use lib.IntN.{*ℤ-zero}
use Rattle.acc_base.specs.declared.forms.Unknown.{Unknown}
use Rattle.acc_base.specs.declared.forms.Form.{Form}
use Rattle.acc_base.specs.declared.forms.Rel.{Rel}
use Rattle.acc_base.specs.Collecting.{worth}
use Rattle.acc_base.specs.Sums.{Term, with_term, multiple}
use Rattle.acc_base.specs.Worths.{form_worth}
use Rattle.acc_base.specs.UnknownEquality.{bare_one, is_bare_one}
use Rattle.acc_farkas.specs.Sums.{Pair, plus_number, plus_term, plus_terms, plus_relation, weighted}
use Rattle.acc_farkas.proofs.Worths.{plus-worth}
use Rattle.acc_elim_readings.proofs.Names.{Named}
use Rattle.acc_elim_decisions.proofs.Lefts.{Fine, Distinct, distinct_with, fine_with}

-- ---- what it is worth

-- what the relation at a place is worth, and 0 where there is none
abbrev pub worth_of : (Unknown → ℤ) → Option Rel → ℤ
worth_of v None = pos 0
worth_of v (Some r) = form_worth v r.form

-- by its place
abbrev pub base : (Unknown → ℤ) → List Rel → ℕ → ℤ
base v rels j = worth_of v (slice_get rels j)

module _ (v : Unknown → ℤ) (one : v bare_one ≡ pos 1) (rels : List Rel) where
  relation_worth : (by : ℤ) (o : Option Rel) (s : Form) → form_worth v (plus_relation by o s) ≡ form_worth v s +ℤ by *ℤ worth_of v o
  relation_worth by None s = let none = *ℤ-zero by in omega (arith, ints, none)
  relation_worth by (Some r) s = plus-worth v one by r.form s

  pub weighted_worth : (ps : List Pair) (s : Form) → form_worth v (weighted rels ps s) ≡ form_worth v s +ℤ worth (base v rels) ps
  weighted_worth [] s = omega (arith, ints)
  weighted_worth (p ∷ ps) s =
      let here = relation_worth p.1 (slice_get rels p.0) s in
      let rest = weighted_worth ps (plus_relation p.1 (slice_get rels p.0) s) in
      omega (arith, ints, here, rest)

-- ---- its terms are of different unknowns of the relations, and none is the number 1

module _ (names : List Unknown) where
  abbrev pub Neat : Form → Type 0
  Neat s = Distinct s.terms × All (Fine names) s.terms

  term_neat : (by : ℤ) (t : Term) (s : Form) → Named names t → Neat s → Neat (plus_term by t s)
  term_neat by t s named neat = step (is_bare_one t.0) refl
    where
      step : (b : Bool) → is_bare_one t.0 ≡ b
          → Neat (if b then plus_number by t.1 s else record s { terms = with_term (multiple by t) s.terms })
      step true e = neat
      step false e = (distinct_with (multiple by t) s.terms neat.0, fine_with names (multiple by t) s.terms (e, named e) neat.1)

  terms_neat : (by : ℤ) (ts : List Term) (s : Form) → All (Named names) ts → Neat s → Neat (plus_terms by ts s)
  terms_neat by [] s named neat = neat
  terms_neat by (t ∷ ts) s named neat =
      terms_neat by ts (plus_term by t s) (All-tail (Named names) t ts named)
      (term_neat by t s (All-head (Named names) t ts named) neat)

  abbrev Listed : Rel → Type 0
  Listed r = All (Named names) r.form.terms

  there : (rels : List Rel) (i : ℕ) (r : Rel) → All Listed rels → slice_get rels i ≡ Some r → Listed r
  there [] i r all e = absurd (cc)
  there (q ∷ rels) zero r all e = let same : q ≡ r = cc in subst Listed same (All-head Listed q rels all)
  there (q ∷ rels) (suc i) r all e = there rels i r (All-tail Listed q rels all) e

  pub weighted_neat : (rels : List Rel) → All Listed rels → (ps : List Pair) (s : Form) → Neat s → Neat (weighted rels ps s)
  weighted_neat rels all [] s neat = neat
  weighted_neat rels all (p ∷ ps) s neat =
      weighted_neat rels all ps (plus_relation p.1 (slice_get rels p.0) s) (step (slice_get rels p.0) refl)
    where
      step : (o : Option Rel) → slice_get rels p.0 ≡ o → Neat (plus_relation p.1 o s)
      step None e = neat
      step (Some r) e = terms_neat p.1 r.form.terms s (there rels p.0 r all e) neat
