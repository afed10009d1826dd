-- What elimination shows is shown by the multipliers that it gives.
use Rattle.std.proofs.Common.{◌≡◌, Bool, true, false, List, [], ◌∷◌, ◌++◌, map, Option, Some, None, Result, Ok, Err, refl, ap, sym, ◌∙◌}
use Rattle.std.proofs.Common.{append_assoc, inl, inr, append-nil, if◌then◌else◌}
use Rattle.std.specs.Prelude.{MatchOption, ◌⊎◌}
use Rattle.std.specs.List.{Contains}
use Rattle.std.proofs.lemmas.List.Elements.{Contains-append_left, Contains-append_right, Contains-push}
use Rattle.acc_base.specs.declared.forms.Form.{Form}
use Rattle.acc_base.specs.declared.forms.Rel.{Rel}
use Rattle.acc_farkas.specs.declared.refuting.Mults.{Mults}
use Rattle.acc_farkas.specs.Sums.{refutes_all, is_refuting_wide}
use Rattle.acc_elim_decisions.specs.declared.verdicts.ElimError.{ElimError}
use Rattle.acc_elim_decisions.specs.declared.verdicts.ElimError.TheVariants as stopped
use Rattle.acc_elim_decisions.specs.declared.verdicts.Verdict.{Verdict}
use Rattle.acc_elim_decisions.specs.declared.verdicts.Verdict.TheVariants.{Refuted, Solved}
use Rattle.acc_elim_decisions.specs.Decisions.{decision}
use Rattle.acc_elim_decisions.proofs.Shown.{refuted_is_accepted, solved_is_met}
use Rattle.acc_elim_points.specs.Points.{Point}
use Rattle.acc_elim_solved.specs.Meetings.{Meets}
use Rattle.acc_proof.specs.Checked.{Checked, Gives, Fails, TooWide, and_then}
use Rattle.acc_proof.specs.Facts as facts
use Rattle.acc_proof.specs.Facts.{refuted, excluded, at_most_shown, at_least_shown, all_shown}
use Rattle.acc_proof.specs.Proofs.{sure}
use Rattle.acc_prover_course.specs.Halt.TheVariants.{Wide}
use Rattle.acc_base.specs.Computing.{chain}
use Rattle.acc_prover_course.specs.Courses.{of_elimination}
use Rattle.acc_prover_course.specs.Known.{verdict, multipliers_in, refuting, with_next, if_shown, excludes, shows_at_most}
use Rattle.acc_prover_course.specs.Known.{shows_at_least, shows_rest, shows, shows_all}
use Rattle.acc_prover_searched.proofs.Good.{Leaf, Good, good_chain, good_weaker}

taken : (wide holds : Bool) (x : Checked (List Mults)) → holds ≡ true → wide ≡ false
    → (if wide then TooWide else (if holds then x else Fails)) ≡ x
taken true holds x y w = absurd (cc)
taken false true x y w = refl
taken false false x y w = absurd (cc)

-- the next multipliers are these, and then others are left
abbrev pub Refutes : List Rel → Mults → Type 0
Refutes rels m = (rest : List Mults) → refuted rels (m ∷ rest) ≡ Gives rest

-- relations are met somewhere
abbrev pub Open : List Rel → Type 0
Open rels = (p : Point) × Meets rels p

-- what is known doesn't show a relation: its contrary may hold, on one side
abbrev pub Unshown : List Rel → Bool → Form → Type 0
Unshown rels equal f = Open (rels ++ facts.above_zero f ∷ []) ⊎ ((equal ≡ true) × Open (rels ++ facts.below_zero f ∷ []))

abbrev pub UnshownAny : List Rel → List Rel → Type 0
UnshownAny rels rs = (r : Rel) × Contains rs r × Unshown rels r.equal r.form

first_there : (r : Rel) (rs : List Rel) → Contains (r ∷ rs) r
first_there r rs = Contains-append_left (r ∷ []) rs r (Contains-push [] r)

module _ (Q : Leaf) where
  pub verdict_good : (rels : List Rel) → Good Q (verdict rels) (λ v. decision rels ≡ Ok v)
  verdict_good rels = by (decision rels) refl
    where
      by : (o : Result Verdict ElimError) → decision rels ≡ o → Good Q (of_elimination o) (λ v. decision rels ≡ Ok v)
      by (Ok v) e = e
      by (Err stopped.Wide) e = tt
      by (Err stopped.Many) e = tt
      by (Err stopped.Memory) e = tt

  pub refuted_by : (rels : List Rel) (ms : Mults) → decision rels ≡ Ok (Refuted ms) → Refutes rels ms
  refuted_by rels ms e rest =
      let accepted = refuted_is_accepted rels (Ok (Refuted ms)) e in
      taken (is_refuting_wide rels ms.of) (refutes_all rels ms.of) (Gives rest) accepted.accepted accepted.narrow

  refuting_good : (rels : List Rel) → Good Q (refuting rels) (λ o. MatchOption o (Open rels) (Refutes rels))
  refuting_good rels =
      good_chain Q (verdict rels) _ (λ v. decision rels ≡ Ok v) (λ o. MatchOption o (Open rels) (Refutes rels)) (verdict_good rels)
      (λ v e. by v e)
    where
      by : (v : Verdict) → decision rels ≡ Ok v → MatchOption (multipliers_in v) (Open rels) (Refutes rels)
      by (Refuted ms) e = refuted_by rels ms e
      by (Solved point) e = (point, solved_is_met rels (Ok (Solved point)) e)

  -- one list more shows a fact
  abbrev OneMore : (List Mults → Checked (List Mults)) → List Mults → List Mults → Type 0
  OneMore shown_by found more = (m : Mults) × (more ≡ found ++ m ∷ []) × ((rest : List Mults) → shown_by (m ∷ rest) ≡ Gives rest)

  -- and where it isn't shown these relations are met somewhere
  abbrev OneTold : List Rel → (List Mults → Checked (List Mults)) → List Mults → Option (List Mults) → Type 0
  OneTold contrary shown_by found o = MatchOption o (Open contrary) (OneMore shown_by found)

  excludes_good : (rels : List Rel) (found : List Mults) (r : Rel)
      → Good Q (excludes rels found r) (OneTold (rels ++ r ∷ []) (refuted (rels ++ r ∷ [])) found)
  excludes_good rels found r =
      good_chain Q (refuting (rels ++ r ∷ [])) _ (λ o. MatchOption o (Open (rels ++ r ∷ [])) (Refutes (rels ++ r ∷ [])))
      (OneTold (rels ++ r ∷ []) (refuted (rels ++ r ∷ [])) found) (refuting_good (rels ++ r ∷ [])) (λ o h. by o h)
    where
      by : (o : Option Mults) → MatchOption o (Open (rels ++ r ∷ [])) (Refutes (rels ++ r ∷ []))
          → OneTold (rels ++ r ∷ []) (refuted (rels ++ r ∷ [])) found (with_next found o)
      by None h = h
      by (Some m) h = (m, refl, h)

  excluded_good : (rels : List Rel) (found : List Mults) (wide : Bool) (r : Rel)
      → Good Q (chain (if wide then Err Wide else Ok r) (excludes rels found)) (OneTold (rels ++ r ∷ []) (excluded rels wide r) found)
  excluded_good rels found true r = tt
  excluded_good rels found false r = excludes_good rels found r

  at_most_good : (rels : List Rel) (found : List Mults) (f : Form)
      → Good Q (shows_at_most rels found f) (OneTold (rels ++ facts.above_zero f ∷ []) (at_most_shown rels f) found)
  at_most_good rels found f = excluded_good rels found (facts.is_above_wide f) (facts.above_zero f)

  at_least_good : (rels : List Rel) (found : List Mults) (f : Form)
      → Good Q (shows_at_least rels found f) (OneTold (rels ++ facts.below_zero f ∷ []) (at_least_shown rels f) found)
  at_least_good rels found f = excluded_good rels found (facts.is_below_wide f) (facts.below_zero f)

  -- some lists more show facts
  abbrev More : (List Mults → Checked (List Mults)) → List Mults → List Mults → Type 0
  More shown_by found more = (ms : List Mults) × (more ≡ found ++ ms) × ((rest : List Mults) → shown_by (ms ++ rest) ≡ Gives rest)

  abbrev shown_as : List Rel → Bool → Form → List Mults → Checked (List Mults)
  shown_as rels equal f ms =
      if equal then and_then (at_least_shown rels f) (at_most_shown rels f ms) else at_most_shown rels f ms

  abbrev Told : List Rel → Bool → Form → List Mults → Option (List Mults) → Type 0
  Told rels equal f found o = MatchOption o (Unshown rels equal f) (More (shown_as rels equal f) found)

  abbrev AllTold : List Rel → List Rel → List Mults → Option (List Mults) → Type 0
  AllTold rels rs found o = MatchOption o (UnshownAny rels rs) (More (all_shown rels (map sure rs)) found)

  both_good : (rels : List Rel) (found : List Mults) (f : Form) (more : List Mults) → OneMore (at_most_shown rels f) found more
      → Good Q (shows_at_least rels more f) (Told rels true f found)
  both_good rels found f more h =
      good_weaker Q (shows_at_least rels more f) (OneTold (rels ++ facts.below_zero f ∷ []) (at_least_shown rels f) more)
      (Told rels true f found) (at_least_good rels more f) (λ o k. by o k)
    where
      by : (o : Option (List Mults)) → OneTold (rels ++ facts.below_zero f ∷ []) (at_least_shown rels f) more o → Told rels true f found o
      by None k = inr (refl, k)
      by (Some last) k = (
        h.0 ∷ k.0 ∷ [],
        k.1 ∙ (ap (λ x. x ++ k.0 ∷ []) h.1 ∙ append_assoc found (h.0 ∷ []) (k.0 ∷ [])),
        λ rest. ap (and_then (at_least_shown rels f)) (h.2 (k.0 ∷ rest)) ∙ k.2 rest,
      )

  rest_good : (rels : List Rel) (found : List Mults) (equal : Bool) (f : Form) (more : List Mults)
      → OneMore (at_most_shown rels f) found more
      → Good Q (if equal then shows_at_least rels more f else Ok (Some more)) (Told rels equal f found)
  rest_good rels found true f more h = both_good rels found f more h
  rest_good rels found false f more h = (h.0 ∷ [], h.1, h.2)

  shows_good : (rels : List Rel) (found : List Mults) (r : Rel)
      → Good Q (shows rels found r) (Told rels r.equal r.form found)
  shows_good rels found r =
      good_chain Q (shows_at_most rels found r.form) _ (OneTold (rels ++ facts.above_zero r.form ∷ []) (at_most_shown rels r.form) found)
      (Told rels r.equal r.form found) (at_most_good rels found r.form) (λ o h. by o h)
    where
      by : (o : Option (List Mults)) → OneTold (rels ++ facts.above_zero r.form ∷ []) (at_most_shown rels r.form) found o
          → Good Q (if_shown o (shows_rest rels r)) (Told rels r.equal r.form found)
      by None h = inl h
      by (Some more) h = rest_good rels found r.equal r.form more h

  all_good : (rels : List Rel) (found : List Mults) (rs : List Rel)
      → Good Q (shows_all rels found rs) (AllTold rels rs found)
  all_good rels found [] = ([], sym (append-nil found), λ rest. refl)
  all_good rels found (r ∷ rs) =
      good_chain Q (shows rels found r) _ (Told rels r.equal r.form found)
      (AllTold rels (r ∷ rs) found) (shows_good rels found r)
      (λ o h. by (λ more. all_good rels more rs) o h)
    where
      joined : (more : List Mults) → More (shown_as rels r.equal r.form) found more → (last : List Mults)
          → More (all_shown rels (map sure rs)) more last → More (all_shown rels (map sure (r ∷ rs))) found last
      joined more h last k = (
        h.0 ++ k.0,
        k.1 ∙ (ap (λ x. x ++ k.0) h.1 ∙ append_assoc found h.0 k.0),
        λ rest. ap (λ l. and_then (all_shown rels (map sure rs)) (shown_as rels r.equal r.form l)) (append_assoc h.0 k.0 rest)
            ∙ (ap (and_then (all_shown rels (map sure rs))) (h.2 (k.0 ++ rest)) ∙ k.2 rest),
      )

      after : (more : List Mults) → More (shown_as rels r.equal r.form) found more → (o : Option (List Mults))
          → AllTold rels rs more o → AllTold rels (r ∷ rs) found o
      after more h None k = (k.0, Contains-append_right (r ∷ []) rs k.0 k.1, k.2)
      after more h (Some last) k = joined more h last k

      by : ((more : List Mults) → Good Q (shows_all rels more rs) (AllTold rels rs more))
          → (o : Option (List Mults)) → Told rels r.equal r.form found o
          → Good Q (if_shown o (λ more. shows_all rels more rs)) (AllTold rels (r ∷ rs) found)
      by rest None h = (r, first_there r rs, h)
      by rest (Some more) h =
          good_weaker Q (shows_all rels more rs) (AllTold rels rs more)
          (AllTold rels (r ∷ rs) found) (rest more) (λ o k. after more h o k)

  -- facts are shown by the multipliers that are found for them alone
  abbrev pub ShownBy : List Rel → List Rel → List Mults → Type 0
  ShownBy rels rs ms = all_shown rels (map sure rs) ms ≡ Gives []

  pub shown_good : (rels rs : List Rel) → Good Q (shows_all rels [] rs) (λ o. MatchOption o (UnshownAny rels rs) (ShownBy rels rs))
  shown_good rels rs =
      good_weaker Q (shows_all rels [] rs) (AllTold rels rs []) (λ o. MatchOption o (UnshownAny rels rs) (ShownBy rels rs))
      (all_good rels [] rs) (λ o h. by o h)
    where
      by : (o : Option (List Mults)) → AllTold rels rs [] o → MatchOption o (UnshownAny rels rs) (ShownBy rels rs)
      by None h = h
      by (Some ms) h =
          ap (all_shown rels (map sure rs)) (h.1 ∙ sym (append-nil h.0)) ∙ h.2 []
