-- What is told of a design is what its obligations' searches say.
use Rattle.std.proofs.Common.{◌≡◌, ℕ, true, zero, suc, List, [], ◌∷◌, ◌++◌, length, Ok, Err, Some, None, refl, sym, ap, subst, ◌∙◌}
use Rattle.std.specs.Prelude.{IsTrue, Result, IfOk}
use Rattle.std.specs.List.{AllByRecursion, list_all}
use Rattle.std.proofs.lemmas.List.Elements.{All-from_recursion, recursion_from_All}
use Rattle.acc_base.specs.declared.designs.Design.{Design}
use Rattle.acc_base.specs.declared.sequents.Origin.{Origin}
use Rattle.acc_base.specs.declared.sequents.Sequent.{Sequent}
use Rattle.acc_axioms.specs.declared.nodes.Node.{Node}
use Rattle.acc_axioms.specs.declared.nodes.Proof.{Proof}
use Rattle.acc_axioms.specs.declared.nodes.Cert.{Cert}
use Rattle.acc_axioms.proofs.Tests.{both_true}
use Rattle.acc_cert_bounds.specs.InBounds.{proof as is_in_bounds, cert as is_cert_in_bounds}
use Rattle.acc_prover.specs.BranchCourses.{Course}
use Rattle.acc_formed.specs.WellFormed.{IsWellFormed}
use Rattle.acc_oblig.specs.Laws.{drafts_of, sequents_of}
use Rattle.acc_accept.specs.Causes.{first_wide}
use Rattle.acc_accept.specs.Accepting.{IsProved, AreProved, Accepts}
use Rattle.acc_accept.proofs.Soundness.{accepted_is_sound}
use Rattle.acc_prover.specs.Courses.{IsProof}
use Rattle.acc_prover.specs.Tellings.{Closes}
use Rattle.acc_cert_prove.specs.declared.proving.Proving.{Proving}
use Rattle.acc_cert_prove.specs.declared.proving.Proving.TheVariants.{Proved, Open, Wide}
use Rattle.acc_cert_prove.specs.Lines.{searched, open_line, open_lines}
use Rattle.acc_cert_prove.specs.Provings.{IsWritten, IsCertified, Proves}
use Rattle.acc_cert_prove.specs.Founds.{Gives, GivesAll, ProvesAll}

none_some : {X : Type 0} (x : X) → None ≡ Some x → ⊥
none_some x e = cc

some_same : {X : Type 0} (x y : X) → Some x ≡ Some y → x ≡ y
some_same x y e = cc

never : (x : ℕ) (xs : List ℕ) → x ∷ xs ≡ [] → ⊥
never x xs e = cc

-- ---- lines

both_empty : (xs ys : List ℕ) → xs ++ ys ≡ [] → (xs ≡ []) × (ys ≡ [])
both_empty [] ys h = (refl, h)
both_empty (x ∷ xs) ys h = absurd (never x (xs ++ ys) h)

no_line_closes : (d : Design) (o : Origin) (c : Course (List Node)) → open_line d o c ≡ [] → Closes c
no_line_closes d o (Ok nodes) h = tt
no_line_closes d o (Err e) h = never _ _ h

closed_line : (d : Design) (o : Origin) (c : Course (List Node)) → Closes c → open_line d o c ≡ []
closed_line d o (Ok nodes) h = refl
closed_line d o (Err e) h = absurd h

module _ (d : Design) where
  no_lines_close : (qs : List Sequent) → open_lines d qs ≡ [] → AllByRecursion (λ q. Closes (searched d q)) qs
  no_lines_close [] h = tt
  no_lines_close (q ∷ qs) h =
      let parts = both_empty (open_line d q.origin (searched d q)) (open_lines d qs) h in
      (no_line_closes d q.origin (searched d q) parts.0, no_lines_close qs parts.1)

  closed_lines : (qs : List Sequent) → AllByRecursion (λ q. Closes (searched d q)) qs → open_lines d qs ≡ []
  closed_lines [] h = refl
  closed_lines (q ∷ qs) h = ap (λ xs. xs ++ open_lines d qs) (closed_line d q.origin (searched d q) h.0) ∙ closed_lines qs h.1

  -- ---- proofs

  one_proof : (q : Sequent) (c : Course (List Node)) (ps : List Proof) → Closes c → Gives d q c ps
      → (p : Proof) × (ps ≡ p ∷ []) × IsProof d q p.nodes × IsTrue (is_in_bounds p)
  one_proof q (Ok nodes) ps h g = g
  one_proof q (Err e) ps h g = absurd h

  in_front : (q : Sequent) (qs : List Sequent) (p : Proof) (ps : List Proof) → IsProof d q p.nodes → AreProved d qs ps
      → AreProved d (q ∷ qs) (p ∷ ps)
  in_front q qs p ps h k zero r e = subst (λ s. IsProved d s (Some p)) (some_same q r e) h
  in_front q qs p ps h k (suc n) r e = k n r e

  all_proved : (qs : List Sequent) (ps : List Proof) → AllByRecursion (λ q. Closes (searched d q)) qs → GivesAll d qs ps
      → AreProved d qs ps × (length ps ≡ length qs) × (list_all is_in_bounds ps ≡ true)
  all_proved [] ps h g = (λ n r e. absurd (none_some r e), ap length g, ap (list_all is_in_bounds) g)
  all_proved (q ∷ qs) ps h (first, rest, e, g, all) =
      let one = one_proof q (searched d q) first h.0 g in
      let more = all_proved qs rest h.1 all in
      let is : ps ≡ one.0 ∷ rest = e ∙ ap (λ xs. xs ++ rest) one.1 in (
        subst (AreProved d (q ∷ qs)) (sym is) (in_front q qs one.0 rest one.2 more.0),
        ap length is ∙ ap suc more.1,
        ap (list_all is_in_bounds) is ∙ both_true (is_in_bounds one.0) (list_all is_in_bounds rest) one.3 more.2,
      )

  -- ---- the whole

  certified : (ps : List Proof) (text : List ℕ) → IsWellFormed d → first_wide (drafts_of d) ≡ None → GivesAll d (sequents_of d) ps
      → open_lines d (sequents_of d) ≡ [] → (IsTrue (is_cert_in_bounds (record { proofs = ps })) → IsWritten (record { proofs = ps }) text)
      → IsCertified d text
  certified ps text formed narrow gives none written =
      let closes = no_lines_close (sequents_of d) none in
      let proved = all_proved (sequents_of d) ps closes gives in
      let c : Cert = record { proofs = ps } in
      let accepts : Accepts d c = record { formed = formed; narrow = narrow; proved = proved.0 } in
      record {
        narrow = narrow;
        closes = All-from_recursion (λ q. Closes (searched d q)) (sequents_of d) closes;
        c = c;
        whole = proved.1;
        accepts = accepts;
        sound = accepted_is_sound d c accepts;
        written = written proved.2;
      }

  told : (r : Proving) → IsWellFormed d → first_wide (drafts_of d) ≡ None → ProvesAll d (sequents_of d) r → Proves d r
  told (Proved text) formed narrow (ps, gives, (none, written)) = certified ps text.items formed narrow gives none written
  told (Open text) formed narrow (ps, gives, (some, says)) = record {
    narrow = narrow;
    not_all = λ closes. some (closed_lines (sequents_of d) (recursion_from_All (λ q. Closes (searched d q)) (sequents_of d) closes));
    says = says;
  }
  told (Wide text) formed narrow (ps, gives, not_wide) = absurd not_wide

  all_told : (qs : List Sequent) (r : Proving) → IsWellFormed d → qs ≡ sequents_of d → first_wide (drafts_of d) ≡ None
      → ProvesAll d qs r → Proves d r
  all_told qs r formed same narrow h = told r formed narrow (subst (λ xs. ProvesAll d xs r) same h)

  pub all_told_if : {E : Type 0} (qs : List Sequent) (r : Result Proving E) → IsWellFormed d → qs ≡ sequents_of d
      → first_wide (drafts_of d) ≡ None → IfOk r (ProvesAll d qs) → IfOk r (Proves d)
  all_told_if qs (Ok x) formed same narrow h = all_told qs x formed same narrow h
  all_told_if qs (Err e) formed same narrow h = tt
