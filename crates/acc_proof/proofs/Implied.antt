-- A sequent that has a proof is true.
use Rattle.std.proofs.Common.{◌≡◌, ℕ, zero, suc, Bool, true, false, List, [], ◌∷◌, ◌++◌, length, map, refl, ap, sym, ◌∙◌, subst, arith}
use Rattle.std.proofs.Common.{ℤ, pos, negsuc, if◌then◌else◌, Option, Some, None, ◌==◌}
use Rattle.std.specs.Prelude.{All, ◌≤ℤ◌, ◌||◌, slice_get}
use Rattle.std.proofs.lemmas.Int.{ints}
use Rattle.std.proofs.lemmas.Bool.Decides.{Decides-eqb, Decides-int_eq}
use Rattle.std.proofs.lemmas.List.{length-map}
use Rattle.acc_base.specs.declared.tables.Row.{Row}
use Rattle.acc_base.specs.declared.forms.Lin.{Lin}
use Rattle.acc_base.specs.declared.forms.Form.{Form}
use Rattle.acc_base.specs.declared.forms.Rel.{Rel}
use Rattle.acc_base.specs.declared.forms.Clause.{Clause}
use Rattle.acc_base.specs.declared.designs.Design.{Design}
use Rattle.acc_base.specs.declared.sequents.Sequent.{Sequent}
use Rattle.acc_base.specs.Forms.{is_zero}
use Rattle.acc_base.specs.TrueSequents.{IsAskedOf}
use Rattle.acc_base.specs.Linear.{lin_value, lin_values}
use Rattle.acc_base.specs.Truth.{unknown_value, form_value, rel_true, ClauseTrue}
use Rattle.acc_base.proofs.Items.{at_slice_get}
use Rattle.acc_base.specs.Sums.{form_sum}
use Rattle.acc_farkas.specs.declared.refuting.Mults.{Mults}
use Rattle.acc_axioms.specs.declared.nodes.Node.{Node}
use Rattle.acc_axioms.specs.declared.nodes.Node.TheVariants.{Split, Inst, Axiom, Leaf}
use Rattle.acc_proof.specs.Checked.{Checked, Gives, and_then}
use Rattle.acc_proof.specs.Facts.{one, below_zero, is_below_wide, above_zero, is_above_wide, refuted, all_shown, used_up}
use Rattle.acc_instanced.specs.Instances.{fact_at}
use Rattle.acc_axioms.specs.Axioms.{axiom_of}
use Rattle.acc_proof.specs.Proofs.{Branches, only, instance_of, sure, node_of, Proved, WideAt}
use Rattle.acc_proof.specs.Proofs.{walked, known_first, verdict}
use Rattle.acc_proof.specs.Laws.{ProofsImply}
use Rattle.acc_axioms.specs.Truths.{all_true}
use Rattle.acc_axioms.proofs.Tests.{le_yes, both_true, off_true, all_both}
use Rattle.acc_proof.proofs.GoingOn.{goes_on, not_wide, may}
use Rattle.acc_proof.proofs.Shows.{below_value, above_value, are_refuted, not_above, are_shown}
use Rattle.acc_proof.proofs.Walks.{IsOff, AreOff, NodesSound, all_off}
use Rattle.acc_axioms.proofs.AxiomTruths.{axiom_true}
use Rattle.acc_instanced.proofs.InstanceValues.{fact_at_true, facts_at_true}

all_used : {A : Type 0} (o : Checked A) (ms : List Mults) (y : A) → used_up o ms ≡ Gives y → o ≡ Gives y
all_used o [] y h = h
all_used o (m ∷ ms) y h = absurd (cc)

module _ (d : Design) (q : Sequent) (db : List Row) (env : List ℤ) (asked : IsAskedOf d q db env)
    (hyps : All (ClauseTrue db env) q.hyps) where
  -- what is known and one more relation
  with_one : (known : List Rel) (r : Rel) → all_true db env known ≡ true → rel_true db env r ≡ true → all_true db env (known ++ r ∷ [])
      ≡ true
  with_one known r h g =
      all_both (rel_true db env) known (r ∷ []) h (both_true (rel_true db env r) true g refl)

  -- the one branch of an instance or an axiom
  one_branch : (known added : List Rel) (bs : Branches) → Gives (added ∷ []) ≡ Gives bs → AreOff d q db env (map (λ b. known ++ b) bs)
      → all_true db env (known ++ added) ≡ true → ⊥
  one_branch known added bs e off h =
      let s : bs ≡ added ∷ [] = cc in
      let o = subst (λ (x : Branches). AreOff d q db env (map (λ b. known ++ b) x)) s off in
      o.0 h

  split_sound : (known : List Rel) (e : Form) (bs : Branches) → node_of d q known (Split e) ≡ Gives bs
      → AreOff d q db env (map (λ b. known ++ b) bs) → all_true db env known ≡ true → ⊥
  split_sound known e bs h off holds =
      let g = not_wide (is_below_wide e || is_above_wide e) (Gives ((below_zero e ∷ []) ∷ (is_zero e ∷ []) ∷ (above_zero e ∷ []) ∷ [])) bs h in
      let s : bs ≡ (below_zero e ∷ []) ∷ (is_zero e ∷ []) ∷ (above_zero e ∷ []) ∷ [] = cc in
      let o = subst (λ (x : Branches). AreOff d q db env (map (λ b. known ++ b) x)) s off in
      let low = below_value db env e in
      let high = above_value db env e in
      let not_low = λ (k : form_value db env e ≤ℤ negsuc 0). o.0
      (with_one known (below_zero e) holds (le_yes (form_value db env (form_sum e (pos 1) one)) (pos 0) (omega (arith, ints, low, k)))) in
      let not_zero = λ (k : form_value db env e ≡ pos 0). o.1.0
      (with_one known (is_zero e) holds ((Decides-int_eq (form_value db env e) (pos 0)).1 k)) in
      let not_high = λ (k : pos 1 ≤ℤ form_value db env e). o.1.1.0
      (with_one known (above_zero e) holds
      (le_yes (form_value db env (form_sum one (negsuc 0) e)) (pos 0) (omega (arith, ints, high, k)))) in
      by (form_value db env e) not_low not_zero not_high
    where
      by : (v : ℤ) → (v ≤ℤ negsuc 0 → ⊥) → (v ≡ pos 0 → ⊥) → (pos 1 ≤ℤ v → ⊥) → ⊥
      by (pos zero) a b c = b refl
      by (pos (suc n)) a b c = c (omega (arith, ints))
      by (negsuc n) a b c = a (omega (arith, ints))

  instance_sound : (n : ℕ) → n ≡ length env → (known : List Rel) (o : Option Clause) (h : ℕ) → slice_get q.hyps h ≡ o
      → (ls : List Lin) (ms : List Mults) (bs : Branches) → instance_of n known o ls ms ≡ Gives bs
      → AreOff d q db env (map (λ b. known ++ b) bs) → all_true db env known ≡ true → ⊥
  instance_sound n e known None h g ls ms bs i off holds = absurd (cc)
  instance_sound n e known (Some c) h g ls ms bs i off holds =
      let j = ap (λ (x : ℕ). instance_of x known (Some c) ls ms) (sym e) ∙ i in
      let p = may (length ls == length c.vars)
      (and_then (used_up (only (fact_at (length env) ls c.rel))) (all_shown known (map (fact_at (length env) ls) c.guards) ms)) bs j in
      let parts = goes_on (used_up (only (fact_at (length env) ls c.rel)))
      (all_shown known (map (fact_at (length env) ls) c.guards) ms) bs p.1 in
      let guards = sym (facts_at_true ls db env c.guards)
      ∙ are_shown db env known holds (map (fact_at (length env) ls) c.guards) ms parts.0 parts.1 in
      let clause = at_slice_get (ClauseTrue db env) q.hyps h c hyps g in
      let conclusion = clause (lin_values env ls)
      (length-map ls (lin_value env) ∙ (Decides-eqb (length ls) (length c.vars)).0 p.0) guards in
      let added = fact_at_true ls db env c.rel ∙ conclusion in
      let given = not_wide (fact_at (length env) ls c.rel).wide (Gives (((fact_at (length env) ls c.rel).rel ∷ []) ∷ [])) bs
      (all_used (only (fact_at (length env) ls c.rel)) parts.0 bs parts.2) in
      one_branch known ((fact_at (length env) ls c.rel).rel ∷ []) bs given off
      (with_one known (fact_at (length env) ls c.rel).rel holds added)

  sure_facts : (rs : List Rel) → map (λ f. f.rel) (map sure rs) ≡ rs
  sure_facts [] = refl
  sure_facts (r ∷ rs) = ap (λ xs. r ∷ xs) (sure_facts rs)

  sound : NodesSound d q db env
  sound known (Split e) bs h off holds = split_sound known e bs h off holds
  sound known (Inst h ls ms) bs i off holds =
      instance_sound q.vars (sym asked.vars) known (slice_get q.hyps h) h refl ls ms bs i off holds
  sound known (Axiom x ms) bs h off holds =
      let p = may (axiom_of d q x).may (and_then (used_up (Gives ((axiom_of d q x).added ∷ [])))
      (all_shown known (map sure (axiom_of d q x).facts) ms)) bs h in
      let parts = goes_on (used_up (Gives ((axiom_of d q x).added ∷ []))) (all_shown known (map sure (axiom_of d q x).facts) ms) bs p.1 in
      let facts = ap (all_true db env) (sym (sure_facts (axiom_of d q x).facts))
      ∙ are_shown db env known holds (map sure (axiom_of d q x).facts) ms parts.0 parts.1 in
      let added = axiom_true d q db env asked x p.0 facts in
      one_branch known (axiom_of d q x).added bs (all_used (Gives ((axiom_of d q x).added ∷ [])) parts.0 bs parts.2) off
      (all_both (rel_true db env) known (axiom_of d q x).added holds added)
  sound known (Leaf m) bs h off holds =
      let parts = goes_on (used_up (Gives [])) (refuted known (m ∷ [])) bs h in
      are_refuted known (m ∷ []) parts.0 parts.1 (unknown_value db env) refl holds

  goal_met : all_true db env q.rels ≡ true → IsOff d q db env (known_first q) → form_value db env q.goal ≤ℤ pos 0
  goal_met rels off =
      not_above db env q.rels rels q.goal (off_true (rel_true db env (above_zero q.goal)) (λ e. off (with_one q.rels (above_zero q.goal) rels e)))

  walked_all : (b : Bool) (nodes : List Node) → (if b then WideAt 0 else walked d q 0 nodes (known_first q ∷ [])) ≡ Proved
      → walked d q 0 nodes (known_first q ∷ []) ≡ Proved
  walked_all true nodes h = absurd (cc)
  walked_all false nodes h = h

  pub is_true : all_true db env q.rels ≡ true → (nodes : List Node) → verdict d q nodes ≡ Proved → form_value db env q.goal ≤ℤ pos 0
  is_true rels nodes h =
      let off = all_off d q db env sound 0 nodes (known_first q ∷ []) (walked_all (is_above_wide q.goal) nodes h) in
      goal_met rels off.0

pub proofs_imply : ProofsImply
proofs_imply d q nodes h db env asked hyps rels =
    le_yes (form_value db env q.goal) (pos 0) (is_true d q db env asked hyps rels nodes h)
