-- What writes leave as it was: the values of atoms that read no row that is written, and the trial of a clause.
use Rattle.std.proofs.Common.{◌≡◌, ℕ, ◌==◌, Bool, true, false, ◌&&◌, List, [], ◌∷◌, map, refl, sym, ap, ◌∙◌, Some, None, ℤ}
use Rattle.std.proofs.Common.{pos}
use Rattle.std.specs.Prelude.{if◌then◌else◌, option_map}
use Rattle.std.specs.List.{list_any, list_all, AllByRecursion}
use Rattle.std.specs.Ordering.{is_eq}
use Rattle.std.proofs.lemmas.Bool.{or_parts}
use Rattle.std.proofs.lemmas.Bool.Decides.{Decides-eqb}
use Rattle.acc_base.specs.declared.tables.Row.{Row}
use Rattle.acc_base.specs.declared.forms.Atom.{Atom}
use Rattle.acc_base.specs.declared.forms.Atom.TheVariants.{One, Var, Has, Col, Count, Sum}
use Rattle.acc_base.specs.declared.forms.Rel.{Rel}
use Rattle.acc_base.specs.declared.forms.Clause.{Clause}
use Rattle.acc_base.specs.Atoms.{table_of, key_of}
use Rattle.acc_base.specs.Linear.{lin_values, meets}
use Rattle.acc_base.specs.Numbers.{total}
use Rattle.acc_base.specs.Sums.{Term}
use Rattle.acc_base.specs.Tables.{Place, place_cmp, cell, cell_of}
use Rattle.acc_base.specs.Truth.{atom_value, is_lin_zero}
use Rattle.acc_store.specs.declared.writes.Write.{Write}
use Rattle.acc_store.specs.Rows.{written, is_below}
use Rattle.acc_index_store.specs.Indexes.{place_written}
use Rattle.acc_index_store.proofs.Naming.{place_is}
use Rattle.acc_audit_ranges.proofs.Unnamed.{none_weaker, same_filter, same_find, same_any, same_count}
use Rattle.acc_audit_trial.specs.Worths.{is_near, times_near, term_worth, summed, with_constant, rel_worth}
use Rattle.acc_audit_trial.specs.Trials.{and_met, all_met, told_by, trial_of}
use Rattle.acc_audit_complaints.specs.Since.{is_written, term_reads, rel_reads, clause_reads, reads_at}

nothing_any : {X : Type 0} (xs : List X) → list_any (λ x. false) xs ≡ false
nothing_any [] = refl
nothing_any (x ∷ xs) = nothing_any xs

-- ---- atoms that read no row that is written

abbrev pub IsUnread : List Write → List ℤ → Atom → Type 0
IsUnread ws env a = list_any (λ w. reads_at env a (place_written w)) ws ≡ false

abbrev pub TermsUnread : List Write → List ℤ → List Term → Type 0
TermsUnread ws env ts = AllByRecursion (λ t. IsUnread ws env t.0.atom) ts

pub record ClauseUnread (ws : List Write) (env : List ℤ) (c : Clause) : Type 0 where
  pub guards : AllByRecursion (λ r. TermsUnread ws env r.form.terms) c.guards
  pub rel : TermsUnread ws env c.rel.form.terms

module _ (ws : List Write) (before : List Row) (env : List ℤ) where
  abbrev later : List Row
  later = written ws before

  atom_same : (a : Atom) → IsUnread ws env a → atom_value later env a ≡ atom_value before env a
  atom_same One h = refl
  atom_same (Var x) h = refl
  atom_same (Has t k) h = ap (λ b. if b then pos 1 else pos 0) (same_any ws before (reads_at env (Has t k)) h)
  atom_same (Col t k c) h = ap (cell_of c) (same_find ws before (reads_at env (Col t k c)) h)
  atom_same (Count t p) h = ap pos (same_count ws before (reads_at env (Count t p)) h)
  atom_same (Sum t p c) h = ap (λ rows. total (map (cell c) rows)) (same_filter ws before (reads_at env (Sum t p c)) h)

  term_same : (t : Term) → IsUnread ws env t.0.atom → term_worth later env t ≡ term_worth before env t
  term_same t h =
      ap (λ v. times_near t.1 (if list_all (is_near env) (key_of t.0.atom) then Some (if list_all (is_lin_zero env) t.0.under then v
      else pos 0) else None)) (atom_same t.0.atom h)

  terms_same : (ts : List Term) → TermsUnread ws env ts → map (term_worth later env) ts ≡ map (term_worth before env) ts
  terms_same [] h = refl
  terms_same (t ∷ ts) h = λ i. term_same t h.0 i ∷ terms_same ts h.1 i

  rel_same : (r : Rel) → TermsUnread ws env r.form.terms → rel_worth later env r ≡ rel_worth before env r
  rel_same r h =
      ap (λ xs. option_map (meets r.equal) (with_constant r.form.constant (summed (pos 0) xs))) (terms_same r.form.terms h)

  guards_same : (gs : List Rel) → AllByRecursion (λ r. TermsUnread ws env r.form.terms) gs → all_met later env gs ≡ all_met before env gs
  guards_same [] h = refl
  guards_same (g ∷ gs) h = λ i. and_met (rel_same g h.0 i) (guards_same gs h.1 i)

  -- the trial tells the same
  pub trial_same : (c : Clause) → ClauseUnread ws env c → trial_of later env c ≡ trial_of before env c
  trial_same c h = λ i. told_by (guards_same c.guards h.guards i) (rel_same c.rel h.rel i)

-- ---- clauses of whose tables none is written

other_place : (t : ℕ) (k : List ℤ) (p : Place) → (p.0 == t) ≡ false → is_eq (place_cmp (t, k) p) ≡ false
other_place t k p h = by (is_eq (place_cmp (t, k) p)) refl
  where
    by : (b : Bool) → is_eq (place_cmp (t, k) p) ≡ b → b ≡ false
    by false e = refl
    by true e = sym ((Decides-eqb p.0 t).1 (sym (ap (λ (q : Place). q.0) (place_is (t, k) p e)))) ∙ h

other_below : (t : ℕ) (k : List ℤ) (p : Place) → (p.0 == t) ≡ false → is_below t k p ≡ false
other_below t k p h = ap (λ b. b && Rattle.std.specs.List.starts_with Rattle.std.specs.Ordering.int_eq p.1 k) h

module _ (ws : List Write) (env : List ℤ) where
  pub atom_unread : (a : Atom) → is_written ws (table_of a) ≡ false → IsUnread ws env a
  atom_unread One h = nothing_any ws
  atom_unread (Var x) h = nothing_any ws
  atom_unread (Has t k) h =
      none_weaker (λ w. reads_at env (Has t k) (place_written w)) (λ w. (place_written w).0 == t)
      (λ w e. other_place t (lin_values env k) (place_written w) e) ws h
  atom_unread (Col t k c) h =
      none_weaker (λ w. reads_at env (Col t k c) (place_written w)) (λ w. (place_written w).0 == t)
      (λ w e. other_place t (lin_values env k) (place_written w) e) ws h
  atom_unread (Count t p) h =
      none_weaker (λ w. reads_at env (Count t p) (place_written w)) (λ w. (place_written w).0 == t)
      (λ w e. other_below t (lin_values env p) (place_written w) e) ws h
  atom_unread (Sum t p c) h =
      none_weaker (λ w. reads_at env (Sum t p c) (place_written w)) (λ w. (place_written w).0 == t)
      (λ w e. other_below t (lin_values env p) (place_written w) e) ws h

  terms_unread : (ts : List Term) → list_any (term_reads ws) ts ≡ false → TermsUnread ws env ts
  terms_unread [] h = tt
  terms_unread (t ∷ ts) h =
      let parts = or_parts (term_reads ws t) (list_any (term_reads ws) ts) h in (atom_unread t.0.atom parts.0, terms_unread ts parts.1)

  guards_unread : (gs : List Rel) → list_any (rel_reads ws) gs ≡ false → AllByRecursion (λ r. TermsUnread ws env r.form.terms) gs
  guards_unread [] h = tt
  guards_unread (g ∷ gs) h =
      let parts = or_parts (rel_reads ws g) (list_any (rel_reads ws) gs) h in
      (terms_unread g.form.terms parts.0, guards_unread gs parts.1)

  pub clause_unread : (c : Clause) → clause_reads ws c ≡ false → ClauseUnread ws env c
  clause_unread c h =
      let parts = or_parts (list_any (rel_reads ws) c.guards) (rel_reads ws c.rel) h in
      record { guards = guards_unread c.guards parts.0; rel = terms_unread c.rel.form.terms parts.1 }
