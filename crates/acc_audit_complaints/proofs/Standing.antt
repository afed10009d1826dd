-- A clause with which nothing was wrong before some writes, and that reads no table that they change, stays so.
use Rattle.std.proofs.Common.{◌≡◌, ℕ, ◌+◌, ◌==◌, Bool, false, ◌&&◌, ◌||◌, List, [], ◌∷◌, ◌++◌, length, map, drop, refl, sym, ap, ◌∙◌, Option, Some, None, ℤ}
use Rattle.std.proofs.Common.{slice_get, if◌then◌else◌, subst}
use Rattle.std.specs.Prelude.{nat_le}
use Rattle.std.specs.List.{list_any, AllByRecursion}
use Rattle.std.proofs.lemmas.Bool.{or_parts}
use Rattle.acc_base.specs.declared.tables.Row.{Row}
use Rattle.acc_base.specs.declared.forms.Lin.{Lin}
use Rattle.acc_base.specs.declared.forms.Rel.{Rel}
use Rattle.acc_base.specs.declared.forms.Clause.{Clause}
use Rattle.acc_base.specs.Atoms.{table_of, key_of}
use Rattle.acc_base.specs.Sums.{Term}
use Rattle.acc_base.specs.Tables.{Place}
use Rattle.acc_formed.specs.Widths.{is_variable}
use Rattle.acc_store.specs.declared.writes.Write.{Write}
use Rattle.acc_store.specs.Rows.{written}
use Rattle.acc_index_store.specs.Indexes.{place_written}
use Rattle.acc_audit_ranges.specs.Ranges.{same, is_part, parts_have, key_gives, table_gives, term_gives, rel_gives, clause_gives, IsRange}
use Rattle.acc_audit_complaints.specs.declared.counts.TheConstants.{MOST_TUPLES}
use Rattle.acc_audit_complaints.specs.declared.searches.Complaint.{Complaint}
use Rattle.acc_audit_complaints.specs.declared.searches.Complaint.TheVariants.{Large}
use Rattle.acc_audit_complaints.specs.Tuples.{tuples}
use Rattle.acc_audit_complaints.specs.Complaints.{after_trial, first_bad, judged, Judges}
use Rattle.acc_audit_complaints.specs.Since.{is_written, term_reads, rel_reads, clause_reads, WasClear}
use Rattle.acc_audit_ranges.proofs.Unnamed.{none_weaker, same_any}
use Rattle.acc_audit_complaints.proofs.Unwritten.{trial_same, clause_unread}

module _ (ws : List Write) (before : List Row) where
  abbrev now : List Row
  now = written ws before

  -- ---- the ranges

  parts_same : (t j : ℕ) (q : ℤ) → list_any (λ w. (place_written w).0 == t) ws ≡ false → parts_have now t j q ≡ parts_have before t j q
  parts_same t j q none = same_any ws before test (none_weaker (λ w. test (place_written w)) (λ w. (place_written w).0 == t)
      (λ w e. ap (λ b. b && is_part q (slice_get (place_written w).1 j)) e) ws none)
    where
      test : Place → Bool
      test p = (p.0 == t) && is_part q (slice_get p.1 j)

  module _ (v : ℕ) (q : ℤ) where
    key_same : (t j : ℕ) (ls : List Lin) → list_any (λ w. (place_written w).0 == t) ws ≡ false →
        key_gives now t v q j ls ≡ key_gives before t v q j ls
    key_same t j [] none = refl
    key_same t j (l ∷ ls) none =
        λ i. (is_variable v l && parts_same t j q none i) || key_same t (j + 1) ls none i

    table_same : (o : Option ℕ) (ls : List Lin) → is_written ws o ≡ false → table_gives now o v q ls ≡ table_gives before o v q ls
    table_same None ls none = refl
    table_same (Some t) ls none = key_same t 0 ls none

    terms_same : (ts : List Term) → list_any (term_reads ws) ts ≡ false →
        list_any (term_gives now v q) ts ≡ list_any (term_gives before v q) ts
    terms_same [] none = refl
    terms_same (t ∷ ts) none =
        let parts = or_parts (term_reads ws t) (list_any (term_reads ws) ts) none in
        λ i. table_same (table_of t.0.atom) (key_of t.0.atom) parts.0 i || terms_same ts parts.1 i

    guards_same : (gs : List Rel) → list_any (rel_reads ws) gs ≡ false →
        list_any (rel_gives now v q) gs ≡ list_any (rel_gives before v q) gs
    guards_same [] none = refl
    guards_same (g ∷ gs) none =
        let parts = or_parts (rel_reads ws g) (list_any (rel_reads ws) gs) none in
        λ i. terms_same g.form.terms parts.0 i || guards_same gs parts.1 i

    clause_same : (c : Clause) → clause_reads ws c ≡ false → clause_gives now v q c ≡ clause_gives before v q c
    clause_same c none =
        let parts = or_parts (list_any (rel_reads ws) c.guards) (rel_reads ws c.rel) none in
        λ i. guards_same c.guards parts.0 i || terms_same c.rel.form.terms parts.1 i

  module _ (env : List ℤ) (c : Clause) (none : clause_reads ws c ≡ false) where
    range_same : (v : ℕ) (values : List ℤ) → IsRange before env c v values → IsRange now env c v values
    range_same v values r = record {
      rising = r.rising;
      each = λ q. r.each q ∙ ap (λ b. (same (Rattle.std.specs.Prelude.pos 0) q || list_any (λ x. same x q) env) || b) (sym (clause_same v q c none));
    }

    -- ---- the tuples

    bad_same : (n : ℕ) (values : List (List ℤ)) → first_bad now c n values ≡ first_bad before c n values
    bad_same n [] = refl
    bad_same n (v ∷ rest) =
        λ i. after_trial (drop n v) (trial_same ws before v c (clause_unread ws v c none) i) (bad_same n rest i)

    judged_same : (ranges : List (List ℤ)) → judged now env c ranges ≡ judged before env c ranges
    judged_same ranges =
        ap (λ o. if nat_le (length (tuples ranges)) MOST_TUPLES then o else Some Large)
        (bad_same (length env) (map (λ own. env ++ own) (tuples ranges)))

    -- what is wrong with it is the same as before
    pub stands : (found : Option Complaint) → Judges before env c found → Judges now env c found
    stands found j = record {
      ranges = j.ranges;
      are_ranges = record {
        each_has = j.are_ranges.each_has;
        each = λ i r e. range_same (length env + i) r (j.are_ranges.each i r e);
      };
      tells = j.tells ∙ sym (judged_same j.ranges);
    }

-- a clause that reads no table that is written
pub clear_since : (ws : List Write) (db : List Row) (env : List ℤ) (c : Clause) → WasClear ws db env c → clause_reads ws c ≡ false →
    Judges db env c None
clear_since ws db env c was none =
    subst (λ rows. Judges rows env c None) (sym was.led) (stands ws was.before env c none None was.clear)
