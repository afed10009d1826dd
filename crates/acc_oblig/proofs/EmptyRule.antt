-- Where the obligations on no rows are true, what holds always is true of none.
use Rattle.std.proofs.Common.{◌≡◌, ◌≢◌, ℕ, ◌+◌, [], refl, ap, arith, Some, None}
use Rattle.std.specs.Prelude.{slice_get, All}
use Rattle.std.specs.List.{AllByRecursion}
use Rattle.std.proofs.lemmas.List.Elements.{All-from_recursion, All-nil}
use Rattle.acc_base.specs.declared.forms.Clause.{Clause}
use Rattle.acc_base.specs.declared.tables.Row.{Row}
use Rattle.acc_base.specs.declared.designs.Design.{Design}
use Rattle.acc_base.specs.declared.designs.Side.TheVariants.{Next}
use Rattle.acc_base.specs.declared.sequents.Rule.TheVariants.{Begins, Empty}
use Rattle.acc_base.specs.Numbers.{IsSmall}
use Rattle.acc_base.specs.Tables.{IsInOrder}
use Rattle.std.specs.List.Sorted.{IsStrictlySortedBy}
use Rattle.acc_base.specs.Linear.{var}
use Rattle.acc_base.specs.Truth.{ClauseTrue}
use Rattle.acc_base.specs.Assertions.{Always}
use Rattle.acc_base.specs.Shapes.{RowFits}
use Rattle.acc_formed.specs.WellFormed.{IsWellFormed}
use Rattle.acc_formed.proofs.InRange.{design_range}
use Rattle.acc_base.specs.Fits.{RowsFit}
use Rattle.acc_oblig.specs.Drafts.{clause_drafts}
use Rattle.acc_oblig.specs.PathPromises.{empty_drafts}
use Rattle.acc_oblig.proofs.Names.{agrees_by}
use Rattle.acc_oblig.proofs.Judged.{DraftTrue, clause_after}
use Rattle.acc_oblig.proofs.Listed.{each_at}
use Rattle.acc_oblig.proofs.OnPath.{clauses_fit}
use Rattle.acc_oblig.proofs.StepPlaces.{by_places}

module _ (d : Design) (wf : IsWellFormed d) (h : AllByRecursion (DraftTrue d) (empty_drafts d)) where
  in_order : IsInOrder []
  unfolding IsStrictlySortedBy
  in_order = tt

  no_rows_fit : RowsFit d []
  no_rows_fit = record {
    shapes = All-nil (RowFits d.tables);
    order = in_order;
    keys = All-nil (λ (r : Row). All IsSmall r.key.parts);
    few = omega arith;
  }

  pub empty_always : Always d []
  empty_always = All-from_recursion (ClauseTrue [] []) d.always (by_places (ClauseTrue [] []) d.always at)
    where
      not_begins : Empty ≢ Begins
      not_begins e = cc

      at : (k : ℕ) (c : Clause) → slice_get d.always k ≡ Some c → ClauseTrue [] [] c
      at k c e =
          clause_after d [] no_rows_fit (λ case. record
          { rule = Empty; held = None; clause = k + 1; at = None; side = Next; path = 0; case = case }) (λ vars. []) (λ vars. [])
          (λ vars. [])
          [] 0 [] [] c
          (each_at (DraftTrue d) (λ n z. clause_drafts
          (λ case. record { rule = Empty; held = None; clause = n + 1; at = None; side = Next; path = 0; case = case }) (λ vars. [])
          (λ vars. []) (λ vars. []) [] 0 z) d.always k c h e)
          (clauses_fit d [] 128 0 d.always wf.always (design_range d wf.in_range).always k c e) (λ own long. (
            own,
            record {
              long = omega (arith, long);
              asks = λ q. record { empty = λ z. refl; fresh = λ z. absurd (not_begins z) };
              hyps_true = tt;
              rels_true = refl;
              acts_fit = tt;
              there = tt;
              leaves = refl;
              agree = agrees_by [] 0 own [] own refl (λ j. let n : 0 + j ≡ j = omega arith in ap (var own) n);
            },
          ))
