-- The obligations that are tried are the design's own: each that comes from the step of the question, as one that spares its held point.
use Rattle.std.proofs.Common.{List, [], ◌∷◌, ◌++◌}
use Rattle.std.specs.List.{AllByRecursion, Contains}
use Rattle.std.proofs.lemmas.List.Elements.{All-contains_itself, recursion_from_All}
use Rattle.acc_base.specs.declared.designs.Design.{Design}
use Rattle.acc_preconditions.proofs.Alls.{all-append}
use Rattle.acc_oblig.specs.Drafts.{Draft}
use Rattle.acc_oblig.specs.PathPromises.{promise_drafts, always_drafts, there_drafts, empty_drafts}
use Rattle.acc_oblig.specs.Spares.{all_spare_drafts}
use Rattle.acc_oblig.specs.PointRules.{begin_drafts, variant_drafts, clear_drafts}
use Rattle.acc_oblig.specs.Ranges.{range_drafts}
use Rattle.acc_oblig.specs.Laws.{drafts_of}
use Rattle.acc_oblig.proofs.Listed.{all_front, all_back}
use Rattle.acc_advise.specs.declared.advice.Question.{Question}
use Rattle.acc_advise.specs.Laws.{TriesOwn}
use Rattle.acc_advise.proofs.Owning.{IsTried, tried_of_all, tried_from, spares_tried}
use Rattle.acc_advise.proofs.OtherRules.{IsOther, others_begin, others_promise, others_always, others_there, others_ranges, others_variants}
use Rattle.acc_advise.proofs.OtherRules.{others_clear, others_empty}

module _ (d : Design) where
  -- those of the rules behind the one that spares
  abbrev pub ending : List Draft
  ending = clear_drafts d ++ empty_drafts d

  abbrev pub later : List Draft
  later = there_drafts d ++ (range_drafts d ++ (variant_drafts d ++ ending))

  both : (xs ys : List Draft) → AllByRecursion IsOther xs → AllByRecursion IsOther ys → AllByRecursion IsOther (xs ++ ys)
  both xs ys h k = all-append IsOther xs ys h k

  later_others : AllByRecursion IsOther later
  later_others =
      both (there_drafts d) (range_drafts d ++ (variant_drafts d ++ ending)) (others_there d)
      (both (range_drafts d) (variant_drafts d ++ ending) (others_ranges d)
      (both (variant_drafts d) ending (others_variants d) (both (clear_drafts d) (empty_drafts d) (others_clear d) (others_empty d))))

  pub own_spares : AllByRecursion (Contains (drafts_of d)) (all_spare_drafts d)
  own_spares =
      let P = Contains (drafts_of d) in
      let spares = all_spare_drafts d in
      all_front P spares later (all_back P (always_drafts d) (spares ++ later)
      (all_back P (promise_drafts d) (always_drafts d ++ (spares ++ later))
      (all_back P (begin_drafts d) (promise_drafts d ++ (always_drafts d ++ (spares ++ later)))
      (recursion_from_All P (drafts_of d) (All-contains_itself (drafts_of d))))))

module _ (d : Design) (q : Question) where
  others_tried : (xs : List Draft) → AllByRecursion IsOther xs → AllByRecursion (IsTried d q) xs
  others_tried [] h = tt
  others_tried (x ∷ xs) h = ((λ asked. absurd (h.0 asked.0)), others_tried xs h.1)

  each_tried : AllByRecursion (IsTried d q) (drafts_of d)
  each_tried =
      let spares = all_spare_drafts d in
      all-append (IsTried d q) (begin_drafts d) (promise_drafts d ++ (always_drafts d ++ (spares ++ later d)))
      (others_tried (begin_drafts d) (others_begin d))
      (all-append (IsTried d q) (promise_drafts d) (always_drafts d ++ (spares ++ later d)) (others_tried (promise_drafts d) (others_promise d))
      (all-append (IsTried d q) (always_drafts d) (spares ++ later d) (others_tried (always_drafts d) (others_always d))
      (all-append (IsTried d q) spares (later d) (spares_tried d q) (others_tried (later d) (later_others d)))))

  pub tries_own : TriesOwn d q
  tries_own = record {
    asked = tried_from d q;
    own = tried_of_all (Contains (drafts_of d)) d q (own_spares d);
    each = each_tried;
  }
