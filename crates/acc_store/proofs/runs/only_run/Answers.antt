use Rattle.std.proofs.Common.{◌≡◌, ◌∙◌, List, [], ◌∷◌, length, ap, sym, arith, rules, Some, false}
use Rattle.std.specs.Prelude.{slice_get}
use Rattle.std.specs.Ordering.{is_gt}
use Rattle.std.specs.BTreeMap.{BTreeMap}
use Rattle.acc_base.specs.Tables.{Place, place_cmp}
use Rattle.acc_store.specs.Contents.{Content}
use Rattle.acc_store.specs.Runs.{seen}
use Rattle.acc_store.proofs.runs.only_run.Goals as goal

one_seen : (rs : List (Place × BTreeMap Place Content)) (k : Place) (w : BTreeMap Place Content) → length rs ≡ 1 →
    slice_get rs 0 ≡ Some (k, w) → seen rs ≡ (k, w.entries) ∷ []
one_seen [] k w one is = cc
one_seen (r ∷ []) k w one is = let same : r ≡ (k, w) = cc in ap (λ (x : Place × BTreeMap Place Content). (x.0, x.1.entries) ∷ []) same
one_seen (r ∷ s ∷ rs) k w one is = absurd (omega (arith, one))

pub returns-in-Some : goal.returns-in-Some
returns-in-Some c =
    let rs = c.args.runs.now.entries in
    let below : is_gt (place_cmp c.in-Some.key.now c.args.place.now) ≡ false = search rules in
    record {
      front = [];
      back = [];
      parts = one_seen rs c.in-Some.key.now c.in-Some.run'.now (sym c.len.ensures.len ∙ c.if-len-ne1.false) c.in-Some.ensures.first;
      before = tt;
      from = below;
      past = tt;
    }
