use Rattle.std.proofs.Common.{◌≡◌, ◌∙◌, sym, ap, subst}
use Rattle.std.specs.Ordering.{is_gt}
use Rattle.std.specs.Map.{keys_of}
use Rattle.std.specs.List.{AllByRecursion}
use Rattle.acc_base.specs.Tables.{place_cmp}
use Rattle.acc_base.proofs.Places.{place_total}
use Rattle.std.specs.BTreeMap.Range.{range_contains}
use Rattle.std.specs.declared.ops.Bound.TheVariants.{Included, Unbounded}
use Rattle.std.specs.declared.cmp.Ordering.TheVariants.{Less}
use Rattle.std.specs.Cmp.{tied_itself}
use Rattle.acc_store.proofs.Laid.{all_kept}
use Rattle.acc_store.proofs.runs.parting.Goals as goal

pub returns-in-Some-clause-most : goal.returns-in-Some-clause-most
returns-in-Some-clause-most c = λ q h g.
    ap (λ k. place_cmp k q) c.copied.ensures ∙
    (subst (λ l. AllByRecursion (λ x. place_cmp x q ≡ Less) (keys_of l)) (sym (c.range.ensures.between tt) ∙ c.in-Some.ensures.steps)
    (all_kept (λ x. place_cmp x q ≡ Less) (λ e. range_contains place_cmp (Included c.args.place.now) Unbounded e.0) c.args.run.now.entries
    h)).0

pub returns-in-None-clause-least : goal.returns-in-None-clause-least
returns-in-None-clause-least c = ap (λ k. is_gt (place_cmp c.args.place.now k)) c.copied-in-None.ensures ∙ ap is_gt
    (tied_itself place_total c.args.place.now)
