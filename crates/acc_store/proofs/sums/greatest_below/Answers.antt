use Rattle.std.proofs.Common.{rules, ◌∙◌, sym, ap, length, subst, FitsSigned, w64}
use Rattle.std.specs.Int.{int_max}
use Rattle.std.proofs.lemmas.Int.{to_z-of_z}
use Rattle.acc_base.specs.Tables.{best, parts_at}
use Rattle.acc_store.specs.Rows.{live, IsRising}
use Rattle.acc_store.proofs.Spans.{live_below}
use Rattle.acc_store.proofs.Rising.{parts_rise}
use Rattle.acc_store.proofs.sums.greatest_below.Goals as goal

pub greatest_live-requires : goal.greatest_live-requires
greatest_live-requires c =
    record {
      forward = c.entries_below.ensures.forward;
      rising = subst (λ es. IsRising (parts_at (length c.args.prefix.now) (live es))) (sym c.entries_below.ensures.behind)
          (parts_rise c.args.table c.args.prefix.now c.args.entries.now.entries c.requires.up);
    }

pub returns : goal.returns
returns c =
    let n = length c.args.prefix.now in
    let fits : FitsSigned w64 c.greatest_live.result = search rules in
    to_z-of_z w64 c.greatest_live.result fits ∙ c.greatest_live.ensures ∙ ap (λ es. best int_max (parts_at n (live es)))
    c.entries_below.ensures.behind ∙ ap (λ rows. best int_max (parts_at n rows))
    (live_below c.args.table c.args.prefix.now c.args.entries.now.entries)
