use Rattle.std.proofs.Common.{sym, subst}
use Rattle.acc_elim_known.specs.Ends.{IsKnown}
use Rattle.acc_elim.proofs.keeping.found_last.Goals as goal

pub returns-clause-kept : goal.returns-clause-kept
returns-clause-kept c = λ n is.
    let same = c.as_slice-rows.ensures.value in
    subst (λ rows. IsKnown rows n c.found_with-end.new.known) same
    (c.found_with-end.ensures.known n (subst (λ rows. IsKnown rows n c.args.known) (sym same) is))
