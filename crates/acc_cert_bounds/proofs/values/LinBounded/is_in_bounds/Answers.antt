use Rattle.acc_cert_bounds.proofs.Near.{none_wide}
use Rattle.acc_cert_bounds.proofs.values.LinBounded.is_in_bounds.Goals as goal

pub returns-else-is_in_bounds-clause-near : goal.returns-else-is_in_bounds-clause-near
returns-else-is_in_bounds-clause-near c = λ h. c.is_in_bounds.ensures.near (none_wide c.args.self.now.coeffs)
