use Rattle.std.proofs.Common.{◌≡◌, rules}
use Rattle.acc_booking.specs.Seats.{first_oversold}
use Rattle.acc_booking.proofs.Oversold.{tells_whether}
use Rattle.acc_booking.proofs.checks.check.Goals as goal

pub returns-clause-whether : goal.returns-clause-whether
returns-clause-whether c =
    let e : c.first_there.result ≡ first_oversold c.args.rows.now.rows = search rules in
    tells_whether c.args.rows.now.rows c.first_there.result e
