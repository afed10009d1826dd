use Rattle.std.proofs.Common.{arith}
use Rattle.acc_wal.proofs.Lengths.{length_of_call}
use Rattle.acc_wal.proofs.writing.call_len.Goals as goal

pub returns-clause-len : goal.returns-clause-len
returns-clause-len c = omega (arith, length_of_call c.args.call.now, c.len.ensures, c.len-2.ensures)
