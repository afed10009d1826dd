use Rattle.std.proofs.Common.{refl}
use Rattle.acc_disk.proofs.Times.{unchanged}
use Rattle.acc_disk.proofs.MadeCalls.{made_nothing}
use Rattle.acc_disk.proofs.mem_disk.MemDiskDisk.read.Goals as goal

pub returns-in_err-begin-clause-made : goal.returns-in_err-begin-clause-made
returns-in_err-begin-clause-made c = made_nothing _ c.args.self.now c.begin.new.self _ c.in_err-begin.ensures.err.1 refl refl refl
    (unchanged _)

pub returns-clause-made : goal.returns-clause-made
returns-clause-made c = made_nothing _ c.args.self.now c.begin.new.self _ c.in_ok-begin.ensures.ok.1 refl refl refl (unchanged _)
