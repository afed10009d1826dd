use Rattle.acc_disk.proofs.Untold.{any_after_cut}
use Rattle.acc_disk.proofs.file_disk.FileDiskDisk.cut.Goals as goal

pub returns-clause-crash : goal.returns-clause-crash
returns-clause-crash g c = any_after_cut c.args.to
