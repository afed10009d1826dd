use Rattle.std.proofs.Common.{length}
use Rattle.acc_disk.proofs.Untold.{any_after_write}
use Rattle.acc_disk.proofs.file_disk.FileDiskDisk.write_at.Goals as goal

pub returns-clause-crash : goal.returns-clause-crash
returns-clause-crash g c = any_after_write c.args.at (length c.args.bytes.now)
