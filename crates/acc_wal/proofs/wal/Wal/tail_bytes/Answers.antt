use Rattle.std.proofs.Common.{length, drop, ap, arith}
use Rattle.acc_wal.specs.Spellings.{body}
use Rattle.acc_wal.specs.Items.{seal_bytes}
use Rattle.acc_wal.specs.Wals.{Journal}
use Rattle.acc_wal.proofs.Keeping.{record_long}
use Rattle.acc_wal.proofs.wal.Wal.tail_bytes.Goals as goal

pub returns-clause-bytes : goal.returns-clause-bytes
returns-clause-bytes g c =
    let old = c.self.inside in
    omega (
      arith,
      c.len.ensures,
      record_long old.staged.items old.count old.version (drop old.count old.events.items) (drop old.sealed old.seals.items)
          c.self.invariant.3,
      ap (λ (j : Journal g.row.D.Denot). length (body j.tail)) c.self.view_is,
      ap (λ (j : Journal g.row.D.Denot). seal_bytes j.waiting) c.self.view_is,
    )
