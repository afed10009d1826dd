use Rattle.std.proofs.Common.{◌≡◌, drop, length}
use Rattle.acc_base.specs.Reads.{unread, after_reads}
use Rattle.acc_step.proofs.reads.take_reads.Given as goal

-- the reads that are left, from the locals as they are, give what all give
abbrev pub invariant-loop-read : goal.invariant-loop-read
invariant-loop-read g l =
    let db = g.S.Store.rows l.s in
    record {
      rest : after_reads db l.f (drop l.read-index l.reads) (record { locals = l.variables.locals; at = l.at }) ≡ after_reads db l.f l.reads
          (unread l.f);
      number : l.variables.number ≡ l.f.t;
      kept : length l.variables.locals ≡ length l.f.locals;
      tape : l.tape ≡ l.f.tape;
    }
