use Rattle.std.proofs.Common.{◌<◌, ◌+◌, ◌^◌, List, [], length, refl, arith, ap}
use Rattle.acc_base.specs.declared.machines.Event.{Event}
use Rattle.acc_wal.specs.Spellings.{body}
use Rattle.acc_wal.proofs.Keeping.{record_sealed}
use Rattle.acc_wal.proofs.filled.recorded_all.Goals.{in-Some+in_ok-put_seal, in_default}
use Rattle.acc_wal.proofs.filled.recorded_all.Goals as goal

pub returns-clause-record : goal.returns-clause-record
returns-clause-record c = elim c.match-seal.branch [
  | in-Some+in_ok-put_seal w ↦
      let small = rw w.in-Some.is at c.requires.short in
      let short : length (body c.in_ok-staged.made.items) + 0 + (5 + length w.in-Some.text.now) < 2 ^ 32 =
      omega (arith, small, ap (λ (l : List Event). length (body l)) c.in_ok-staged.ensures.events) in
      rw (w.staged-is, w.seals-is, w.in_ok-put_seal.ensures.staged.0, w.in_ok-put_seal.ensures.seals.0, c.new-seals.ensures.items)
      (record_sealed c.in_ok-staged.staged.items w.in-Some.text.now 2 c.in_ok-staged.made.items [] 0 0 w.len.result (omega arith)
      c.in_ok-staged.ensures.record refl (omega (arith, w.len.ensures)) short)
  | in_default w ↦ rw (w.staged-is, w.seals-is, c.new-seals.ensures.items) c.in_ok-staged.ensures.record
]
