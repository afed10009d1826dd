use Rattle.std.proofs.Common.{refl, rules, subst}
use Rattle.acc_disk.specs.Standings.{after_sync}
use Rattle.acc_disk.specs.Histories.{IsUnchanged, Advances}
use Rattle.acc_disk.proofs.Times.{unchanged, goes_on, left_by_sync}
use Rattle.acc_disk.proofs.MadeCalls.{made_nothing, made_change}
use Rattle.acc_disk.proofs.mem_disk.MemDiskDisk.sync.Goals as goal

pub returns-in_err-begin-clause-made : goal.returns-in_err-begin-clause-made
returns-in_err-begin-clause-made c = made_nothing _ c.args.self.now c.begin.new.self _ c.in_err-begin.ensures.err.1 refl refl refl
    (unchanged _)

pub returns-in_err-grown-clause-made : goal.returns-in_err-grown-clause-made
returns-in_err-grown-clause-made c =
    let same : IsUnchanged c.begin.new.self.history c.sync-outcome.new.self = search rules in
    made_nothing _ c.args.self.now c.begin.new.self _ c.in_ok-begin.ensures.ok.1 refl refl refl same

pub returns-clause-durable : goal.returns-clause-durable
returns-clause-durable c =
    let advances : Advances c.begin.new.self.calls after_sync c.begin.new.self.history c.sync-outcome.new.self = search rules in
    left_by_sync c.begin.new.self.calls c.begin.new.self.history c.sync-outcome.new.self advances

pub returns-clause-time : goal.returns-clause-time
returns-clause-time c =
    let advances : Advances c.begin.new.self.calls (after_sync) c.begin.new.self.history c.sync-outcome.new.self = search rules in
    let begun = c.in_ok-begin.ensures.ok.1 in
    goes_on c.begin.new.self.calls (after_sync) c.args.self.now.history c.sync-outcome.new.self
    (subst (λ history. Advances c.begin.new.self.calls (after_sync) history c.sync-outcome.new.self) begun.history advances)

pub returns-clause-made : goal.returns-clause-made
returns-clause-made c =
    let advances : Advances c.begin.new.self.calls (after_sync) c.begin.new.self.history c.sync-outcome.new.self = search rules in
    made_change _ c.args.self.now c.begin.new.self _ (after_sync) c.in_ok-begin.ensures.ok.1 refl refl refl advances
