-- What is found so far is that of the first obligations.
use Rattle.std.proofs.Common.{take}
use Rattle.acc_cert_prove.specs.Findings.{AreFindings}
use Rattle.acc_cert_prove.proofs.searchers.InTurnSearchers.search_all.Given as goal

abbrev pub invariant-loop-q : goal.invariant-loop-q
invariant-loop-q l = AreFindings l.d (take l.q-index l.sequents) l.findings
