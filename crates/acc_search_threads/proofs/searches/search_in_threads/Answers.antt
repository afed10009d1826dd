use Rattle.std.proofs.Common.{sym, ◌∙◌, subst, List}
use Rattle.acc_cert_prove.specs.declared.findings.Finding.{Finding}
use Rattle.acc_cert_prove.specs.Findings.{IsFinding, AreFindings}
use Rattle.acc_search_threads.proofs.Numbered.{zipped}
use Rattle.acc_search_threads.proofs.searches.search_in_threads.Goals as goal

pub returns : goal.returns
returns g c =
    let d = c.args.d.now in
    let qs = c.args.sequents.now in
    let findings = c.in_ok-findings.findings in
    subst (λ (fs : List Finding). AreFindings d qs fs) (sym c.from_vec.ensures)
    (zipped (IsFinding d) qs findings.items (sym findings.ok.0 ∙ c.in_ok-findings.ensures.whole) c.in_ok-findings.ensures.each)
