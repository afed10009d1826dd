use Rattle.std.proofs.Common.{rules, ◌≡◌, ℕ, List, length, sym, ap, ◌∙◌, subst, arith}
use Rattle.acc_base.specs.declared.machines.Event.{Event}
use Rattle.acc_print.specs.Designs.{printed}
use Rattle.acc_wal.specs.Journals.{Counts}
use Rattle.acc_audit_journal.specs.Judging.{Judges}
use Rattle.acc_audit_journal.proofs.Counted.{no_more_events}
use Rattle.acc_audit_journal.proofs.Judged.{judges, judging_means, kind_judgement}
use Rattle.acc_audit_journal.proofs.judging.judge.Goals as goal

pub audit-requires-clause-few : goal.audit-requires-clause-few
audit-requires-clause-few g c =
    let same = ap (λ (es : List Event). length es) c.as_slice-events.ensures in
    let few = no_more_events c.args.bytes.now c.in_ok-journal.journal.base c.in_ok-journal.journal.events c.in_ok-journal.ensures.ok in
    let short = c.requires.short in
    omega (arith, same, few, short)

pub returns-clause-exact : goal.returns-clause-exact
returns-clause-exact g c =
    let d = c.args.d.now in
    let bytes = c.args.bytes.now in
    let base : c.as_slice.result.now ≡ printed c.args.d.now = search rules in
    let counts = subst (λ (text : List ℕ). Counts bytes text c.in_ok-journal.journal.events) (sym c.as_slice.ensures ∙ base)
    c.in_ok-journal.ensures.ok in
    let here = subst (λ (es : List Event). Counts bytes (printed d) es) (sym c.as_slice-events.ensures) counts in
    subst (Judges d bytes) (sym c.judged.ensures) (judges d bytes c.as_slice-events.result.now c.audit.result here c.audit.ensures.exact)

pub returns-clause-meaning : goal.returns-clause-meaning
returns-clause-meaning g c = judging_means c.args.d.now c.args.bytes.now c.judged.result c.requires.formed (returns-clause-exact g c)

pub returns-clause-sound : goal.returns-clause-sound
returns-clause-sound g c = kind_judgement c.args.d.now c.args.bytes.now c.judged.result c.requires.formed (returns-clause-exact g c)
