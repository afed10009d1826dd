-- With the shipped design `bench` finds no condition false.
use Rattle.std.proofs.Common.{◌≡◌, ℕ, List, [], inl, inr, sym, subst, ◌∙◌}
use Rattle.std.proofs.lemmas.List.{append-nil}
use Rattle.acc_base.specs.declared.designs.Design.{Design}
use Rattle.acc_bench.specs.Benches.{Benches}
use Rattle.acc_commands_files.specs.BenchFiles.{order_of, BenchesFiles}
use Rattle.acc_commands_files.specs.Law.{KeepsConditions}
use Rattle.acc_commands_files.specs.Mix.{Mix}
use Rattle.acc_commands_files.specs.ShippedText.{shipped_design}
use Rattle.acc_commands_files.proofs.Reading.{has_shipped}
use Rattle.acc_commands_files.proofs.Theorem.{keeps}
use Rattle.acc_journalled.specs.declared.answers.Ending.TheVariants.{DesignRefused, ConditionFalse}
use Rattle.acc_commands_journals.specs.Text.{Said}
use Rattle.acc_commands_journals.specs.Texts.{IsDesignText}
use Rattle.acc_commands_journals.proofs.JournalEndings.{refusal_ends}
use Rattle.acc_commands_journals.proofs.OneDesign.{one_design}
use Rattle.tpcc_tables.specs.Conditions.{IsTrueOf}
use Rattle.tpcc_tables.specs.declared.kinds.TheConstants.{CONDITIONS}
use Rattle.acc_commands.specs.Laws.{ShippedBenchesTrue}
use Rattle.acc_commands.specs.Overs.{IsRunOf}
use Rattle.acc_commands.proofs.BenchOvers.{certified_run, finds_lowest}
use Rattle.acc_commands.proofs.OneVerifying.{all_by_place}

-- the rows at its end meet them all
all_true : (m : Mix) (d : Design) (said : Said) → d ≡ shipped_design → IsRunOf m d said → said.ending ≡ ConditionFalse → ⊥
all_true m d said is run so =
    let says = run.says in
    let comes : Benches run.tables d run.load run.calls (order_of m) says.benched = says.comes in
    let w = comes.world in
    let well = comes.comes.ends_well in
    let found = finds_lowest run.tables d run.load run.calls (order_of m) says.benched comes (sym says.ending ∙ so) in
    let idle = well.idle w.events [] w (sym (append-nil w.events)) well.run well.none_left in
    found.2 (all_by_place (IsTrueOf run.tables w.rows) CONDITIONS
    (subst KeepsConditions (sym is) (keeps shipped_design has_shipped) run.tables w.rows run.schema well.good.steady.rows idle))

design_false : DesignRefused ≡ ConditionFalse → ⊥
design_false e = cc

pub shipped_benches_true : ShippedBenchesTrue
shipped_benches_true m design certificate said is_text (inl h) so = design_false (sym (refusal_ends design said h) ∙ so)
shipped_benches_true m design certificate said is_text (inr h) so =
    all_true m h.d said (one_design design h.d shipped_design h.is_text is_text)
    (certified_run ConditionFalse design_false (λ e. cc) m said so h.d certificate h.says) so
