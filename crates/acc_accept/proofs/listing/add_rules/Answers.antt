use Rattle.acc_oblig.specs.Laws.{drafts_of}
use Rattle.acc_oblig.specs.PathPromises.{promise_drafts, always_drafts, there_drafts, empty_drafts}
use Rattle.acc_oblig.specs.Spares.{all_spare_drafts}
use Rattle.acc_oblig.specs.PointRules.{begin_drafts, variant_drafts, clear_drafts}
use Rattle.acc_oblig.specs.Ranges.{range_drafts}
use Rattle.acc_oblig_paths.proofs.Going.{going_all}
use Rattle.acc_accept.proofs.Rules.{from_promises, from_always, from_spares, from_there, from_ranges, from_variants, from_clears}
use Rattle.acc_accept.proofs.Rules.{begun, promised, held, spared, found, ranged, fallen, cleared, whole, stopped}
use Rattle.acc_accept.proofs.listing.add_rules.Goals as goal

pub returns-in_err-add_begins : goal.returns-in_err-add_begins
returns-in_err-add_begins c =
    let d = c.args.d.now in
    let old = c.args.out.now in
    let g0 = going_all old (drafts_of d) in
    let new = c.add_begins.new.out in
    stopped d old c.args.out.now new new (begin_drafts d) (from_promises d) c.from_residual.result
    c.in_err-add_begins.field-0.0 c.from_residual.ensures.1 g0 c.in_err-add_begins.ensures

pub returns-in_err-add_promises : goal.returns-in_err-add_promises
returns-in_err-add_promises c =
    let d = c.args.d.now in
    let old = c.args.out.now in
    let g1 = begun d old c.add_begins.new.out c.in_ok-add_begins.ensures in
    let new = c.add_promises.new.out in
    stopped d old c.add_begins.new.out new new (promise_drafts d) (from_always d) c.from_residual-in_err-add_promises.result
    c.in_err-add_promises.field-0.0 c.from_residual-in_err-add_promises.ensures.1 g1 c.in_err-add_promises.ensures

pub returns-in_err-add_always : goal.returns-in_err-add_always
returns-in_err-add_always c =
    let d = c.args.d.now in
    let old = c.args.out.now in
    let g1 = begun d old c.add_begins.new.out c.in_ok-add_begins.ensures in
    let g2 = promised d old c.add_begins.new.out c.add_promises.new.out g1 c.in_ok-add_promises.ensures in
    let new = c.add_always.new.out in
    stopped d old c.add_promises.new.out new new (always_drafts d) (from_spares d) c.from_residual-in_err-add_always.result
    c.in_err-add_always.field-0.0 c.from_residual-in_err-add_always.ensures.1 g2 c.in_err-add_always.ensures

pub returns-in_err-add_spares : goal.returns-in_err-add_spares
returns-in_err-add_spares c =
    let d = c.args.d.now in
    let old = c.args.out.now in
    let g1 = begun d old c.add_begins.new.out c.in_ok-add_begins.ensures in
    let g2 = promised d old c.add_begins.new.out c.add_promises.new.out g1 c.in_ok-add_promises.ensures in
    let g3 = held d old c.add_promises.new.out c.add_always.new.out g2 c.in_ok-add_always.ensures in
    let new = c.add_spares.new.out in
    stopped d old c.add_always.new.out new new (all_spare_drafts d) (from_there d) c.from_residual-in_err-add_spares.result
    c.in_err-add_spares.field-0.0 c.from_residual-in_err-add_spares.ensures.1 g3 c.in_err-add_spares.ensures

pub returns-in_err-add_there : goal.returns-in_err-add_there
returns-in_err-add_there c =
    let d = c.args.d.now in
    let old = c.args.out.now in
    let g1 = begun d old c.add_begins.new.out c.in_ok-add_begins.ensures in
    let g2 = promised d old c.add_begins.new.out c.add_promises.new.out g1 c.in_ok-add_promises.ensures in
    let g3 = held d old c.add_promises.new.out c.add_always.new.out g2 c.in_ok-add_always.ensures in
    let g4 = spared d old c.add_always.new.out c.add_spares.new.out g3 c.in_ok-add_spares.ensures in
    let new = c.add_there.new.out in
    stopped d old c.add_spares.new.out new new (there_drafts d) (from_ranges d) c.from_residual-in_err-add_there.result
    c.in_err-add_there.field-0.0 c.from_residual-in_err-add_there.ensures.1 g4 c.in_err-add_there.ensures

pub returns-in_err-add_ranges : goal.returns-in_err-add_ranges
returns-in_err-add_ranges c =
    let d = c.args.d.now in
    let old = c.args.out.now in
    let g1 = begun d old c.add_begins.new.out c.in_ok-add_begins.ensures in
    let g2 = promised d old c.add_begins.new.out c.add_promises.new.out g1 c.in_ok-add_promises.ensures in
    let g3 = held d old c.add_promises.new.out c.add_always.new.out g2 c.in_ok-add_always.ensures in
    let g4 = spared d old c.add_always.new.out c.add_spares.new.out g3 c.in_ok-add_spares.ensures in
    let g5 = found d old c.add_spares.new.out c.add_there.new.out g4 c.in_ok-add_there.ensures in
    let new = c.add_ranges.new.out in
    stopped d old c.add_there.new.out new new (range_drafts d) (from_variants d) c.from_residual-in_err-add_ranges.result
    c.in_err-add_ranges.field-0.0 c.from_residual-in_err-add_ranges.ensures.1 g5 c.in_err-add_ranges.ensures

pub returns-in_err-add_variants : goal.returns-in_err-add_variants
returns-in_err-add_variants c =
    let d = c.args.d.now in
    let old = c.args.out.now in
    let g1 = begun d old c.add_begins.new.out c.in_ok-add_begins.ensures in
    let g2 = promised d old c.add_begins.new.out c.add_promises.new.out g1 c.in_ok-add_promises.ensures in
    let g3 = held d old c.add_promises.new.out c.add_always.new.out g2 c.in_ok-add_always.ensures in
    let g4 = spared d old c.add_always.new.out c.add_spares.new.out g3 c.in_ok-add_spares.ensures in
    let g5 = found d old c.add_spares.new.out c.add_there.new.out g4 c.in_ok-add_there.ensures in
    let g6 = ranged d old c.add_there.new.out c.add_ranges.new.out g5 c.in_ok-add_ranges.ensures in
    let new = c.add_variants.new.out in
    stopped d old c.add_ranges.new.out new new (variant_drafts d) (from_clears d) c.from_residual-in_err-add_variants.result
    c.in_err-add_variants.field-0.0 c.from_residual-in_err-add_variants.ensures.1 g6 c.in_err-add_variants.ensures

pub returns-in_err-add_clears : goal.returns-in_err-add_clears
returns-in_err-add_clears c =
    let d = c.args.d.now in
    let old = c.args.out.now in
    let g1 = begun d old c.add_begins.new.out c.in_ok-add_begins.ensures in
    let g2 = promised d old c.add_begins.new.out c.add_promises.new.out g1 c.in_ok-add_promises.ensures in
    let g3 = held d old c.add_promises.new.out c.add_always.new.out g2 c.in_ok-add_always.ensures in
    let g4 = spared d old c.add_always.new.out c.add_spares.new.out g3 c.in_ok-add_spares.ensures in
    let g5 = found d old c.add_spares.new.out c.add_there.new.out g4 c.in_ok-add_there.ensures in
    let g6 = ranged d old c.add_there.new.out c.add_ranges.new.out g5 c.in_ok-add_ranges.ensures in
    let g7 = fallen d old c.add_ranges.new.out c.add_variants.new.out g6 c.in_ok-add_variants.ensures in
    let new = c.add_clears.new.out in
    stopped d old c.add_variants.new.out new new (clear_drafts d) (empty_drafts d) c.from_residual-in_err-add_clears.result
    c.in_err-add_clears.field-0.0 c.from_residual-in_err-add_clears.ensures.1 g7 c.in_err-add_clears.ensures

pub returns : goal.returns
returns c =
    let d = c.args.d.now in
    let old = c.args.out.now in
    let g1 = begun d old c.add_begins.new.out c.in_ok-add_begins.ensures in
    let g2 = promised d old c.add_begins.new.out c.add_promises.new.out g1 c.in_ok-add_promises.ensures in
    let g3 = held d old c.add_promises.new.out c.add_always.new.out g2 c.in_ok-add_always.ensures in
    let g4 = spared d old c.add_always.new.out c.add_spares.new.out g3 c.in_ok-add_spares.ensures in
    let g5 = found d old c.add_spares.new.out c.add_there.new.out g4 c.in_ok-add_there.ensures in
    let g6 = ranged d old c.add_there.new.out c.add_ranges.new.out g5 c.in_ok-add_ranges.ensures in
    let g7 = fallen d old c.add_ranges.new.out c.add_variants.new.out g6 c.in_ok-add_variants.ensures in
    let g8 = cleared d old c.add_variants.new.out c.add_clears.new.out g7 c.in_ok-add_clears.ensures in
    whole d old c.add_empty.result c.add_clears.new.out c.add_empty.new.out g8 c.add_empty.ensures
