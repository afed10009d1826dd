use Rattle.std.specs.Prelude.{slice_get}
use Rattle.acc_oblig.specs.PathPromises.{point_clauses}
use Rattle.acc_oblig.specs.PointRules.{begin_origin}
use Rattle.acc_oblig_points.specs.OneClause.{begin_clause_drafts}
use Rattle.acc_oblig_points.proofs.Assembled.{past_added}
use Rattle.acc_oblig_points.proofs.begins.add_type_begin.Goals as goal

pub returns-in-None : goal.returns-in-None
returns-in-None c =
    let x = c.args.ty.now in
    past_added c.args.out.now (begin_clause_drafts (begin_origin c.args.k c.args.number 1) c.args.d.now x) c.start_clauses.result.now
    (point_clauses (slice_get x.points 0)) c.args.k c.start_clauses.ensures c.in-None.ensures.lookup.3
