use Rattle.std.proofs.Common.{◌≡◌, ◌+◌, length, rules}
use Rattle.std.specs.Prelude.{slice_get, Some}
use Rattle.acc_oblig.specs.Settings.{step_vars}
use Rattle.acc_oblig.specs.Ranges.{setting_numbers}
use Rattle.acc_oblig_clauses.specs.Seen.{seen}
use Rattle.acc_oblig_places.specs.SeenPlaces.{point_place}
use Rattle.acc_oblig_ranges.specs.Numbers.{seen_read}
use Rattle.acc_oblig_ranges.proofs.PointRanges.{read_added, paths_behind_added}
use Rattle.acc_oblig_ranges.proofs.ranges.add_point_range.Goals as goal

pub returns-in-Number : goal.returns-in-Number
returns-in-Number c =
    let q = point_place c.args.q.now in
    let s = seen c.reads_setting-s.result in
    let stands : slice_get (setting_numbers s (step_vars s)) c.args.k ≡ Some (seen_read c.in-Number.m) =
    first_of (search rules, grind (c.in_ok-m.ensures.value, c.in-Number.is)) in
    read_added c.args.d.now c.args.k q.at q.x q.p c.add_read_range.result c.args.out.now c.add_read_range.new.out s
    c.reads_setting-s.ensures.seen
    (seen_read c.in-Number.m) stands c.add_read_range.ensures

pub returns-in-Behind : goal.returns-in-Behind
returns-in-Behind c =
    let q = point_place c.args.q.now in
    let s = seen c.reads_setting-s.result in
    let behind : c.args.k ≡ length (setting_numbers s (step_vars s)) + c.in-Behind.left =
    first_of (search rules, grind (c.in_ok-m.ensures.value, c.in-Behind.is)) in
    paths_behind_added c.args.d.now c.args.k q.at q.x q.p c.add_path_ranges.result c.args.out.now c.add_path_ranges.new.out s
    c.reads_setting-s.ensures.seen c.in-Behind.left behind c.add_path_ranges.ensures
