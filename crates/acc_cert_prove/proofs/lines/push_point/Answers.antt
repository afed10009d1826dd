use Rattle.std.proofs.Common.{codes}
use Rattle.std.specs.List.{flat_map}
use Rattle.acc_page.proofs.Adding.{adds_both}
use Rattle.acc_cert_prove.specs.Lines.{fraction_text, point_text}
use Rattle.acc_cert_prove.proofs.Opened.{line_added}
use Rattle.acc_cert_prove.proofs.lines.push_point.Goals as goal

pub returns : goal.returns
returns c =
    let point = adds_both c.push_opened.new.out c.push.new.self c.push_fractions.new.out (codes "point")
    (flat_map fraction_text c.args.point.now) c.push.ensures c.push_fractions.ensures in
    line_added c.args.d.now c.args.origin.now (point_text c.args.point.now) c.args.out.now c.push_opened.new.out c.push_fractions.new.out
    c.push-2.new.self c.push_opened.ensures point c.push-2.ensures
