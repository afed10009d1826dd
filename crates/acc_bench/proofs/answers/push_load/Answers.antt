use Rattle.std.proofs.Common.{◌++◌, ◌∷◌, [], codes}
use Rattle.std.specs.Fmt.{decimal}
use Rattle.acc_page.proofs.Adding.{adds_both}
use Rattle.acc_bench.proofs.answers.push_load.Goals as goal

pub returns : goal.returns
returns c =
    let l = c.args.loaded in
    let end = c.push_number-2.new.self in
    let events = adds_both c.push_number.new.self c.push-2.new.self end (codes " events ") (decimal l.events) c.push-2.ensures
    c.push_number-2.ensures in
    let places = adds_both c.push.new.self c.push_number.new.self end (decimal l.places) (codes " events " ++ decimal l.events)
    c.push_number.ensures events in
    let text = decimal l.places ++ (codes " events " ++ decimal l.events) in
    let whole = adds_both c.args.out.now c.push.new.self end (codes "load places ") text c.push.ensures places in
    adds_both c.args.out.now end c.push-3.new.self (codes "load places " ++ text) (10 ∷ []) whole c.push-3.ensures
