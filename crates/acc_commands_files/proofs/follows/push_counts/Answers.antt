use Rattle.std.proofs.Common.{◌++◌, ◌∷◌, [], codes}
use Rattle.std.specs.Fmt.{decimal}
use Rattle.acc_page.proofs.Adding.{adds_both}
use Rattle.acc_commands_files.proofs.follows.push_counts.Goals as goal

pub returns : goal.returns
returns c =
    let end = c.push_number-2.new.self in
    let t2 = codes " unfinished " ++ decimal c.args.unfinished in
    let t1 = decimal c.args.events ++ t2 in
    let unfinished = adds_both c.push_number.new.self c.push-2.new.self end (codes " unfinished ") (decimal c.args.unfinished)
    c.push-2.ensures c.push_number-2.ensures in
    let events = adds_both c.push.new.self c.push_number.new.self end (decimal c.args.events) t2 c.push_number.ensures unfinished in
    let whole = adds_both c.args.out.now c.push.new.self end (codes "events ") t1 c.push.ensures events in
    adds_both c.args.out.now end c.push-3.new.self (codes "events " ++ t1) (10 ∷ []) whole c.push-3.ensures
