use Rattle.std.proofs.Common.{◌++◌, ◌∷◌, [], codes}
use Rattle.std.specs.Fmt.{decimal}
use Rattle.acc_page.proofs.Adding.{adds_both}
use Rattle.acc_bench.proofs.answers.push_mix.Goals as goal

pub returns : goal.returns
returns c =
    let m = c.args.mixed in
    let end = c.push_number-5.new.self in
    let t5 = codes " events " ++ decimal c.args.events in
    let t4 = codes " victims " ++ (decimal m.victims ++ t5) in
    let t3 = codes " blocked " ++ (decimal m.blocked ++ t4) in
    let t2 = codes " compensated " ++ (decimal m.compensated ++ t3) in
    let t1 = codes "mix committed " ++ (decimal m.committed ++ t2) in
    let events = adds_both c.push_number-4.new.self c.push-5.new.self end (codes " events ") (decimal c.args.events) c.push-5.ensures
    c.push_number-5.ensures in
    let v = adds_both c.push-4.new.self c.push_number-4.new.self end (decimal m.victims) t5 c.push_number-4.ensures events in
    let victims = adds_both c.push_number-3.new.self c.push-4.new.self end (codes " victims ") (decimal m.victims ++ t5) c.push-4.ensures v in
    let b = adds_both c.push-3.new.self c.push_number-3.new.self end (decimal m.blocked) t4 c.push_number-3.ensures victims in
    let blocked = adds_both c.push_number-2.new.self c.push-3.new.self end (codes " blocked ") (decimal m.blocked ++ t4) c.push-3.ensures b in
    let u = adds_both c.push-2.new.self c.push_number-2.new.self end (decimal m.compensated) t3 c.push_number-2.ensures blocked in
    let compensated = adds_both c.push_number.new.self c.push-2.new.self end (codes " compensated ") (decimal m.compensated ++ t3)
    c.push-2.ensures u in
    let k = adds_both c.push.new.self c.push_number.new.self end (decimal m.committed) t2 c.push_number.ensures compensated in
    let whole = adds_both c.args.out.now c.push.new.self end (codes "mix committed ") (decimal m.committed ++ t2) c.push.ensures k in
    adds_both c.args.out.now end c.push-6.new.self t1 (10 ∷ []) whole c.push-6.ensures
