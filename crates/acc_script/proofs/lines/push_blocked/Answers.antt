use Rattle.std.proofs.Common.{◌++◌, codes}
use Rattle.std.specs.Fmt.{decimal}
use Rattle.acc_base.specs.Lines.{holder_text}
use Rattle.acc_page.proofs.Adding.{adds_both}
use Rattle.acc_script.proofs.lines.push_blocked.Goals as goal

pub returns : goal.returns
returns c =
    let entry = adds_both c.push_holder.new.out c.push-2.new.self c.push_number.new.self (codes " entry ") (decimal c.args.entry)
    c.push-2.ensures c.push_number.ensures in
    let holder = adds_both c.push.new.self c.push_holder.new.out c.push_number.new.self (holder_text c.args.holder)
    (codes " entry " ++ decimal c.args.entry) c.push_holder.ensures entry in
    adds_both c.args.out.now c.push.new.self c.push_number.new.self (codes " blocked by ")
    (holder_text c.args.holder ++ (codes " entry " ++ decimal c.args.entry)) c.push.ensures holder
