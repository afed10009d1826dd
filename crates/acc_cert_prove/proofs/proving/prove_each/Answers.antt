use Rattle.acc_cert_prove.specs.Lines.{open_lines}
use Rattle.acc_cert_prove.proofs.Adding.{lines_behind, proofs_behind}
use Rattle.acc_cert_prove.proofs.proving.prove_each.Goals as goal

pub loop-left-preserved : goal.loop-left-preserved
loop-left-preserved g c =
    let d = c.args.d.now in
    let qs = c.args.sequents.now in
    let left = c.loop-left.left.now in
    let n = c.min-count.result in
    let front = c.split_at.result.0.now in
    let behind = c.split_at.result.1.now in
    let cut = c.split_at.ensures in
    let now = c.in_ok-prove_at_once.ensures in
    record {
      lines =
          lines_behind d n left front behind c.args.lines.now c.loop-left.lines c.prove_at_once.new.lines (open_lines d qs) cut.front
          cut.back now.lines c.loop-left.invariant.lines;
      proofs =
          proofs_behind d n left front behind qs c.args.proofs.now.items c.loop-left.proofs.items c.prove_at_once.new.proofs.items
          cut.front cut.back now.proofs c.loop-left.invariant.proofs;
    }
