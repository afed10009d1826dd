use Rattle.std.proofs.Common.{◌+◌, ◌++◌, ◌≤◌, length, drop, sym, ap, subst, ◌∙◌}
use Rattle.acc_stream.specs.Streams.{HasBatches}
use Rattle.acc_stream.specs.Following.{Streamed}
use Rattle.acc_stream.proofs.Feeding.{follows_shown}
use Rattle.acc_stream.proofs.streams.Stream.read_batches.Goals as goal

pub returns-clause-ok : goal.returns-clause-ok
returns-clause-ok c = λ fed taken has.
    let old = c.self.inside in
    let shown : Streamed = record {
      base = old.base.items;
      version = old.version;
      place = old.place;
      kept = old.kept.items;
      waiting = old.items;
      ended = old.ended;
    } in
    let within = subst (λ (s : Streamed). c.args.at ≤ length s.kept) (sym c.self.view_is) c.requires in
    let before = subst (λ (s : Streamed). HasBatches s.base fed c.args.version (taken ++ s.waiting) (s.place + c.args.at) (drop c.args.at s.kept))
    (sym c.self.view_is) has in
    follows_shown fed taken shown c.args.version c.args.at c.in_ok-found.found c.deref.result.now c.drop_front.new.bytes.items
    c.append.new.self within c.deref.ensures.value c.drop_front.ensures c.in_ok-append.ensures.ok before c.in_ok-found.ensures

pub returns-clause-adds : goal.returns-clause-adds
returns-clause-adds c = record {
  more = c.in_ok-found.found.items;
  waiting_are = c.in_ok-append.ensures.ok
      ∙ ap (λ (s : Streamed). s.waiting ++ c.in_ok-found.found.items) c.self.view_is;
}
