use Rattle.std.proofs.Common.{◌≡◌, ◌≢◌, ◌++◌, None, refl, sym, subst, rules}
use Rattle.acc_stream.specs.Following.{Streamed, Follows}
use Rattle.acc_stream.proofs.Feeding.{follows_fault, awaits_shown}
use Rattle.acc_stream.proofs.streams.Stream.feed.Goals as goal

pub returns-then-is_some-clause-ok : goal.returns-then-is_some-clause-ok
returns-then-is_some-clause-ok c = λ fed taken f.
    let inside : c.self.inside.ended ≢ None = search rules in
    let some : c.args.self.now.ended ≢ None = subst (λ (s : Streamed). s.ended ≢ None) c.self.view_is inside in
    follows_fault fed c.args.piece.now taken c.args.self.now c.args.self.now.ended refl some f

pub returns-in-Ok-clause-ok : goal.returns-in-Ok-clause-ok
returns-in-Ok-clause-ok c = λ fed taken f.
    let old = c.self.inside in
    let shown : Streamed = record {
      base = old.base.items;
      version = old.version;
      place = old.place;
      kept = old.kept.items;
      waiting = old.items;
      ended = old.ended;
    } in
    let none : old.ended ≡ None = search rules in
    let now : c.extend_from_slice.new.self.items ≡ old.kept.items ++ c.args.piece.now = search rules in
    c.in-Ok.ensures.ok (fed ++ c.args.piece.now) taken
    (awaits_shown fed c.args.piece.now taken shown c.extend_from_slice.new.self.items none now
    (subst (λ (s : Streamed). Follows fed taken s) (sym c.self.view_is) f))
