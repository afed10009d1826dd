use Rattle.std.proofs.Common.{◌≡◌, ◌+◌, ◌-◌, ℕ, List, take, drop, Some, None, refl, sym, ap, subst, ◌∙◌, arith}
use Rattle.std.proofs.lemmas.List.{take_rest, drop-drop}
use Rattle.acc_wal.specs.declared.items.Item.{Item}
use Rattle.acc_stream.specs.Streams.{body_long, StopsAt}
use Rattle.acc_stream.specs.Reading.{TellsWhole, TellsBody, IsBodyOf, BeginsBatches}
use Rattle.acc_stream.proofs.WholeBatches.{begins_body}
use Rattle.acc_stream.proofs.Joining.{begins_more}
use Rattle.acc_stream.proofs.batches.batches_of.Goals as goal

-- the body of the batch at a place
body_at : (bytes : List ℕ) (long count : ℕ) → count ≡ body_long (drop long bytes) →
    take (long + 5 + count - (long + 5)) (drop (long + 5) bytes) ≡ take (body_long (drop long bytes)) (drop 5 (drop long bytes))
body_at bytes long count is =
    let same : long + 5 + count - (long + 5) ≡ body_long (drop long bytes) = omega (arith, is) in
    ap (λ n. take n (drop (long + 5) bytes)) same ∙ ap (take (body_long (drop long bytes))) (sym (drop-drop 5 long bytes))

pub loop-count-preserved : goal.loop-count-preserved
loop-count-preserved c =
    let bytes = c.args.bytes.now in
    let long = c.loop-count.long in
    let whole : TellsWhole (drop long bytes) (Some c.in-Some.count) =
    subst (λ (l : List ℕ). TellsWhole l (Some c.in-Some.count)) (take_rest bytes long) c.in-Some.ensures in
    let read = rw c.in-Some-2.is at c.in_ok-more.ensures in
    let body : IsBodyOf c.args.version (take (body_long (drop long bytes)) (drop 5 (drop long bytes))) c.in-Some-2.more =
    subst (λ (l : List ℕ). IsBodyOf c.args.version l c.in-Some-2.more) (body_at bytes long c.in-Some.count whole.1) read in
    let more = begins_more c.args.version bytes long c.loop-count.items c.loop-count.invariant c.in-Some-2.more
    (λ i. omega (arith, c.type_inv.bytes i)) whole.0 body in
    subst (λ n. BeginsBatches c.args.version bytes (long + (5 + n)) c.append.new.self) (sym whole.1)
    (subst (λ (l : List Item). BeginsBatches c.args.version bytes (long + (5 + body_long (drop long bytes))) l)
    (sym c.in_ok-append-in-Some-2.ensures.ok) more)

pub returns-in-None : goal.returns-in-None
returns-in-None c =
    let bytes = c.args.bytes.now in
    let long = c.loop-count.long in
    let whole : TellsWhole (drop long bytes) (Some c.in-Some.count) =
    subst (λ (l : List ℕ). TellsWhole l (Some c.in-Some.count)) (take_rest bytes long) c.in-Some.ensures in
    let read = rw c.in-None.is at c.in_ok-more.ensures in
    let none : TellsBody c.args.version (take (body_long (drop long bytes)) (drop 5 (drop long bytes))) None =
    subst (λ (l : List ℕ). TellsBody c.args.version l None) (body_at bytes long c.in-Some.count whole.1) read in
    record {
      begins = c.loop-count.invariant;
      stops = (refl, whole.0, λ b. none b.all (begins_body (drop long bytes) c.args.version b));
    }

pub returns : goal.returns
returns c =
    let bytes = c.args.bytes.now in
    let long = c.loop-count.long in
    record {
      begins = c.loop-count.invariant;
      stops = subst (λ (l : List ℕ). StopsAt c.args.version (c.args.place + long) l c.past_at-ended.result) (take_rest bytes long)
          (c.past_at-ended.ensures c.args.version);
    }
