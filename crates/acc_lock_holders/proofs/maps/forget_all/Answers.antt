use Rattle.std.proofs.Common.{◌∙◌, take, subst}
use Rattle.std.proofs.lemmas.List.Elements.{All-more, All-weaker}
use Rattle.acc_lock_holders.specs.Entries.{IsBlank}
use Rattle.acc_lock_holders.proofs.maps.forget_all.Goals as goal

pub loop-key-preserved : goal.loop-key-preserved
loop-key-preserved c =
    let keys = c.args.keys.now in
    let i = c.loop-key.key-index in
    let before = c.loop-key.holders.entries in
    let es = c.forget.new.holders.entries in
    let e = c.forget.ensures in
    record {
      same = λ k. e.same k ∙ c.loop-key.invariant.same k;
      gone = All-more (λ k. IsBlank es k → ⊥) keys i c.key-item.result c.loop-key-test.true
          (All-weaker (λ k. IsBlank before k → ⊥) (λ k. IsBlank es k → ⊥) (λ k h b. h (e.others k b)) (take i keys)
          c.loop-key.invariant.gone)
          (subst (λ k. IsBlank es k → ⊥) c.key-item.is e.gone);
    }
