use Rattle.std.proofs.Common.{◌≡◌, ℕ, List, ap, subst, ◌∙◌}
use Rattle.acc_stream.specs.Following.{Streamed}
use Rattle.acc_stream.specs.declared.heads.Head.TheVariants.{Whole}
use Rattle.acc_stream.specs.Reading.{TellsHead}
use Rattle.acc_stream.proofs.Feeding.{read_first}
use Rattle.acc_stream.proofs.streams.Stream.read_on.Goals as goal

pub returns-in-Whole-clause-ok : goal.returns-in-Whole-clause-ok
returns-in-Whole-clause-ok c = λ fed taken waits.
    let s = c.args.self.now in
    let base : c.deref.result.now ≡ s.base = c.deref.ensures.value ∙ ap (λ (x : Streamed). x.base) c.self.view_is in
    let kept : c.deref-2.result.now ≡ s.kept = c.deref-2.ensures.value ∙ ap (λ (x : Streamed). x.kept) c.self.view_is in
    let none : s.version ≡ 0 = subst (λ (x : Streamed). x.version ≡ 0) c.self.view_is c.if-self-ne0.false in
    let head = subst (λ (b : List ℕ). TellsHead b s.kept (Whole c.in-Whole.version c.in-Whole.at)) base
    (subst (λ (l : List ℕ). TellsHead c.deref.result.now l (Whole c.in-Whole.version c.in-Whole.at)) kept c.in-Whole.ensures) in
    c.read_batches-in-Whole.ensures.ok fed taken
    (read_first fed taken s c.in-Whole.version c.in-Whole.at none waits head.0 head.1)
