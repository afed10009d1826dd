-- A refusal that is handed on.
use Rattle.std.proofs.Common.{◌≡◌, Bool, true, Result, Err, ap, sym, ◌∙◌, subst}
use Rattle.std.specs.Prelude.{IsErrAnd}
use Rattle.std.proofs.lemmas.Result.{err_from_is_err_and}
use Rattle.acc_base.specs.declared.sums.FormSum.{FormSum}
use Rattle.acc_base.specs.declared.sums.FormSum.TheVariants.{Wide, Memory}
use Rattle.acc_base.specs.Sums.{TellsWide}

wider : (A B : Type 0) (e : FormSum) (b c : Bool) → (b ≡ true → c ≡ true) → TellsWide {T = B} (Err e) b → TellsWide {T = A} (Err e) c
wider A B Wide b c f h = f h
wider A B Memory b c f h = tt

pub handed_on : (A B : Type 0) (r : Result A FormSum) (e : FormSum) (b c : Bool) → IsErrAnd r (λ y. y ≡ e) → (b ≡ true → c ≡ true)
    → TellsWide {T = B} (Err e) b → TellsWide r c
handed_on A B r e b c h f tells =
    let p = err_from_is_err_and r h in
    let same : r ≡ Err e = p.1 ∙ ap Err p.2 in
    subst (λ (x : Result A FormSum). TellsWide x c) (sym same) (wider A B e b c f tells)
