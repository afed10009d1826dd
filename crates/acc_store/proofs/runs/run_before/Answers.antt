use Rattle.std.proofs.Common.{◌∙◌, sym, Option, Some, None}
use Rattle.std.specs.Prelude.{MatchOption}
use Rattle.acc_base.specs.Tables.{place_cmp}
use Rattle.acc_base.proofs.Places.{place_total}
use Rattle.acc_store.specs.Runs.{seen, IsRunFor}
use Rattle.acc_store.proofs.Laid.{run_in_range, none_in_range}
use Rattle.acc_store.proofs.runs.run_before.Goals as goal

match_so : {A P R : Type 0} (Q S : A → Type 0) (r : Option A) → MatchOption r P Q → (P → R) → ((x : A) → Q x → S x) → MatchOption r R S
match_so Q S None h f g = f h
match_so Q S (Some x) h f g = g x h

pub returns-in-None : goal.returns-in-None
returns-in-None c =
    let rs = c.args.runs.now.entries in
    match_so _ (λ r. IsRunFor place_cmp c.args.place.now (seen rs) r.0.now r.1.now.entries) c.next_back.result c.next_back.ensures.steps
    (λ h. none_in_range place_total c.args.place.now rs c.range.ensures.ordered (sym (c.range.ensures.between tt) ∙ h.0))
    (λ r h. run_in_range place_total c.args.place.now rs c.range.ensures.ordered c.next_back.new.self r.0.now r.1.now
    (sym (c.range.ensures.between tt) ∙ h))
